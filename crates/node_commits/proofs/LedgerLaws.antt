-- Ledgers: what is found by a number, what is kept with the next one, and the identities of a longer log.
use Rattle.std.proofs.Common.{ℕ, suc, ◌≡◌, ◌+◌, ◌-◌, ◌≤◌, ◌<◌, List, [], ◌∷◌, ◌++◌, length, take, inl, inr, arith, refl, sym, ap, subst, ◌∙◌}
use Rattle.std.proofs.Math.Seq.{take-append_seam}
use Rattle.std.proofs.lemmas.Option.{none-some, same_Some}
use Rattle.std.specs.Prelude.{Some, slice_get}
use Rattle.blkseq_table.proofs.LogLemmas.{of_first, of_more, of_stands}
use Rattle.blkseq_table.specs.Known.{Known, known_at, up_to, AreBelow, IsAbsent, StandsAt}
use Rattle.blkseq_table.specs.OfLogs.{id_of, identities_of, known_of}
use Rattle.block_processor.specs.Decided.{IsNew}
use Rattle.phys_log.specs.declared.entries.CommitId.{CommitId}
use Rattle.phys_log.specs.declared.entries.Entry.{Entry}
use Rattle.phys_log.specs.declared.entries.Entry.TheVariants.{Setup, Commit}
use Rattle.phys_log.specs.declared.requests.CommitRequest.{CommitRequest}
use Rattle.phys_log.specs.declared.requests.Decision.{Decision}
use Rattle.node_commits.specs.Ledgers.{AreNumbered, IsTold, IsUntold, settlement, told_of}

-- the decision of the number that an identity has
pub record IsFound (n : ℕ) (ks : List Known) (ds : List Decision) (id : CommitId) (number : ℕ) : Type 0 where
  pub low : n ≤ number
  pub decision : Decision
  pub there : slice_get ds (number - n) ≡ Some decision
  pub told : IsTold (told_of ks ds) id decision

pub found : (n : ℕ) (ks : List Known) (ds : List Decision) (id : CommitId) (number : ℕ) → AreNumbered n ks ds → StandsAt ks id number → IsFound n ks ds id number
found n [] [] id number are at = absurd at
found n [] (d ∷ ds) id number are at = absurd are
found n (k ∷ ks) [] id number are at = absurd are
found n (k ∷ ks) (d ∷ ds) id number are (inl here) =
    let p : number ≡ n = sym here.1 ∙ are.0 in
    let z : number - n ≡ 0 = omega arith in
    record { low = omega arith; decision = d; there = ap (λ i. slice_get (d ∷ ds) i) z; told = inl (here.0, refl) }
found n (k ∷ ks) (d ∷ ds) id number are (inr there) =
    let r = found (n + 1) ks ds id number are.1 there in
    let low : n + 1 ≤ number = r.low in
    let next : number - n ≡ suc (number - (n + 1)) = omega arith in
    record { low = omega arith; decision = r.decision; there = ap (λ i. slice_get (d ∷ ds) i) next ∙ r.there; told = inr r.told }

-- by numbers from 0
pub found_at : (ks : List Known) (ds : List Decision) (id : CommitId) (number : ℕ) → AreNumbered 0 ks ds → StandsAt ks id number → (d : Decision) × (slice_get ds number ≡ Some d) × IsTold (told_of ks ds) id d
found_at ks ds id number are at =
    let r = found 0 ks ds id number are at in
    let same : number ≡ number - 0 = omega arith in
    (r.decision, ap (λ i. slice_get ds i) same ∙ r.there, r.told)

pub told_at : (ks : List Known) (ds : List Decision) (id : CommitId) (number : ℕ) (d : Decision) → AreNumbered 0 ks ds → StandsAt ks id number → slice_get ds number ≡ Some d → IsTold (told_of ks ds) id d
told_at ks ds id number d are at got =
    let r = found_at ks ds id number are at in
    subst (λ x. IsTold (told_of ks ds) id x) (same_Some r.0 d (sym r.1 ∙ got)) r.2

-- each number is that of a decision
within_from : (n : ℕ) (ks : List Known) (ds : List Decision) (id : CommitId) (number : ℕ) → AreNumbered n ks ds → StandsAt ks id number → number < n + length ds
within_from n [] [] id number are at = absurd at
within_from n [] (d ∷ ds) id number are at = absurd are
within_from n (k ∷ ks) [] id number are at = absurd are
within_from n (k ∷ ks) (d ∷ ds) id number are (inl here) = let p : number ≡ n = sym here.1 ∙ are.0 in omega arith
within_from n (k ∷ ks) (d ∷ ds) id number are (inr there) = let r : number < n + 1 + length ds = within_from (n + 1) ks ds id number are.1 there in omega arith

pub within : (ks : List Known) (ds : List Decision) (id : CommitId) (number : ℕ) → AreNumbered 0 ks ds → StandsAt ks id number → number < length ds
within ks ds id number are at = let r : number < 0 + length ds = within_from 0 ks ds id number are at in omega arith

pub untold : (ks : List Known) (ds : List Decision) (id : CommitId) → IsAbsent ks id → IsUntold (told_of ks ds) id
untold [] ds id absent = tt
untold (k ∷ ks) [] id absent = tt
untold (k ∷ ks) (d ∷ ds) id absent = (absent.0, untold ks ds id absent.1)

-- where nothing was told of a request, its identity has no number
pub unnumbered : (n : ℕ) (ks : List Known) (ds : List Decision) (id : CommitId) → AreNumbered n ks ds → IsUntold (told_of ks ds) id → IsAbsent ks id
unnumbered n [] ds id are none = tt
unnumbered n (k ∷ ks) [] id are none = absurd are
unnumbered n (k ∷ ks) (d ∷ ds) id are none = (none.0, unnumbered (n + 1) ks ds id are.1 none.1)

-- the next number is above all, and what is kept with it is told behind the rest
pub below_next : (n next : ℕ) (ks : List Known) (ds : List Decision) → AreNumbered n ks ds → n + length ds ≡ next → AreBelow ks next
below_next n next [] ds are is = tt
below_next n next (k ∷ ks) [] are is = absurd are
below_next n next (k ∷ ks) (d ∷ ds) are is = (let p : k.position ≡ n = are.0 in omega arith, below_next (n + 1) next ks ds are.1 (omega arith))

pub numbered_more : (n next : ℕ) (ks : List Known) (ds : List Decision) (id : CommitId) (d : Decision) → AreNumbered n ks ds → n + length ds ≡ next → AreNumbered n (ks ++ known_at id next ∷ []) (ds ++ d ∷ [])
numbered_more n next [] [] id d are is = (let e : next ≡ n = omega arith in e, tt)
numbered_more n next [] (x ∷ ds) id d are is = absurd are
numbered_more n next (k ∷ ks) [] id d are is = absurd are
numbered_more n next (k ∷ ks) (x ∷ ds) id d are is = (are.0, numbered_more (n + 1) next ks ds id d are.1 (omega arith))

pub told_more : (n next : ℕ) (ks : List Known) (ds : List Decision) (id : CommitId) (d : Decision) → AreNumbered n ks ds → told_of (ks ++ known_at id next ∷ []) (ds ++ d ∷ []) ≡ told_of ks ds ++ settlement id d ∷ []
told_more n next [] [] id d are = refl
told_more n next [] (x ∷ ds) id d are = absurd are
told_more n next (k ∷ ks) [] id d are = absurd are
told_more n next (k ∷ ks) (x ∷ ds) id d are = ap (λ t. settlement k.id x ∷ t) (told_more (n + 1) next ks ds id d are.1)

-- an identity that no entry of a log has is not among those of the log
absent_where : (known : List Known) (id : CommitId) → ((position : ℕ) → StandsAt known id position → ⊥) → IsAbsent known id
absent_where [] id nowhere = tt
absent_where (k ∷ known) id nowhere = (λ same. nowhere k.position (inl (same, refl)), absent_where known id (λ position at. nowhere position (inr at)))

pub new_absent : (log : List Entry) (request : CommitRequest) → IsNew request log → IsAbsent (identities_of log) request.id
new_absent log request new = absent_where (identities_of log) request.id (λ position at. new.nowhere position ((of_stands log request.id position).0 at))

-- with the identity of an entry behind them they are those of the longer log, and without those above the last position those of the log again
its_known : (entry : Entry) (id : CommitId) (position : ℕ) → id_of entry ≡ Some id → known_of position entry ≡ known_at id position ∷ []
its_known (Setup generation schema records) id position its = absurd (none-some id its)
its_known (Commit generation its_id begin level changes records) id position its = ap (λ x. known_at x position ∷ []) (same_Some its_id id its)

pub known_more : (log : List Entry) (entry : Entry) (id : CommitId) (known now : List Known) → id_of entry ≡ Some id → known ≡ identities_of log → now ≡ known ++ known_at id (length log + 1) ∷ [] → now ≡ identities_of (log ++ entry ∷ [])
known_more log entry id known now its were is =
    is ∙ (ap (λ (ks : List Known). ks ++ known_at id (length log + 1) ∷ []) were ∙ (ap (λ (ks : List Known). identities_of log ++ ks) (sym (its_known entry id (length log + 1) its)) ∙ sym (of_more log entry)))

pub known_back : (log : List Entry) (entry : Entry) (now known : List Known) (last : ℕ) → now ≡ identities_of (log ++ entry ∷ []) → last ≡ length log → known ≡ up_to last now → known ≡ identities_of log
known_back log entry now known last were at is =
    is ∙ (ap (λ (ks : List Known). up_to last ks) were ∙ (of_first (log ++ entry ∷ []) last
    ∙ (ap (λ (n : ℕ). identities_of (take n (log ++ entry ∷ []))) at ∙ ap identities_of (take-append_seam log (entry ∷ [])))))
