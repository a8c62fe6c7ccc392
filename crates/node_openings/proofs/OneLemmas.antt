-- One store is opened as the store of one node is.
use Rattle.std.proofs.Common.{◌≡◌, ◌⊎◌, inl, inr, ℕ, ◌≤◌, true, List, [], ◌∷◌, length, Option, Some, None, refl, sym, subst, ap, ◌∙◌, ◌<◌, arith}
use Rattle.cdb_values.specs.declared.tables.TableDef.{TableDef}
use Rattle.cluster_consensus.specs.Enabled.{Fit}
use Rattle.cluster_consensus.specs.Facts.{Admit}
use Rattle.core_lists.specs.Lists.{In}
use Rattle.core_lists.specs.Lists.In.{here, there}
use Rattle.kept_log.specs.Kept.{OverStore}
use Rattle.log_replay.specs.Answers.{schema_of}
use Rattle.log_rows.specs.History.{tables_of}
use Rattle.node_opening.specs.Goods.{HasTables}
use Rattle.node_opening.specs.Tables.{IsDifference}
use Rattle.node_opening.specs.Why.{IsWhy}
use Rattle.phys_log.specs.declared.entries.Entry.{Entry}
use Rattle.play_order.specs.Elections.{Ranked}
use Rattle.play_order.specs.Openings.{BadAt, Finding, best_log, first_bad, first_unfit, first_unsound, tables_at}
use Rattle.play_order.specs.Openings.Finding.{BadFrame, FailedRead, NotSound, WholeLog}
use Rattle.node_openings.specs.declared.found.ReadLog.{ReadLog}
use Rattle.node_openings.specs.declared.found.StoreFound.{StoreFound}
use Rattle.node_openings.specs.declared.found.StoreFound.TheVariants as store
use Rattle.node_openings.specs.declared.found.WhyNotOpened.{WhyNotOpened}
use Rattle.node_openings.specs.declared.found.WhyNotOpened.TheVariants as why
use Rattle.node_openings.specs.Found.{IsFoundAs}
use Rattle.node_openings.specs.Findings.AreSeenAs.{seen_none, seen_more}
use Rattle.node_openings.specs.Findings.IsSeenAs.{seen_bad, seen_unsound}
use Rattle.node_openings.specs.OneStore.{IsOfFirst, why_one}
use Rattle.node_openings.specs.Judged.{AreMatchedBest}
use Rattle.node_openings.specs.Told.{DiffersFromBest, IsToldOf, IsToldOver, MayPlayOf}
use Rattle.node_openings.proofs.FoundLemmas.{finding_of, has_tables, holding_of, told_size}
use Rattle.node_openings.proofs.FitLemmas.{none_unfit}
use Rattle.node_openings.proofs.ToldLemmas.{may_play}

same_some : {A : Type 0} (x y : A) → Some x ≡ Some y → x ≡ y
same_some x y e = cc

no_some : {A : Type 0} (x : A) → Some x ≡ None → ⊥
no_some x e = let no_such : Some x ≡ None = e in cc

none_such : {A : Type 0} (x : A) → None ≡ Some x → ⊥
none_such x e = let no_such : None ≡ Some x = e in cc

abbrev bad_at : ℕ → ℕ → BadAt
bad_at node at = record { node = node; at = at }

-- what is told of one store
told_one : (given : List TableDef) (s : StoreFound) (old new : OverStore) (w : WhyNotOpened) (x : IsFoundAs s old new) → IsToldOf given (s ∷ []) w → IsToldOver given ((finding_of s old new x).finding ∷ []) w
told_one given s old new w x told = told.over ((finding_of s old new x).finding ∷ []) (seen_more (finding_of s old new x).seen seen_none)

abbrev Tells : List TableDef → OverStore → OverStore → WhyNotOpened → Type 0
Tells given old new w = IsOfFirst w × IsWhy (why_one w) old.node old.cluster old.synced given old.faults new.faults

failed_tells : (given : List TableDef) (f : Finding) (old new : OverStore) (w : WhyNotOpened) → first_bad 1 (f ∷ []) ≡ None → first_unfit 1 (f ∷ []) ≡ None → ((node : ℕ) → first_unsound 1 (f ∷ []) ≡ Some node → Tells given old new (why.Unsound node))
    → ((place : ℕ) → DiffersFromBest given (f ∷ []) place → Tells given old new (why.Differs place)) → IsToldOver given (f ∷ []) w → Tells given old new w
failed_tells given f old new (why.StoreRefused node at) whole fit unsound other t = absurd (none_such (bad_at node at) (sym whole ∙ t))
failed_tells given f old new (why.Unsound node) whole fit unsound other (inl (w, u)) = unsound node u
failed_tells given f old new (why.Unsound node) whole fit unsound other (inr (s, u)) = absurd (none_such node (sym fit ∙ u))
failed_tells given f old new (why.Differs place) whole fit unsound other t = other place t.1
failed_tells given f old new why.NoMemory whole fit unsound other t = (tt, tt)

same_bad : (a b : BadAt) → Some a ≡ Some b → a ≡ b
same_bad a b e = ap (λ (o : Option BadAt). or_a o) e
  where
    or_a : Option BadAt → BadAt
    or_a None = a
    or_a (Some x) = x

bad_tells : (given : List TableDef) (at : ℕ) (old new : OverStore) (w : WhyNotOpened) → IsFoundAs (store.Bad at) old new → IsToldOver given (BadFrame at ∷ []) w → Tells given old new w
bad_tells given at old new (why.StoreRefused node place) x t =
    let same : bad_at 1 at ≡ bad_at node place = same_bad (bad_at 1 at) (bad_at node place) t in
    let node_is : 1 ≡ node = ap (λ (b : BadAt). b.node) same in
    let at_is : at ≡ place = ap (λ (b : BadAt). b.at) same in
    (sym node_is, subst (λ k. IsWhy (why_one (why.StoreRefused node k)) old.node old.cluster old.synced given old.faults new.faults) at_is x.0)
bad_tells given at old new (why.Unsound node) x (inl (whole, u)) = absurd (no_some (bad_at 1 at) whole)
bad_tells given at old new (why.Unsound node) x (inr (sound, u)) = absurd (no_some (bad_at 1 at) sound.0)
bad_tells given at old new (why.Differs place) x t = absurd (no_some (bad_at 1 at) t.0.0.0)
bad_tells given at old new why.NoMemory x t = (tt, tt)

unsound_tells : (given : List TableDef) (old new : OverStore) (w : WhyNotOpened) → IsFoundAs store.NotSound old new → IsToldOver given (NotSound ∷ []) w → Tells given old new w
unsound_tells given old new (why.StoreRefused node place) x t = absurd (none_such (bad_at node place) t)
unsound_tells given old new (why.Unsound node) x (inl (whole, u)) =
    let one : 1 ≡ node = same_some 1 node u in
    (sym one, record { promised = x.0.promised; accepted = x.0.accepted; entries = x.0.entries; stood = x.0.stood; unsound = x.0.unsound })
unsound_tells given old new (why.Unsound node) x (inr (sound, u)) = absurd (no_some 1 sound.1)
unsound_tells given old new (why.Differs place) x t = absurd (no_some 1 t.0.0.1)
unsound_tells given old new why.NoMemory x t = (tt, tt)

-- what one node accepted it promised, so one store fits
abbrev admit_one : ℕ → ℕ → Admit
admit_one p a = record { node = 1; promised = p; accepted = a }

one_fit : (p a : ℕ) → a ≤ p → Fit 1 (admit_one p a ∷ [])
one_fit p a below = record { at = λ x h. record { who = λ k. true; many = (let m : 1 < 2 = omega arith in m); hold = λ k low high counted. record { at = λ b m same. all x b h m } } }
  where
    all : (x b : Admit) → In x (admit_one p a ∷ []) → In b (admit_one p a ∷ []) → x.accepted ≤ b.promised
    all x b here here = below
    all x b here (there m) = absurd (elim m [ ])
    all x b (there h) m = absurd (elim h [ ])

one_fits : (p a : ℕ) (es : List Entry) (tables : List TableDef) → a ≤ p → first_unfit 1 (WholeLog (holding_of p a es) tables ∷ []) ≡ None
one_fits p a es tables below = none_unfit 1 (admit_one p a ∷ []) (one_fit p a below)

abbrev ranked_one : ℕ → ℕ → List Entry → Ranked
ranked_one p a es = record { node = 1; has = holding_of p a es }

best_one : (p a : ℕ) (es : List Entry) (tables : List TableDef) (r : Ranked) → best_log (WholeLog (holding_of p a es) tables ∷ []) ≡ Some r → r ≡ ranked_one p a es
best_one p a es tables r e = let same : Some (ranked_one p a es) ≡ Some r = e in sym (same_some (ranked_one p a es) r same)

whole_tells : (given : List TableDef) (r : ReadLog) (old new : OverStore) (w : WhyNotOpened) (x : IsFoundAs (store.Whole r) old new)
    → IsToldOver given (WholeLog (holding_of r.promised r.accepted x.0.was.entries) (tables_of x.0.was.entries) ∷ []) w → Tells given old new w
whole_tells given r old new w x t =
    failed_tells given (WholeLog (holding_of r.promised r.accepted x.0.was.entries) (tables_of x.0.was.entries)) old new w refl (one_fits r.promised r.accepted x.0.was.entries (tables_of x.0.was.entries) x.0.was.may.below)
    (λ node u. absurd (none_such node u)) other t
  where
    other : (place : ℕ) → DiffersFromBest given (WholeLog (holding_of r.promised r.accepted x.0.was.entries) (tables_of x.0.was.entries) ∷ []) place → Tells given old new (why.Differs place)
    other place d =
        let l : List Entry = x.0.was.entries in
        let b = best_one r.promised r.accepted l (tables_of l) d.best d.is_best in
        let size : length d.best.has.log ≡ length l = ap (λ (y : Ranked). length y.has.log) b ∙ told_size 1 l in
        let some : 1 ≤ length d.best.has.log = d.some in (
          tt,
          record {
            promised = r.promised;
            accepted = r.accepted;
            entries = l;
            stood = x.0.was.stood;
            other = record {
              sound = x.0.was.good.sound;
              some = (let m : 1 ≤ length l = omega arith in m);
              difference = subst (λ (y : Ranked). IsDifference given (tables_at (WholeLog (holding_of r.promised r.accepted l) (tables_of l) ∷ []) y.node) place) b d.difference;
            };
          },
        )

pub one_tells : (given : List TableDef) (s : StoreFound) (old new : OverStore) (w : WhyNotOpened) → IsFoundAs s old new → IsToldOf given (s ∷ []) w → IsOfFirst w × IsWhy (why_one w) old.node old.cluster old.synced given old.faults new.faults
one_tells given store.Failed old new w x told =
    failed_tells given (FailedRead (holding_of 0 0 []) true) old new w refl refl (λ node u. absurd (none_such node u)) (λ place d. absurd (none_such d.best d.is_best)) (told_one given store.Failed old new w x told)
one_tells given (store.Bad at) old new w x told = bad_tells given at old new w x (told_one given (store.Bad at) old new w x told)
one_tells given store.NotSound old new w x told = unsound_tells given old new w x (told_one given store.NotSound old new w x told)
one_tells given (store.Whole r) old new w x told = whole_tells given r old new w x (told_one given (store.Whole r) old new w x told)

-- and over which one a script is played
pub no_bad_one : (given : List TableDef) (at : ℕ) → MayPlayOf given (store.Bad at ∷ []) → ⊥
no_bad_one given at may = no_some (bad_at 1 at) (may.over (BadFrame at ∷ []) (seen_more seen_bad seen_none)).fit.0.0

pub no_unsound_one : (given : List TableDef) → MayPlayOf given (store.NotSound ∷ []) → ⊥
no_unsound_one given may = no_some 1 (may.over (NotSound ∷ []) (seen_more seen_unsound seen_none)).fit.0.1

-- a sound log with the given tables
pub one_plays : (given : List TableDef) (r : ReadLog) (old new : OverStore) (x : IsFoundAs (store.Whole r) old new) → HasTables given x.0.was.entries → MayPlayOf given (store.Whole r ∷ [])
one_plays given r old new x good = may_play given (store.Whole r ∷ []) refl refl (one_fit r.promised r.accepted x.0.was.may.below) (subst (λ o. AreMatchedBest given o) (sym x.0.schema) (matched (has_tables r.accepted x.0.was.entries x.0.was.good.sound) good))
  where
    matched : ((schema_of x.0.was.entries ≡ None) × (length x.0.was.entries ≡ 0)) ⊎ ((schema_of x.0.was.entries ≡ Some (tables_of x.0.was.entries)) × (1 ≤ length x.0.was.entries)) → HasTables given x.0.was.entries → AreMatchedBest given (schema_of x.0.was.entries)
    matched (inl (none, empty)) g = subst (λ o. AreMatchedBest given o) (sym none) tt
    matched (inr (some, more)) (inl none) = let size : length x.0.was.entries ≡ 0 = ap length none in let big : 1 ≤ length x.0.was.entries = more in absurd (omega arith)
    matched (inr (some, more)) (inr same) = subst (λ o. AreMatchedBest given o) (sym some) same
