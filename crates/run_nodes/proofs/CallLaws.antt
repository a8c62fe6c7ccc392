-- What a call leaves of what a node did with its store so far.
use Rattle.std.proofs.Common.{ℕ, ◌≡◌, ◌<◌, ◌+◌, ◌≤◌, List, [], ◌∷◌, ◌++◌, arith, refl, sym, subst, ap, ◌∙◌}
use Rattle.std.specs.Prelude.{Option, Some, None}
use mathlib.Core.Logic.{inl, inr, ∥∥₁_elim, ∥∥₁_prop}
use Rattle.cdb_outside.specs.Faults.{last_count}
use Rattle.cluster_steps.specs.declared.events.Event.{Event}
use Rattle.cluster_steps.specs.declared.events.Event.TheVariants as event
use Rattle.cluster_steps.specs.declared.events.Woken.{Woken}
use Rattle.kept_log.specs.Kept.{Kept, StandForAny, StandsStill, kept}
use Rattle.node_state.specs.Calls.{Did}
use Rattle.node_state.specs.Nodes.{events_of}
use Rattle.node_state.specs.Restarts.{IsUp, Wakes}
use Rattle.node_state.specs.Stores.{Stored, held_of}
use Rattle.run_nodes.proofs.EventLaws.{before_none, faults_more, first_more}
use Rattle.run_nodes.specs.SoFar.{Counts, HasRisen, IsCallOf, IsNodeSoFar, IsReadOf, faults_by, first_by}
use Rattle.run_results.specs.Stores.{fault_of, or_before, up_of}

still_then : (node cluster : ℕ) (a b c : List ℕ) → StandsStill node cluster a b → StandsStill node cluster b c → StandsStill node cluster a c
still_then node cluster a b c x y = λ s t. ∥∥₁_elim (x s t) ∥∥₁_prop (λ u. y s u)

last_itself : (n : ℕ) → n ≡ last_count → last_count ≤ n
last_itself n e = let q : n ≡ last_count = e in omega arith

risen_more : (before by more was now : ℕ) → HasRisen before by was → Counts more was now → HasRisen before (by + more) now
risen_more before by more was now (inl le) (inl c) =
    let l : before + by ≤ was = le in
    let z : more ≡ 0 = c.0 in
    let q : now ≡ was = c.1 in
    inl (omega arith)
risen_more before by more was now (inl le) (inr c) = elim c.1 [
  | inl lt ↦ (
      let l : before + by ≤ was = le in
      let z : more ≡ 1 = c.0 in
      let q : was < now = lt in
      inl (omega arith))
  | inr last ↦ inr (last_itself now last)
]
risen_more before by more was now (inr le) (inl c) = inr (subst (λ n. last_count ≤ n) (sym c.1) le)
risen_more before by more was now (inr le) (inr c) = elim c.1 [
  | inl lt ↦ (
      let a : last_count ≤ was = le in
      let b : was < now = lt in
      inr (omega arith))
  | inr last ↦ inr (last_itself now last)
]

-- a call by which it does not come up
pub call_keeps : (cluster : ℕ) (bytes : List ℕ) (faults : ℕ) (es : List Event) (old new : Stored) → IsNodeSoFar cluster bytes faults old → Did es (held_of old) (held_of new) → IsCallOf es old new
    → IsNodeSoFar cluster bytes faults new
call_keeps cluster bytes faults es old new so did call =
    let before : List Event = events_of old.actor.made in
    let first : first_by (events_of new.actor.made) ≡ first_by before =
    ap first_by did.made ∙ (first_more before es ∙ (ap (λ o. or_before (first_by before) o) call.no_up ∙ before_none (first_by before))) in
    let counted : faults_by (events_of new.actor.made) ≡ faults_by before + faults_by es = ap faults_by did.made ∙ faults_more before es in
    let of_node : IsReadOf new.vote.node cluster bytes (first_by before) = subst (λ k. IsReadOf k cluster bytes (first_by before)) (sym call.node) so.read in
    record {
      cluster_is = call.cluster ∙ so.cluster_is;
      read = subst (λ o. IsReadOf new.vote.node cluster bytes o) (sym first) of_node;
      still = λ none. let was : first_by before ≡ None = sym first ∙ none in
          subst (λ k. StandsStill k cluster bytes new.over.synced) (sym call.node)
          (still_then old.vote.node cluster bytes old.over.synced new.over.synced (so.still was) (subst (λ c. StandsStill old.vote.node c old.over.synced new.over.synced) so.cluster_is (call.still was)));
      risen = subst (λ n. HasRisen faults n new.over.faults) (sym counted) (risen_more faults (faults_by before) (faults_by es) old.over.faults new.over.faults so.risen call.counts);
    }

-- the event by which a node comes up
up_is : (how : Woken) (k : Kept) (e : Event) → IsUp how k e → up_of e ≡ Some k
up_is how k (event.Up by promised accepted entries) u =
    ap (λ p. Some (kept p accepted entries.value)) u.1 ∙ (ap (λ a. Some (kept k.promised a entries.value)) u.2 ∙ ap (λ es. Some (kept k.promised k.accepted es)) u.3)
up_is how k _ u = absurd u

no_fault : (how : Woken) (k : Kept) (e : Event) → IsUp how k e → fault_of e ≡ 0
no_fault how k (event.Up by promised accepted entries) u = refl
no_fault how k _ u = absurd u

never_none : (o : Option Kept) (k : Kept) → or_before o (Some k) ≡ None → ⊥
never_none None k e = absurd (cc)
never_none (Some j) k e = absurd (cc)

read_then : (node cluster : ℕ) (bytes : List ℕ) (o : Option Kept) (k : Kept) → IsReadOf node cluster bytes o → (o ≡ None → ∥ StandForAny node cluster bytes (k ∷ []) ∥₁) → IsReadOf node cluster bytes (or_before o (Some k))
read_then node cluster bytes None k r t = t refl
read_then node cluster bytes (Some j) k r t = r

-- it comes up with that: where it is the first time, its store stood for it before the run
pub wake_keeps : (cluster : ℕ) (bytes : List ℕ) (faults : ℕ) (how : Woken) (k : Kept) (old new : Stored) → IsNodeSoFar cluster bytes faults old → Wakes how k (held_of old) (held_of new)
    → new.over.cluster ≡ old.over.cluster → new.over.faults ≡ old.over.faults → (first_by (events_of old.actor.made) ≡ None → ∥ StandForAny old.vote.node cluster bytes (k ∷ []) ∥₁) → IsNodeSoFar cluster bytes faults new
wake_keeps cluster bytes faults how k old new so wakes same calm stood =
    let before : List Event = events_of old.actor.made in
    let e : Event = wakes.event in
    let node : new.vote.node ≡ old.vote.node = ap (λ v. v.node) wakes.vote in
    let one : first_by (e ∷ []) ≡ Some k = before_none (up_of e) ∙ up_is how k e wakes.up in
    let first : first_by (events_of new.actor.made) ≡ or_before (first_by before) (Some k) = ap first_by wakes.did.made ∙ (first_more before (e ∷ []) ∙ ap (λ o. or_before (first_by before) o) one) in
    let silent : fault_of e ≡ 0 = no_fault how k e wakes.up in
    let counted : faults_by (events_of new.actor.made) ≡ faults_by before =
    let q : faults_by (before ++ e ∷ []) ≡ faults_by before + (fault_of e + 0) = faults_more before (e ∷ []) in
    let m : faults_by (events_of new.actor.made) ≡ faults_by (before ++ e ∷ []) = ap faults_by wakes.did.made in
    omega arith in
    let read : IsReadOf old.vote.node cluster bytes (or_before (first_by before) (Some k)) = read_then old.vote.node cluster bytes (first_by before) k so.read stood in
    record {
      cluster_is = same ∙ so.cluster_is;
      read = subst (λ o. IsReadOf new.vote.node cluster bytes o) (sym first) (subst (λ i. IsReadOf i cluster bytes (or_before (first_by before) (Some k))) (sym node) read);
      still = λ none. absurd (never_none (first_by before) k (sym first ∙ none));
      risen = subst (λ n. HasRisen faults (faults_by (events_of new.actor.made)) n) (sym calm) (subst (λ n. HasRisen faults n old.over.faults) (sym counted) so.risen);
    }
