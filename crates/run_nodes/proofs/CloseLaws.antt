-- At the close what an actor did and knows holds of the whole history: what a node did with its store so far is what the history
-- tells, its part is its numbers and its log, and what its store may hold it may come up with.
use Rattle.std.proofs.Common.{ℕ, ◌≡◌, ◌≤◌, List, [], ◌∷◌, map, arith, refl, sym, subst, ap, ◌∙◌}
use Rattle.std.specs.Prelude.{true, false, Option, Some, None}
use Rattle.actor_trace.specs.Actors.{IsHistory, Knows}
use Rattle.actor_trace.specs.History.{entries_of}
use Rattle.actor_trace.specs.Lists.{Begins, In}
use Rattle.actor_trace.specs.Steps.{Rests}
use Rattle.cluster_consensus.specs.Facts.{Own}
use Rattle.cluster_events.specs.Operator.{duty}
use Rattle.cluster_events.specs.Parts.{field}
use Rattle.cluster_events.specs.Settings.{Setting, lines_to_do}
use Rattle.cluster_requests.specs.KeptEntries.{KeptEntry, plain}
use Rattle.cluster_requests.specs.Requests.{Field}
use Rattle.cluster_steps.proofs.OwnLaws.{own_rests}
use Rattle.cluster_steps.specs.Guards.{MayTakeStep}
use Rattle.cluster_steps.specs.Named.{steps, world}
use Rattle.cluster_steps.specs.declared.events.Event.{Event}
use Rattle.cluster_steps.specs.declared.events.Woken.{Woken}
use Rattle.cluster_steps.specs.declared.events.Woken.TheVariants as woken
use Rattle.election_core.specs.declared.votes.NodeVote.{NodeVote}
use Rattle.history_base.specs.Sizes.{up_lengths}
use Rattle.kept_log.specs.Kept.{Kept, StandForAny, StandsStill, kept, kept_by}
use Rattle.node_state.proofs.LeftLaws.{down_as_left}
use Rattle.node_state.proofs.StoreLaws.{any_stays}
use Rattle.node_state.specs.Nodes.{IsNode, events_of}
use Rattle.node_state.specs.Restarts.{MayWake, MayWakeAny}
use Rattle.node_state.specs.Stores.{MayBeNext, MayReturn, Stored, held_of, lasting, woken_of}
use Rattle.node_state.specs.declared.faults.UnderWay.{UnderWay}
use Rattle.operator_work.proofs.DutyLaws.{rests}
use Rattle.operator_work.specs.Duties.{IsAt}
use Rattle.phys_log.specs.declared.entries.Entry.{Entry}
use Rattle.run_nodes.proofs.EventLaws.{faults_steps, first_steps, noted_steps}
use Rattle.run_nodes.specs.Close.{IsAtEnd, IsGivenBack}
use Rattle.run_nodes.specs.SoFar.{HasRisen, IsNodeSoFar, IsReadOf, faults_by, first_by, noted_by}
use Rattle.run_results.proofs.StepLaws.{faults_are, first_is, lengths_are}
use Rattle.run_results.specs.Stores.{IsNodeOf, faults_in, faults_of, first_in, first_up, noted_in}
use Rattle.store_log.specs.Keeps as keeps

-- whoever knows what it did did nothing else
pub rests_till_the_close : (G : Setting) (n : ℕ) (actors : List (Knows Event)) (log : List (ℕ × Event)) (x : Knows Event) → IsHistory (λ h i e. MayTakeStep G h i e) n actors log → In x actors
    → x.made ≡ entries_of x.number x.seen → Rests x.number x.seen log
rests_till_the_close G n actors log x is there knows =
    let b : Begins x.seen log = is.seen x there in
    record {
      between = b.later;
      whole = sym b.whole;
      none = subst (λ (l : List (ℕ × Event)). entries_of x.number l ≡ entries_of x.number x.seen) (sym b.whole) (sym (is.made x there) ∙ knows);
    }

-- the operator has no line left
pub operator_is_done : (G : Setting) (n : ℕ) (actors : List (Knows Event)) (log : List (ℕ × Event)) (o : Knows Event) → IsHistory (λ h i e. MayTakeStep G h i e) n actors log → In o actors → o.number ≡ 0
    → o.made ≡ entries_of o.number o.seen → IsAt G o.seen [] false → (duty (lines_to_do G) (steps G log)).left ≡ []
operator_is_done G n actors log o is there zero knows at =
    let r : Rests 0 o.seen log = subst (λ k. Rests k o.seen log) zero (rests_till_the_close G n actors log o is there knows) in
    (rests G o.seen log [] false is.legal r at).lines

-- with how long a log a node came up
pub noted_at_close : (G : Setting) (n : ℕ) (actors : List (Knows Event)) (log : List (ℕ × Event)) (x : Knows Event) → IsHistory (λ h i e. MayTakeStep G h i e) n actors log → In x actors
    → up_lengths x.number log ≡ noted_by (events_of x.made)
noted_at_close G n actors log x is there = lengths_are x.number log ∙ (ap noted_in (sym (is.made x there)) ∙ noted_steps x.made)

stand_as : (node i cluster c : ℕ) (b d : List ℕ) (ks ls : List Kept) → node ≡ i → cluster ≡ c → b ≡ d → ks ≡ ls → ∥ StandForAny node cluster b ks ∥₁ → ∥ StandForAny i c d ls ∥₁
stand_as node i cluster c b d ks ls n m e s t =
    subst (λ x. ∥ StandForAny i c d x ∥₁) s (subst (λ x. ∥ StandForAny i c x ks ∥₁) e (subst (λ x. ∥ StandForAny i x b ks ∥₁) m (subst (λ x. ∥ StandForAny x cluster b ks ∥₁) n t)))

-- a node that is down may come up with each of those that its store may hold
wakes_next : (G : Setting) (f : Field) (v : NodeVote) (es : List Entry) (q : ℕ) (how : Woken) (next : Option Kept) → MayWake G f v.node woken.AsLeft (kept v.promised v.accepted es) → MayWake G f v.node woken.AsLeft (kept q v.accepted es)
    → MayBeNext G f v how next → MayWakeAny G f v.node (lasting v.promised v.accepted es q next)
wakes_next G f v es q how None a b m = ((woken.AsLeft, a), ((woken.AsLeft, b), tt))
wakes_next G f v es q how (Some k) a b m = ((woken.AsLeft, a), ((woken.AsLeft, b), ((how, m.1), tt)))

wakes_any : (G : Setting) (n : Stored) (u : UnderWay) → IsNode G n.vote n.entries n.actor.seen → n.vote.up ≡ false → (r : MayReturn G (held_of n) n.over u)
    → MayWakeAny G (field (steps G n.actor.seen)) n.vote.node (lasting n.vote.promised n.vote.accepted n.entries r.promise r.next)
wakes_any G n u node down r =
    let same : n.vote.promised ≤ n.vote.promised = omega arith in
    wakes_next G (field (steps G n.actor.seen)) n.vote n.entries r.promise (woken_of u) r.next (down_as_left G n.vote n.entries n.vote.promised n.actor.seen node down r.was_up same)
    (down_as_left G n.vote n.entries r.promise n.actor.seen node down r.was_up r.least) r.may

module _ (G : Setting) (count : ℕ) (actors : List (Knows Event)) (log : List (ℕ × Event)) (is : IsHistory (λ h i e. MayTakeStep G h i e) count actors log) (n : Stored) (there : In n.actor actors) (end : IsAtEnd G n) where
  abbrev k : ℕ
  k = n.vote.node

  quiet : Rests k n.actor.seen log
  quiet = subst (λ i. Rests i n.actor.seen log) (sym end.own.number_is) (rests_till_the_close G count actors log n.actor is there end.made)

  same : (world G log).nodes k ≡ (world G n.actor.seen).nodes k
  same = own_rests G k n.actor.seen log quiet

  its_steps : n.actor.made ≡ entries_of k log
  its_steps = is.made n.actor there ∙ ap (λ i. entries_of i log) (sym end.own.number_is)

  pub first_told : first_up k log ≡ first_by (events_of n.actor.made)
  first_told = first_is k log ∙ (ap first_in (sym its_steps) ∙ first_steps n.actor.made)

  pub faults_told : faults_of k log ≡ faults_by (events_of n.actor.made)
  faults_told = faults_are k log ∙ (ap faults_in (sym its_steps) ∙ faults_steps n.actor.made)

  holds_up : (cluster : ℕ) (bytes : List ℕ) → n.over.cluster ≡ cluster → bytes ≡ n.over.synced → (n.over.is_open ≡ true → ∥ StandForAny n.over.node n.over.cluster n.over.synced (kept_by n.over ∷ []) ∥₁)
      → ((world G log).nodes k).up ≡ true → ∥ StandForAny k cluster bytes (kept ((world G log).nodes k).promised ((world G log).nodes k).accepted (map plain ((world G log).nodes k).log) ∷ []) ∥₁
  holds_up cluster bytes of_it b holds up =
      let o : Own KeptEntry = (world G log).nodes k in
      let p = end.own.node.part in
      let is_open : n.over.is_open ≡ true = end.over.is_open ∙ (p.up ∙ (ap (λ x. x.up) (sym same) ∙ up)) in
      let promised : n.over.promised ≡ o.promised = end.over.promised ∙ (p.promised ∙ ap (λ x. x.promised) (sym same)) in
      let accepted : n.over.accepted ≡ o.accepted = end.over.accepted ∙ (p.accepted ∙ ap (λ x. x.accepted) (sym same)) in
      let entries : n.over.entries ≡ map plain o.log = end.entries ∙ (end.own.node.log_is ∙ ap (λ x. map plain x.log) (sym same)) in
      let all : kept_by n.over ≡ kept o.promised o.accepted (map plain o.log) =
      ap (λ x. kept x n.over.accepted n.over.entries) promised ∙ (ap (λ x. kept o.promised x n.over.entries) accepted ∙ ap (λ x. kept o.promised o.accepted x) entries) in
      stand_as n.over.node k n.over.cluster cluster n.over.synced bytes (kept_by n.over ∷ []) (kept o.promised o.accepted (map plain o.log) ∷ []) end.over.node of_it (sym b) (ap (λ x. x ∷ []) all) (holds is_open)

  holds_down : (cluster : ℕ) (bytes : List ℕ) → n.over.cluster ≡ cluster → bytes ≡ n.over.synced → ((world G log).nodes k).was_up ≡ true → ((world G log).nodes k).up ≡ false
      → (ks : List Kept) × ∥ StandForAny k cluster bytes ks ∥₁ × MayWakeAny G (field (steps G log)) k ks
  holds_down cluster bytes of_it b was down =
      let fell : n.vote.up ≡ false = end.own.node.part.up ∙ (ap (λ x. x.up) (sym same) ∙ down) in
      let left = end.left fell (ap (λ x. x.was_up) (sym same) ∙ was) in
      let ks : List Kept = lasting n.vote.promised n.vote.accepted n.entries left.1.promise left.1.next in (
        ks,
        stand_as n.over.node k n.over.cluster cluster n.over.synced bytes ks ks end.over.node of_it (sym b) refl left.1.holds,
        any_stays G k n.actor.seen log ks end.own.node.plan quiet is.legal (wakes_any G n left.0 end.own.node fell left.1),
      )

  pub node_at_close : (cluster : ℕ) (old new : keeps.Stored) → IsNodeSoFar cluster old.synced old.faults n → IsGivenBack n new.synced new.pending new.faults → IsNodeOf G log k cluster old new
  node_at_close cluster old new so given = record {
    read = subst (λ o. IsReadOf k cluster old.synced o) (sym first_told) so.read;
    holds = (
      (λ none. subst (λ b. StandsStill k cluster old.synced b) (sym given.synced) (so.still (sym first_told ∙ none))),
      holds_up cluster new.synced so.cluster_is given.synced given.holds,
      holds_down cluster new.synced so.cluster_is given.synced,
    );
    faults = subst (λ f. HasRisen old.faults f new.faults) (sym faults_told) (subst (λ f. HasRisen old.faults (faults_by (events_of n.actor.made)) f) (sym given.calm) so.risen);
    settled = given.settled;
  }
