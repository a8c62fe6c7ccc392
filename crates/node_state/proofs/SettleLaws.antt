-- A leader tells what it decided of a request: that is no event of consensus, so its part stays as it is.
use Rattle.std.proofs.Common.{ℕ, ◌≡◌, List, [], ◌∷◌, ◌++◌, map, refl, sym, subst, ap, ◌∙◌}
use Rattle.std.specs.Prelude.{None, true}
use Rattle.std.specs.declared.snapshot.Snapshot.{Snapshot}
use Rattle.actor_trace.specs.Steps.{Adds}
use Rattle.cdb_values.specs.declared.tables.TableDef.{TableDef}
use Rattle.cluster_consensus.specs.Facts.{Own, World}
use Rattle.cluster_events.specs.Arms.{last_fired, fired_by, HasFallen}
use Rattle.cluster_events.specs.Guards.{MayDo}
use Rattle.cluster_events.specs.Parts.{ActorEvent, field}
use Rattle.cluster_events.specs.Settings.{Setting}
use Rattle.cluster_requests.specs.KeptEntries.{KeptEntry, plain}
use Rattle.cluster_steps.specs.Guards.{IsAllowed, MayTakeStep, AreLegalSteps}
use Rattle.cluster_steps.specs.Named.{named_settled, steps, world}
use Rattle.cluster_steps.specs.declared.events.Event.{Event}
use Rattle.cluster_steps.specs.declared.events.Event.TheVariants.{Settle}
use Rattle.cluster_steps.proofs.OwnLaws.{tells_adds}
use Rattle.cluster_steps.proofs.StepLaws.{idle}
use Rattle.election_core.specs.Told.{IsPart}
use Rattle.election_core.proofs.Acted.{counted_on}
use Rattle.election_core.specs.declared.votes.NodeVote.{NodeVote}
use Rattle.phys_log.specs.declared.entries.CommitId.{CommitId}
use Rattle.phys_log.specs.declared.entries.Entry.{Entry}
use Rattle.phys_log.specs.declared.requests.Decision.{Decision}
use Rattle.phys_log.specs.declared.requests.Decision.TheVariants as decision
use Rattle.node_state.specs.Calls.{Did}
use Rattle.node_state.specs.Commits.{MaySettle, Settles}
use Rattle.node_state.specs.Nodes.{IsNode, IsOwn, Held}
use Rattle.node_state.proofs.NodeLaws.{fired_adds}

pub core_stays : (tables : List TableDef) (i : ℕ) (id : CommitId) (d : Decision) (g : List (ℕ × ActorEvent)) → (field ((i, named_settled tables id d) ∷ g)).core ≡ (field g).core
core_stays tables i id (decision.Repeat position) g = refl
core_stays tables i id (decision.Conflict position item) g = refl
core_stays tables i id (decision.Duplicate position table key) g = refl
core_stays tables i id (decision.Commit next) g = refl

fires_nothing : (tables : List TableDef) (i : ℕ) (id : CommitId) (d : Decision) (g : List (ℕ × ActorEvent)) → fired_by g i (named_settled tables id d) ≡ None
fires_nothing tables i id (decision.Repeat position) g = refl
fires_nothing tables i id (decision.Conflict position item) g = refl
fires_nothing tables i id (decision.Duplicate position table key) g = refl
fires_nothing tables i id (decision.Commit next) g = refl

-- the script asks nothing of it
allowed : (G : Setting) (g : List (ℕ × ActorEvent)) (i : ℕ) (id : CommitId) (d : Decision) → last_fired i g ≡ None → MayDo G g i (named_settled G.tables id d) → IsAllowed G g i (named_settled G.tables id d)
allowed G g i id (decision.Repeat position) none may = record { may = may; by_script = record { heeds = tt; goes_on = subst (λ f. HasFallen G g i f) (sym none) tt }; pages = tt }
allowed G g i id (decision.Conflict position item) none may = record { may = may; by_script = record { heeds = tt; goes_on = subst (λ f. HasFallen G g i f) (sym none) tt }; pages = tt }
allowed G g i id (decision.Duplicate position table key) none may = record { may = may; by_script = record { heeds = tt; goes_on = subst (λ f. HasFallen G g i f) (sym none) tt }; pages = tt }
allowed G g i id (decision.Commit next) none may = record { may = may; by_script = record { heeds = tt; goes_on = subst (λ f. HasFallen G g i f) (sym none) tt }; pages = tt }

pub settle_may : (G : Setting) (v : NodeVote) (log : List Entry) (i : ℕ) (seen : List (ℕ × Event)) (request : Snapshot CommitId) (told : Snapshot Decision) (id : CommitId) (d : Decision) → IsNode G v log seen → v.node ≡ i
    → request.value ≡ id → told.value ≡ d → MaySettle G seen v.node id d → MayTakeStep G seen i (Settle request told)
settle_may G v log i seen request told id d is vi q r may = subst (λ k. MayTakeStep G seen k (Settle request told)) vi
    (record { plan = is.plan; exact = tt; allowed = allowed G (steps G seen) v.node request.value told.value is.unarmed named_so })
  where
    named_so : MayDo G (steps G seen) v.node (named_settled G.tables request.value told.value)
    named_so = subst (λ x. MayDo G (steps G seen) v.node (named_settled G.tables request.value x)) (sym r) (subst (λ y. MayDo G (steps G seen) v.node (named_settled G.tables y d)) (sym q) may.may)

-- the node's part
part_stays : (G : Setting) (i : ℕ) (request : Snapshot CommitId) (told : Snapshot Decision) (old new : List (ℕ × Event)) → Adds i (Settle request told) old new → (world G new).nodes i ≡ (world G old).nodes i
part_stays G i request told old new d =
    ap (λ t. (world G t).nodes i) d.whole
    ∙ (ap (λ (w : World KeptEntry). w.nodes i) (core_stays G.tables i request.value told.value (steps G (d.between ++ old))) ∙ idle G i d.between old d.none)

after_settle : (G : Setting) (v : NodeVote) (log : List Entry) (i : ℕ) (request : Snapshot CommitId) (told : Snapshot Decision) (old new : List (ℕ × Event)) → IsNode G v log old → v.node ≡ i
    → Adds i (Settle request told) old new → AreLegalSteps G new → IsNode G v log new
after_settle G v log i request told old new is vi d legal =
    let dv : Adds v.node (Settle request told) old new = subst (λ t. Adds t (Settle request told) old new) (sym vi) d in
    let now : (world G new).nodes v.node ≡ (world G old).nodes v.node = part_stays G v.node request told old new dv in
    record {
      low = is.low;
      high = is.high;
      nodes_is = is.nodes_is;
      few = is.few;
      plan = is.plan;
      legal = legal;
      unarmed = fired_adds G v.node (Settle request told) old new (λ g. fires_nothing G.tables v.node request.value told.value g) dv;
      part = subst (λ (o : Own KeptEntry). IsPart v o) (sym now) is.part;
      log_is = is.log_is ∙ ap (λ (o : Own KeptEntry). map plain o.log) (sym now);
      logged = is.logged;
      counted = counted_on (world G old) (world G new) v (tells_adds G v.node (Settle request told) old new dv) is.counted;
    }

pub own_settle : (G : Setting) (old new : Held) (request : Snapshot CommitId) (told : Snapshot Decision) → IsOwn G old → new.vote ≡ old.vote → new.entries ≡ old.entries → new.actor.number ≡ old.actor.number
    → Adds old.actor.number (Settle request told) old.actor.seen new.actor.seen → AreLegalSteps G new.actor.seen → IsOwn G new
own_settle G old new request told own v l n d legal =
    let is = after_settle G old.vote old.entries old.actor.number request told old.actor.seen new.actor.seen own.node own.number_is d legal in
    record {
      node = subst (λ t. IsNode G t new.entries new.actor.seen) (sym v) (subst (λ t. IsNode G old.vote t new.actor.seen) (sym l) is);
      number_is = ap (λ (t : NodeVote). t.node) v ∙ (own.number_is ∙ sym n);
    }

pub settled : (old new : Held) (request : Snapshot CommitId) (told : Snapshot Decision) (id : CommitId) (d : Decision) → request.value ≡ id → told.value ≡ d → Did (Settle request told ∷ []) old new
    → new.vote ≡ old.vote → new.entries ≡ old.entries → Settles id d old new
settled old new request told id d q r did v l = record { event = Settle request told; settles = (q, r); did = did; vote = v; entries = l }

-- it is up then
pub settle_up : (G : Setting) (v : NodeVote) (log : List Entry) (seen : List (ℕ × Event)) (id : CommitId) (d : Decision) → IsNode G v log seen → MaySettle G seen v.node id d → v.up ≡ true
settle_up G v log seen id d is may = is.part.up ∙ here d may.may
  where
    here : (d : Decision) → MayDo G (steps G seen) v.node (named_settled G.tables id d) → ((world G seen).nodes v.node).up ≡ true
    here (decision.Repeat position) m = m.0
    here (decision.Conflict position item) m = m.0.0
    here (decision.Duplicate position table key) m = m.0.0
    here (decision.Commit next) m = m.0.0
