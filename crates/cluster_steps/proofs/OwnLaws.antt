-- What an event of a node makes of its part, behind what others did in between.
use Rattle.std.proofs.Common.{ℕ, ◌≡◌, List, [], ◌∷◌, ◌++◌, length, refl, sym, subst, ap, ◌∙◌}
use Rattle.std.specs.Prelude.{Some, None, Option}
use Rattle.actor_trace.specs.History.{entries_of}
use Rattle.actor_trace.specs.Lists.{Begins}
use Rattle.actor_trace.specs.Steps.{Adds, Rests}
use Rattle.cluster_consensus.specs.Events.{NodeEvent, change}
use Rattle.cluster_consensus.specs.Facts.{Own, World}
use Rattle.cluster_consensus.proofs.Kept.{self_row}
use Rattle.cluster_events.specs.Parts.{ActorEvent, part, field}
use Rattle.cluster_events.specs.Settings.{Setting}
use Rattle.cluster_requests.specs.KeptEntries.{KeptEntry}
use Rattle.cluster_steps.specs.Guards.{IsExact, AreLegalSteps}
use Rattle.cluster_steps.specs.Named.{named, steps, world}
use Rattle.cluster_steps.specs.declared.events.Event.{Event}
use Rattle.cluster_steps.proofs.NameLaws.{same_name}
use Rattle.cluster_steps.proofs.StepLaws.{inv_of, idle, idle_part, ticket, ticket_of, named_ticket}
use Rattle.cluster_steps.proofs.TellsLaws.{tells, tells_on, tells_step}
use Rattle.election_core.specs.More.{TellsMore}

no_ticket : (e : ActorEvent) (c : NodeEvent KeptEntry) (t : ℕ) → e ≡ ActorEvent.Node c → ticket_of e ≡ Some t → ⊥
no_ticket e c t q z = let f : None ≡ Some t = sym (ap ticket_of q) ∙ z in absurd (cc)

-- the node that did it has the part that the event gives
pub own_adds : (G : Setting) (i : ℕ) (e : Event) (c : NodeEvent KeptEntry) (old new : List (ℕ × Event)) → named G (steps G old) i e ≡ ActorEvent.Node c → IsExact G (steps G old) i e
    → Adds i e old new → AreLegalSteps G new → (world G new).nodes i ≡ change i ((world G old).nodes i) c
own_adds G i e c old new name exact d legal =
    let g = steps G old in
    let k = steps G (d.between ++ old) in
    let x = world G (d.between ++ old) in
    let law : AreLegalSteps G ((i, e) ∷ (d.between ++ old)) = subst (λ t. AreLegalSteps G t) d.whole legal in
    let still = idle G i d.between old d.none in
    let same = same_name G g k i e (inv_of G (d.between ++ old) law.1) (tells G d.between old) still (idle_part G i d.between old d.none) (λ t z. no_ticket (named G g i e) c t name (named_ticket G g i e ∙ z)) exact in
    let now : named G k i e ≡ ActorEvent.Node c = same.0 ∙ name in
    ap (λ t. (world G t).nodes i) d.whole
    ∙ (ap (λ t. (field ((i, t) ∷ k)).core.nodes i) now ∙ (self_row x i c ∙ ap (λ (t : Own KeptEntry). change i t c) still))

-- all that was told is told
pub tells_adds : (G : Setting) (i : ℕ) (e : Event) (old new : List (ℕ × Event)) → Adds i e old new → TellsMore (world G old) (world G new)
tells_adds G i e old new d =
    let k = steps G (d.between ++ old) in
    subst (λ t. TellsMore (world G old) (world G t)) (sym d.whole) (tells_on (tells G d.between old) (tells_step k i (named G k i e)))

pub tells_rests : (G : Setting) (i : ℕ) (old new : List (ℕ × Event)) → Rests i old new → TellsMore (world G old) (world G new)
tells_rests G i old new d = subst (λ t. TellsMore (world G old) (world G t)) (sym d.whole) (tells G d.between old)

pub tells_begins : (G : Setting) (note seen : List (ℕ × Event)) → Begins note seen → TellsMore (world G note) (world G seen)
tells_begins G note seen b = subst (λ t. TellsMore (world G note) (world G t)) b.whole (tells G b.later note)

-- who only heard more has its part
pub own_rests : (G : Setting) (i : ℕ) (old new : List (ℕ × Event)) → Rests i old new → (world G new).nodes i ≡ (world G old).nodes i
own_rests G i old new d = ap (λ t. (world G t).nodes i) d.whole ∙ idle G i d.between old d.none
