-- An event does not take a node back.
use Rattle.std.proofs.Common.{◌≡◌, ℕ, ◌<◌, ◌≤◌, arith, ap}
use Rattle.std.specs.Prelude.{true, false}
use Rattle.cluster_consensus.proofs.Invariant.{Inv}
use Rattle.cluster_consensus.specs.Enabled.{Enabled}
use Rattle.cluster_consensus.specs.Events.{NodeEvent, change}
use Rattle.cluster_consensus.specs.Events.NodeEvent.{Admits, Boot, Down, Back, BackLead, BackTake, BackGrow, BackAppend, Stand, Grants, Lead, Take, Grow, Append, LearnLead, LearnFollow, Asks, Probe, Confirm}
use Rattle.cluster_consensus.specs.Facts.{Claim, Own, World}
use Rattle.core_lists.specs.Lists.{In}
use Rattle.core_lists.specs.Lists.In.{there}

-- what an event does to this: the accepted generation doesn't fall, leads stay; where it leads on, in the same generation, the durable number doesn't fall
pub record Onward {E : Type 0} (o p : Own E) : Type 0 where
  pub accepted : o.accepted ≤ p.accepted
  pub leads : (x : Claim E) → In x o.leads → In x p.leads
  pub still : p.leading ≡ true → o.accepted ≡ p.accepted → (o.leading ≡ true) × (o.durable ≤ p.durable)

pub onward_row : {E : Type 0} {n : ℕ} {w : World E} → Inv n w → (i : ℕ) (e : NodeEvent E) → Enabled n w i (w.nodes i) e → Onward (w.nodes i) (change i (w.nodes i) e)
onward_row inv i (Admits k p a) en = record { accepted = omega arith; leads = λ x h. h; still = λ l e. (l, omega arith) }
onward_row {w = w} inv i (Boot p a l) en = record { accepted = let z = ap (λ o. o.accepted) ((inv.local i).fresh en.1) in let y : (w.nodes i).accepted ≡ 0 = z in omega arith; leads = λ x h. h; still = λ (l : false ≡ true). absurd (cc) }
onward_row inv i Down en = record { accepted = omega arith; leads = λ x h. h; still = λ l e. (l, omega arith) }
onward_row inv i (Back p) en = record { accepted = omega arith; leads = λ x h. h; still = λ (l : false ≡ true). absurd (cc) }
onward_row {w = w} inv i BackLead en = record { accepted = let lt : (w.nodes i).accepted < (w.nodes i).promised = en.2.0 in omega arith; leads = λ x h. there h; still = λ (l : false ≡ true). absurd (cc) }
onward_row {w = w} inv i (BackTake g l) en = record { accepted = let lt : (w.nodes i).accepted < g = en.2.1 in omega arith; leads = λ x h. h; still = λ (l : false ≡ true). absurd (cc) }
onward_row inv i (BackGrow l) en = record { accepted = omega arith; leads = λ x h. h; still = λ (l : false ≡ true). absurd (cc) }
onward_row inv i (BackAppend e) en = record { accepted = omega arith; leads = λ x h. h; still = λ (l : false ≡ true). absurd (cc) }
onward_row inv i (Stand g) en = record { accepted = omega arith; leads = λ x h. h; still = λ (l : false ≡ true). absurd (cc) }
onward_row inv i (Grants g to) en = record { accepted = omega arith; leads = λ x h. h; still = λ (l : false ≡ true). absurd (cc) }
onward_row {w = w} inv i Lead en = let lt : (w.nodes i).accepted < (w.nodes i).promised = en.1.0 in record { accepted = omega arith; leads = λ x h. there h; still = λ (l : true ≡ true) (e : (w.nodes i).accepted ≡ (w.nodes i).promised). absurd (omega arith) }
onward_row {w = w} inv i (Take g l) en = record { accepted = let lt : (w.nodes i).accepted < g = en.1.1 in omega arith; leads = λ x h. h; still = λ (l : false ≡ true). absurd (cc) }
onward_row inv i (Grow l) en = record { accepted = omega arith; leads = λ x h. h; still = λ l e. (l, omega arith) }
onward_row inv i (Append e) en = record { accepted = omega arith; leads = λ x h. h; still = λ l e. (l, omega arith) }
onward_row {w = w} inv i (LearnLead l) en = record { accepted = omega arith; leads = λ x h. h; still = λ le e. (le, en.3) }
onward_row {w = w} inv i (LearnFollow l) en = record { accepted = omega arith; leads = λ x h. h; still = λ le e. absurd (let a = en.1 in cc) }
onward_row inv i (Asks t) en = record { accepted = omega arith; leads = λ x h. h; still = λ l e. (l, omega arith) }
onward_row inv i (Probe t) en = record { accepted = omega arith; leads = λ x h. h; still = λ l e. (l, omega arith) }
onward_row inv i (Confirm t g) en = record { accepted = omega arith; leads = λ x h. h; still = λ l e. (l, omega arith) }
