-- A begin is of no generation above that of a leader to which a majority promised nothing above it.
use Rattle.std.proofs.Common.{ℕ, ◌≡◌, ◌≤◌, List, arith}
use Rattle.core_lists.specs.Majorities.{Majority}
use Rattle.core_lists.proofs.Majorities.{meet}
use Rattle.cluster_consensus.specs.Enabled.{IsGranted}
use Rattle.cluster_consensus.proofs.Invariant.{Inv}
use Rattle.cluster_events.specs.Parts.{Opened}
use Rattle.cluster_events.specs.Settings.{Setting}
use Rattle.cluster_events.proofs.HistoryLaws.{begins_of}
use Rattle.cluster_steps.specs.Guards.{AreLegalSteps}
use Rattle.cluster_steps.specs.Named.{steps, world}
use Rattle.cluster_steps.specs.declared.events.Event.{Event}
use Rattle.cluster_steps.proofs.StepLaws.{inv_of, legal_steps}
use Rattle.session_fronts.specs.Fronts.{IsAnswered}
use Rattle.session_fronts.proofs.KnownLaws.{pinged}

pub begin_below : (G : Setting) (h : List (ℕ × Event)) (o : Opened) (g : ℕ) → AreLegalSteps G h → IsAnswered (world G h) o → Majority G.nodes (λ k. ((world G h).nodes k).promised ≤ g) → o.gen ≤ g
begin_below G h o g l answered few =
    let inv : Inv G.nodes (world G h) = inv_of G h l in
    let b = begins_of G (steps G h) (legal_steps G h l) o.begin o.gen (pinged G h o answered) in
    let led : b.led.it.gen ≡ o.gen = b.led.is.0 in
    let granted : Majority G.nodes (IsGranted (world G h) b.led.it.gen b.node) = (inv.refs b.node).led.at b.led.it b.led.mem in
    let both = meet granted few in
    let same : both.1.it.gen ≡ b.led.it.gen = both.1.is.0 in
    let low : both.1.it.gen ≤ ((world G h).nodes both.0).promised = ((inv.local both.0).grants.at both.1.it both.1.mem).low in
    let high : ((world G h).nodes both.0).promised ≤ g = both.2 in
    omega (arith, led, same, low, high)
