-- A begin is at no lower position than what was known before it was asked for.
use Rattle.std.proofs.Common.{ℕ, ◌≡◌, ◌≤◌, List, ◌∷◌, ◌++◌, length, sym, subst, ap, ◌∙◌}
use Rattle.cluster_begins.specs.Begins.{CanBegin, IsPositionAnswered}
use Rattle.cluster_begins.proofs.Since.{fresh_begin}
use Rattle.cluster_consensus.specs.Events.{NodeEvent}
use Rattle.cluster_consensus.specs.Facts.{World}
use Rattle.cluster_consensus.specs.Histories.{Legal, after}
use Rattle.cluster_events.specs.Parts.{Opened}
use Rattle.cluster_events.specs.Settings.{Setting}
use Rattle.cluster_events.proofs.HistoryLaws.{steps as core_steps, steps_append as core_append}
use Rattle.cluster_requests.specs.KeptEntries.{KeptEntry}
use Rattle.cluster_steps.specs.Guards.{AreLegalSteps}
use Rattle.cluster_steps.specs.Named.{steps, world}
use Rattle.cluster_steps.specs.declared.events.Event.{Event}
use Rattle.cluster_steps.specs.declared.events.Event.TheVariants as event
use Rattle.cluster_steps.proofs.StepLaws.{core_legal, more_steps, steps_append, steps_length, world_is}
use Rattle.session_fronts.specs.Fronts.{IsKnown}

pub no_lower : (G : Setting) (s : ℕ) (later before : List (ℕ × Event)) → AreLegalSteps G (later ++ (s, event.Ask) ∷ before) → (o : Opened) → IsKnown G (world G before) o → (b g : ℕ)
    → CanBegin G.nodes (world G (later ++ (s, event.Ask) ∷ before)) (length before) b g → o.begin ≤ b
no_lower G s later before l o known b g can =
    let asked : List (ℕ × Event) = (s, event.Ask) ∷ before in
    let more = core_steps (more_steps G later asked) in
    let old = core_steps (steps G before) in
    let t : ℕ = length (steps G before) in
    let q : core_steps (steps G (later ++ asked)) ≡ more ++ (s, NodeEvent.Asks t) ∷ old = ap core_steps (steps_append G later asked) ∙ core_append (more_steps G later asked) (steps G asked) in
    let legal : Legal G.nodes (more ++ (s, NodeEvent.Asks t) ∷ old) = subst (λ z. Legal G.nodes z) q (core_legal G (later ++ asked) l) in
    let is_new : world G (later ++ asked) ≡ after (more ++ (s, NodeEvent.Asks t) ∷ old) = world_is G (later ++ asked) ∙ ap after q in
    let c : CanBegin G.nodes (world G (later ++ asked)) t b g = subst (λ z. CanBegin G.nodes (world G (later ++ asked)) z b g) (sym (steps_length G before)) can in
    fresh_begin G.nodes s t b g o.begin known.by old more legal (subst (λ (w : World KeptEntry). CanBegin G.nodes w t b g) is_new c)
    (subst (λ (w : World KeptEntry). IsPositionAnswered w o.begin known.by) (world_is G before) known.answered)
