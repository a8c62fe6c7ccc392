-- A node whose last step was a fall is down by the lines.
use Rattle.std.proofs.Common.{ℕ, ◌≡◌, ◌+◌, List, [], ◌∷◌, ◌++◌, refl, subst, ap, ◌∙◌}
use Rattle.std.specs.Prelude.{Bool, true, false, if◌then◌else◌}
use Rattle.std.proofs.lemmas.Bool.Decides.{Decides-eqb}
use Rattle.actor_trace.specs.History.{entries_of}
use Rattle.actor_trace.proofs.Entries.{idle_step, not_eq}
use Rattle.cluster_events.specs.Parts.{ActorEvent, lines, lines_by, part}
use Rattle.cluster_events.specs.Settings.{Setting}
use Rattle.cluster_events.proofs.LinePlaces.{other_lines}
use Rattle.cluster_steps.specs.Named.{named, steps}
use Rattle.cluster_steps.specs.declared.events.Event.{Event}
use Rattle.cluster_steps.specs.declared.events.Event.TheVariants as event
use Rattle.report_laws.specs.Nodes.{downs, is_up}
use Rattle.report_laws.proofs.NodesLaws.{up_append}
use Rattle.report_text.specs.declared.reports.Line.TheVariants as line
use Rattle.session_fronts.specs.Rounds.{EndsWith}
use Rattle.session_outcomes.proofs.SettledLaws.{LastAt, last_at}

-- who does nothing is up or down as before
idle_up : (G : Setting) (k : ℕ) (later h : List (ℕ × Event)) → entries_of k (later ++ h) ≡ entries_of k h → is_up k (lines G (steps G (later ++ h))) ≡ is_up k (lines G (steps G h))
idle_up G k [] h own = refl
idle_up G k (x ∷ later) h own =
    let i = idle_step k x later h own in
    let g = steps G (later ++ h) in
    up_append k true (lines G g) (lines_by G (lines G g) (part G x.0 g) x.0 (named G g x.0 x.1))
    ∙ (other_lines G k x.0 (not_eq k x.0 i.0) (is_up k (lines G g)) (lines G g) (part G x.0 g) (named G g x.0 x.1) ∙ idle_up G k later h i.1)

-- and who just fell is down
down_now : (G : Setting) (g : List (ℕ × ActorEvent)) (k : ℕ) (fault : Bool) → is_up k (lines G ((k, named G g k (event.Down fault)) ∷ g)) ≡ false
down_now G g k true = up_append k true (lines G g) (line.Down (downs (lines G g) + 1) k true ∷ []) ∙ ap (λ b. if b then false else is_up k (lines G g)) ((Decides-eqb k k).1 refl)
down_now G g k false = up_append k true (lines G g) (line.Down (downs (lines G g) + 1) k false ∷ []) ∙ ap (λ b. if b then false else is_up k (lines G g)) ((Decides-eqb k k).1 refl)

pub fallen_down : (G : Setting) (h : List (ℕ × Event)) (k : ℕ) (fault : Bool) → EndsWith (event.Down fault) (entries_of k h) → is_up k (lines G (steps G h)) ≡ false
fallen_down G h k fault ends =
    let r : LastAt k (event.Down fault) h = last_at k (event.Down fault) h ends.front ends.ticket ends.is in
    subst (λ z. is_up k (lines G (steps G z)) ≡ false) r.whole (idle_up G k r.later ((k, event.Down fault) ∷ r.before) r.none ∙ down_now G (steps G r.before) k fault)
