-- What is enabled stays enabled while its actor does nothing: the law of the machine, handed on.
use Rattle.std.specs.Prelude.{ℕ, ◌≡◌, List, ◌++◌}
use Rattle.actor_trace.specs.History.{IsLegal, entries_of}
use Rattle.cluster_events.specs.Settings.{Setting}
use Rattle.cluster_steps.specs.Guards.{MayTakeStep}
use Rattle.cluster_steps.specs.declared.events.Event.{Event}
use Rattle.cluster_steps.proofs.StaysLaws.{stays}

pub known : (G : Setting) (later h : List (ℕ × Event)) (i : ℕ) (e : Event) → IsLegal (λ g j f. MayTakeStep G g j f) (later ++ h) → entries_of i (later ++ h) ≡ entries_of i h
    → MayTakeStep G h i e → MayTakeStep G (later ++ h) i e
known G later h i e legal own may = stays G later h i e legal own may
