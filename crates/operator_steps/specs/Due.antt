-- What the operator knows before a step: at which line it is, and that it may do it.
use Rattle.std.specs.Prelude.{ℕ, ◌≡◌, List, ◌∷◌, ◌++◌, false, true}
use Rattle.cluster_events.specs.Guards.{AllBeyond}
use Rattle.cluster_events.specs.Operator.{IsHeededAt, IsOfNode}
use Rattle.cluster_events.specs.Settings.{Setting, lines_to_do}
use Rattle.cluster_steps.specs.Named.{steps}
use Rattle.cluster_steps.specs.declared.events.Event.{Event}
use Rattle.operator_work.specs.Duties.{IsAt}
use Rattle.script_form.specs.declared.scripts.Act.{Act}
use Rattle.script_form.specs.declared.scripts.Act.TheVariants as act

-- a stop or a start is next
pub record IsToOrder (G : Setting) (h : List (ℕ × Event)) : Type 0 where
  pub line : ℕ
  pub next : Act
  pub rest : List (ℕ × Act)
  pub at : IsAt G h ((line, next) ∷ rest) false
  pub of_node : IsOfNode next

-- it is ordered, and at some place since it was heeded
pub record IsToObey (G : Setting) (h : List (ℕ × Event)) : Type 0 where
  pub line : ℕ
  pub next : Act
  pub rest : List (ℕ × Act)
  pub at : IsAt G h ((line, next) ∷ rest) true
  pub of_node : IsOfNode next
  pub later : List (ℕ × Event)
  pub before : List (ℕ × Event)
  pub split : later ++ before ≡ h
  pub since : IsAt G before ((line, next) ∷ rest) true
  pub heeded : IsHeededAt G (lines_to_do G) (steps G before) next

-- a barrier is next, and each session that has lines left has it behind it
pub record IsToTell (G : Setting) (h : List (ℕ × Event)) : Type 0 where
  pub line : ℕ
  pub rest : List (ℕ × Act)
  pub at : IsAt G h ((line, act.Barrier) ∷ rest) false
  pub beyond : AllBeyond G (steps G h)
