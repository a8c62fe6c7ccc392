-- The next node that is up, and how many are, by a test of the nodes.
--
--   of three nodes 1 and 3 are up: the next one behind 1 is 3, behind 3 it is 1, and two are up
use Rattle.std.specs.Prelude.{ℕ, zero, suc, ◌≡◌, ◌+◌, ◌≤◌, Bool, if◌then◌else◌, Option, Some, None}
use Rattle.cluster_events.specs.Sites.{next_node}
use Rattle.cluster_steps.specs.declared.events.Event.{Event}
use Rattle.cluster_steps.specs.declared.events.Event.TheVariants as event

-- the first node behind a node that passes the test, among the next ones, so many
abbrev pub next_by : ℕ → ℕ → (ℕ → Bool) → ℕ → Option ℕ
next_by zero n up k = None
next_by (suc more) n up k = if up (next_node n k) then Some (next_node n k) else next_by more n up (next_node n k)

-- how many of the nodes from 1 to n pass it
abbrev pub count_by : ℕ → (ℕ → Bool) → ℕ
count_by zero up = 0
count_by (suc n) up = count_by n up + (if up (suc n) then 1 else 0)

-- two tests say the same of the nodes from 1 to n
abbrev pub AgreeUpTo : ℕ → (ℕ → Bool) → (ℕ → Bool) → Type 0
AgreeUpTo n p q = (k : ℕ) → 1 ≤ k → k ≤ n → p k ≡ q k

-- an event that is no move
abbrev pub IsNoMove : Event → Type 0
IsNoMove (event.Move node) = ⊥
IsNoMove _ = Unit {0}
