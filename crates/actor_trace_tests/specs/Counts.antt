-- A machine whose actors each count from 0 on.
use Rattle.std.specs.Prelude.{ℕ, ◌≡◌, List, ◌++◌, length}
use mathlib.Core.Path.{sym, ap, ◌∙◌}
use Rattle.actor_trace.specs.History.{entries_of}

-- n is the next number of the actor i
abbrev pub IsNext : List (ℕ × ℕ) → ℕ → ℕ → Type 0
IsNext h i n = n ≡ length (entries_of i h)

-- It stays so while the actor does nothing.
pub next_stays : (later h : List (ℕ × ℕ)) (i n : ℕ) → entries_of i (later ++ h) ≡ entries_of i h → IsNext h i n → IsNext (later ++ h) i n
next_stays later h i n own next = next ∙ ap length (sym own)
