-- What one entry does to the counter, and to who has the turn.
use Rattle.std.specs.Prelude.{ℕ, ◌+◌, ◌==◌, ◌&&◌, nat_lt, Bool, true, false, List, [], ◌∷◌, ◌++◌}
use Rattle.actor_trace_tests.specs.declared.entries.Entry.{Entry}
use Rattle.actor_trace_tests.specs.declared.entries.Entry.TheVariants.{Add, Read}

-- the counter after it
abbrev pub counted : Entry → ℕ → ℕ
counted (Add v n) count = count + 1
counted (Read v) count = count

-- who has the turn after it
abbrev pub passed : Entry → ℕ → ℕ
passed (Add v n) turn = n
passed (Read v) turn = turn

-- It adds to a counter below count, or does not add.
abbrev pub is_below : ℕ → Entry → Bool
is_below count (Add v n) = nat_lt v count
is_below count (Read v) = true

-- It brings the counter to count, and gives i the turn.
abbrev pub is_given : ℕ → ℕ → Entry → Bool
is_given count i (Add v n) = (count == v + 1) && (i == n)
is_given count i (Read v) = false

-- lists to which an add puts its number, its actor, and the next one
abbrev pub and_value : List ℕ → Entry → List ℕ
and_value xs (Add v n) = xs ++ v ∷ []
and_value xs (Read v) = xs

abbrev pub and_adder : List ℕ → ℕ → Entry → List ℕ
and_adder xs i (Add v n) = xs ++ i ∷ []
and_adder xs i (Read v) = xs

abbrev pub and_next : List ℕ → Entry → List ℕ
and_next xs (Add v n) = xs ++ n ∷ []
and_next xs (Read v) = xs
