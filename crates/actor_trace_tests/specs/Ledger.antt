-- A counter with a ledger of who may add next: what its entries come to.
use Rattle.std.specs.Prelude.{ℕ, ◌≡◌, ◌==◌, ◌&&◌, ◌||◌, Bool, true, List, [], ◌∷◌}
use Rattle.actor_trace_tests.specs.declared.entries.Entry.{Entry}
use Rattle.actor_trace_tests.specs.declared.entries.Entry.TheVariants.{Add, Read}
use Rattle.actor_trace_tests.specs.Entries.{counted, passed, is_given, and_value, and_adder, and_next}

-- at what the counter stands
abbrev pub count_of : List (ℕ × Entry) → ℕ
count_of [] = 0
count_of (x ∷ h) = counted x.1 (count_of h)

-- who has the turn: actor 0 at first
abbrev pub turn_of : List (ℕ × Entry) → ℕ
turn_of [] = 0
turn_of (x ∷ h) = passed x.1 (turn_of h)

-- In it the counter came to count, and i got the turn then.
abbrev pub gives : ℕ → ℕ → List (ℕ × Entry) → Bool
gives count i [] = (count == 0) && (i == 0)
gives count i (x ∷ h) = is_given count i x.1 || gives count i h

-- After this history the actor i may write the entry: it adds in its turn, to the counter as it stands, and reads only what it
-- gave a turn for.
abbrev pub MayWrite : List (ℕ × Entry) → ℕ → Entry → Type 0
MayWrite h i (Add v n) = (turn_of h ≡ i) × (v ≡ count_of h)
MayWrite h i (Read v) = (n : ℕ) × (gives v n h ≡ true)

-- the numbers to which one was added, the oldest first; who added them; and whom they named
abbrev pub values_of : List (ℕ × Entry) → List ℕ
values_of [] = []
values_of (x ∷ h) = and_value (values_of h) x.1

abbrev pub adders_of : List (ℕ × Entry) → List ℕ
adders_of [] = []
adders_of (x ∷ h) = and_adder (adders_of h) x.0 x.1

abbrev pub named_of : List (ℕ × Entry) → List ℕ
named_of [] = []
named_of (x ∷ h) = and_next (named_of h) x.1
