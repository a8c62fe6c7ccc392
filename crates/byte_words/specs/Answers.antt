-- What an answer of the code says of the reading that the definitions give.
--
-- A reader that takes no memory gives the reading itself, seen by a view. One that takes memory may
-- also answer want of memory, and says nothing then.
use Rattle.std.specs.Prelude.{◌≡◌, Option, Some, None, Result, Ok, Err}

abbrev pub Finds : {X Y : Type 0} → (X → Y) → Option X → Option Y → Type 0
Finds view None reading = reading ≡ None
Finds view (Some x) reading = reading ≡ Some (view x)

-- the same behind want of memory
abbrev pub Gives : {X Y E : Type 0} → (X → Y) → Result (Option X) E → Option Y → Type 0
Gives view (Ok x) reading = Finds view x reading
Gives view (Err _) reading = Unit {0}
