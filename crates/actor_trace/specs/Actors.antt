-- What contracts see of an actor, and what a history says of all actors.
use Rattle.std.specs.Prelude.{ℕ, zero, suc, ◌≡◌, ◌<◌, ◌≤◌, List, [], ◌∷◌, ◌++◌, map}
use Rattle.actor_trace.specs.Lists.{In, Begins, times}
use Rattle.actor_trace.specs.History.{IsLegal, AllBelow, entries_of}

-- Its number, its own steps with their tickets (the oldest first), the beginning of the history that it knows (the newest
-- first), and for how many steps it has room.
pub record Knows (E : Type 0) : Type 0 where
  pub number : ℕ
  pub made : List (ℕ × E)
  pub seen : List (ℕ × E)
  pub room : ℕ

-- the actors from 0 to n - 1, which did nothing yet
abbrev pub fresh : {E : Type 0} → ℕ → List (Knows E)
fresh zero = []
fresh (suc n) = fresh n ++ record { number = n; made = []; seen = []; room = 0 } ∷ []

-- They know nothing yet.
pub record IsBlank {E : Type 0} (xs : List (Knows E)) : Type 0 where
  pub seen : (x : Knows E) → In x xs → x.seen ≡ []

-- an actor's number, with its steps
abbrev pub tag_of : {E : Type 0} → Knows E → ℕ × List (ℕ × E)
tag_of x = (x.number, x.made)

-- The history is legal, only actors below n did something, and these did in it just their steps, at their tickets. It goes on
-- from all that they know. Their numbers are below n, and no two have the same.
pub record IsHistory {E : Type 0} (enabled : List (ℕ × E) → ℕ → E → Type 0) (n : ℕ) (actors : List (Knows E)) (log : List (ℕ × E)) : Type 0 where
  pub legal : IsLegal enabled log
  pub below : AllBelow n log
  pub made : (x : Knows E) → In x actors → x.made ≡ entries_of x.number log
  pub seen : (x : Knows E) → In x actors → Begins x.seen log
  pub low : (x : Knows E) → In x actors → x.number < n
  pub once : (a : ℕ) → times a (map tag_of actors) ≤ 1
