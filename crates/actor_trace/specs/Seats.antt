-- What is true of the seats of actors and of notes.
use Rattle.std.specs.Prelude.{ℕ, ◌≡◌, ◌≤◌, ◌+◌, List, [], ◌∷◌, length}
use Rattle.atomic_table.specs.Table.{Me}
use Rattle.atomic_table.specs.Seated.{TableId}
use Rattle.actor_trace.specs.declared.view.View.{View}
use Rattle.actor_trace.specs.History.{IsLegal, entries_of}

-- The seat has the actor's number alone, with its steps. There is room for what it may still do.
pub record IsActor {E : Type 0} (enabled : List (ℕ × E) → ℕ → E → Type 0) (table id : TableId) (me : Me (Unit {0}) (View E)) (number : ℕ) (made : List (ℕ × E)) (room capacity : ℕ) : Type 0 where
  pub table_is : id ≡ table
  pub made_is : me.0.made ≡ (number, made) ∷ []
  pub none : me.0.heard ≡ []
  pub no_slot : me.1 ≡ []
  pub own : made ≡ entries_of number me.0.seen
  pub legal : IsLegal enabled me.0.seen
  pub fits : length made + room ≤ capacity
  pub few : length made + room ≤ 2147483648

-- The seat has no number. The count of the events that it saw is told.
pub record IsNote {E : Type 0} (enabled : List (ℕ × E) → ℕ → E → Type 0) (table id : TableId) (me : Me (Unit {0}) (View E)) (count : ℕ) : Type 0 where
  pub table_is : id ≡ table
  pub made_is : me.0.made ≡ []
  pub count_is : count ≡ length me.0.seen
  pub no_slot : me.1 ≡ []
  pub legal : IsLegal enabled me.0.seen
