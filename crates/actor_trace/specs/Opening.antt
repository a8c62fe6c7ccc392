-- A trace that has no name yet.
use Rattle.std.specs.Prelude.{ℕ, ◌≡◌, []}
use Rattle.atomic_table.specs.Table.{Me}
use Rattle.atomic_table.specs.Seated.{TableId}
use Rattle.actor_trace.specs.declared.view.View.{View}
use Rattle.actor_trace.specs.Views.{all_of}

-- which table it is on, and for how many actors
pub record Opening : Type 0 where
  pub table : TableId
  pub actors : ℕ

-- The one seat has the numbers of all actors.
pub record IsOpened {E : Type 0} (table : TableId) (key actors : ℕ) (seat : TableId) (me : Me (Unit {0}) (View E)) : Type 0 where
  pub words : table.words ≡ 1
  pub slots : table.slots ≡ 0
  pub key_is : key ≡ actors
  pub seat_is : seat ≡ table
  pub me_is : me ≡ (all_of actors, [])
