-- Where a session is in its work.
use Rattle.std.specs.Prelude.{ℕ, List, [], ◌∷◌}
use Rattle.cdb_values.specs.declared.items.GenidItem.{GenidItem}
use Rattle.cdb_values.specs.declared.items.Interval.{Interval}
use Rattle.cdb_values.specs.declared.rows.Level.{Level}
use Rattle.cdb_values.specs.declared.rows.RowOp.{RowOp}

-- what a session is doing: it is in no transaction; in one that began at a position, has these operations so far, and whose
-- texts used these versions besides and read these intervals; or in one that was cut short, whose lines are skipped
pub data Doing : Type 0 where
  No : Doing
  Open : ℕ → List RowOp → List GenidItem → List Interval → Doing
  Aborted : Doing

-- how many transactions it has begun, the level of those that it begins, and what it is doing
pub record SessionAt : Type 0 where
  pub number : ℕ
  pub level : Level
  pub doing : Doing

-- the begin position of the transaction that it is in, if it is in one
abbrev pub open_begin : Doing → List ℕ
open_begin No = []
open_begin (Open begin ops uses ranges) = begin ∷ []
open_begin Aborted = []
