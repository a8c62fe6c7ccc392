-- What a session has so far: the transaction that it runs, its net operations, and what its statements used.
use Rattle.std.specs.Prelude.{ℕ, [], List}
use Rattle.cdb_values.specs.declared.items.GenidItem.{GenidItem}
use Rattle.cdb_values.specs.declared.items.Interval.{Interval}
use Rattle.cdb_values.specs.declared.rows.Level.{Level}
use Rattle.cdb_values.specs.declared.rows.RowOp.{RowOp}
use Rattle.phys_log.specs.declared.entries.CommitId.{CommitId}

pub record Session : Type 0 where
  -- what tells the transaction from all others
  pub id : CommitId
  -- the position that it began at
  pub begin : ℕ
  pub level : Level
  -- its net operations
  pub ops : List RowOp
  -- the versions that SELECTV used, in order
  pub genids : List GenidItem
  -- the intervals that were read, in order
  pub ranges : List Interval

-- a session that has said nothing yet
abbrev pub new_session : CommitId → ℕ → Level → Session
new_session id begin level = record { id = id; begin = begin; level = level; ops = []; genids = []; ranges = [] }
