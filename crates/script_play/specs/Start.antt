-- Where a run begins: the log before it, and the rows that its pages stand for.
--
-- A run that begins a log has no entry before it, and no rows. One that goes on with a log looks at its pages alone: what the
-- entries of that log say that they change is never asked.
use Rattle.std.specs.Prelude.{ℕ, List, length}
use Rattle.cdb_values.specs.Rows.{Rows}
use Rattle.log_rows.specs.History.{Ground}
use Rattle.report_laws.specs.History.{Origin}
use Rattle.phys_log.specs.declared.entries.Entry.{Entry}

pub record Start : Type 0 where
  pub before : List Entry
  pub rows : Rows

-- the position behind which the run's own entries stand
abbrev pub base : Start → ℕ
base start = length start.before

-- the ground over which the rows of its log are known
abbrev pub ground_of : Start → Ground
ground_of start = record { position = length start.before; rows = start.rows }

-- the same of an origin
abbrev pub ground_at : Origin → Ground
ground_at origin = record { position = origin.position; rows = origin.rows }
