-- The intervals that a statement uses of those that were read for it: none where it fails.
use Rattle.std.specs.Prelude.{[], List}
use Rattle.cdb_values.specs.declared.items.Interval.{Interval}
use Rattle.sql_answer.specs.Answers.{Outcome, Fails, Gives}

abbrev pub used_of : Outcome → List Interval → List Interval
used_of (Fails cause) read = []
used_of (Gives told after) read = read
