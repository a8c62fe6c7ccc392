use Rattle.std.proofs.Common.{◌≡◌, ◌++◌, drop}
use Rattle.sql_bind.specs.Meaning.{columns_from}
use Rattle.sql_bind.proofs.queries.add_columns.Given as goal

abbrev pub invariant-columns : goal.invariant-columns
invariant-columns l = l.items ++ columns_from l.place l.at (drop l.at l.columns) ≡ l.fn.items ++ columns_from l.place 0 l.columns
