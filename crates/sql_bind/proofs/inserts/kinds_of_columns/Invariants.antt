use Rattle.std.proofs.Common.{◌≡◌, ◌++◌, map, drop, Some}
use Rattle.sql_bind.proofs.inserts.kinds_of_columns.Given as goal

abbrev pub invariant-columns : goal.invariant-columns
invariant-columns l = l.kinds.items ++ map (λ column. Some column.kind) (drop l.column-index l.columns) ≡ map (λ column. Some column.kind) l.columns
