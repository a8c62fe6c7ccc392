use Rattle.std.proofs.Common.{◌≡◌, ◌+◌, length}
use Rattle.cdb_values.specs.Columns.{column_from, column_at}
use Rattle.cdb_values.proofs.tables.TableDef.column.Given as goal

abbrev pub invariant-columns : goal.invariant-columns
invariant-columns l = (column_from l.at l.name l.rest ≡ column_at l.name l.self.columns)
    × (l.at + length l.rest ≡ length l.self.columns)

abbrev pub decreases-columns : goal.decreases-columns
decreases-columns l = length l.rest
