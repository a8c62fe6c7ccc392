use Rattle.std.proofs.Common.{◌≡◌, ◌++◌, map, drop}
use Rattle.sql_bind.specs.Seen.{visible_in}
use Rattle.sql_bind.proofs.queries.tables.Given as goal

abbrev pub invariant-tables : goal.invariant-tables
invariant-tables l = l.tables ++ map (λ table. table.table) (map visible_in (drop l.table-index l.sources)) ≡ map (λ table. table.table) (map visible_in l.sources)
