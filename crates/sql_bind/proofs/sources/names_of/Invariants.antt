use Rattle.std.proofs.Common.{◌≡◌, ◌++◌, map, drop}
use Rattle.sql_bind.specs.Seen.{visible_in}
use Rattle.sql_bind.proofs.sources.names_of.Given as goal

abbrev pub invariant-tables : goal.invariant-tables
invariant-tables l = map (λ n. n.now) l.names.items ++ map (λ v. v.name) (map visible_in (drop l.table-index l.tables)) ≡ map (λ v. v.name) (map visible_in l.tables)
