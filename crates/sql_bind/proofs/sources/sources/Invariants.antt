use Rattle.std.proofs.Common.{◌≡◌, ◌++◌, map, drop}
use Rattle.std.specs.List.{list_any}
use Rattle.sql_grammar.specs.Views.{source_in}
use Rattle.sql_bind.specs.Scope.{is_unknown_table, visible}
use Rattle.sql_bind.specs.Seen.{visible_in}
use Rattle.sql_bind.proofs.sources.sources.Given as goal

abbrev pub invariant-tables : goal.invariant-tables
invariant-tables l = (map visible_in l.found.items ++ map (visible l.schema) (map source_in (drop l.table-index l.tables)) ≡ map (visible l.schema) (map source_in l.tables))
    × (list_any (is_unknown_table l.schema) (map (λ s. s.table) (map source_in (drop l.table-index l.tables))) ≡ list_any (is_unknown_table l.schema) (map (λ s. s.table) (map source_in l.tables)))
