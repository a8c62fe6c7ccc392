use Rattle.std.proofs.Common.{◌≡◌, ◌++◌, map, drop}
use Rattle.sql_bind.specs.Meaning.{all_from}
use Rattle.sql_bind.specs.Seen.{visible_in}
use Rattle.sql_bind.proofs.queries.all_columns.Given as goal

abbrev pub invariant-tables : goal.invariant-tables
invariant-tables l = l.items ++ all_from l.place (map visible_in (drop l.place l.scope)) ≡ all_from 0 (map visible_in l.scope)
