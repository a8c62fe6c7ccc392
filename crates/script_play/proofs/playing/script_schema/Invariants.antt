use Rattle.std.proofs.Common.{◌≡◌, ◌++◌, length, map}
use Rattle.script_play.proofs.playing.script_schema.Given as goal

abbrev pub invariant-tables : goal.invariant-tables
invariant-tables l = l.schema ++ map (λ t. t.table) l.rest ≡ map (λ t. t.table) l.tables

abbrev pub decreases-tables : goal.decreases-tables
decreases-tables l = length l.rest
