-- the bytes of the tables that were read stand before the rest
use Rattle.std.proofs.Common.{◌≡◌, ◌≤◌, ◌-◌, ◌++◌, [], length}
use Rattle.std.specs.List.{flat_map, AllByRecursion}
use Rattle.frame_code.specs.Codes.{table_code}
use Rattle.frame_code.specs.Spelled.{IsTable, Grow}
use Rattle.log_format.proofs.tables.read_tables.Given as goal

abbrev pub invariant-tables : goal.invariant-tables
invariant-tables l = record {
  read : flat_map table_code l.schema ++ l.rest ≡ l.bytes;
  each : AllByRecursion IsTable l.schema;
  grow : Grow [] l.schema;
  within : length l.schema ≤ l.count;
}

abbrev pub decreases-tables : goal.decreases-tables
decreases-tables l = l.count - length l.schema
