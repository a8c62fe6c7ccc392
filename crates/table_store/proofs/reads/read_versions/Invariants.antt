-- the versions so far, and the pairs of the others
use Rattle.std.proofs.Common.{◌≡◌, List, length}
use Rattle.std.specs.List.{AllByRecursion}
use Rattle.cdb_values.specs.declared.rows.Version.{Version}
use Rattle.table_store.specs.Readings.{IsReadable, row_pairs, IsReading}
use Rattle.table_store.proofs.reads.read_versions.Given as goal

abbrev pub invariant-reading : goal.invariant-reading
invariant-reading l = record {
  reading : (versions : List Version) → AllByRecursion IsReadable versions → l.fn.pairs ≡ row_pairs versions
      → IsReading l.rest l.found.items versions;
}

abbrev pub decreases-reading : goal.decreases-reading
decreases-reading l = length l.rest
