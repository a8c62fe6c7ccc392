-- the values so far, before those of the columns that are left, are those of all
use Rattle.std.proofs.Common.{◌≡◌, ◌++◌, map, length}
use Rattle.std.specs.Prelude.{slice_get, unwrap_or}
use Rattle.cdb_values.specs.declared.values.Value.TheVariants.{Null}
use Rattle.table_store.proofs.pairs.key_values.Given as goal

abbrev pub invariant-columns : goal.invariant-columns
invariant-columns l = l.values ++ map (λ column. unwrap_or (slice_get l.row column) Null) l.rest ≡ map (λ column. unwrap_or (slice_get l.row column) Null) l.key.columns

abbrev pub decreases-columns : goal.decreases-columns
decreases-columns l = length l.rest
