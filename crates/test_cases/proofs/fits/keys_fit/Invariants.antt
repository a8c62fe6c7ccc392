-- the row fits at the keys before those that are left
use Rattle.std.proofs.Common.{◌≤◌, length}
use Rattle.std.specs.List.{AllByRecursion}
use Rattle.cdb_values.specs.Good.{bytes_of_key, key_of}
use Rattle.cdb_values.specs.declared.limits.TheConstants.{MOST_KEY_BYTES}
use Rattle.test_cases.proofs.fits.keys_fit.Given as goal

abbrev pub invariant-keys : goal.invariant-keys
invariant-keys l = AllByRecursion (λ key. bytes_of_key (key_of key l.row) ≤ MOST_KEY_BYTES) l.rest
    → AllByRecursion (λ key. bytes_of_key (key_of key l.row) ≤ MOST_KEY_BYTES) l.keys

abbrev pub decreases-keys : goal.decreases-keys
decreases-keys l = length l.rest
