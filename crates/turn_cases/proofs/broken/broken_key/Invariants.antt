use Rattle.std.proofs.Common.{◌≡◌, ◌+◌, length, drop}
use Rattle.cdb_values.specs.Good.{broken_key}
use Rattle.turn_cases.proofs.broken.broken_key.Given as goal

abbrev pub invariant-keys : goal.invariant-keys
invariant-keys l = (broken_key l.versions l.rest ≡ broken_key l.versions l.keys) × (l.at + length l.rest ≡ length l.keys) × (l.rest ≡ drop l.at l.keys)

abbrev pub decreases-keys : goal.decreases-keys
decreases-keys l = length l.rest
