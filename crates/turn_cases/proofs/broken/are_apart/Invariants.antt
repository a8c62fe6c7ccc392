use Rattle.std.proofs.Common.{◌≡◌, [], take, drop}
use Rattle.cdb_values.specs.Good.{are_apart}
use Rattle.turn_cases.proofs.broken.are_apart.Given as goal

abbrev pub invariant-versions : goal.invariant-versions
invariant-versions l = are_apart l.key (take l.at l.versions) (drop l.at l.versions) ≡ are_apart l.key [] l.versions
