-- what was added, with the code of the rest, is the whole code
use Rattle.std.proofs.Common.{◌≡◌, ◌++◌, length}
use Rattle.std.specs.List.{AllByRecursion}
use Rattle.key_code.specs.Codes.{key_code, IsInRange}
use Rattle.key_code.proofs.keys.encode_key.Given as goal

abbrev pub invariant-encoding : goal.invariant-encoding
invariant-encoding l = record {
  code : l.out.items ++ key_code l.rest ≡ key_code l.values;
  range : AllByRecursion IsInRange l.rest → AllByRecursion IsInRange l.values;
}

abbrev pub decreases-encoding : goal.decreases-encoding
decreases-encoding l = length l.rest
