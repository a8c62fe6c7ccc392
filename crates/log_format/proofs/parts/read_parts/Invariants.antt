-- the bytes of what was read stand before the rest
use Rattle.std.proofs.Common.{◌≡◌, ◌≤◌, ◌-◌, ◌++◌, length}
use Rattle.std.specs.List.{flat_map, AllByRecursion}
use Rattle.log_format.proofs.parts.read_parts.Given as goal

abbrev pub invariant-parts : goal.invariant-parts
invariant-parts g l = record {
  read : flat_map g.T.Part.code l.parts ++ l.rest ≡ l.bytes;
  each : AllByRecursion g.T.Part.Has l.parts;
  within : length l.parts ≤ l.count;
}

abbrev pub decreases-parts : goal.decreases-parts
decreases-parts g l = l.count - length l.parts
