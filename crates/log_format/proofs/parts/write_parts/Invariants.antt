-- what was added, with the bytes of the rest, is what all of them add
use Rattle.std.proofs.Common.{◌≡◌, ◌++◌, length}
use Rattle.std.specs.List.{flat_map, AllByRecursion}
use Rattle.log_format.proofs.parts.write_parts.Given as goal

abbrev pub invariant-parts : goal.invariant-parts
invariant-parts g l = record {
  code : l.out.items ++ flat_map g.T.Part.code l.rest ≡ l.fn.out.items ++ flat_map g.T.Part.code l.fn.parts;
  each : AllByRecursion g.T.Part.Has l.rest;
}

abbrev pub decreases-parts : goal.decreases-parts
decreases-parts g l = length l.rest
