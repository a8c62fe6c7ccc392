-- what was written, with the bytes of the rest, is the bytes of all frames
use Rattle.std.proofs.Common.{◌≡◌, ◌++◌, length}
use Rattle.std.specs.List.{flat_map, AllByRecursion}
use Rattle.frame_code.specs.Codes.{frame_code}
use Rattle.frame_code.specs.Spelled.{IsSpelled}
use Rattle.store_log.proofs.stores.bytes_of.Given as goal

abbrev pub invariant-frames : goal.invariant-frames
invariant-frames l = record {
  code : l.out.items ++ flat_map frame_code l.rest ≡ flat_map frame_code l.fn.frames;
  each : AllByRecursion IsSpelled l.rest;
}

abbrev pub decreases-frames : goal.decreases-frames
decreases-frames l = length l.rest
