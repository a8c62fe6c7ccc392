-- what was written, with the bytes of the rest, is the bytes of all frames
use Rattle.std.proofs.Common.{◌≡◌, ◌++◌, length, map}
use Rattle.std.specs.List.{flat_map}
use Rattle.frame_code.specs.Codes.{frame_code}
use Rattle.frame_code.specs.declared.frames.Frame.TheVariants as frame
use Rattle.node_log.specs.Logged.{AreSpelled}
use Rattle.node_log.proofs.takes.put_entries.Given as goal

abbrev pub invariant-entries : goal.invariant-entries
invariant-entries l = record {
  code : l.out.items ++ flat_map frame_code (map frame.Entry l.rest) ≡ l.fn.out.items ++ flat_map frame_code (map frame.Entry l.fn.entries);
  each : AreSpelled l.rest;
}

abbrev pub decreases-entries : goal.decreases-entries
decreases-entries l = length l.rest
