use Rattle.std.proofs.Common.{◌≡◌, ◌≤◌, ◌-◌, length, take}
use Rattle.std.specs.Io.KnownBytes.{Appends}
use Rattle.cdb_outside.proofs.sink.write_whole.Given as goal

abbrev pub invariant-loop-written : goal.invariant-loop-written
invariant-loop-written g l =
    (l.written ≤ length l.bytes)
    × (g.K.Sink.faults l.sink ≡ g.K.Sink.faults l.fn.sink)
    × Appends (g.K.Sink.taken l.fn.sink) (g.K.Sink.taken l.sink) (take l.written l.bytes)

abbrev pub decreases-loop-written : goal.decreases-loop-written
decreases-loop-written g l = length l.bytes - l.written
