-- the mark of the bytes so far, with those that are left, is that of all
use Rattle.std.proofs.Common.{◌≡◌, ◌<◌, length}
use Rattle.own_writes.specs.Marks.{bytes_mark}
use Rattle.own_writes.proofs.marks.bytes_mark.Given as goal

abbrev pub invariant-bytes : goal.invariant-bytes
invariant-bytes l = record {
  mark : bytes_mark l.mark l.rest ≡ bytes_mark 0 l.bytes;
  small : l.mark < 4294967296;
}

abbrev pub decreases-bytes : goal.decreases-bytes
decreases-bytes l = length l.rest
