-- the rest adds to the draft what the bytes add to an empty one
use Rattle.std.proofs.Common.{◌≡◌, ◌-◌, length}
use Rattle.report_read.specs.Reading.{drafted, empty_draft}
use Rattle.report_read.proofs.reading.read_draft.Given as goal

abbrev pub invariant-items : goal.invariant-items
invariant-items l = drafted (length l.bytes - l.counter) l.draft l.rest ≡ drafted (length l.bytes) empty_draft l.bytes
