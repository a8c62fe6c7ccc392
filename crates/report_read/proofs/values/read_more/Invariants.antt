-- the values so far, before those that the rest reads, are the row
use Rattle.std.proofs.Common.{◌≡◌, ◌-◌, length}
use Rattle.report_read.specs.Reading.{with_first, more_values_at}
use Rattle.report_read.proofs.CodedLemmas.{with_front}
use Rattle.report_read.proofs.values.read_more.Given as goal

abbrev pub invariant-values : goal.invariant-values
invariant-values l = with_front l.row (more_values_at (length l.bytes - l.counter) l.rest) ≡ with_first l.fn.first (more_values_at (length l.bytes) l.bytes)
