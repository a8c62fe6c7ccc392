use Rattle.std.proofs.Common.{◌≡◌, true, length}
use Rattle.report_laws.specs.Nodes.{up_from}
use Rattle.history_report.proofs.looks.is_up.Given as goal

abbrev pub invariant-lines : goal.invariant-lines
invariant-lines l = up_from l.node l.up l.rest ≡ up_from l.node true l.fn.lines

abbrev pub decreases-lines : goal.decreases-lines
decreases-lines l = length l.rest
