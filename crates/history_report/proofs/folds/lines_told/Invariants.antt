use Rattle.std.proofs.Common.{◌≡◌, reverse}
use Rattle.history_report.specs.Told.{told_by}
use Rattle.history_report.proofs.folds.lines_told.Given as goal

abbrev pub invariant-events : goal.invariant-events
invariant-events l = l.told ≡ told_by l.nodes l.sessions (reverse l.yielded)
