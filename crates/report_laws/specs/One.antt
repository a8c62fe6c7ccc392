-- Whether a report tells each transaction whole: none was cut short, and no node went down.
use Rattle.std.specs.Prelude.{◌≡◌, false}
use Rattle.std.specs.List.{AllByRecursion}
use Rattle.report_laws.specs.Cut.{cuts}
use Rattle.report_text.specs.declared.reports.Report.{Report}
use Rattle.report_text.specs.declared.reports.Line.{Line}
use Rattle.report_text.specs.declared.reports.Line.TheVariants as line

-- a line that cuts no transaction short, and tells of no node that goes down
abbrev pub IsUncutLine : Line → Type 0
IsUncutLine (line.Session name number answer) = cuts answer ≡ false
IsUncutLine (line.Down count node fault) = ⊥
IsUncutLine (line.Up node) = Unit {0}
IsUncutLine line.Barrier = Unit {0}
IsUncutLine (line.Fed position) = Unit {0}

abbrev pub IsUncut : Report → Type 0
IsUncut report = AllByRecursion IsUncutLine report.lines
