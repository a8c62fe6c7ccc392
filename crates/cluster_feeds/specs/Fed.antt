-- When a line of a report is right where it tells of a feed. When a feed is right is said in `node_reports`.
use Rattle.std.specs.Prelude.{List}
use Rattle.node_reports.specs.Fed.{IsFed}
use Rattle.report_laws.specs.History.{Basis}
use Rattle.report_laws.specs.View.{View}
use Rattle.report_text.specs.declared.reports.Line.{Line}
use Rattle.report_text.specs.declared.reports.Line.TheVariants as line

abbrev pub IsFedLine : Basis → View → List Line → Line → Type 0
IsFedLine basis view before (line.Session name txn answer) = Unit {0}
IsFedLine basis view before (line.Down count node fault) = Unit {0}
IsFedLine basis view before (line.Up node) = Unit {0}
IsFedLine basis view before line.Barrier = Unit {0}
IsFedLine basis view before (line.Fed position) = IsFed basis view before position
