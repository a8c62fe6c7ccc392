-- The run so far: the lines and the history of its report, and the log of the node.
use Rattle.std.specs.Prelude.{List}
use Rattle.node_log.specs.Logged.{Logged}
use Rattle.report_text.specs.declared.reports.EntryLine.{EntryLine}
use Rattle.report_text.specs.declared.reports.Line.{Line}

pub record Run : Type 0 where
  pub lines : List Line
  pub entries : List EntryLine
  pub log : Logged

abbrev pub run_of : List Line → List EntryLine → Logged → Run
run_of lines entries log = record { lines = lines; entries = entries; log = log }
