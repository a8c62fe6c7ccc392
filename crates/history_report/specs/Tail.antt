-- The tail of a report: the entries of the reported log behind the base, and how long that log is.
use Rattle.std.specs.Prelude.{ℕ, ◌+◌, List, [], ◌∷◌, length, drop}
use Rattle.phys_log.specs.declared.entries.Entry.{Entry}
use Rattle.phys_log.specs.declared.entries.Entry.TheVariants as entry
use Rattle.report_laws.specs.Lawful.{base_line}
use Rattle.report_text.specs.declared.reports.EntryLine.{EntryLine}
use Rattle.report_text.specs.declared.reports.EntryLine.TheVariants.{Setup, Commit}
use Rattle.report_text.specs.declared.reports.Line.{Line}
use Rattle.report_text.specs.declared.reports.Report.{Report}

-- an entry at its position
abbrev pub entry_line : ℕ → Entry → EntryLine
entry_line position (entry.Setup generation schema records) = Setup position
entry_line position (entry.Commit generation id begin level changes records) = Commit position id.session id.txn begin level

-- entries, of which the first one stands at that position
abbrev pub entry_lines : ℕ → List Entry → List EntryLine
entry_lines position [] = []
entry_lines position (e ∷ es) = entry_line position e ∷ entry_lines (position + 1) es

-- the report of these lines, with what of this log stands behind the base; nothing is watched
abbrev pub report_with : List Line → ℕ → List Entry → Report
report_with lines base log = record {
  lines = lines;
  base = base_line base;
  entries = entry_lines (base + 1) (drop base log);
  feeds = [];
  end = length log;
}
