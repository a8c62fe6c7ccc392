-- Reports of the worked scripts that are wrong in one place each, and the law that refuses each.
use Rattle.std.specs.Prelude.{ℕ, ◌++◌, ◌∷◌, [], List, true, false, Some, None, codes, pos}
use Rattle.std.specs.List.{AllByRecursion}
use Rattle.script_form.specs.declared.scripts.Script.{Script}
use Rattle.session_language.specs.Each.{EachAfter}
use Rattle.report_laws.specs.History.{nothing_before, IsEntryAfter, view_of}
use Rattle.report_laws.specs.Lawful.{Lawful, IsFreshLine}
use Rattle.report_laws.specs.Places.{HasItsPlace}
use Rattle.report_laws.specs.Told.{told, Along, IsTold, IsEntryTold}
use Rattle.report_laws.specs.Work.{work}
use Rattle.report_worked.specs.Worked.{worked_table, report_with, to_a, to_b, of_a, of_b, row, inserted_lines, inserted_entries, two_updates_lines, two_updates_entries, conflict, two_inserted_lines, two_inserts_with, skew_lines, level_lines, strict_entries}
use Rattle.cdb_values.specs.declared.items.Edge.TheVariants.{Free}
use Rattle.cdb_values.specs.declared.items.Interval.{Interval}
use Rattle.cdb_values.specs.declared.rows.Level.TheVariants.{Serializable}
use Rattle.cdb_values.specs.declared.tables.TableDef.{TableDef}
use Rattle.cdb_values.specs.declared.values.Value.TheVariants.{Int}
use Rattle.report_text.specs.declared.reports.EntryLine.{EntryLine}
use Rattle.report_text.specs.declared.reports.EntryLine.TheVariants.{Setup, Commit}
use Rattle.report_text.specs.declared.reports.Report.{Report}
use Rattle.report_text.specs.declared.reports.Line.{Line}
use Rattle.report_text.specs.declared.reports.Line.TheVariants as line
use Rattle.cdb_values.specs.declared.replies.Reply.TheVariants as reply
use Rattle.report_worked.specs.Small.{from_nothing, small_language}

-- the five laws of a lawful report that these break
abbrev pub RepliesAreRight : Script → Report → Type 0
RepliesAreRight script report = (name : List ℕ) → Along (IsTold (from_nothing script) (view_of (from_nothing script) report.entries) name) (work small_language name script.body) (told name report.lines)

abbrev pub BeginsAreFresh : Report → Type 0
BeginsAreFresh report = EachAfter (IsFreshLine (nothing_before (worked_table ∷ []))) [] report.lines

abbrev pub HistoryIsRight : Script → Report → Type 0
HistoryIsRight script report = EachAfter (IsEntryAfter (from_nothing script)) [] report.entries

abbrev pub EntriesAreTold : Script → Report → Type 0
EntriesAreTold script report = AllByRecursion (IsEntryTold (from_nothing script) (view_of (from_nothing script) report.entries) report.lines) report.entries

abbrev pub LinesHavePlaces : Script → Report → Type 0
LinesHavePlaces script report = EachAfter (HasItsPlace script) [] report.lines

-- a report breaks a law, and so is not lawful
abbrev pub IsRefusedBy : Type 0 → Script → Report → Type 0
IsRefusedBy Law script report = (Law → ⊥) × (Lawful (from_nothing script) report → ⊥)

-- the insert, and then a select with these lines
abbrev pub selected : List Line → Report
selected lines = report_with (inserted_lines ++ lines) inserted_entries

-- another value in the row
abbrev pub wrong_value : Report
wrong_value = selected (to_a 2 (reply.Begin 2) ∷ to_a 2 (row 1 11) ∷ to_a 2 (reply.Done 1) ∷ to_a 2 (reply.Committed 2) ∷ [])

-- no row
abbrev pub missing_row : Report
missing_row = selected (to_a 2 (reply.Begin 2) ∷ to_a 2 (reply.Done 1) ∷ to_a 2 (reply.Committed 2) ∷ [])

-- the number of rows before the row
abbrev pub out_of_order : Report
out_of_order = selected (to_a 2 (reply.Begin 2) ∷ to_a 2 (reply.Done 1) ∷ to_a 2 (row 1 10) ∷ to_a 2 (reply.Committed 2) ∷ [])

-- the row where the select begins before the insert
abbrev pub early_row : Report
early_row = selected (to_a 2 (reply.Begin 1) ∷ to_a 2 (row 1 10) ∷ to_a 2 (reply.Done 1) ∷ to_a 2 (reply.Committed 1) ∷ [])

-- no row, where the select begins before the insert: lawful, but not in the order of play
abbrev pub late : Report
late = selected (to_a 2 (reply.Begin 1) ∷ to_a 2 (reply.Done 0) ∷ to_a 2 (reply.Committed 1) ∷ [])

-- a node comes up before the lines of the sessions
abbrev pub node_line : Report
node_line = report_with (line.Up 1 ∷ (inserted_lines ++ to_a 2 (reply.Begin 2) ∷ to_a 2 (row 1 10) ∷ to_a 2 (reply.Done 1) ∷ to_a 2 (reply.Committed 2) ∷ [])) inserted_entries

-- the select is lost, and no node went down
abbrev pub lost_line : Report
lost_line = selected (to_a 2 (reply.Begin 2) ∷ to_a 2 (reply.Lost 1 1) ∷ [])

-- the insert is committed at a position behind its entry
abbrev pub wrong_position : Report
wrong_position = report_with
    (to_a 1 (reply.Begin 1) ∷ to_a 1 (reply.Changed 1) ∷ to_a 1 (reply.Committed 3)
    ∷ to_a 2 (reply.Begin 2) ∷ to_a 2 (row 1 10) ∷ to_a 2 (reply.Done 1) ∷ to_a 2 (reply.Committed 2) ∷ [])
    inserted_entries

-- the insert stands in the history twice
abbrev pub entry_twice : Report
entry_twice = report_with
    (inserted_lines ++ to_a 2 (reply.Begin 2) ∷ to_a 2 (row 1 10) ∷ to_a 2 (reply.Done 1) ∷ to_a 2 (reply.Committed 2) ∷ [])
    (inserted_entries ++ of_a 3 1 1 ∷ [])

-- of two selects the second one begins before the insert, though the session was told the first one's row
abbrev pub begin_too_old : Report
begin_too_old = report_with
    (inserted_lines
    ++ to_a 2 (reply.Begin 2) ∷ to_a 2 (row 1 10) ∷ to_a 2 (reply.Done 1) ∷ to_a 2 (reply.Committed 2)
    ∷ to_a 3 (reply.Begin 1) ∷ to_a 3 (reply.Done 0) ∷ to_a 3 (reply.Committed 1) ∷ [])
    inserted_entries

-- the conflict of the second update names the version that the first one wrote, which nobody touched
abbrev pub untouched_row : Report
untouched_row = report_with (two_updates_lines (reply.ConflictGenid 3 (codes "t") 2)) two_updates_entries

-- the update that was refused stands in the history
abbrev pub refused_entry : Report
refused_entry = report_with (two_updates_lines conflict) (two_updates_entries ++ of_b 4 1 2 ∷ [])

-- each transaction is told whole at its begin, one after the other, and neither conflicts: lawful, but
-- not in the order of play
abbrev pub serial : Report
serial = report_with
    (inserted_lines
    ++ to_a 2 (reply.Begin 2) ∷ to_a 2 (reply.Changed 1) ∷ to_a 2 (reply.Committed 3)
    ∷ to_b 1 (reply.Begin 3) ∷ to_b 1 (reply.Changed 1) ∷ to_b 1 (reply.Committed 4) ∷ [])
    (two_updates_entries ++ of_b 4 1 3 ∷ [])

-- the insert is lost twice by one down line
abbrev pub lost_twice : Report
lost_twice = report_with
    (to_a 1 (reply.Begin 1) ∷ to_a 1 (reply.Changed 1) ∷ line.Down 1 1 true ∷ to_a 1 (reply.Lost 1 1) ∷ to_a 1 (reply.Lost 1 1) ∷ to_a 2 (reply.NoMajority 0 1) ∷ [])
    (Setup 1 ∷ [])

-- the select is lost by a line behind which its session was told of the insert
abbrev pub lost_late : Report
lost_late = report_with (line.Down 1 1 true ∷ (inserted_lines ++ to_a 2 (reply.Begin 2) ∷ to_a 2 (reply.Lost 1 1) ∷ [])) inserted_entries

-- no majority is up where the node is
abbrev pub short_while_up : Report
short_while_up = report_with
    (inserted_lines ++ to_a 2 (reply.NoMajority 0 1) ∷ [])
    inserted_entries

-- the first down line has the number 2
abbrev pub down_misnumbered : Report
down_misnumbered = report_with
    (to_a 1 (reply.Begin 1) ∷ to_a 1 (reply.Changed 1) ∷ line.Down 2 1 true ∷ to_a 1 (reply.Lost 1 2) ∷ to_a 2 (reply.NoMajority 0 1) ∷ [])
    (Setup 1 ∷ [])

-- the node goes down a second time
abbrev pub down_twice : Report
down_twice = report_with
    (to_a 1 (reply.Begin 1) ∷ to_a 1 (reply.Changed 1) ∷ line.Down 1 1 true ∷ line.Down 2 1 true ∷ to_a 1 (reply.Lost 1 1) ∷ to_a 2 (reply.NoMajority 0 1) ∷ [])
    (Setup 1 ∷ [])

-- the select begins behind the fault: lawful, but not in the order of play
abbrev pub begun_behind : Report
begun_behind = report_with
    (to_a 1 (reply.Begin 1) ∷ to_a 1 (reply.Changed 1) ∷ line.Down 1 1 true ∷ to_a 1 (reply.Lost 1 1)
    ∷ to_a 2 (reply.Begin 1) ∷ to_a 2 (reply.Done 0) ∷ to_a 2 (reply.Committed 1) ∷ [])
    (Setup 1 ∷ [])

-- the node goes down at the opening, and yet the schema's entry stands: lawful, but not in the order of play
abbrev pub opened_while_down : Report
opened_while_down = report_with (line.Down 1 1 true ∷ []) (Setup 1 ∷ [])

-- the transaction whose read row was changed is committed at level serializable
abbrev pub strict_committed_entries : List EntryLine
strict_committed_entries = strict_entries ++ Commit 5 (codes "b") 1 3 Serializable ∷ []

abbrev pub strict_committed : Report
strict_committed = report_with (two_inserted_lines ++ (level_lines ++ skew_lines (reply.Committed 5))) strict_committed_entries

-- the insert is committed, and no entry stands in the history yet
abbrev pub committed_ahead : Report
committed_ahead = report_with (inserted_lines ++ to_a 2 (reply.Begin 1) ∷ to_a 2 (reply.Done 0) ∷ to_a 2 (reply.Committed 1) ∷ []) (Setup 1 ∷ [])

-- the first update conflicts with the entry of the second one, which comes later: lawful, but not in the order of play
abbrev pub conflict_ahead : Report
conflict_ahead = report_with
    (inserted_lines
    ++ to_a 2 (reply.Begin 2) ∷ to_b 1 (reply.Begin 2)
    ∷ to_a 2 (reply.Changed 1) ∷ to_b 1 (reply.Changed 1)
    ∷ to_a 2 conflict ∷ to_b 1 (reply.Committed 3) ∷ [])
    (inserted_entries ++ of_b 3 1 2 ∷ [])

-- the first insert of a key is a duplicate by the second one, which comes later: lawful, but not in the order of play
abbrev pub duplicate_ahead : Report
duplicate_ahead = report_with
    (to_a 1 (reply.Begin 1) ∷ to_a 1 (reply.Changed 1) ∷ to_a 1 (reply.Duplicate 2 (codes "t") (codes "pk"))
    ∷ to_b 1 (reply.Begin 1) ∷ to_b 1 (reply.Changed 1) ∷ to_b 1 (reply.Committed 2) ∷ [])
    (Setup 1 ∷ of_b 2 1 1 ∷ [])

-- the second update conflicts with the entry at which it began
abbrev pub conflict_at_begin : Report
conflict_at_begin = report_with (two_updates_lines (reply.ConflictGenid 2 (codes "t") 1)) two_updates_entries

-- the select is committed behind its begin, though it changes nothing
abbrev pub select_behind : Report
select_behind = selected (to_a 2 (reply.Begin 1) ∷ to_a 2 (reply.Done 0) ∷ to_a 2 (reply.Committed 2) ∷ [])

-- the entry of the second insert has another begin than it was told
abbrev pub begun_elsewhere : Report
begun_elsewhere = report_with two_inserted_lines (two_inserts_with 1)

-- the insert is told in two segments, with the begin of the select between
abbrev pub split_insert : Report
split_insert = report_with
    (to_a 1 (reply.Begin 1) ∷ to_a 2 (reply.Begin 1) ∷ to_a 1 (reply.Changed 1) ∷ to_a 1 (reply.Committed 2)
    ∷ to_a 2 (reply.Done 0) ∷ to_a 2 (reply.Committed 1) ∷ [])
    inserted_entries

-- an insert that was rolled back stands in the history
abbrev pub rolled_entry : Report
rolled_entry = report_with (to_a 1 (reply.Begin 1) ∷ to_a 1 (reply.Changed 1) ∷ to_a 1 reply.RolledBack ∷ []) inserted_entries

-- the table whose key is called `all`, as the whole table is told
abbrev pub all_table : TableDef
all_table = record { name = codes "t"; columns = worked_table.columns; keys = record { name = codes "all"; columns = 0 ∷ []; unique = true } ∷ [] }

-- the interval of that key which is equal to 1, and that of the whole table
abbrev pub by_all : Interval
by_all = record { table = 0; key = Some 0; equal = Int (pos 1) ∷ []; low = Free; high = Free; empty = false }

abbrev pub of_all : Interval
of_all = record { table = 0; key = None; equal = []; low = Free; high = Free; empty = false }

-- the node goes down at the commit of a transaction that changes nothing: lawful, but not in the order of play
abbrev pub down_at_nothing : Report
down_at_nothing = report_with (to_a 1 (reply.Begin 1) ∷ line.Down 1 1 true ∷ to_a 1 (reply.Lost 1 1) ∷ []) (Setup 1 ∷ [])
