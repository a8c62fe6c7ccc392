-- Worked examples: scripts of two sessions over one table, and their reports as data.
--
-- Each script begins with the four lines
--
--     nodes 1
--     session a 1
--     session b 1
--     create table t(id integer primary key, v integer)
--
-- and goes on with the lines of the sessions that stand here.
use Rattle.std.specs.Prelude.{ℕ, ◌+◌, ◌++◌, ◌∷◌, [], List, length, true, false, Option, None, Some, codes, pos}
use Rattle.cdb_values.specs.declared.rows.Level.TheVariants.{Snapshot, Serializable}
use Rattle.cdb_values.specs.declared.tables.TableDef.{TableDef}
use Rattle.cdb_values.specs.declared.tables.ColumnType.TheVariants.{Integer}
use Rattle.cdb_values.specs.declared.values.Value.TheVariants.{Int}
use Rattle.script_form.specs.declared.scripts.Script.{Script}
use Rattle.script_form.specs.declared.scripts.BodyLine.{BodyLine}
use Rattle.script_form.specs.declared.scripts.Act.{Act}
use Rattle.script_form.specs.declared.scripts.Act.TheVariants.{Say}
use Rattle.report_text.specs.Text.{ended}
use Rattle.report_text.specs.declared.reports.Report.{Report}
use Rattle.report_text.specs.declared.reports.EntryLine.{EntryLine}
use Rattle.report_text.specs.declared.reports.EntryLine.TheVariants.{Setup, Commit}
use Rattle.report_text.specs.declared.reports.Line.{Line}
use Rattle.report_text.specs.declared.reports.Line.TheVariants as line
use Rattle.cdb_values.specs.declared.replies.Reply.{Reply}
use Rattle.cdb_values.specs.declared.replies.Reply.TheVariants as reply

-- the table t(id integer primary key, v integer)
abbrev pub worked_table : TableDef
worked_table = record {
  name = codes "t";
  columns = record { name = codes "id"; kind = Integer; nullable = false } ∷ record { name = codes "v"; kind = Integer; nullable = true } ∷ [];
  keys = record { name = codes "pk"; columns = 0 ∷ []; unique = true } ∷ [];
}

abbrev pub body_from : ℕ → List Act → List BodyLine
body_from line [] = []
body_from line (act ∷ acts) = record { line = line; act = act } ∷ body_from (line + 1) acts

-- the script that goes on with these lines
abbrev pub script_with : List Act → Script
script_with acts = record {
  nodes = 1;
  cluster = codes "main";
  workers = 1;
  sessions = record { line = 2; name = codes "a"; node = 1; hasql = false } ∷ record { line = 3; name = codes "b"; node = 1; hasql = false } ∷ [];
  tables = record { line = 4; table = worked_table } ∷ [];
  watches = [];
  body = body_from 5 acts;
}

-- what a session says, and what it is told
abbrev pub a_says : List ℕ → Act
a_says text = Say (codes "a") text

abbrev pub b_says : List ℕ → Act
b_says text = Say (codes "b") text

abbrev pub to_a : ℕ → Reply → Line
to_a txn answer = line.Session (codes "a") txn answer

abbrev pub to_b : ℕ → Reply → Line
to_b txn answer = line.Session (codes "b") txn answer

-- a row of the table
abbrev pub row : ℕ → ℕ → Reply
row id v = reply.Row (Int (pos id) ∷ Int (pos v) ∷ [])

-- the entries of the sessions
abbrev pub of_a : ℕ → ℕ → ℕ → EntryLine
of_a position txn begin = Commit position (codes "a") txn begin Snapshot

abbrev pub of_b : ℕ → ℕ → ℕ → EntryLine
of_b position txn begin = Commit position (codes "b") txn begin Snapshot

-- a report of a run that began with an empty history
abbrev pub report_with : List Line → List EntryLine → Report
report_with lines entries = record { lines = lines; base = None; entries = entries; feeds = []; end = length entries }

-- the report of a run that did nothing but open
abbrev pub empty_report : Report
empty_report = report_with [] (Setup 1 ∷ [])

-- the report of a run that did nothing behind a log of two entries, and of that length in its first line of the tail
abbrev pub resumed_with : Option ℕ → Report
resumed_with base = record { lines = []; base = base; entries = []; feeds = []; end = 2 }

abbrev pub resumed_report : Report
resumed_report = resumed_with (Some 2)

abbrev pub insert_text : List ℕ
insert_text = codes "insert into t values(1, 10)"

abbrev pub select_text : List ℕ
select_text = codes "select * from t"

-- the lines of the insert, and the entries after it
abbrev pub inserted_lines : List Line
inserted_lines = to_a 1 (reply.Begin 1) ∷ to_a 1 (reply.Changed 1) ∷ to_a 1 (reply.Committed 2) ∷ []

abbrev pub inserted_entries : List EntryLine
inserted_entries = Setup 1 ∷ of_a 2 1 1 ∷ []

-- an insert and then a select
abbrev pub insert_select : Script
insert_select = script_with (a_says insert_text ∷ a_says select_text ∷ [])

abbrev pub insert_select_report : Report
insert_select_report = report_with
    (inserted_lines ++ to_a 2 (reply.Begin 2) ∷ to_a 2 (row 1 10) ∷ to_a 2 (reply.Done 1) ∷ to_a 2 (reply.Committed 2) ∷ [])
    inserted_entries

-- its ten lines
abbrev pub insert_select_text : List ℕ
insert_select_text = ended (codes "a 1 begin 1")
    ++ ended (codes "a 1 changed 1")
    ++ ended (codes "a 1 committed 2")
    ++ ended (codes "a 2 begin 2")
    ++ ended (codes "a 2 row 1|10")
    ++ ended (codes "a 2 done 1")
    ++ ended (codes "a 2 committed 2")
    ++ ended (codes "entry 1 schema")
    ++ ended (codes "entry 2 a 1 1 snapshot")
    ++ ended (codes "end 2")

-- two transactions, open at once, that update the same row
abbrev pub two_updates : Script
two_updates = script_with
    (a_says insert_text
    ∷ a_says (codes "begin")
    ∷ b_says (codes "begin")
    ∷ a_says (codes "update t set v = 11 where id = 1")
    ∷ b_says (codes "update t set v = 12 where id = 1")
    ∷ a_says (codes "commit")
    ∷ b_says (codes "commit")
    ∷ [])

abbrev pub two_updates_lines : Reply → List Line
two_updates_lines outcome = inserted_lines
    ++ to_a 2 (reply.Begin 2) ∷ to_b 1 (reply.Begin 2)
    ∷ to_a 2 (reply.Changed 1) ∷ to_b 1 (reply.Changed 1)
    ∷ to_a 2 (reply.Committed 3) ∷ to_b 1 outcome ∷ []

abbrev pub two_updates_entries : List EntryLine
two_updates_entries = inserted_entries ++ of_a 3 2 2 ∷ []

-- the second one to end conflicts with the entry of the first, which took the row's version away
abbrev pub conflict : Reply
conflict = reply.ConflictGenid 3 (codes "t") 1

abbrev pub two_updates_report : Report
two_updates_report = report_with (two_updates_lines conflict) two_updates_entries

-- two inserts of the same key, and then a transaction that frees the key and takes it again
abbrev pub key_again : Script
key_again = script_with
    (a_says (codes "begin")
    ∷ a_says (codes "insert into t values(1, 1)")
    ∷ b_says (codes "insert into t values(1, 2)")
    ∷ a_says (codes "commit")
    ∷ a_says (codes "begin")
    ∷ a_says (codes "delete from t where id = 1")
    ∷ a_says (codes "insert into t values(1, 3)")
    ∷ a_says (codes "commit")
    ∷ [])

abbrev pub key_again_report : Report
key_again_report = report_with
    (to_a 1 (reply.Begin 1)
    ∷ to_a 1 (reply.Changed 1)
    ∷ to_b 1 (reply.Begin 1)
    ∷ to_b 1 (reply.Changed 1)
    ∷ to_b 1 (reply.Committed 2)
    ∷ to_a 1 (reply.Duplicate 2 (codes "t") (codes "pk"))
    ∷ to_a 2 (reply.Begin 2)
    ∷ to_a 2 (reply.Changed 1)
    ∷ to_a 2 (reply.Changed 1)
    ∷ to_a 2 (reply.Committed 3)
    ∷ [])
    (Setup 1 ∷ of_b 2 1 1 ∷ of_a 3 2 2 ∷ [])

-- a transaction that reads what it wrote, and in the end has changed nothing
abbrev pub own_writes : Script
own_writes = script_with
    (a_says insert_text
    ∷ a_says (codes "begin")
    ∷ a_says (codes "insert into t values(2, 20)")
    ∷ a_says (codes "update t set v = 21 where id = 2")
    ∷ a_says select_text
    ∷ a_says (codes "delete from t where id = 2")
    ∷ a_says select_text
    ∷ a_says (codes "commit")
    ∷ [])

abbrev pub own_writes_report : Report
own_writes_report = report_with
    (inserted_lines
    ++ to_a 2 (reply.Begin 2) ∷ to_a 2 (reply.Changed 1) ∷ to_a 2 (reply.Changed 1)
    ∷ to_a 2 (row 1 10) ∷ to_a 2 (row 2 21) ∷ to_a 2 (reply.Done 2)
    ∷ to_a 2 (reply.Changed 1)
    ∷ to_a 2 (row 1 10) ∷ to_a 2 (reply.Done 1)
    ∷ to_a 2 (reply.Committed 2) ∷ [])
    inserted_entries

-- an insert and then two selects
abbrev pub two_selects : Script
two_selects = script_with (a_says insert_text ∷ a_says select_text ∷ a_says select_text ∷ [])

-- the insert's commit fails as the store of the node fails, and so the node is down when the select is to begin
abbrev pub lost_insert_report : Report
lost_insert_report = report_with
    (to_a 1 (reply.Begin 1) ∷ to_a 1 (reply.Changed 1) ∷ line.Down 1 1 true ∷ to_a 1 (reply.Lost 1 1) ∷ to_a 2 (reply.NoMajority 0 1) ∷ [])
    (Setup 1 ∷ [])

-- its seven lines
abbrev pub lost_insert_text : List ℕ
lost_insert_text = ended (codes "a 1 begin 1")
    ++ ended (codes "a 1 changed 1")
    ++ ended (codes "down 1 1 fault")
    ++ ended (codes "a 1 lost 1 1")
    ++ ended (codes "a 2 nomajority 0 1")
    ++ ended (codes "entry 1 schema")
    ++ ended (codes "end 1")

-- the insert, in a transaction that is open as the commit of the other session's insert fails
abbrev pub open_insert : Script
open_insert = script_with (a_says (codes "begin") ∷ a_says insert_text ∷ b_says (codes "insert into t values(2, 20)") ∷ a_says (codes "commit") ∷ a_says select_text ∷ [])

abbrev pub open_insert_report : Report
open_insert_report = report_with
    (to_a 1 (reply.Begin 1) ∷ to_a 1 (reply.Changed 1)
    ∷ to_b 1 (reply.Begin 1) ∷ to_b 1 (reply.Changed 1) ∷ line.Down 1 1 true ∷ to_b 1 (reply.Lost 1 1)
    ∷ to_a 1 (reply.Lost 1 1) ∷ to_a 2 (reply.NoMajority 0 1) ∷ [])
    (Setup 1 ∷ [])

-- a script without a line to be run, whose node goes down at the opening
abbrev pub nothing_said : Script
nothing_said = script_with []

abbrev pub down_at_first_report : Report
down_at_first_report = report_with (line.Down 1 1 true ∷ []) []

-- two rows, and then two transactions, open at once, of which each reads the row that the other one changes
abbrev pub inserting_two : List Act
inserting_two = a_says insert_text ∷ a_says (codes "insert into t values(2, 20)") ∷ []

abbrev pub skewing : List Act
skewing =
    a_says (codes "begin")
    ∷ b_says (codes "begin")
    ∷ a_says (codes "select * from t where id = 2")
    ∷ b_says (codes "select * from t where id = 1")
    ∷ a_says (codes "update t set v = 11 where id = 1")
    ∷ b_says (codes "update t set v = 21 where id = 2")
    ∷ a_says (codes "commit")
    ∷ b_says (codes "commit")
    ∷ []

abbrev pub two_inserted_lines : List Line
two_inserted_lines = inserted_lines ++ to_a 2 (reply.Begin 2) ∷ to_a 2 (reply.Changed 1) ∷ to_a 2 (reply.Committed 3) ∷ []

abbrev pub skew_lines : Reply → List Line
skew_lines outcome =
    to_a 3 (reply.Begin 3) ∷ to_b 1 (reply.Begin 3)
    ∷ to_a 3 (row 2 20) ∷ to_a 3 (reply.Done 1)
    ∷ to_b 1 (row 1 10) ∷ to_b 1 (reply.Done 1)
    ∷ to_a 3 (reply.Changed 1) ∷ to_b 1 (reply.Changed 1)
    ∷ to_a 3 (reply.Committed 4) ∷ to_b 1 outcome ∷ []

abbrev pub two_inserted : List EntryLine
two_inserted = Setup 1 ∷ of_a 2 1 1 ∷ of_a 3 2 2 ∷ []

-- at level snapshot both are committed: write skew
abbrev pub skew : Script
skew = script_with (inserting_two ++ skewing)

abbrev pub skew_entries : List EntryLine
skew_entries = two_inserted ++ of_a 4 3 3 ∷ of_b 5 1 3 ∷ []

abbrev pub skew_report : Report
skew_report = report_with (two_inserted_lines ++ skew_lines (reply.Committed 5)) skew_entries

-- at level serializable the second one to end conflicts with the entry of the first, which touched the row that it read
abbrev pub strict_skew : Script
strict_skew = script_with (inserting_two ++ a_says (codes "set transaction serializable") ∷ b_says (codes "set transaction serializable") ∷ skewing)

abbrev pub strict_entries : List EntryLine
strict_entries = two_inserted ++ Commit 4 (codes "a") 3 3 Serializable ∷ []

abbrev pub range_conflict : Reply
range_conflict = reply.ConflictRange 4 (codes "t") (codes "pk")

abbrev pub level_lines : List Line
level_lines = to_a 0 (reply.Level Serializable) ∷ to_b 0 (reply.Level Serializable) ∷ []

abbrev pub strict_skew_report : Report
strict_skew_report = report_with (two_inserted_lines ++ (level_lines ++ skew_lines range_conflict)) strict_entries

-- a transaction that does nothing, and then an insert of the other session, behind a log of two entries
abbrev pub nothing_then_insert : Script
nothing_then_insert = script_with (a_says (codes "begin") ∷ a_says (codes "commit") ∷ b_says (codes "insert into t values(2, 20)") ∷ [])

-- its node goes down at the last commit only
abbrev pub down_late_report : Report
down_late_report = record {
  lines = to_a 1 (reply.Begin 2) ∷ to_a 1 (reply.Committed 2) ∷ to_b 1 (reply.Begin 2) ∷ to_b 1 (reply.Changed 1) ∷ line.Down 1 1 true ∷ to_b 1 (reply.Lost 1 1) ∷ [];
  base = Some 2;
  entries = [];
  feeds = [];
  end = 2;
}

-- two inserts, and their history where the second one began at a position
abbrev pub two_inserts : Script
two_inserts = script_with (a_says insert_text ∷ a_says (codes "insert into t values(2, 20)") ∷ [])

abbrev pub two_inserts_with : ℕ → List EntryLine
two_inserts_with begin = Setup 1 ∷ of_a 2 1 1 ∷ of_a 3 2 begin ∷ []

-- two inserts of the same key by two sessions, one after the other
abbrev pub two_keys : Script
two_keys = script_with (a_says (codes "insert into t values(1, 1)") ∷ b_says (codes "insert into t values(1, 2)") ∷ [])

-- an insert that is rolled back
abbrev pub rolled_insert : Script
rolled_insert = script_with (a_says (codes "begin") ∷ a_says insert_text ∷ a_says (codes "rollback") ∷ [])

-- a transaction that does nothing
abbrev pub nothing_done : Script
nothing_done = script_with (a_says (codes "begin") ∷ a_says (codes "commit") ∷ [])

-- the node goes down at a commit, which wants memory, and so do the lines behind it, that would tell of a loss and of a missing
-- majority
abbrev pub wanting_report : Report
wanting_report = report_with
    (to_a 1 (reply.Begin 1) ∷ to_a 1 (reply.Changed 1)
    ∷ to_b 1 (reply.Begin 1) ∷ to_b 1 (reply.Changed 1) ∷ line.Down 1 1 true ∷ to_b 1 reply.NoMemory
    ∷ to_a 1 reply.NoMemory ∷ to_a 2 reply.NoMemory ∷ [])
    (Setup 1 ∷ [])
