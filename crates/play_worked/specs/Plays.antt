-- Scripts of three nodes with their reports, as data: rows that were worked by hand. Each script has the sessions a and b and the
-- table of `node_stories`.
use Rattle.std.specs.Prelude.{ℕ, ◌∷◌, [], List, Option, true, false, codes}
use Rattle.script_form.specs.declared.scripts.Act.TheVariants as act
use Rattle.script_form.specs.declared.scripts.Moment.{Moment}
use Rattle.script_form.specs.declared.scripts.Script.{Script}
use Rattle.report_text.specs.declared.reports.EntryLine.{EntryLine}
use Rattle.report_text.specs.declared.reports.EntryLine.TheVariants.{Setup}
use Rattle.report_text.specs.declared.reports.Line.TheVariants as line
use Rattle.report_text.specs.declared.reports.Report.{Report}
use Rattle.cdb_values.specs.declared.replies.Reply.TheVariants as reply
use Rattle.report_worked.specs.Worked.{report_with, row, of_a, of_b}
use Rattle.node_stories.specs.Stories.{script_of}

-- Two of three nodes are stopped: a transaction that is open reads on and ends without operations; the next begin finds no majority.
abbrev pub reads_go_on : Script
reads_go_on = script_of 3 1 3 (act.Say (codes "a") (codes "insert into t values(1, 10)") ∷ act.Say (codes "a") (codes "begin") ∷ act.Stop 2 ∷ act.Stop 3 ∷ act.Say (codes "a") (codes "select * from t") ∷ act.Say (codes "a") (codes "commit") ∷ act.Say (codes "a") (codes "select * from t") ∷ [])

abbrev pub reads_go_on_report : Report
reads_go_on_report = report_with
    (line.Session (codes "a") 1 (reply.Begin 1) ∷ line.Session (codes "a") 1 (reply.Changed 1) ∷ line.Session (codes "a") 1 (reply.Committed 2) ∷ line.Session (codes "a") 2 (reply.Begin 2) ∷ line.Down 1 2 false ∷ line.Down 2 3 false ∷ line.Session (codes "a") 2 (row 1 10) ∷ line.Session (codes "a") 2 (reply.Done 1) ∷ line.Session (codes "a") 2 (reply.Committed 2) ∷ line.Session (codes "a") 3 (reply.NoMajority 1 3) ∷ [])
    (Setup 1 ∷ of_a 2 1 1 ∷ [])

-- A session's node is stopped in its transaction: it is lost at the next line, the lines up to its commit are skipped, and the session
-- goes on at the next node. The other session may have hasql or not.
abbrev pub skipped_lines : Script
skipped_lines = script_of 3 2 3 (act.Say (codes "a") (codes "begin") ∷ act.Stop 2 ∷ act.Say (codes "a") (codes "insert into t values(1, 1)") ∷ act.Say (codes "a") (codes "commit") ∷ act.Say (codes "a") (codes "select * from t") ∷ [])

abbrev pub skipped_plain : Script
skipped_plain = record skipped_lines { sessions = record { line = 2; name = codes "a"; node = 2; hasql = false } ∷ record { line = 3; name = codes "b"; node = 3; hasql = false } ∷ [] }

abbrev pub skipped_report : Report
skipped_report = report_with
    (line.Session (codes "a") 1 (reply.Begin 1) ∷ line.Down 1 2 false ∷ line.Session (codes "a") 1 (reply.Lost 2 1) ∷ line.Session (codes "a") 2 (reply.Begin 1) ∷ line.Session (codes "a") 2 (reply.Done 0) ∷ line.Session (codes "a") 2 (reply.Committed 1) ∷ [])
    (Setup 1 ∷ [])

-- The master is stopped behind the append, or when the entry is durable, of a session with hasql, whose commit is sent to the next
-- one: that appends it, or finds it.
abbrev pub sent_twice : Moment → Script
sent_twice when = script_of 3 2 3 (act.Say (codes "b") (codes "insert into t values(1, 10)") ∷ act.Arm (codes "b") when ∷ act.Say (codes "b") (codes "update t set v = 11 where id = 1") ∷ act.Start 1 ∷ act.Say (codes "b") (codes "select * from t") ∷ [])

abbrev pub sent_twice_report : Report
sent_twice_report = report_with
    (line.Session (codes "b") 1 (reply.Begin 1) ∷ line.Session (codes "b") 1 (reply.Changed 1) ∷ line.Session (codes "b") 1 (reply.Committed 2) ∷ line.Session (codes "b") 2 (reply.Begin 2) ∷ line.Session (codes "b") 2 (reply.Changed 1) ∷ line.Down 1 1 false ∷ line.Session (codes "b") 2 (reply.Committed 3) ∷ line.Up 1 ∷ line.Session (codes "b") 3 (reply.Begin 3) ∷ line.Session (codes "b") 3 (row 1 11) ∷ line.Session (codes "b") 3 (reply.Done 1) ∷ line.Session (codes "b") 3 (reply.Committed 3) ∷ [])
    (Setup 1 ∷ of_b 2 1 1 ∷ of_b 3 2 2 ∷ [])

-- The same of a session without: it is lost. What was durable stands; what was not shipped is dropped.
abbrev pub sent_once : Moment → Script
sent_once when = script_of 3 2 3 (act.Say (codes "a") (codes "insert into t values(1, 10)") ∷ act.Arm (codes "a") when ∷ act.Say (codes "a") (codes "update t set v = 11 where id = 1") ∷ act.Say (codes "a") (codes "select * from t") ∷ [])

abbrev pub lost_and_kept_report : Report
lost_and_kept_report = report_with
    (line.Session (codes "a") 1 (reply.Begin 1) ∷ line.Session (codes "a") 1 (reply.Changed 1) ∷ line.Session (codes "a") 1 (reply.Committed 2) ∷ line.Session (codes "a") 2 (reply.Begin 2) ∷ line.Session (codes "a") 2 (reply.Changed 1) ∷ line.Down 1 1 false ∷ line.Session (codes "a") 2 (reply.Lost 1 1) ∷ line.Session (codes "a") 3 (reply.Begin 3) ∷ line.Session (codes "a") 3 (row 1 11) ∷ line.Session (codes "a") 3 (reply.Done 1) ∷ line.Session (codes "a") 3 (reply.Committed 3) ∷ [])
    (Setup 1 ∷ of_a 2 1 1 ∷ of_a 3 2 2 ∷ [])

abbrev pub lost_and_dropped_report : Report
lost_and_dropped_report = report_with
    (line.Session (codes "a") 1 (reply.Begin 1) ∷ line.Session (codes "a") 1 (reply.Changed 1) ∷ line.Session (codes "a") 1 (reply.Committed 2) ∷ line.Session (codes "a") 2 (reply.Begin 2) ∷ line.Session (codes "a") 2 (reply.Changed 1) ∷ line.Down 1 1 false ∷ line.Session (codes "a") 2 (reply.Lost 1 1) ∷ line.Session (codes "a") 3 (reply.Begin 2) ∷ line.Session (codes "a") 3 (row 1 10) ∷ line.Session (codes "a") 3 (reply.Done 1) ∷ line.Session (codes "a") 3 (reply.Committed 2) ∷ [])
    (Setup 1 ∷ of_a 2 1 1 ∷ [])

-- Node 1 stands twice, and its store fails at both promises, and keeps them: so it promised above the one that is chosen meanwhile,
-- and the choice is made again when it comes up.
abbrev pub promised_above : Script
promised_above = script_of 3 2 3 (act.Stop 3 ∷ act.Stop 1 ∷ act.Start 1 ∷ act.Start 1 ∷ act.Start 3 ∷ act.Start 1 ∷ act.Say (codes "a") (codes "select * from t") ∷ [])

abbrev pub promised_above_report : Report
promised_above_report = report_with
    (line.Down 1 3 false ∷ line.Down 2 1 false ∷ line.Up 1 ∷ line.Down 3 1 true ∷ line.Up 1 ∷ line.Down 4 1 true ∷ line.Up 3 ∷ line.Up 1 ∷ line.Session (codes "a") 1 (reply.Begin 1) ∷ line.Session (codes "a") 1 (reply.Done 0) ∷ line.Session (codes "a") 1 (reply.Committed 1) ∷ [])
    (Setup 1 ∷ [])

-- No line is said: the report has the tail alone.
abbrev pub no_lines : Script
no_lines = script_of 3 1 3 []

abbrev pub tail_only : Option ℕ → List EntryLine → ℕ → Report
tail_only base entries end = record { lines = []; base = base; entries = entries; feeds = []; end = end }
