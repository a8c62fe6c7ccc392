-- Stories of several nodes: scripts and their reports, as data. Each script begins so, with its number of nodes and the
-- nodes of its sessions:
--
--     nodes 3
--     session a 2
--     session b 3 hasql
--     create table t(id integer primary key, v integer)
use Rattle.std.specs.Prelude.{ℕ, ◌∷◌, [], List, Some, true, false, codes, pos}
use Rattle.script_form.specs.declared.scripts.Script.{Script}
use Rattle.script_form.specs.declared.scripts.Act.{Act}
use Rattle.script_form.specs.declared.scripts.Act.TheVariants as act
use Rattle.script_form.specs.declared.scripts.Moment.TheVariants as moment
use Rattle.report_text.specs.declared.reports.Report.{Report}
use Rattle.report_text.specs.declared.reports.EntryLine.TheVariants.{Setup}
use Rattle.report_text.specs.declared.reports.Line.TheVariants as line
use Rattle.cdb_values.specs.declared.replies.Reply.TheVariants as reply
use Rattle.cdb_values.specs.Rows.{apply_all, no_rows}
use Rattle.cdb_values.specs.declared.rows.RowOp.TheVariants as op
use Rattle.cdb_values.specs.declared.values.Value.TheVariants.{Int}
use Rattle.report_laws.specs.History.{Basis}
use Rattle.report_worked.specs.Small.{from_log, small_language}
use Rattle.report_worked.specs.Worked.{worked_table, body_from, report_with, row, of_a, of_b}

-- a script of n nodes, the sessions a and b at these
abbrev pub script_of : ℕ → ℕ → ℕ → List Act → Script
script_of n a b acts = record {
  nodes = n;
  cluster = codes "main";
  workers = 1;
  sessions = record { line = 2; name = codes "a"; node = a; hasql = false } ∷ record { line = 3; name = codes "b"; node = b; hasql = true } ∷ [];
  tables = record { line = 4; table = worked_table } ∷ [];
  watches = [];
  body = body_from 5 acts;
}

-- The replica on which a session is falls at its commit: it is lost by that line, its entry stands, and it goes on at the next node.
abbrev pub replica_falls : Script
replica_falls = script_of 3 2 3 (act.Say (codes "a") (codes "insert into t values(1, 10)") ∷ act.Say (codes "a") (codes "select * from t") ∷ [])

abbrev pub replica_falls_report : Report
replica_falls_report = report_with
    (line.Session (codes "a") 1 (reply.Begin 1) ∷ line.Session (codes "a") 1 (reply.Changed 1) ∷ line.Down 1 2 true ∷ line.Session (codes "a") 1 (reply.Lost 2 1) ∷ line.Session (codes "a") 2 (reply.Begin 2) ∷ line.Session (codes "a") 2 (row 1 10) ∷ line.Session (codes "a") 2 (reply.Done 1) ∷ line.Session (codes "a") 2 (reply.Committed 2) ∷ [])
    (Setup 1 ∷ of_a 2 1 1 ∷ [])

-- The master falls at a commit of a session at another node: the session is lost by its line, and nothing stands.
abbrev pub master_falls : Script
master_falls = script_of 3 2 3 (act.Say (codes "a") (codes "insert into t values(1, 10)") ∷ act.Say (codes "a") (codes "select * from t") ∷ act.Start 1 ∷ [])

abbrev pub master_falls_report : Report
master_falls_report = report_with
    (line.Session (codes "a") 1 (reply.Begin 1) ∷ line.Session (codes "a") 1 (reply.Changed 1) ∷ line.Down 1 1 true ∷ line.Session (codes "a") 1 (reply.Lost 1 1) ∷ line.Session (codes "a") 2 (reply.Begin 1) ∷ line.Session (codes "a") 2 (reply.Done 0) ∷ line.Session (codes "a") 2 (reply.Committed 1) ∷ line.Up 1 ∷ [])
    (Setup 1 ∷ [])

-- A node goes down and comes back while a transaction is open at it, which is lost all the same.
abbrev pub came_back : Script
came_back = script_of 3 2 3 (act.Say (codes "a") (codes "begin") ∷ act.Stop 2 ∷ act.Start 2 ∷ act.Say (codes "a") (codes "commit") ∷ [])

abbrev pub came_back_report : Report
came_back_report = report_with
    (line.Session (codes "a") 1 (reply.Begin 1) ∷ line.Down 1 2 false ∷ line.Up 2 ∷ line.Session (codes "a") 1 (reply.Lost 2 1) ∷ [])
    (Setup 1 ∷ [])

-- The arm of a row stops the node of a session behind it: the session is lost.
abbrev pub armed_row : Script
armed_row = script_of 3 2 3 (act.Say (codes "a") (codes "insert into t values(1, 10)") ∷ act.Arm (codes "a") (moment.Row 1) ∷ act.Say (codes "a") (codes "select * from t") ∷ [])

abbrev pub armed_row_report : Report
armed_row_report = report_with
    (line.Session (codes "a") 1 (reply.Begin 1) ∷ line.Session (codes "a") 1 (reply.Changed 1) ∷ line.Session (codes "a") 1 (reply.Committed 2) ∷ line.Session (codes "a") 2 (reply.Begin 2) ∷ line.Session (codes "a") 2 (row 1 10) ∷ line.Down 1 2 false ∷ line.Session (codes "a") 2 (reply.Lost 2 1) ∷ [])
    (Setup 1 ∷ of_a 2 1 1 ∷ [])

-- The same of a session with hasql, which goes on at the next node.
abbrev pub armed_row_survives : Script
armed_row_survives = script_of 3 2 3 (act.Say (codes "a") (codes "insert into t values(1, 10)") ∷ act.Arm (codes "b") (moment.Row 1) ∷ act.Say (codes "b") (codes "select * from t") ∷ act.Say (codes "b") (codes "select * from t") ∷ [])

abbrev pub armed_row_survives_report : Report
armed_row_survives_report = report_with
    (line.Session (codes "a") 1 (reply.Begin 1) ∷ line.Session (codes "a") 1 (reply.Changed 1) ∷ line.Session (codes "a") 1 (reply.Committed 2) ∷ line.Session (codes "b") 1 (reply.Begin 2) ∷ line.Session (codes "b") 1 (row 1 10) ∷ line.Down 1 3 false ∷ line.Session (codes "b") 1 (reply.Done 1) ∷ line.Session (codes "b") 1 (reply.Committed 2) ∷ line.Session (codes "b") 2 (reply.Begin 2) ∷ line.Session (codes "b") 2 (row 1 10) ∷ line.Session (codes "b") 2 (reply.Done 1) ∷ line.Session (codes "b") 2 (reply.Committed 2) ∷ [])
    (Setup 1 ∷ of_a 2 1 1 ∷ [])

-- One node is stopped by the arm of a commit behind the append: the transaction is lost, its entry stands, and nobody is up.
abbrev pub armed_append : Script
armed_append = script_of 1 1 1 (act.Arm (codes "a") moment.Append ∷ act.Say (codes "a") (codes "insert into t values(1, 10)") ∷ act.Say (codes "a") (codes "select * from t") ∷ [])

abbrev pub armed_append_report : Report
armed_append_report = report_with
    (line.Session (codes "a") 1 (reply.Begin 1) ∷ line.Session (codes "a") 1 (reply.Changed 1) ∷ line.Down 1 1 false ∷ line.Session (codes "a") 1 (reply.Lost 1 1) ∷ line.Session (codes "a") 2 (reply.NoMajority 0 1) ∷ [])
    (Setup 1 ∷ of_a 2 1 1 ∷ [])

-- One node falls at a commit and is started again: the entry was kept, and stands.
abbrev pub kept_by_start : Script
kept_by_start = script_of 1 1 1 (act.Say (codes "a") (codes "insert into t values(1, 10)") ∷ act.Start 1 ∷ act.Say (codes "a") (codes "select * from t") ∷ [])

abbrev pub kept_by_start_report : Report
kept_by_start_report = report_with
    (line.Session (codes "a") 1 (reply.Begin 1) ∷ line.Session (codes "a") 1 (reply.Changed 1) ∷ line.Down 1 1 true ∷ line.Session (codes "a") 1 (reply.Lost 1 1) ∷ line.Up 1 ∷ line.Session (codes "a") 2 (reply.Begin 2) ∷ line.Session (codes "a") 2 (row 1 10) ∷ line.Session (codes "a") 2 (reply.Done 1) ∷ line.Session (codes "a") 2 (reply.Committed 2) ∷ [])
    (Setup 1 ∷ of_a 2 1 1 ∷ [])

-- Two of three nodes fall at the opening, and one is started: the schema stands once a majority is up.
abbrev pub late_majority : Script
late_majority = script_of 3 1 3 (act.Start 2 ∷ act.Say (codes "a") (codes "select * from t") ∷ [])

abbrev pub late_majority_report : Report
late_majority_report = report_with
    (line.Down 1 2 true ∷ line.Down 2 3 true ∷ line.Up 2 ∷ line.Session (codes "a") 1 (reply.Begin 1) ∷ line.Session (codes "a") 1 (reply.Done 0) ∷ line.Session (codes "a") 1 (reply.Committed 1) ∷ [])
    (Setup 1 ∷ [])

-- A session with hasql: the master is stopped when the entry is durable, few are up, and nobody is answered until a start.
abbrev pub shipped : Script
shipped = script_of 3 1 3 (act.Stop 2 ∷ act.Arm (codes "b") moment.Ship ∷ act.Say (codes "b") (codes "insert into t values(1, 10)") ∷ act.Say (codes "b") (codes "select * from t") ∷ act.Start 2 ∷ act.Say (codes "b") (codes "select * from t") ∷ [])

abbrev pub shipped_report : Report
shipped_report = report_with
    (line.Down 1 2 false ∷ line.Session (codes "b") 1 (reply.Begin 1) ∷ line.Session (codes "b") 1 (reply.Changed 1) ∷ line.Down 2 1 false ∷ line.Session (codes "b") 1 (reply.NoMajority 1 3) ∷ line.Session (codes "b") 2 (reply.NoMajority 1 3) ∷ line.Up 2 ∷ line.Session (codes "b") 3 (reply.Begin 2) ∷ line.Session (codes "b") 3 (row 1 10) ∷ line.Session (codes "b") 3 (reply.Done 1) ∷ line.Session (codes "b") 3 (reply.Committed 2) ∷ [])
    (Setup 1 ∷ of_b 2 1 1 ∷ [])

-- Both replicas fall at a commit: no majority is up, and the entry stands when one comes back.
abbrev pub few_at_commit : Script
few_at_commit = script_of 3 1 3 (act.Say (codes "a") (codes "insert into t values(1, 10)") ∷ act.Start 2 ∷ act.Say (codes "a") (codes "select * from t") ∷ [])

abbrev pub few_at_commit_report : Report
few_at_commit_report = report_with
    (line.Session (codes "a") 1 (reply.Begin 1) ∷ line.Session (codes "a") 1 (reply.Changed 1) ∷ line.Down 1 2 true ∷ line.Down 2 3 true ∷ line.Session (codes "a") 1 (reply.NoMajority 1 3) ∷ line.Up 2 ∷ line.Session (codes "a") 2 (reply.Begin 2) ∷ line.Session (codes "a") 2 (row 1 10) ∷ line.Session (codes "a") 2 (reply.Done 1) ∷ line.Session (codes "a") 2 (reply.Committed 2) ∷ [])
    (Setup 1 ∷ of_a 2 1 1 ∷ [])

-- Few are up: a commit without operations is told at its begin.
abbrev pub few_but_read : Script
few_but_read = script_of 3 1 1 (act.Say (codes "a") (codes "begin") ∷ act.Stop 2 ∷ act.Stop 3 ∷ act.Say (codes "a") (codes "commit") ∷ [])

abbrev pub few_but_read_report : Report
few_but_read_report = report_with
    (line.Session (codes "a") 1 (reply.Begin 1) ∷ line.Down 1 2 false ∷ line.Down 2 3 false ∷ line.Session (codes "a") 1 (reply.Committed 1) ∷ [])
    (Setup 1 ∷ [])

-- The same of a session with hasql, whose own node stays up: it does not move.
abbrev pub read_while_few : Script
read_while_few = script_of 3 1 3 (act.Say (codes "b") (codes "begin") ∷ act.Stop 1 ∷ act.Stop 2 ∷ act.Say (codes "b") (codes "commit") ∷ [])

abbrev pub read_while_few_report : Report
read_while_few_report = report_with
    (line.Session (codes "b") 1 (reply.Begin 1) ∷ line.Down 1 1 false ∷ line.Down 2 2 false ∷ line.Session (codes "b") 1 (reply.Committed 1) ∷ [])
    (Setup 1 ∷ [])

-- A feed while few are up repeats the position before.
abbrev pub fed_twice : Script
fed_twice = script_of 3 1 3 (act.Say (codes "a") (codes "insert into t values(1, 10)") ∷ act.Barrier ∷ act.Feed ∷ act.Stop 2 ∷ act.Stop 3 ∷ act.Feed ∷ [])

abbrev pub fed_twice_report : Report
fed_twice_report = report_with
    (line.Session (codes "a") 1 (reply.Begin 1) ∷ line.Session (codes "a") 1 (reply.Changed 1) ∷ line.Session (codes "a") 1 (reply.Committed 2) ∷ line.Barrier ∷ line.Fed 2 ∷ line.Down 1 2 false ∷ line.Down 2 3 false ∷ line.Fed 2 ∷ [])
    (Setup 1 ∷ of_a 2 1 1 ∷ [])

-- One node and a session with hasql: it moves to the same node, is told that no majority is up where none is, and its commit is skipped.
abbrev pub moves_on_one : Script
moves_on_one = script_of 1 1 1 (act.Say (codes "b") (codes "begin") ∷ act.Say (codes "b") (codes "insert into t values(1, 10)") ∷ act.Stop 1 ∷ act.Start 1 ∷ act.Say (codes "b") (codes "commit") ∷ act.Say (codes "b") (codes "begin") ∷ act.Stop 1 ∷ act.Say (codes "b") (codes "select * from t") ∷ act.Say (codes "b") (codes "commit") ∷ [])

abbrev pub moves_on_one_report : Report
moves_on_one_report = report_with
    (line.Session (codes "b") 1 (reply.Begin 1) ∷ line.Session (codes "b") 1 (reply.Changed 1) ∷ line.Down 1 1 false ∷ line.Up 1 ∷ line.Session (codes "b") 1 (reply.Committed 2) ∷ line.Session (codes "b") 2 (reply.Begin 2) ∷ line.Down 2 1 false ∷ line.Session (codes "b") 2 (reply.NoMajority 0 1) ∷ [])
    (Setup 1 ∷ of_b 2 1 1 ∷ [])

-- The master is stopped behind the append, before the entry is shipped, and comes back: the lost transaction stands.
abbrev pub lost_stands : Script
lost_stands = script_of 3 2 3 (act.Say (codes "a") (codes "insert into t values(1, 10)") ∷ act.Stop 3 ∷ act.Arm (codes "a") moment.Append ∷ act.Say (codes "a") (codes "insert into t values(2, 20)") ∷ act.Start 1 ∷ act.Say (codes "a") (codes "select * from t") ∷ [])

abbrev pub lost_stands_report : Report
lost_stands_report = report_with
    (line.Session (codes "a") 1 (reply.Begin 1) ∷ line.Session (codes "a") 1 (reply.Changed 1) ∷ line.Session (codes "a") 1 (reply.Committed 2) ∷ line.Down 1 3 false ∷ line.Session (codes "a") 2 (reply.Begin 2) ∷ line.Session (codes "a") 2 (reply.Changed 1) ∷ line.Down 2 1 false ∷ line.Session (codes "a") 2 (reply.Lost 1 2) ∷ line.Up 1 ∷ line.Session (codes "a") 3 (reply.Begin 3) ∷ line.Session (codes "a") 3 (row 1 10) ∷ line.Session (codes "a") 3 (row 2 20) ∷ line.Session (codes "a") 3 (reply.Done 2) ∷ line.Session (codes "a") 3 (reply.Committed 3) ∷ [])
    (Setup 1 ∷ of_a 2 1 1 ∷ of_a 3 2 2 ∷ [])

-- A start fails, of a node that is down, by a fault.
abbrev pub falls_while_down : Script
falls_while_down = script_of 3 1 3 (act.Start 2 ∷ act.Say (codes "a") (codes "select * from t") ∷ act.Start 2 ∷ [])

abbrev pub falls_while_down_report : Report
falls_while_down_report = report_with
    (line.Down 1 2 true ∷ line.Down 2 2 true ∷ line.Session (codes "a") 1 (reply.Begin 1) ∷ line.Session (codes "a") 1 (reply.Done 0) ∷ line.Session (codes "a") 1 (reply.Committed 1) ∷ line.Up 2 ∷ [])
    (Setup 1 ∷ [])

-- One node: the setup was appended and not acknowledged, a start takes it, and the node falls again.
abbrev pub taken_and_fallen : Script
taken_and_fallen = script_of 1 1 1 (act.Start 1 ∷ act.Say (codes "a") (codes "select * from t") ∷ [])

abbrev pub taken_and_fallen_report : Report
taken_and_fallen_report = report_with
    (line.Down 1 1 true ∷ line.Up 1 ∷ line.Down 2 1 true ∷ line.Session (codes "a") 1 (reply.NoMajority 0 1) ∷ [])
    (Setup 1 ∷ [])

-- A replica, that of the session, falls at a commit, and then the arm of the commit stops the master: lost by its own line.
abbrev pub falls_and_stops : Script
falls_and_stops = script_of 5 3 3 (act.Arm (codes "a") moment.Ship ∷ act.Say (codes "a") (codes "insert into t values(1, 10)") ∷ [])

abbrev pub falls_and_stops_report : Report
falls_and_stops_report = report_with
    (line.Session (codes "a") 1 (reply.Begin 1) ∷ line.Session (codes "a") 1 (reply.Changed 1) ∷ line.Down 1 3 true ∷ line.Down 2 1 false ∷ line.Session (codes "a") 1 (reply.Lost 3 1) ∷ [])
    (Setup 1 ∷ of_a 2 1 1 ∷ [])

-- A session with hasql: the master is stopped behind the append, and the commit is sent again to the next one.
abbrev pub sent_again : Script
sent_again = script_of 3 1 3 (act.Arm (codes "b") moment.Append ∷ act.Say (codes "b") (codes "insert into t values(1, 10)") ∷ act.Start 1 ∷ act.Say (codes "b") (codes "select * from t") ∷ [])

abbrev pub sent_again_report : Report
sent_again_report = report_with
    (line.Session (codes "b") 1 (reply.Begin 1) ∷ line.Session (codes "b") 1 (reply.Changed 1) ∷ line.Down 1 1 false ∷ line.Session (codes "b") 1 (reply.Committed 2) ∷ line.Up 1 ∷ line.Session (codes "b") 2 (reply.Begin 2) ∷ line.Session (codes "b") 2 (row 1 10) ∷ line.Session (codes "b") 2 (reply.Done 1) ∷ line.Session (codes "b") 2 (reply.Committed 2) ∷ [])
    (Setup 1 ∷ of_b 2 1 1 ∷ [])

-- Both replicas fall at the opening, behind the schema's entry: no majority is up, and it stands.
abbrev pub few_opened : Script
few_opened = script_of 3 1 3 (act.Say (codes "a") (codes "select * from t") ∷ [])

abbrev pub few_opened_report : Report
few_opened_report = report_with (line.Down 1 2 true ∷ line.Down 2 3 true ∷ line.Session (codes "a") 1 (reply.NoMajority 1 3) ∷ []) (Setup 1 ∷ [])

-- The same, where they fall before it: the base is the log of the one node that is up, and no entry is told.
abbrev pub based_on_none_report : Report
based_on_none_report = record { lines = few_opened_report.lines; base = Some 1; entries = []; feeds = []; end = 1 }

-- Then that node is stopped, and the two others are started: the schema comes in by the second start.
abbrev pub opened_later : Script
opened_later = script_of 3 1 3 (act.Stop 1 ∷ act.Start 2 ∷ act.Start 3 ∷ act.Say (codes "a") (codes "select * from t") ∷ [])

abbrev pub opened_later_report : Report
opened_later_report = report_with
    (line.Down 1 2 true ∷ line.Down 2 3 true ∷ line.Down 3 1 false ∷ line.Up 2 ∷ line.Up 3 ∷ line.Session (codes "a") 1 (reply.Begin 1) ∷ line.Session (codes "a") 1 (reply.Done 0) ∷ line.Session (codes "a") 1 (reply.Committed 1) ∷ [])
    (Setup 1 ∷ [])

-- A session with hasql would move at its rollback, while few are up.
abbrev pub moves_at_rollback : Script
moves_at_rollback = script_of 3 1 3 (act.Say (codes "b") (codes "begin") ∷ act.Say (codes "b") (codes "insert into t values(1, 1)") ∷ act.Stop 3 ∷ act.Stop 1 ∷ act.Say (codes "b") (codes "rollback") ∷ [])

abbrev pub moves_at_rollback_report : Report
moves_at_rollback_report = report_with
    (line.Session (codes "b") 1 (reply.Begin 1) ∷ line.Session (codes "b") 1 (reply.Changed 1) ∷ line.Down 1 3 false ∷ line.Down 2 1 false ∷ line.Session (codes "b") 1 (reply.NoMajority 1 3) ∷ [])
    (Setup 1 ∷ [])

-- The master of five is stopped, and two more fall at the election.
abbrev pub falls_at_election : Script
falls_at_election = script_of 5 4 4 (act.Stop 1 ∷ act.Say (codes "a") (codes "insert into t values(1, 10)") ∷ [])

abbrev pub falls_at_election_report : Report
falls_at_election_report = report_with (line.Down 1 1 false ∷ line.Down 2 2 true ∷ line.Down 3 3 true ∷ line.Session (codes "a") 1 (reply.NoMajority 2 5) ∷ []) (Setup 1 ∷ [])

-- Memory is wanting where a missing majority is due.
abbrev pub wanting : Script
wanting = few_opened

abbrev pub wanting_report : Report
wanting_report = report_with (line.Down 1 2 true ∷ line.Down 2 3 true ∷ line.Session (codes "a") 1 reply.NoMemory ∷ []) (Setup 1 ∷ [])

-- The first leader's schema is adopted by a later one, before it became durable: the run goes on over a base of one entry, though
-- all stores were empty.
abbrev pub led_later : Script
led_later = script_of 3 1 3 (act.Stop 1 ∷ act.Start 1 ∷ act.Start 2 ∷ act.Say (codes "a") (codes "insert into t values(1, 10)") ∷ [])

abbrev pub led_later_report : Report
led_later_report = record {
  lines = line.Down 1 2 true ∷ line.Down 2 3 true ∷ line.Down 3 1 false ∷ line.Up 1 ∷ line.Up 2 ∷ line.Session (codes "a") 1 (reply.Begin 1) ∷ line.Session (codes "a") 1 (reply.Changed 1) ∷ line.Session (codes "a") 1 (reply.Committed 2) ∷ [];
  base = Some 1;
  entries = of_a 2 1 1 ∷ [];
  feeds = [];
  end = 2;
}

-- A node leads first and nobody follows it; the base is the longer log of the one that leads later.
abbrev pub followed_later : Script
followed_later = script_of 3 2 3 (act.Stop 1 ∷ act.Start 3 ∷ act.Start 2 ∷ act.Say (codes "a") (codes "insert into t values(1, 10)") ∷ [])

abbrev pub followed_later_report : Report
followed_later_report = record {
  lines = line.Down 1 2 true ∷ line.Down 2 3 true ∷ line.Down 3 1 false ∷ line.Up 3 ∷ line.Up 2 ∷ line.Session (codes "a") 1 (reply.Begin 2) ∷ line.Session (codes "a") 1 (reply.Changed 1) ∷ line.Session (codes "a") 1 (reply.Committed 3) ∷ [];
  base = Some 2;
  entries = of_a 3 1 2 ∷ [];
  feeds = [];
  end = 3;
}

-- Both replicas fall at a commit, and the run ends: the history ends with an entry that is in one store alone.
abbrev pub ends_undurable : Script
ends_undurable = script_of 3 1 3 (act.Say (codes "a") (codes "insert into t values(1, 10)") ∷ [])

abbrev pub ends_undurable_report : Report
ends_undurable_report = report_with
    (line.Session (codes "a") 1 (reply.Begin 1) ∷ line.Session (codes "a") 1 (reply.Changed 1) ∷ line.Down 1 2 true ∷ line.Down 2 3 true ∷ line.Session (codes "a") 1 (reply.NoMajority 1 3) ∷ [])
    (Setup 1 ∷ of_a 2 1 1 ∷ [])

-- The master falls behind the append of a commit, while one other node is up, and comes back first: the lost transaction stands.
abbrev pub tail_stands : Script
tail_stands = script_of 3 2 3 (act.Stop 3 ∷ act.Say (codes "a") (codes "insert into t values(1, 10)") ∷ act.Start 1 ∷ act.Say (codes "a") (codes "select * from t") ∷ [])

abbrev pub tail_stands_report : Report
tail_stands_report = report_with
    (line.Down 1 3 false ∷ line.Session (codes "a") 1 (reply.Begin 1) ∷ line.Session (codes "a") 1 (reply.Changed 1) ∷ line.Down 2 1 true ∷ line.Session (codes "a") 1 (reply.Lost 1 2) ∷ line.Up 1 ∷ line.Session (codes "a") 2 (reply.Begin 2) ∷ line.Session (codes "a") 2 (row 1 10) ∷ line.Session (codes "a") 2 (reply.Done 1) ∷ line.Session (codes "a") 2 (reply.Committed 2) ∷ [])
    (Setup 1 ∷ of_a 2 1 1 ∷ [])

-- A run goes on over a log whose table is another one than the script's: what is told names the log's.
abbrev pub other_tables : Script
other_tables = script_of 3 1 3 (act.Say (codes "a") (codes "insert into t values(1, 10)") ∷ act.Say (codes "a") (codes "insert into t values(1, 2)") ∷ [])

abbrev pub other_script : Script
other_script = record other_tables { tables = record { line = 4; table = record worked_table { name = codes "u" } } ∷ [] }

abbrev pub other_basis : Basis
other_basis = record { language = small_language; script = other_script; origin = record { position = 1; tables = worked_table ∷ []; rows = no_rows (worked_table ∷ []) } }

abbrev pub other_tables_report : Report
other_tables_report = record {
  lines = line.Down 1 2 true ∷ line.Session (codes "a") 1 (reply.Begin 1) ∷ line.Session (codes "a") 1 (reply.Changed 1) ∷ line.Session (codes "a") 1 (reply.Committed 2) ∷ line.Session (codes "a") 2 (reply.Begin 2) ∷ line.Session (codes "a") 2 (reply.Changed 1) ∷ line.Session (codes "a") 2 (reply.Duplicate 2 (codes "t") (codes "pk")) ∷ [];
  base = Some 1;
  entries = of_a 2 1 1 ∷ [];
  feeds = [];
  end = 2;
}

-- An arm of an append waits at a commit that breaks a key of the log before the run: nothing is appended, so it does not fire.
abbrev pub armed_again : Script
armed_again = script_of 3 1 3 (act.Arm (codes "a") moment.Append ∷ act.Say (codes "a") (codes "insert into t values(1, 2)") ∷ [])

abbrev pub over_a_row : Basis
over_a_row = from_log armed_again 2 (apply_all (no_rows (worked_table ∷ [])) (op.Insert 0 (Int (pos 1) ∷ Int (pos 10) ∷ []) ∷ []))

abbrev pub armed_again_report : Report
armed_again_report = record {
  lines = line.Session (codes "a") 1 (reply.Begin 2) ∷ line.Session (codes "a") 1 (reply.Changed 1) ∷ line.Session (codes "a") 1 (reply.Duplicate 2 (codes "t") (codes "pk")) ∷ [];
  base = Some 2;
  entries = [];
  feeds = [];
  end = 2;
}
