-- Reports of several nodes that are wrong in one line.
use Rattle.std.specs.Prelude.{ℕ, ◌+◌, ◌++◌, ◌∷◌, [], List, take, drop, true, false, None, Some, codes}
use Rattle.cdb_values.specs.declared.rows.Level.TheVariants.{Serializable}
use Rattle.script_form.specs.declared.scripts.Script.{Script}
use Rattle.script_form.specs.declared.scripts.Act.TheVariants as act
use Rattle.script_form.specs.declared.scripts.Moment.TheVariants as moment
use Rattle.report_text.specs.declared.reports.Report.{Report}
use Rattle.report_text.specs.declared.reports.EntryLine.{EntryLine}
use Rattle.report_text.specs.declared.reports.EntryLine.TheVariants.{Setup, Commit}
use Rattle.report_text.specs.declared.reports.Line.{Line}
use Rattle.report_text.specs.declared.reports.Line.TheVariants as line
use Rattle.cdb_values.specs.declared.replies.Reply.{Reply}
use Rattle.cdb_values.specs.declared.replies.Reply.TheVariants as reply
use Rattle.report_worked.specs.Worked.{report_with, row, of_a, of_b, to_a, to_b}
use Rattle.node_stories.specs.Stories.{script_of, lost_stands_report, few_but_read_report, moves_at_rollback_report, taken_and_fallen_report, based_on_none_report, opened_later_report, few_opened_report, led_later_report, falls_while_down_report, master_falls_report, tail_stands_report, falls_at_election_report, came_back_report, falls_and_stops_report, other_tables_report, ends_undurable_report, armed_append_report, followed_later_report, moves_on_one_report, read_while_few_report, armed_again_report, fed_twice_report, wanting_report}

-- one insert of the session a, at that node of so many
abbrev pub insert_at : ℕ → ℕ → Script
insert_at n node = script_of n node 1 (act.Say (codes "a") (codes "insert into t values(1, 10)") ∷ [])

-- its report: these lines between the reply and the outcome
abbrev pub insert_told : List Line → Reply → Report
insert_told falls outcome = report_with (to_a 1 (reply.Begin 1) ∷ to_a 1 (reply.Changed 1) ∷ (falls ++ to_a 1 outcome ∷ [])) (Setup 1 ∷ of_a 2 1 1 ∷ [])

-- lost by its own replica's fall, but told by another node; and told committed
abbrev pub other_node : Report
other_node = insert_told (line.Down 1 2 true ∷ []) (reply.Lost 1 1)

abbrev pub not_lost : Report
not_lost = insert_told (line.Down 1 2 true ∷ []) (reply.Committed 2)

-- both replicas fall, and it is told committed
abbrev pub few_committed : Report
few_committed = insert_told (line.Down 1 2 true ∷ line.Down 2 3 true ∷ []) (reply.Committed 2)

-- a stop at a commit that nobody armed
abbrev pub unarmed_stop : Report
unarmed_stop = insert_told (line.Down 1 2 false ∷ []) (reply.Lost 2 1)

-- one node falls by a fault at the append, does not come up, and the entry stands
abbrev pub unacknowledged : Report
unacknowledged = insert_told (line.Down 1 1 true ∷ []) (reply.Lost 1 1)

-- an arm of a row that comes and does not fire
abbrev pub armed_select : Script
armed_select = script_of 3 2 1 (act.Arm (codes "a") (moment.Row 1) ∷ act.Say (codes "a") (codes "select * from t") ∷ [])

abbrev pub not_fired : Report
not_fired = report_with (to_a 1 (reply.Begin 1) ∷ to_a 1 (row 1 10) ∷ to_a 1 (reply.Done 1) ∷ to_a 1 (reply.Committed 1) ∷ []) (Setup 1 ∷ [])

-- a majority comes up, and the schema's entry does not stand
abbrev pub started : Script
started = script_of 3 1 3 (act.Start 2 ∷ [])

abbrev pub no_schema : Report
no_schema = report_with (line.Down 1 2 true ∷ line.Down 2 3 true ∷ line.Up 2 ∷ []) []

-- an arm of a commit: a replica falls, the commit is told, and the arm did not fire
abbrev pub armed_insert : Script
armed_insert = script_of 3 1 3 (act.Arm (codes "a") moment.Ship ∷ act.Say (codes "a") (codes "insert into t values(1, 10)") ∷ [])

abbrev pub ship_not_fired : Report
ship_not_fired = insert_told (line.Down 1 2 true ∷ []) (reply.Committed 2)

-- a node comes up behind its stop, where the script starts it before
abbrev pub start_then_stop : Script
start_then_stop = script_of 3 1 3 (act.Start 2 ∷ act.Stop 2 ∷ [])

abbrev pub up_by_an_earlier_start : Report
up_by_an_earlier_start = report_with (line.Down 1 2 false ∷ line.Up 2 ∷ []) (Setup 1 ∷ [])

-- an armed stop before a barrier, behind which the session's next line stands
abbrev pub barred_arm : Script
barred_arm = script_of 3 2 1 (act.Arm (codes "a") (moment.Row 1) ∷ act.Barrier ∷ act.Say (codes "a") (codes "select * from t") ∷ [])

abbrev pub stopped_before_the_barrier : Report
stopped_before_the_barrier = report_with (line.Down 1 2 false ∷ line.Barrier ∷ to_a 1 (reply.Begin 1) ∷ to_a 1 (reply.Done 0) ∷ to_a 1 (reply.Committed 1) ∷ []) (Setup 1 ∷ [])

-- an entry of a transaction that is lost at its rollback
abbrev pub rolled_and_lost : Script
rolled_and_lost = script_of 3 2 1 (act.Say (codes "a") (codes "begin") ∷ act.Say (codes "a") (codes "insert into t values(1, 10)") ∷ act.Stop 2 ∷ act.Say (codes "a") (codes "rollback") ∷ [])

abbrev pub entry_of_a_rollback : Report
entry_of_a_rollback = insert_told (line.Down 1 2 false ∷ []) (reply.Lost 2 1)

-- one change of a watched table, of which two were taken
abbrev pub watched_insert : Script
watched_insert = record (insert_at 1 1) { watches = 0 ∷ [] }

abbrev pub too_many_taken : Report
too_many_taken = record {
  lines = to_a 1 (reply.Begin 1) ∷ to_a 1 (reply.Changed 1) ∷ to_a 1 (reply.Committed 2) ∷ line.Fed 2 ∷ [];
  base = None;
  entries = Setup 1 ∷ of_a 2 1 1 ∷ [];
  feeds = record { place = 1; table = codes "t"; taken = 2; dropped = 0 } ∷ [];
  end = 2;
}

-- a row is read before the transaction that wrote it began
abbrev pub insert_and_select : Script
insert_and_select = script_of 3 1 3 (act.Say (codes "a") (codes "insert into t values(1, 10)") ∷ act.Say (codes "b") (codes "select * from t") ∷ [])

abbrev pub read_ahead : Report
read_ahead = report_with
    (to_b 1 (reply.Begin 2) ∷ to_b 1 (row 1 10) ∷ to_b 1 (reply.Done 1) ∷ to_b 1 (reply.Committed 2) ∷ to_a 1 (reply.Begin 1) ∷ to_a 1 (reply.Changed 1) ∷ to_a 1 (reply.Committed 2) ∷ [])
    (Setup 1 ∷ of_a 2 1 1 ∷ [])

-- a missing majority at a commit, while all nodes are up
abbrev pub short_while_all_up : Report
short_while_all_up = report_with (to_a 1 (reply.Begin 1) ∷ to_a 1 (reply.Changed 1) ∷ to_a 1 (reply.NoMajority 3 3) ∷ []) (Setup 1 ∷ [])

-- lost twice by one line that its node went down
abbrev pub two_selects_at_two : Script
two_selects_at_two = script_of 3 2 1 (act.Say (codes "a") (codes "insert into t values(1, 10)") ∷ act.Say (codes "a") (codes "select * from t") ∷ [])

abbrev pub lost_again : Report
lost_again = report_with (to_a 1 (reply.Begin 1) ∷ to_a 1 (reply.Changed 1) ∷ line.Down 1 2 true ∷ to_a 1 (reply.Lost 2 1) ∷ to_a 2 (reply.Begin 1) ∷ to_a 2 (reply.Lost 2 1) ∷ []) (Setup 1 ∷ [])

-- a session that moves is told its row again
abbrev pub told_again : Report
told_again = report_with
    (to_a 1 (reply.Begin 1) ∷ to_a 1 (reply.Changed 1) ∷ to_a 1 (reply.Committed 2) ∷ to_b 1 (reply.Begin 2) ∷ to_b 1 (row 1 10) ∷ line.Down 1 3 true ∷ to_b 1 (row 1 10) ∷ to_b 1 (reply.Done 1) ∷ to_b 1 (reply.Committed 2) ∷ [])
    (Setup 1 ∷ of_a 2 1 1 ∷ [])

-- a commit that was sent again has two entries
abbrev pub entered_again : Report
entered_again = report_with (to_a 1 (reply.Begin 1) ∷ to_a 1 (reply.Changed 1) ∷ to_a 1 (reply.Committed 2) ∷ []) (Setup 1 ∷ of_a 2 1 1 ∷ of_a 3 1 1 ∷ [])

-- a report with another line at a place, counted from 0
abbrev pub with_line : ℕ → Line → Report → Report
with_line place l report = record report { lines = take place report.lines ++ l ∷ drop (place + 1) report.lines }

-- with other entries
abbrev pub with_entries : List EntryLine → Report → Report
with_entries entries report = record report { entries = entries }

-- lost by a line that another node went down, that names this one
abbrev pub lost_by_another_line : Report
lost_by_another_line = with_line 7 (to_a 2 (reply.Lost 1 1)) lost_stands_report

-- a missing majority at a commit without operations
abbrev pub short_without_changes : Report
short_without_changes = with_line 3 (to_a 1 (reply.NoMajority 1 3)) few_but_read_report

-- two of three nodes, and one of one, are a majority
abbrev pub two_of_three : Report
two_of_three = with_line 4 (to_b 1 (reply.NoMajority 2 3)) moves_at_rollback_report

abbrev pub one_of_one : Report
one_of_one = with_line 3 (to_a 1 (reply.NoMajority 1 1)) taken_and_fallen_report

-- a base that is not told
abbrev pub no_base : Report
no_base = record based_on_none_report { base = None }

-- the schema of the first leader and that of the second
abbrev pub two_schemas : Report
two_schemas = record opened_later_report { entries = Setup 1 ∷ Setup 1 ∷ []; end = 2 }

-- lost before it began
abbrev pub lost_unbegun : Report
lost_unbegun = with_line 2 (to_a 1 (reply.Lost 2 1)) few_opened_report

-- an entry behind a gap
abbrev pub behind_a_gap : Report
behind_a_gap = with_entries (of_a 3 1 1 ∷ []) led_later_report

-- a stop of a node that is down
abbrev pub stopped_while_down : Report
stopped_while_down = with_line 1 (line.Down 2 2 false) falls_while_down_report

-- a node comes up that is up
abbrev pub up_though_up : Report
up_though_up = with_line 7 (line.Up 2) master_falls_report

-- an entry of a transaction that begins at it
abbrev pub begun_at_itself : Report
begun_at_itself = with_entries (Setup 1 ∷ of_a 2 1 2 ∷ []) tail_stands_report

-- a number of a down line is passed over
abbrev pub miscounted : Report
miscounted = with_line 1 (line.Down 3 2 true) falls_at_election_report

-- lost by a node that did not go down
abbrev pub lost_at_another : Report
lost_at_another = with_line 3 (to_a 1 (reply.Lost 1 1)) came_back_report

abbrev pub lost_by_the_stop : Report
lost_by_the_stop = with_line 4 (to_a 1 (reply.Lost 1 1)) falls_and_stops_report

-- a duplicate in the script's table, which is not the log's
abbrev pub named_by_the_script : Report
named_by_the_script = with_line 6 (to_a 2 (reply.Duplicate 2 (codes "u") (codes "pk"))) other_tables_report

-- a history of another length than is told
abbrev pub ends_early : Report
ends_early = record ends_undurable_report { end = 1 }

-- an entry at another level than its transaction's
abbrev pub at_another_level : Report
at_another_level = with_entries (Setup 1 ∷ Commit 2 (codes "a") 1 1 Serializable ∷ []) armed_append_report

-- a begin below the base
abbrev pub begun_below : Report
begun_below = with_line 5 (to_a 1 (reply.Begin 1)) followed_later_report

-- a loss of a session with hasql
abbrev pub lost_with_hasql : Report
lost_with_hasql = with_line 7 (to_b 2 (reply.Lost 1 2)) moves_on_one_report

-- the arm of a durable entry fires, and no entry stands
abbrev pub shipped_nothing : Report
shipped_nothing = record (insert_told (line.Down 1 1 false ∷ []) (reply.Lost 1 1)) { entries = Setup 1 ∷ []; end = 1 }

-- a missing majority at such a commit of a session with hasql, which does not move
abbrev pub short_at_a_read : Report
short_at_a_read = with_line 3 (to_b 1 (reply.NoMajority 1 3)) read_while_few_report

-- the arm of an append fires, at a commit that breaks a key of the log before the run
abbrev pub stopped_at_a_duplicate : Report
stopped_at_a_duplicate = record {
  lines = to_a 1 (reply.Begin 2) ∷ to_a 1 (reply.Changed 1) ∷ line.Down 1 1 false ∷ to_a 1 (reply.Lost 1 1) ∷ [];
  base = Some 2;
  entries = [];
  feeds = [];
  end = 2;
}

-- there it is told committed
abbrev pub committed_over_a_row : Report
committed_over_a_row = with_line 2 (to_a 1 (reply.Committed 3)) armed_again_report

-- want of memory is told twice of one transaction
abbrev pub wanting_again : Report
wanting_again = with_line 1 (to_a 1 reply.NoMemory) wanting_report

-- a feed behind the one before it
abbrev pub fed_behind : Report
fed_behind = with_line 7 (line.Fed 1) fed_twice_report

-- What these laws let through, since no report tells it: which node led, and what its log was. A history decides these two.

-- the arm of an append stops a node that did not lead
abbrev pub stops_a_replica : Script
stops_a_replica = script_of 3 1 3 (act.Arm (codes "b") moment.Append ∷ act.Say (codes "b") (codes "insert into t values(1, 10)") ∷ [])

abbrev pub stops_a_replica_report : Report
stops_a_replica_report = report_with
    (line.Session (codes "b") 1 (reply.Begin 1) ∷ line.Session (codes "b") 1 (reply.Changed 1) ∷ line.Down 1 2 false ∷ line.Session (codes "b") 1 (reply.Committed 2) ∷ [])
    (Setup 1 ∷ of_b 2 1 1 ∷ [])

-- the entry of an append that was not shipped stands, though a majority stayed up without it
abbrev pub unshipped_stands : Script
unshipped_stands = script_of 3 2 3 (act.Arm (codes "a") moment.Append ∷ act.Say (codes "a") (codes "insert into t values(1, 10)") ∷ act.Say (codes "a") (codes "select * from t") ∷ [])

abbrev pub unshipped_stands_report : Report
unshipped_stands_report = report_with
    (line.Session (codes "a") 1 (reply.Begin 1) ∷ line.Session (codes "a") 1 (reply.Changed 1) ∷ line.Down 1 1 false ∷ line.Session (codes "a") 1 (reply.Lost 1 1) ∷ line.Session (codes "a") 2 (reply.Begin 2) ∷ line.Session (codes "a") 2 (row 1 10) ∷ line.Session (codes "a") 2 (reply.Done 1) ∷ line.Session (codes "a") 2 (reply.Committed 2) ∷ [])
    (Setup 1 ∷ of_a 2 1 1 ∷ [])
