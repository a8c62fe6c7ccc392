-- A run from the first line of its script to the feed at its end. The newest event comes first.
--
--     a: w            begins at 1, and is committed at 2
--     barrier
--     stop 3
--     start 3
--     on b row 1      stops node 2, where b is, in its first transaction
--     b: r            begins while node 3 is stopped, is told what a wrote, and is lost
--     start 2
--     b: r            reads what a wrote
--
-- Node 1 leads.
use Rattle.std.specs.Prelude.{ℕ, List, [], ◌∷◌, None, false}
use Rattle.cdb_values.specs.Changes.{changes_of}
use Rattle.cdb_values.specs.Rows.{no_rows, apply_all}
use Rattle.cdb_values.specs.declared.replies.Reply.TheVariants as reply
use Rattle.cdb_values.specs.declared.rows.Level.TheVariants.{Snapshot}
use Rattle.cluster_consensus.specs.Events.NodeEvent.{Back, Grow, Append, LearnLead, Probe, Confirm}
use Rattle.cluster_events.specs.Parts.{ActorEvent}
use Rattle.cluster_events.specs.Parts.ActorEvent.{Node, Stop, Ask, Begun, Say, Send, Finish, Order, Obeyed, Fire, Barrier, Fed}
use Rattle.cluster_events.specs.Settings.{Setting}
use Rattle.cluster_requests.specs.KeptEntries.{KeptEntry}
use Rattle.cluster_requests.specs.KeptEntries.KeptEntry.{CommitKept}
use Rattle.cluster_requests.specs.Requests.{Sent}
use Rattle.cluster_worked.specs.SetUp.{setup, set_up}
use Rattle.cluster_worked.specs.Words.{its_row, its_ops, its_table, setting_of}
use Rattle.phys_log.specs.declared.entries.CommitId.{CommitId}
use Rattle.report_text.specs.declared.reports.EntryLine.TheVariants as entry
use Rattle.report_text.specs.declared.reports.FeedLine.{FeedLine}
use Rattle.report_text.specs.declared.reports.Line.{Line}
use Rattle.report_text.specs.declared.reports.Line.TheVariants as line
use Rattle.report_text.specs.declared.reports.Report.{Report}
use Rattle.script_form.specs.declared.scripts.Act.TheVariants as act
use Rattle.script_form.specs.declared.scripts.BodyLine.{BodyLine}
use Rattle.script_form.specs.declared.scripts.Moment.TheVariants as moment

abbrev pub body : List BodyLine
body = record { line = 6; act = act.Say (97 ∷ []) (119 ∷ []) } ∷ record { line = 7; act = act.Barrier } ∷ record { line = 8; act = act.Stop 3 } ∷ record { line = 9; act = act.Start 3 } ∷ record { line = 10; act = act.Arm (98 ∷ []) (moment.Row 1) } ∷ record { line = 11; act = act.Say (98 ∷ []) (114 ∷ []) } ∷ record { line = 12; act = act.Start 2 } ∷ record { line = 13; act = act.Say (98 ∷ []) (114 ∷ []) } ∷ []

abbrev pub setting : Setting
setting = setting_of body

abbrev pub its_id : CommitId
its_id = record { began = 1; session = 97 ∷ []; txn = 1 }

abbrev pub commit : KeptEntry
commit = CommitKept 1 its_id 1 Snapshot (changes_of its_ops 1) [] (apply_all (no_rows (its_table ∷ [])) its_ops)

abbrev pub its_sent : Sent
its_sent = record { by = 97; id = its_id; to = 1; gen = 1; begin = 1; level = Snapshot; ops = its_ops; used = [] }

-- a begins, is answered, sends its commit, and is told where it stands
abbrev pub begun : List (ℕ × ActorEvent)
begun = (97, Begun 1 1) ∷ (2, Node (Confirm 7 1)) ∷ (1, Node (Probe 7)) ∷ (97, Ask 7) ∷ set_up

abbrev pub sent : List (ℕ × ActorEvent)
sent = (97, Send its_sent) ∷ (97, Say (reply.Changed 1)) ∷ begun

abbrev pub committed : List (ℕ × ActorEvent)
committed = (97, Finish (reply.Committed 2)) ∷ (1, Node (LearnLead 2)) ∷ (2, Node (Grow (setup ∷ commit ∷ []))) ∷ (1, Node (Append commit)) ∷ sent

-- the operator tells the barrier, and stops node 3
abbrev pub barred : List (ℕ × ActorEvent)
barred = (0, Barrier) ∷ committed

abbrev pub stopped : List (ℕ × ActorEvent)
stopped = (3, Stop) ∷ (0, Order) ∷ barred

-- b begins at node 2
abbrev pub begun_on : List (ℕ × ActorEvent)
begun_on = (98, Begun 2 1) ∷ (2, Node (Confirm 8 1)) ∷ (1, Node (Probe 8)) ∷ (98, Ask 8) ∷ stopped

-- node 3 is started again
abbrev pub started : List (ℕ × ActorEvent)
started = (0, Obeyed) ∷ (3, Node (Back 0)) ∷ (0, Order) ∷ (0, Obeyed) ∷ begun_on

-- b is told a row, the arm fires, and node 2 is stopped: b's transaction is lost
abbrev pub fired : List (ℕ × ActorEvent)
fired = (98, Fire 4 2) ∷ (98, Say (reply.Row its_row)) ∷ started

abbrev pub lost : List (ℕ × ActorEvent)
lost = (98, Finish (reply.Lost 2 2)) ∷ (2, Stop) ∷ fired

-- node 2 is started again, and b begins again and reads
abbrev pub started_on : List (ℕ × ActorEvent)
started_on = (0, Obeyed) ∷ (2, Node (Back 1)) ∷ (0, Order) ∷ lost

abbrev pub begun_again : List (ℕ × ActorEvent)
begun_again = (98, Begun 2 1) ∷ (2, Node (Confirm 9 1)) ∷ (1, Node (Probe 9)) ∷ (98, Ask 9) ∷ started_on

abbrev pub read : List (ℕ × ActorEvent)
read = (98, Finish (reply.Committed 2)) ∷ (98, Say (reply.Done 1)) ∷ (98, Say (reply.Row its_row)) ∷ begun_again

-- the feed at the end is answered
abbrev pub finished : List (ℕ × ActorEvent)
finished = (0, Fed 2 1) ∷ (2, Node (Confirm 10 1)) ∷ (1, Node (Probe 10)) ∷ (0, Ask 10) ∷ read

abbrev pub its_lines : List Line
its_lines = line.Session (97 ∷ []) 1 (reply.Begin 1) ∷ line.Session (97 ∷ []) 1 (reply.Changed 1) ∷ line.Session (97 ∷ []) 1 (reply.Committed 2) ∷ line.Barrier ∷ line.Down 1 3 false
    ∷ line.Session (98 ∷ []) 1 (reply.Begin 2) ∷ line.Up 3 ∷ line.Session (98 ∷ []) 1 (reply.Row its_row) ∷ line.Down 2 2 false ∷ line.Session (98 ∷ []) 1 (reply.Lost 2 2) ∷ line.Up 2
    ∷ line.Session (98 ∷ []) 2 (reply.Begin 2) ∷ line.Session (98 ∷ []) 2 (reply.Row its_row) ∷ line.Session (98 ∷ []) 2 (reply.Done 1) ∷ line.Session (98 ∷ []) 2 (reply.Committed 2) ∷ line.Fed 2 ∷ []

-- the watched table's one change was taken
abbrev pub its_feeds : List FeedLine
its_feeds = record { place = 1; table = 116 ∷ []; taken = 1; dropped = 0 } ∷ []

abbrev pub its_report : Report
its_report = record { lines = its_lines; base = None; entries = entry.Setup 1 ∷ entry.Commit 2 (97 ∷ []) 1 1 Snapshot ∷ []; feeds = its_feeds; end = 2 }
