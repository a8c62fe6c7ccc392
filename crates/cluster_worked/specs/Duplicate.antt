-- A run in which a commit is refused. The newest event comes first.
--
--     a: w        begins at 1, and is committed at 2
--     b: w        begins at 1 too, and breaks the unique key behind a's row
use Rattle.std.specs.Prelude.{ℕ, List, [], ◌∷◌, None}
use Rattle.cdb_values.specs.Changes.{changes_of}
use Rattle.cdb_values.specs.Rows.{no_rows, apply_all}
use Rattle.cdb_values.specs.declared.replies.Reply.{Reply}
use Rattle.cdb_values.specs.declared.replies.Reply.TheVariants as reply
use Rattle.cdb_values.specs.declared.rows.Level.TheVariants.{Snapshot}
use Rattle.cluster_consensus.specs.Events.NodeEvent.{Grow, Append, LearnLead, Probe, Confirm}
use Rattle.cluster_events.specs.Parts.{ActorEvent}
use Rattle.cluster_events.specs.Parts.ActorEvent.{Node, Settle, Ask, Begun, Say, Send, Finish, Fed}
use Rattle.cluster_events.specs.Settings.{Setting}
use Rattle.cluster_requests.specs.KeptEntries.{KeptEntry}
use Rattle.cluster_requests.specs.KeptEntries.KeptEntry.{CommitKept}
use Rattle.cluster_requests.specs.Requests.{Sent}
use Rattle.cluster_worked.specs.SetUp.{setup, set_up}
use Rattle.cluster_worked.specs.Words.{its_ops, its_table, setting_of}
use Rattle.phys_log.specs.declared.entries.CommitId.{CommitId}
use Rattle.report_text.specs.declared.reports.EntryLine.TheVariants as entry
use Rattle.report_text.specs.declared.reports.FeedLine.{FeedLine}
use Rattle.report_text.specs.declared.reports.Line.{Line}
use Rattle.report_text.specs.declared.reports.Line.TheVariants as line
use Rattle.report_text.specs.declared.reports.Report.{Report}
use Rattle.script_form.specs.declared.scripts.Act.TheVariants as act
use Rattle.script_form.specs.declared.scripts.BodyLine.{BodyLine}

abbrev pub body : List BodyLine
body = record { line = 6; act = act.Say (97 ∷ []) (119 ∷ []) } ∷ record { line = 7; act = act.Say (98 ∷ []) (119 ∷ []) } ∷ []

abbrev pub setting : Setting
setting = setting_of body

-- the first transaction of the session of that name, and the request of its commit
abbrev pub id_of : ℕ → CommitId
id_of name = record { began = 1; session = name ∷ []; txn = 1 }

abbrev pub sent_by : ℕ → Sent
sent_by name = record { by = name; id = id_of name; to = 1; gen = 1; begin = 1; level = Snapshot; ops = its_ops; used = [] }

abbrev pub commit : KeptEntry
commit = CommitKept 1 (id_of 97) 1 Snapshot (changes_of its_ops 1) [] (apply_all (no_rows (its_table ∷ [])) its_ops)

abbrev pub refusal : Reply
refusal = reply.Duplicate 2 (116 ∷ []) (107 ∷ [])

-- both begin, and send their commits
abbrev pub begun : List (ℕ × ActorEvent)
begun = (97, Begun 1 1) ∷ (2, Node (Confirm 7 1)) ∷ (1, Node (Probe 7)) ∷ (97, Ask 7) ∷ set_up

abbrev pub begun_both : List (ℕ × ActorEvent)
begun_both = (98, Begun 1 1) ∷ (2, Node (Confirm 8 1)) ∷ (1, Node (Probe 8)) ∷ (98, Ask 8) ∷ begun

abbrev pub sent : List (ℕ × ActorEvent)
sent = (97, Send (sent_by 97)) ∷ (97, Say (reply.Changed 1)) ∷ begun_both

abbrev pub sent_both : List (ℕ × ActorEvent)
sent_both = (98, Send (sent_by 98)) ∷ (98, Say (reply.Changed 1)) ∷ sent

-- the leader appends a's, and refuses b's
abbrev pub settled : List (ℕ × ActorEvent)
settled = (1, Settle (id_of 98) refusal) ∷ (1, Node (LearnLead 2)) ∷ (2, Node (Grow (setup ∷ commit ∷ []))) ∷ (1, Node (Append commit)) ∷ sent_both

abbrev pub told : List (ℕ × ActorEvent)
told = (98, Finish refusal) ∷ (97, Finish (reply.Committed 2)) ∷ settled

-- the feed at the end is answered
abbrev pub finished : List (ℕ × ActorEvent)
finished = (0, Fed 2 1) ∷ (2, Node (Confirm 9 1)) ∷ (1, Node (Probe 9)) ∷ (0, Ask 9) ∷ told

abbrev pub its_lines : List Line
its_lines = line.Session (97 ∷ []) 1 (reply.Begin 1) ∷ line.Session (98 ∷ []) 1 (reply.Begin 1) ∷ line.Session (97 ∷ []) 1 (reply.Changed 1) ∷ line.Session (98 ∷ []) 1 (reply.Changed 1)
    ∷ line.Session (97 ∷ []) 1 (reply.Committed 2) ∷ line.Session (98 ∷ []) 1 refusal ∷ line.Fed 2 ∷ []

-- the watched table's one change was taken
abbrev pub its_feeds : List FeedLine
its_feeds = record { place = 1; table = 116 ∷ []; taken = 1; dropped = 0 } ∷ []

abbrev pub its_report : Report
its_report = record { lines = its_lines; base = None; entries = entry.Setup 1 ∷ entry.Commit 2 (97 ∷ []) 1 1 Snapshot ∷ []; feeds = its_feeds; end = 2 }
