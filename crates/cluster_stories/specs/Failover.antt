-- The story goes on from the commit that was sent. The newest event comes first.
--
-- It is sent again and repeated; or its leader falls and the next one repeats it; or its transaction is lost and its entry comes back; or the arm fires, the leader is stopped with
-- the entry that nobody took, and the next one appends it anew.
use Rattle.std.specs.Prelude.{ℕ, List, [], ◌∷◌}
use Rattle.cdb_values.specs.Changes.{changes_of}
use Rattle.cdb_values.specs.Rows.{no_rows, apply_all}
use Rattle.cdb_values.specs.declared.replies.Reply.TheVariants as reply
use Rattle.cdb_values.specs.declared.rows.Level.TheVariants.{Snapshot}
use Rattle.cluster_consensus.specs.Events.NodeEvent.{Down, Back, Stand, Grants, Lead, Take, Grow, Append, LearnLead}
use Rattle.cluster_events.specs.Parts.{ActorEvent}
use Rattle.cluster_events.specs.Parts.ActorEvent.{Node, Stop, Repeat, Send, Finish, Move, Order, Obeyed, Fire}
use Rattle.cluster_requests.specs.KeptEntries.{KeptEntry}
use Rattle.cluster_requests.specs.KeptEntries.KeptEntry.{CommitKept}
use Rattle.cluster_requests.specs.Requests.{Sent}
use Rattle.cluster_stories.specs.Story.{its_ops, its_id, setup, commit, its_sent, sent}

-- sent to the next leader, and appended by it
abbrev pub sent_on : Sent
sent_on = record { by = 4; id = its_id; to = 2; gen = 2; begin = 1; level = Snapshot; ops = its_ops; used = [] }

abbrev pub commit_on : KeptEntry
commit_on = CommitKept 2 its_id 1 Snapshot (changes_of its_ops 1) [] (apply_all (no_rows []) its_ops)

abbrev pub appended : List (ℕ × ActorEvent)
appended = (1, Node (Append commit)) ∷ sent

abbrev pub sent_again : List (ℕ × ActorEvent)
sent_again = (4, Send its_sent) ∷ appended

-- the same leader has it already
abbrev pub repeated : List (ℕ × ActorEvent)
repeated = (4, Finish (reply.Committed 2)) ∷ (1, Node (LearnLead 2)) ∷ (2, Node (Grow (setup ∷ commit ∷ []))) ∷ (1, Repeat its_id 2) ∷ sent_again

-- a follower has it, its leader falls, and the session moves to the next one
abbrev pub fallen : List (ℕ × ActorEvent)
fallen = (1, Node Down) ∷ (2, Node (Grow (setup ∷ commit ∷ []))) ∷ appended

abbrev pub moved : List (ℕ × ActorEvent)
moved = (4, Move 2) ∷ (2, Node (LearnLead 2)) ∷ (3, Node (Take 2 (setup ∷ commit ∷ []))) ∷ (2, Node Lead) ∷ (3, Node (Grants 2 2)) ∷ (2, Node (Stand 2)) ∷ fallen

abbrev pub repeated_on : List (ℕ × ActorEvent)
repeated_on = (4, Finish (reply.Committed 2)) ∷ (2, Repeat its_id 2) ∷ (4, Send sent_on) ∷ moved

-- a follower has it, its leader falls, and with it the session's transaction is lost; the next leader has its entry
abbrev pub lost : List (ℕ × ActorEvent)
lost = (4, Finish (reply.Lost 1 1)) ∷ fallen

abbrev pub come_back : List (ℕ × ActorEvent)
come_back = (2, Node (LearnLead 2)) ∷ (3, Node (Take 2 (setup ∷ commit ∷ []))) ∷ (2, Node Lead) ∷ (3, Node (Grants 2 2)) ∷ (2, Node (Stand 2)) ∷ lost

-- the arm fires, and the leader is stopped with an entry that nobody took
abbrev pub fired : List (ℕ × ActorEvent)
fired = (4, Fire 0 1) ∷ appended

abbrev pub stopped : List (ℕ × ActorEvent)
stopped = (1, Stop) ∷ fired

abbrev pub moved_on : List (ℕ × ActorEvent)
moved_on = (4, Move 2) ∷ (3, Node (Take 2 (setup ∷ []))) ∷ (2, Node Lead) ∷ (3, Node (Grants 2 2)) ∷ (2, Node (Stand 2)) ∷ stopped

abbrev pub appended_on : List (ℕ × ActorEvent)
appended_on = (4, Finish (reply.Committed 2)) ∷ (2, Node (LearnLead 2)) ∷ (3, Node (Grow (setup ∷ commit_on ∷ []))) ∷ (2, Node (Append commit_on)) ∷ (4, Send sent_on) ∷ moved_on

-- the first leader is started again, and drops its tail
abbrev pub tail_dropped : List (ℕ × ActorEvent)
tail_dropped = (1, Node (Take 2 (setup ∷ commit_on ∷ []))) ∷ (0, Obeyed) ∷ (1, Node (Back 1)) ∷ (0, Order) ∷ appended_on
