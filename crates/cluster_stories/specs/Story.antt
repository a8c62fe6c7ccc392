-- Three nodes over empty stores, and one session with one line, which is armed: the first master adopts nothing and sets up the schema, the
-- line begins, is answered, sent, appended, and committed. The newest event comes first.
use Rattle.std.specs.Prelude.{ℕ, ◌==◌, Bool, cond, List, [], ◌∷◌, true, false}
use Rattle.cdb_values.specs.Rows.{no_rows, apply_all}
use Rattle.cdb_values.specs.Changes.{changes_of}
use Rattle.cdb_values.specs.declared.rows.Level.TheVariants.{Snapshot}
use Rattle.cdb_values.specs.declared.rows.RowOp.{RowOp}
use Rattle.cdb_values.specs.declared.rows.RowOp.TheVariants.{Insert}
use Rattle.cluster_consensus.specs.Events.NodeEvent.{Admits, Boot, Stand, Grants, Lead, Take, Grow, Append, LearnLead, Probe, Confirm}
use Rattle.cluster_requests.specs.KeptEntries.{KeptEntry}
use Rattle.cluster_requests.specs.KeptEntries.KeptEntry.{SetupKept, CommitKept}
use Rattle.cluster_requests.specs.Requests.{Sent}
use Rattle.phys_log.specs.declared.entries.CommitId.{CommitId}
use Rattle.cdb_values.specs.declared.replies.Reply.TheVariants as reply
use Rattle.script_form.specs.declared.scripts.Act.TheVariants as act
use Rattle.script_form.specs.declared.scripts.Moment.TheVariants as moment
use Rattle.script_form.specs.declared.scripts.Script.{Script}
use Rattle.session_language.specs.Language.{Language, OtherText}
use Rattle.cluster_events.specs.Settings.{Setting}
use Rattle.cluster_events.specs.Parts.{ActorEvent}
use Rattle.cluster_events.specs.Parts.ActorEvent.{Node, Ask, Begun, Say, Send, Finish}

abbrev pub its_ops : List RowOp
its_ops = Insert 0 [] ∷ []

-- each text inserts a row
abbrev pub inserting : Language
inserting = record { kind = λ text. OtherText; answer = λ tables versions done text. record { replies = reply.Changed 1 ∷ []; ops = Insert 0 [] ∷ []; uses = []; ranges = []; failed = false } }

-- with a session that survives the fall of its node, or one that does not
abbrev pub script_as : Bool → Script
script_as hasql = record { nodes = 3; cluster = []; workers = 1; sessions = record { line = 2; name = 115 ∷ []; node = 1; hasql = hasql } ∷ []; tables = []; watches = []; body = record { line = 3; act = act.Arm (115 ∷ []) moment.Append } ∷ record { line = 4; act = act.Say (115 ∷ []) (120 ∷ []) } ∷ record { line = 5; act = act.Start 1 } ∷ [] }

abbrev pub given_as : Bool → Setting
given_as hasql = record { nodes = 3; language = inserting; script = script_as hasql; tables = []; names = λ i. cond (i == 4) (115 ∷ []) (i ∷ i ∷ []); phase = λ s told. 0; armed = λ s told line. true }

abbrev pub script : Script
script = script_as true

abbrev pub given : Setting
given = given_as true

-- the same, where a barrier stands before its line
abbrev pub barred : Setting
barred = record given { phase = λ s told. 1 }

abbrev pub setup : KeptEntry
setup = SetupKept 1 [] [] (no_rows [])

abbrev pub its_id : CommitId
its_id = record { began = 1; session = 115 ∷ []; txn = 1 }

abbrev pub commit : KeptEntry
commit = CommitKept 1 its_id 1 Snapshot (changes_of its_ops 1) [] (apply_all (no_rows []) its_ops)

abbrev pub its_sent : Sent
its_sent = record { by = 4; id = its_id; to = 1; gen = 1; begin = 1; level = Snapshot; ops = its_ops; used = [] }

abbrev pub opened : List (ℕ × ActorEvent)
opened = (3, Node (Boot 0 0 [])) ∷ (2, Node (Boot 0 0 [])) ∷ (1, Node (Boot 0 0 [])) ∷ (0, Node (Admits 3 0 0)) ∷ (0, Node (Admits 2 0 0)) ∷ (0, Node (Admits 1 0 0)) ∷ []

abbrev pub led : List (ℕ × ActorEvent)
led = (2, Node (Take 1 [])) ∷ (1, Node Lead) ∷ (2, Node (Grants 1 1)) ∷ (1, Node (Stand 1)) ∷ opened

abbrev pub set_up : List (ℕ × ActorEvent)
set_up = (1, Node (LearnLead 1)) ∷ (2, Node (Grow (setup ∷ []))) ∷ (1, Node (Append setup)) ∷ led

abbrev pub begun : List (ℕ × ActorEvent)
begun = (4, Begun 1 1) ∷ (2, Node (Confirm 7 1)) ∷ (1, Node (Probe 7)) ∷ (4, Ask 7) ∷ set_up

abbrev pub sent : List (ℕ × ActorEvent)
sent = (4, Send its_sent) ∷ (4, Say (reply.Changed 1)) ∷ begun

abbrev pub committed : List (ℕ × ActorEvent)
committed = (4, Finish (reply.Committed 2)) ∷ (1, Node (LearnLead 2)) ∷ (2, Node (Grow (setup ∷ commit ∷ []))) ∷ (1, Node (Append commit)) ∷ sent
