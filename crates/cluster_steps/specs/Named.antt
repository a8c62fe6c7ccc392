-- What an event is among those of whole histories.
--
-- An event names what it takes: a log by the generation that shipped it and its length, an ask by its ticket, a commit by
-- its session. These are found in the history before it.
use Rattle.std.specs.Prelude.{ℕ, ◌==◌, cond, true, false, Option, Some, None, List, [], ◌∷◌, length, map, slice_get, unwrap_or}
use Rattle.cdb_values.specs.Rows.{Rows, no_rows}
use Rattle.cdb_values.specs.declared.items.Item.TheVariants as item
use Rattle.cdb_values.specs.declared.replies.Reply.{Reply}
use Rattle.cdb_values.specs.declared.replies.Reply.TheVariants as reply
use Rattle.cdb_values.specs.declared.rows.Level.TheVariants.{Snapshot}
use Rattle.cdb_values.specs.declared.tables.TableDef.{TableDef}
use Rattle.cluster_consensus.specs.Events.{NodeEvent}
use Rattle.cluster_consensus.specs.Facts.{Own, World}
use Rattle.cluster_consensus.specs.Shipped.{find_log}
use Rattle.cluster_events.specs.Guards.{commit_id_of}
use Rattle.cluster_events.specs.Parts.{ActorEvent, Opened, part, field}
use Rattle.cluster_events.specs.Settings.{Setting, run_alone}
use Rattle.cluster_requests.specs.KeptEntries.{KeptEntry, state_of}
use Rattle.cluster_requests.specs.KeptEntries.KeptEntry.{SetupKept, CommitKept}
use Rattle.cluster_requests.specs.Requests.{Sent}
use Rattle.cluster_steps.specs.declared.events.Event.{Event}
use Rattle.cluster_steps.specs.declared.events.Event.TheVariants as event
use Rattle.cluster_steps.specs.declared.events.Woken.{Woken}
use Rattle.cluster_steps.specs.declared.events.Woken.TheVariants as woken
use Rattle.log_rows.specs.History.{rows_after}
use Rattle.phys_log.specs.declared.entries.CommitId.{CommitId}
use Rattle.phys_log.specs.declared.entries.Entry.{Entry}
use Rattle.phys_log.specs.declared.entries.Entry.TheVariants as entry
use Rattle.phys_log.specs.declared.requests.Decision.{Decision}
use Rattle.phys_log.specs.declared.requests.Decision.TheVariants as decision
use Rattle.report_laws.specs.Outcome.{name_of_table, name_of_key, line_by, range_line}
use Rattle.report_laws.specs.Work.{WorkItem, Transaction, Does, Lone, Nowhere}
use Rattle.report_text.specs.declared.reports.Line.{Line}
use Rattle.report_text.specs.declared.reports.Line.TheVariants as line
use Rattle.session_language.specs.Intervals.{keys_at}
use Rattle.session_language.specs.Touched.{used_at}

-- an entry with the rows behind it
abbrev pub kept_with : Rows → Entry → KeptEntry
kept_with rows (entry.Setup generation schema records) = SetupKept generation schema records rows
kept_with rows (entry.Commit generation id begin level changes records) = CommitKept generation id begin level changes records rows

-- an entry that is appended to a log has what it makes of the rows there
abbrev pub kept_over : List KeptEntry → Entry → KeptEntry
kept_over log e = kept_with (rows_after (state_of log) e) e

-- the entries of a store all have the rows for which its pages stand
abbrev pub kept_all : Rows → List Entry → List KeptEntry
kept_all rows entries = map (kept_with rows) entries

-- the log that a generation and a length name, of n nodes
abbrev pub log_named : ℕ → World KeptEntry → ℕ → ℕ → List KeptEntry
log_named n w g l = unwrap_or (find_log w g l n) []

-- the entry that stands behind a node's log in the entries that its store has
abbrev pub back_append : ℕ → List KeptEntry → Option Entry → NodeEvent KeptEntry
back_append promised log None = NodeEvent.Back promised
back_append promised log (Some e) = NodeEvent.BackAppend (kept_over log e)

-- how a node comes up, with these numbers and entries
abbrev pub named_up : ℕ → World KeptEntry → Own KeptEntry → Woken → ℕ → ℕ → List Entry → NodeEvent KeptEntry
named_up n w o (woken.First rows) promised accepted entries = NodeEvent.Boot promised accepted
    (kept_all rows.value entries)
named_up n w o woken.AsLeft promised accepted entries = NodeEvent.Back promised
named_up n w o woken.Led promised accepted entries = NodeEvent.BackLead
named_up n w o woken.Took promised accepted entries =
    cond (accepted == o.accepted) (NodeEvent.BackGrow (log_named n w accepted (length entries))) (NodeEvent.BackTake accepted (log_named n w accepted (length entries)))
named_up n w o woken.Appended promised accepted entries = back_append promised o.log (slice_get entries (length o.log))

-- a decision as it is told, where it refuses
abbrev pub duplicate_line : ℕ → Option (List ℕ) → Option (List ℕ) → Option Reply
duplicate_line position (Some table) (Some key) = Some (reply.Duplicate position table key)
duplicate_line position _ _ = None

abbrev pub refusal_line : List TableDef → Decision → Option Reply
refusal_line tables (decision.Repeat position) = None
refusal_line tables (decision.Conflict position (item.Genid used)) = line_by position used.genid (name_of_table tables used.table)
refusal_line tables (decision.Conflict position (item.Range table key)) = range_line position (name_of_table tables table) (name_of_key (keys_at tables table) key)
refusal_line tables (decision.Duplicate position table key) = duplicate_line position (name_of_table tables table) (name_of_key (keys_at tables table) (Some key))
refusal_line tables (decision.Commit next) = None

abbrev pub named_settled : List TableDef → CommitId → Decision → ActorEvent
named_settled tables id (decision.Repeat position) = ActorEvent.Repeat id position
named_settled tables id d = ActorEvent.Settle id (unwrap_or (refusal_line tables d) reply.NoMemory)

-- the answer that a line tells
abbrev pub reply_in : Line → Reply
reply_in (line.Session session txn answer) = answer
reply_in _ = reply.NoMemory

-- an answer inside a transaction, or that of a line outside one
abbrev pub named_reply : List WorkItem → Reply → ActorEvent
named_reply (Lone r ∷ items) answer = ActorEvent.Note
named_reply _ answer = ActorEvent.Say answer

-- the transaction that a session is in, and its begin
abbrev pub current_transaction : List WorkItem → Transaction
current_transaction (Does t ∷ items) = t
current_transaction _ = record { number = 0; texts = []; level = Snapshot; end = Nowhere }

abbrev pub begin_of : Option Opened → Opened
begin_of (Some o) = o
begin_of None = record { begin = 0; gen = 0 }

-- the rows at a begin: those of the log that its leader shipped, up to there
abbrev pub rows_begun : Setting → World KeptEntry → Opened → Rows
rows_begun G w o = state_of (log_named G.nodes w o.gen o.begin)

-- what a session sends at the commit of its transaction, which was begun so and runs over these rows
abbrev pub sent_over : Setting → Rows → ℕ → ℕ → ℕ → Transaction → Opened → Sent
sent_over G rows i master generation t o = record {
  by = i;
  id = commit_id_of G i t o;
  to = master;
  gen = generation;
  begin = o.begin;
  level = t.level;
  ops = (run_alone G rows t).ops;
  used = used_at t.level (run_alone G rows t);
}

abbrev pub sent_of : Setting → World KeptEntry → ℕ → ℕ → ℕ → Transaction → Opened → Sent
sent_of G w i master generation t o = sent_over G (rows_begun G w o) i master generation t o

-- what an event of an actor is, behind a history
abbrev pub named : Setting → List (ℕ × ActorEvent) → ℕ → Event → ActorEvent
named G g i event.Order = ActorEvent.Order
named G g i event.Obeyed = ActorEvent.Obeyed
named G g i (event.Fire place node) = ActorEvent.Fire place node
named G g i (event.Admit node promised accepted) = ActorEvent.Node (NodeEvent.Admits node promised accepted)
named G g i (event.Up how promised accepted entries) = ActorEvent.Node (named_up G.nodes (field g).core ((field g).core.nodes i) how promised accepted entries.value)
named G g i (event.Down fault) = cond fault (ActorEvent.Node NodeEvent.Down) ActorEvent.Stop
named G g i (event.Stand generation) = ActorEvent.Node (NodeEvent.Stand generation)
named G g i (event.Grant generation to) = ActorEvent.Node (NodeEvent.Grants generation to)
named G g i (event.Lead generation) = ActorEvent.Node NodeEvent.Lead
named G g i (event.Take generation l) =
    ActorEvent.Node (cond (generation == ((field g).core.nodes i).accepted) (NodeEvent.Grow (log_named G.nodes (field g).core generation l)) (NodeEvent.Take generation (log_named G.nodes (field g).core generation l)))
named G g i (event.Append next) = ActorEvent.Node (NodeEvent.Append (kept_over ((field g).core.nodes i).log next.value))
named G g i (event.Settle id d) = named_settled G.tables id.value d.value
named G g i (event.Learn l) = ActorEvent.Node
    (cond ((field g).core.nodes i).leading (NodeEvent.LearnLead l) (NodeEvent.LearnFollow l))
named G g i (event.Probe ask) = ActorEvent.Node (NodeEvent.Probe ask)
named G g i (event.Confirm ask generation) = ActorEvent.Node (NodeEvent.Confirm ask generation)
named G g i event.Ask = ActorEvent.Ask (length g)
named G g i (event.Begun position generation) = ActorEvent.Begun position generation
named G g i (event.Reply told) = named_reply (part G i g).left (reply_in told)
named G g i (event.Send master generation) = ActorEvent.Send (sent_of G (field g).core i master generation (current_transaction (part G i g).left) (begin_of (part G i g).opened))
named G g i (event.Outcome told) = ActorEvent.Finish (reply_in told)
named G g i (event.Move node) = ActorEvent.Move node
named G g i event.Barrier = ActorEvent.Barrier
named G g i (event.Fed position generation) = ActorEvent.Fed position generation
named G g i (event.FedAgain position) = ActorEvent.FedAgain position

-- the whole history that a history of named events is
abbrev pub steps : Setting → List (ℕ × Event) → List (ℕ × ActorEvent)
steps G [] = []
steps G (x ∷ h) = (x.0, named G (steps G h) x.0 x.1) ∷ steps G h

-- the nodes after it, and what they told
abbrev pub world : Setting → List (ℕ × Event) → World KeptEntry
world G h = (field (steps G h)).core
