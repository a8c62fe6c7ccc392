-- When an actor may do an event, after which history: the event says exactly what it does, it may happen there, it is by
-- the script, and the pages of a log that it makes stand for the rows that it keeps.
use Rattle.std.specs.Prelude.{ℕ, ◌≡◌, ◌⊎◌, Some, List, [], ◌∷◌, length, map}
use Rattle.actor_trace.specs.History.{IsLegal}
use Rattle.cdb_values.specs.declared.replies.Reply.{Reply}
use Rattle.cdb_values.specs.declared.tables.TableDef.{TableDef}
use Rattle.cluster_consensus.specs.Events.{NodeEvent, change}
use Rattle.cluster_consensus.specs.Facts.{Own, World}
use Rattle.cluster_consensus.specs.Shipped.{find_log}
use Rattle.cluster_events.specs.ByScript.{IsByScript}
use Rattle.cluster_events.specs.Guards.{AreNamedApart, IsInTransaction, MayDo}
use Rattle.cluster_events.specs.Parts.{ActorEvent, Opened, Part, head_number, part, field}
use Rattle.cluster_events.specs.Premises.{Steady}
use Rattle.cluster_events.specs.Settings.{Setting, lines_to_do}
use Rattle.cluster_masters.specs.WholeLogs.{Leaves}
use Rattle.cluster_requests.specs.KeptEntries.{KeptEntry, plain, state_of}
use Rattle.cluster_requests.specs.KeptEntries.KeptEntry.{SetupKept, CommitKept}
use Rattle.cluster_steps.specs.Named.{log_named, named_up, named, reply_in, steps}
use Rattle.cluster_steps.specs.declared.events.Event.{Event}
use Rattle.cluster_steps.specs.declared.events.Event.TheVariants as event
use Rattle.cluster_steps.specs.declared.events.Woken.{Woken}
use Rattle.cluster_steps.specs.declared.events.Woken.TheVariants as woken
use Rattle.log_replay.specs.Answers.{schema_of}
use Rattle.log_rows.specs.History.{tables_of}
use Rattle.phys_log.specs.Logs.{pages_of}
use Rattle.phys_log.specs.declared.entries.Entry.{Entry}
use Rattle.report_laws.specs.Work.{WorkItem, Transaction, Lone}
use Rattle.report_text.specs.declared.reports.Line.{Line}
use Rattle.report_text.specs.declared.reports.Line.TheVariants as line
use Rattle.table_store.specs.Stored.{Stands}

-- the node has the numbers and the entries that it comes up with
pub record ComesUpWith (o : Own KeptEntry) (promised accepted : ℕ) (entries : List Entry) : Type 0 where
  pub promise : o.promised ≡ promised
  pub acceptance : o.accepted ≡ accepted
  pub log : map plain o.log ≡ entries

-- the log of a length that was shipped in a generation is found
abbrev pub IsLogFound : ℕ → World KeptEntry → ℕ → ℕ → Type 0
IsLogFound n w g l = find_log w g l n ≡ Some (log_named n w g l)

-- a log that a node was about to take is found
abbrev pub IsTakenLogFound : ℕ → World KeptEntry → Woken → ℕ → List Entry → Type 0
IsTakenLogFound n w woken.Took accepted entries = IsLogFound n w accepted (length entries)
IsTakenLogFound n w _ accepted entries = Unit {0}

-- the answer of the line that a session is at, which stands outside a transaction
abbrev pub answer_at : List WorkItem → Reply → Reply
answer_at (Lone r ∷ items) answer = r
answer_at _ answer = answer

-- a line tells a session an answer, of what it is at
abbrev pub IsLineOf : Setting → ℕ → Part → Line → Reply → Type 0
IsLineOf G i p told answer = told ≡ line.Session (G.names i) (head_number p.left) answer

-- a session is in a transaction, and the log is found over whose rows it runs
pub record IsToSend (G : Setting) (w : World KeptEntry) (p : Part) : Type 0 where
  pub txn : Transaction
  pub start : Opened
  pub at : IsInTransaction p txn start
  pub found : IsLogFound G.nodes w start.gen start.begin

-- an event says exactly what it does
abbrev pub IsExact : Setting → List (ℕ × ActorEvent) → ℕ → Event → Type 0
IsExact G g i (event.Up how promised accepted entries) =
    IsTakenLogFound G.nodes (field g).core how accepted entries.value
    × ComesUpWith (change i ((field g).core.nodes i) (named_up G.nodes (field g).core ((field g).core.nodes i) how promised accepted entries.value)) promised accepted entries.value
IsExact G g i (event.Lead generation) = generation ≡ ((field g).core.nodes i).promised
IsExact G g i (event.Take generation l) = IsLogFound G.nodes (field g).core generation l
IsExact G g i (event.Reply told) = IsLineOf G i (part G i g) told (answer_at (part G i g).left (reply_in told))
IsExact G g i (event.Send master generation) = IsToSend G (field g).core (part G i g)
IsExact G g i (event.Outcome told) = IsLineOf G i (part G i g) told (reply_in told)
IsExact G g i _ = Unit {0}

-- a log begins with a setup, and its pages stand for the rows that it keeps
pub record ArePages (l : List KeptEntry) : Type 0 where
  pub schema : schema_of (map plain l) ≡ Some (tables_of (map plain l))
  pub stand : Stands (pages_of (map plain l)) (tables_of (map plain l)) (state_of l)

abbrev pub PagesStand : List KeptEntry → Type 0
PagesStand l = (l ≡ []) ⊎ ArePages l

-- a setup that is appended has the script's schema
abbrev pub IsOfSchema : List TableDef → KeptEntry → Type 0
IsOfSchema tables (SetupKept generation schema records reached) = schema ≡ tables
IsOfSchema tables (CommitKept generation id begin level changes records reached) = Unit {0}

abbrev pub HasSchema : List TableDef → NodeEvent KeptEntry → Type 0
HasSchema tables (NodeEvent.Append e) = IsOfSchema tables e
HasSchema tables (NodeEvent.BackAppend e) = IsOfSchema tables e
HasSchema tables _ = Unit {0}

-- what an event leaves of a node's log
abbrev pub LeavesPages : Setting → List (ℕ × ActorEvent) → ℕ → ActorEvent → Type 0
LeavesPages G g i (ActorEvent.Node e) = Leaves PagesStand ((field g).core.nodes i) e × HasSchema G.tables e
LeavesPages G g i _ = Unit {0}

-- an event of whole histories may happen, by the script, and leaves pages that stand
pub record IsAllowed (G : Setting) (g : List (ℕ × ActorEvent)) (i : ℕ) (e : ActorEvent) : Type 0 where
  pub may : MayDo G g i e
  pub by_script : IsByScript G (lines_to_do G) g i e
  pub pages : LeavesPages G g i e

-- what is asked of a setting: its actors are called by different names, and how far a session is in the barriers never falls
pub record IsPlan (G : Setting) : Type 0 where
  pub apart : AreNamedApart G
  pub steady : Steady G

-- an actor may do an event after a history
pub record MayTakeStep (G : Setting) (h : List (ℕ × Event)) (i : ℕ) (e : Event) : Type 0 where
  pub plan : IsPlan G
  pub exact : IsExact G (steps G h) i e
  pub allowed : IsAllowed G (steps G h) i (named G (steps G h) i e)

-- each event might happen where it happened
abbrev pub AreLegalSteps : Setting → List (ℕ × Event) → Type 0
AreLegalSteps G h = IsLegal (λ g i e. MayTakeStep G g i e) h
