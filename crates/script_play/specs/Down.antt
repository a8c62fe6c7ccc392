-- A node that goes down in a run: by a fault of its store, where the entry of a commit is to be kept.
--
-- The line of the report that it went down is the one that can stand in a run on one node: the first, of node 1, by a fault.
-- The transaction at its commit is lost by it, and has no entry in the history; what it was told before its outcome stays.
-- The log of the node has that entry, and no one was told of it.
--
-- From there on nothing is read and nothing is appended. A transaction that is open since is lost at the next line of its
-- session, whatever that line is, and none begins, since no majority is up.
use Rattle.std.specs.Prelude.{◌≡◌, ℕ, ◌+◌, ◌-◌, ◌≤◌, ◌++◌, ◌∷◌, [], List, Bool, true, false, Option, Some, None, length, take, ◌⊎◌}
use Rattle.cdb_outside.specs.Faults.{Rose}
use Rattle.cdb_values.specs.declared.rows.Level.{Level}
use Rattle.node_log.specs.Logged.{Logged, Leaves, with_entry}
use Rattle.phys_log.specs.declared.entries.Entry.{Entry}
use Rattle.report_laws.specs.Told.{lines_of}
use Rattle.report_text.specs.declared.reports.EntryLine.{EntryLine}
use Rattle.report_text.specs.declared.reports.EntryLine.TheVariants.{Commit}
use Rattle.report_text.specs.declared.reports.Line.{Line}
use Rattle.report_text.specs.declared.reports.Line.TheVariants as line
use Rattle.cdb_values.specs.declared.replies.Reply.{Reply}
use Rattle.cdb_values.specs.declared.replies.Reply.TheVariants as reply
use Rattle.session_language.specs.Each.{StandsIn}
use Rattle.session_language.specs.Language.{Kind}
use Rattle.session_turns.specs.Doing.{SessionAt, Doing}
use Rattle.script_play.specs.EntryLines.{line_of}
use Rattle.script_play.specs.Run.{Run}
use Rattle.session_turns.specs.Away.{turn_away}
use Rattle.session_turns.specs.Step.{Turned}
use Rattle.session_turns.specs.declared.away.Away.{Away}

-- the line that the node went down
abbrev pub down_line : Line
down_line = line.Down 1 1 true

-- the one node as its sessions find it then: it went down by its first line, and none of one is up
abbrev pub node_down : Away
node_down = record { node = 1; down = 1; up = 0; nodes = 1 }

-- what a line does there
abbrev pub turn_down : ℕ → Level → Kind → Doing → Turned
turn_down number level k what = turn_away node_down number level k what

-- a line of a session was told so, and the session is there behind it
pub record IsToldDown (name : List ℕ) (t : Turned) (after : SessionAt) (lines lines' : List Line) : Type 0 where
  pub lines_are : lines' ≡ lines ++ lines_of name t.number t.replies
  pub after_is : after ≡ t.after

-- what is told by a line at whose entry the node goes down: what comes before its outcome, that the node went down, and that
-- the transaction is lost
abbrev pub fallen_lines : List ℕ → ℕ → List Reply → List Line
fallen_lines name number front = lines_of name number front ++ down_line ∷ lines_of name number (reply.Lost 1 1 ∷ [])

-- the history that was told of a log: where the store failed, the last entry is not in it
abbrev pub history_by : Bool → List Entry → List Entry
history_by false es = es
history_by true es = take (length es - 1) es

abbrev pub history_of : Logged → List Entry
history_of l = history_by l.failed l.entries

-- the same log with other entries
abbrev pub with_entries : Logged → List Entry → Logged
with_entries l es = record l { entries = es }

-- whose log it is, and in which generations: a run changes none of these
pub record Owner : Type 0 where
  pub node : ℕ
  pub cluster : ℕ
  pub promised : ℕ
  pub accepted : ℕ

abbrev pub owner_of : Logged → Owner
owner_of l = record { node = l.node; cluster = l.cluster; promised = l.promised; accepted = l.accepted }

-- an entry was appended and kept, and stands in the history
pub record IsAddedToHistory (entry : Entry) (r r' : Run) : Type 0 where
  pub entries_are : r'.entries ≡ r.entries ++ line_of (length r.log.entries + 1) entry ∷ []
  pub log_is : r'.log ≡ record (with_entry r.log entry) { store = r'.log.store }
  pub calm : r'.log.store.faults ≡ r.log.store.faults

-- an entry was appended, but the store failed at it: it stands in the log alone, and what a stop leaves of the store stands
-- for the log without it, or with it
pub record IsFallenAt (entry : Entry) (r r' : Run) : Type 0 where
  pub entries_are : r'.entries ≡ r.entries
  pub log_is : r'.log ≡ record (with_entry r.log entry) { store = r'.log.store; failed = true }
  pub rose : Rose r.log.store.faults r'.log.store.faults
  pub left : Leaves r'.log.store (r.log ∷ with_entry r.log entry ∷ [])

-- the entry of a transaction whose outcome is the last line: it was kept; or the store failed at it, and that line became
-- those that the node went down and that the transaction is lost
abbrev pub IsAppendedSo : List ℕ → ℕ → Entry → Run → Run → Type 0
IsAppendedSo name number entry r r' =
    ((r'.lines ≡ r.lines) × IsAddedToHistory entry r r')
    ⊎ (((front : List Line) (outcome : Line) → r.lines ≡ front ++ outcome ∷ [] → r'.lines ≡ front ++ down_line ∷ lines_of name number (reply.Lost 1 1 ∷ []))
    × IsFallenAt entry r r')

-- the replies to a line that commits an entry: their last is its outcome
pub record HasOutcome (replies : List Reply) : Type 0 where
  pub front : List Reply
  pub outcome : Reply
  pub is : replies ≡ front ++ outcome ∷ []

-- where an entry is to be appended, the replies have an outcome
abbrev pub TellsOutcome : List Reply → Option Entry → Type 0
TellsOutcome replies None = Unit {0}
TellsOutcome replies (Some entry) = HasOutcome replies

-- what is told and kept of a line that appends no entry, and of one that does: its replies, and the entry; or, where the
-- store fails at it, the lines above
abbrev pub IsKeptSo : List ℕ → ℕ → List Reply → Option Entry → Run → Run → Type 0
IsKeptSo name number replies None r r' = (r'.lines ≡ r.lines ++ lines_of name number replies) × (r'.entries ≡ r.entries) × (r'.log ≡ r.log)
IsKeptSo name number replies (Some entry) r r' =
    ((r'.lines ≡ r.lines ++ lines_of name number replies) × IsAddedToHistory entry r r')
    ⊎ ((told : HasOutcome replies) × (r'.lines ≡ r.lines ++ fallen_lines name number told.front) × IsFallenAt entry r r')

-- the line of an entry is that of the transaction that is lost by the line that the node went down, with the begin that it was
-- told
pub record IsLostBy (lines : List Line) (entry : EntryLine) : Type 0 where
  pub front : List Line
  pub back : List Line
  pub position : ℕ
  pub session : List ℕ
  pub number : ℕ
  pub begin : ℕ
  pub level : Level
  pub entry_is : entry ≡ Commit position session number begin level
  pub told : lines ≡ front ++ down_line ∷ line.Session session number (reply.Lost 1 1) ∷ back
  pub begun : StandsIn front (line.Session session number (reply.Begin begin))

-- how the log of a node is held: as long as the node is up, in a generation, and its store stands for it as its type says;
-- where it is down, what a stop leaves of the store stands for the history, or for the log, which has one entry more
abbrev pub IsHeldBy : Bool → ℕ → Logged → Type 0
IsHeldBy false generation log = log.accepted ≡ generation
IsHeldBy true generation log = (1 ≤ length log.entries) × Leaves log.store (with_entries log (history_of log) ∷ log ∷ [])

-- the node went down exactly where a call of its store failed: the count rose there, and else is as it was
abbrev pub IsCaused : Bool → ℕ → ℕ → Type 0
IsCaused false before now = now ≡ before
IsCaused true before now = Rose before now

-- the same of a log whose store had so many faults before the run
pub record IsHeld (generation had : ℕ) (log : Logged) : Type 0 where
  pub held : IsHeldBy log.failed generation log
  pub caused : IsCaused log.failed had log.store.faults
