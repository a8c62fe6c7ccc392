-- The places of lines: each line of a report is right behind the lines before it.
--
-- A node that is up may go down, by a fault of its store, and its line has the next number of these lines. Behind it a
-- session without hasql, which does not go on at another node, may be told that its transaction was lost, once, where it
-- was told no line of another transaction since the node went down. A session is told that no majority is up where, at a
-- place since the line that it was told before, too few nodes are up. Want of memory may come at any time. No node comes up
-- again, and barriers and feeds have no lines, so these have no place yet.
use Rattle.std.specs.Prelude.{◌≡◌, ℕ, ◌+◌, ◌≤◌, ◌==◌, ◌++◌, ◌∷◌, ◌&&◌, [], List, Bool, true, false}
use Rattle.std.specs.List.{list_any, AllByRecursion}
use Rattle.std.specs.Str.{bytes_eq}
use Rattle.script_form.specs.declared.scripts.Script.{Script}
use Rattle.session_language.specs.Each.{StandsIn}
use Rattle.report_laws.specs.Nodes.{downs, is_up, up_count, are_few}
use Rattle.report_laws.specs.Told.{told}
use Rattle.report_text.specs.declared.reports.Line.{Line}
use Rattle.report_text.specs.declared.reports.Line.TheVariants as line
use Rattle.cdb_values.specs.declared.replies.Reply.{Reply}
use Rattle.cdb_values.specs.declared.replies.Reply.TheVariants as reply

-- whether a session goes on at another node where its own goes down, as its line of the script says
abbrev pub survives : Script → List ℕ → Bool
survives script name = list_any (λ s. bytes_eq s.name name && s.hasql) script.sessions

-- whether a reply tells of a loss by the down line of that number
abbrev pub is_loss_by : ℕ → Reply → Bool
is_loss_by down (reply.Begin position) = false
is_loss_by down (reply.Row row) = false
is_loss_by down (reply.Done rows) = false
is_loss_by down (reply.Changed rows) = false
is_loss_by down (reply.Error cause) = false
is_loss_by down (reply.Level level) = false
is_loss_by down reply.RolledBack = false
is_loss_by down (reply.Committed position) = false
is_loss_by down (reply.ConflictGenid position table genid) = false
is_loss_by down (reply.ConflictRange position table key) = false
is_loss_by down (reply.Duplicate position table key) = false
is_loss_by down (reply.Lost node other) = other == down
is_loss_by down (reply.NoMajority up nodes) = false
is_loss_by down reply.NoMemory = false

-- a transaction is lost by a line that its node went down: it began before, its session was told of no other
-- transaction since that line, and of no loss by that line
pub record IsLost (before : List Line) (session : List ℕ) (txn node down : ℕ) : Type 0 where
  pub fault : Bool
  pub front : List Line
  pub back : List Line
  pub stands : before ≡ front ++ line.Down down node fault ∷ back
  pub since : AllByRecursion (λ l. l.0 ≡ txn) (told session back)
  pub begin : ℕ
  pub begun : StandsIn before (line.Session session txn (reply.Begin begin))
  pub once : AllByRecursion (λ l. is_loss_by down l.1 ≡ false) (told session before)

-- at a place since the line that a session was told before, so many of the script's nodes were up, which are few
pub record IsShort (script : Script) (before : List Line) (session : List ℕ) (up nodes : ℕ) : Type 0 where
  pub are_all : nodes ≡ script.nodes
  pub front : List Line
  pub back : List Line
  pub stands : before ≡ front ++ back
  pub since : told session back ≡ []
  pub are_up : up ≡ up_count nodes front
  pub few : are_few nodes front ≡ true

-- a node of the script that is up goes down, by a fault, and the line has the next number
pub record GoesDown (script : Script) (before : List Line) (count node : ℕ) (fault : Bool) : Type 0 where
  pub counted : count ≡ downs before + 1
  pub of_script : (1 ≤ node) × (node ≤ script.nodes)
  pub was_up : is_up node before ≡ true
  pub by_fault : fault ≡ true

-- a reply to a session, under that number, has its cause among the lines before it, if it needs one
abbrev pub HasItsCause : Script → List Line → List ℕ → ℕ → Reply → Type 0
HasItsCause script before session txn (reply.Begin position) = Unit {0}
HasItsCause script before session txn (reply.Row row) = Unit {0}
HasItsCause script before session txn (reply.Done rows) = Unit {0}
HasItsCause script before session txn (reply.Changed rows) = Unit {0}
HasItsCause script before session txn (reply.Error cause) = Unit {0}
HasItsCause script before session txn (reply.Level level) = Unit {0}
HasItsCause script before session txn reply.RolledBack = Unit {0}
HasItsCause script before session txn (reply.Committed position) = Unit {0}
HasItsCause script before session txn (reply.ConflictGenid position table genid) = Unit {0}
HasItsCause script before session txn (reply.ConflictRange position table key) = Unit {0}
HasItsCause script before session txn (reply.Duplicate position table key) = Unit {0}
HasItsCause script before session txn (reply.Lost node down) = (survives script session ≡ false) × IsLost before session txn node down
HasItsCause script before session txn (reply.NoMajority up nodes) = IsShort script before session up nodes
HasItsCause script before session txn reply.NoMemory = Unit {0}

-- a line has its place behind the lines before it
abbrev pub HasItsPlace : Script → List Line → Line → Type 0
HasItsPlace script before (line.Session session txn answer) = HasItsCause script before session txn answer
HasItsPlace script before (line.Down count node fault) = GoesDown script before count node fault
HasItsPlace script before (line.Up node) = ⊥
HasItsPlace script before line.Barrier = ⊥
HasItsPlace script before (line.Fed position) = ⊥
