-- The order of play: the report, one line of the script after the other.
--
-- Before the first line nodes may go down, and the schema's entry stands where a majority of them is up then
-- and the history begins with this run. Each line of the script then has its piece of the report behind the
-- pieces of the lines before it: the lines that it prints, and the entry that it appends, if it appends one.
--
-- A line of a session that is answered is told up to its outcome, where it is a transaction of its own, and
-- up to its first line that is no row otherwise; nothing where its transaction was cut short before. What is
-- told at a line speaks of the history of that moment: a begin is at its last position, a conflict within it,
-- a duplicate at its last position; and a line that appends an entry tells that it is committed there.
--
-- A line of a session is not answered, and appends nothing, where its transaction is lost: its node went down
-- since the begin. Or where it begins a transaction and no majority is up. Or where a node goes down while it
-- is committed, by a fault: then that line is printed and the transaction is lost by it. That happens to a
-- transaction with operations alone: no other calls a store. In the place of each of these it may be told that
-- memory is wanting.
--
-- A session is at the node of its line in the script: it never moves here.
use Rattle.std.specs.Prelude.{◌≡◌, ℕ, ◌+◌, ◌≤◌, ◌++◌, ◌∷◌, ◌==◌, ◌&&◌, ◌≢◌, [], List, length, Bool, true, false, Option, Some, None, if◌then◌else◌, ◌⊎◌}
use Rattle.std.specs.List.{AllByRecursion, list_any}
use Rattle.std.specs.Str.{bytes_eq}
use Rattle.cdb_values.specs.declared.rows.Level.{Level}
use Rattle.script_form.specs.declared.scripts.BodyLine.{BodyLine}
use Rattle.script_form.specs.declared.scripts.Act.{Act}
use Rattle.script_form.specs.declared.scripts.Act.TheVariants as act
use Rattle.script_form.specs.declared.scripts.Script.{Script}
use Rattle.script_form.specs.declared.scripts.SessionLine.{SessionLine}
use Rattle.session_language.specs.Each.{StandsIn}
use Rattle.report_laws.specs.Cut.{cuts}
use Rattle.report_laws.specs.History.{Origin, Basis, view_of}
use Rattle.report_laws.specs.Nodes.{downs, is_up, up_count, are_few, first_down}
use Rattle.report_laws.specs.Told.{alone_at, lines_of}
use Rattle.report_laws.specs.View.{View}
use Rattle.report_laws.specs.Work.{Place, Transaction, place_after, transaction_of}
use Rattle.session_language.specs.Replies.{are_up_to, is_last_of, is_outcome}
use Rattle.session_language.specs.Language.{Language, Kind, BeginText, CommitText, RollbackText, LevelText, OtherText}
use Rattle.report_text.specs.declared.reports.Report.{Report}
use Rattle.report_text.specs.declared.reports.EntryLine.{EntryLine}
use Rattle.report_text.specs.declared.reports.EntryLine.TheVariants.{Setup, Commit}
use Rattle.report_text.specs.declared.reports.Line.{Line}
use Rattle.report_text.specs.declared.reports.Line.TheVariants as line
use Rattle.cdb_values.specs.declared.replies.Reply.{Reply}
use Rattle.cdb_values.specs.declared.replies.Reply.TheVariants as reply

-- the number under which a line of a session is told, where it comes at that place of its work
abbrev pub number_by : ℕ → Kind → Option (List (List ℕ)) → ℕ
number_by number BeginText None = number + 1
number_by number CommitText None = 0
number_by number RollbackText None = 0
number_by number (LevelText level) None = 0
number_by number OtherText None = number + 1
number_by number _ (Some texts) = number

abbrev pub number_told : Language → Place → List ℕ → ℕ
number_told language p text = number_by p.number (language.kind text) p.pending

-- whether a line is a transaction of its own, where it comes at that place
abbrev pub is_own_by : Kind → Option (List (List ℕ)) → Bool
is_own_by OtherText None = true
is_own_by BeginText None = false
is_own_by CommitText None = false
is_own_by RollbackText None = false
is_own_by (LevelText level) None = false
is_own_by _ (Some texts) = false

abbrev pub is_own : Language → Place → List ℕ → Bool
is_own language p text = is_own_by (language.kind text) p.pending

-- whether a line begins a transaction, where it comes at that place
abbrev pub begins : Kind → Option (List (List ℕ)) → Bool
begins BeginText None = true
begins OtherText None = true
begins CommitText None = false
begins RollbackText None = false
begins (LevelText level) None = false
begins _ (Some texts) = false

-- whether a transaction is to be committed by it
abbrev pub commits : Kind → Option (List (List ℕ)) → Bool
commits OtherText None = true
commits BeginText None = false
commits CommitText None = false
commits RollbackText None = false
commits (LevelText level) None = false
commits CommitText (Some texts) = true
commits BeginText (Some texts) = false
commits RollbackText (Some texts) = false
commits (LevelText level) (Some texts) = false
commits OtherText (Some texts) = false

-- the node of a session: that of its line in the script
abbrev pub node_among : List ℕ → List SessionLine → ℕ
node_among name [] = 0
node_among name (s ∷ ss) = if bytes_eq s.name name then s.node else node_among name ss

abbrev pub node_of : Script → List ℕ → ℕ
node_of script name = node_among name script.sessions

-- whether a line of the report cuts that transaction of a session short
abbrev pub is_cut_of : List ℕ → ℕ → Line → Bool
is_cut_of session number (line.Session name txn answer) = bytes_eq name session && ((txn == number) && cuts answer)
is_cut_of session number (line.Down count node fault) = false
is_cut_of session number (line.Up node) = false
is_cut_of session number line.Barrier = false
is_cut_of session number (line.Fed position) = false

-- whether that transaction was cut short before
abbrev pub was_cut : List Line → List ℕ → ℕ → Bool
was_cut before session number = list_any (is_cut_of session number) before

abbrev pub is_begin : Reply → Bool
is_begin (reply.Begin position) = true
is_begin _ = false

-- whether a line of the report is the begin of that transaction
abbrev pub is_begin_of : List ℕ → ℕ → Line → Bool
is_begin_of session number (line.Session name txn answer) = bytes_eq name session && ((txn == number) && is_begin answer)
is_begin_of session number (line.Down count node fault) = false
is_begin_of session number (line.Up node) = false
is_begin_of session number line.Barrier = false
is_begin_of session number (line.Fed position) = false

-- the lines behind the begin of that transaction
abbrev pub since_begin : List ℕ → ℕ → List Line → List Line
since_begin session number [] = []
since_begin session number (l ∷ ls) = if is_begin_of session number l then ls else since_begin session number ls

-- the number of the first line by which the open transaction of a session is lost, if it is: it was not cut short
-- before, and its node went down since its begin
abbrev pub loss_of : Script → List Line → List ℕ → ℕ → Option (List (List ℕ)) → Option ℕ
loss_of script before session number None = None
loss_of script before session number (Some texts) =
    if was_cut before session number then None else first_down (node_of script session) (since_begin session number before)

-- whether a line begins a transaction while no majority of the script's nodes is up
abbrev pub lacks_majority : Script → List Line → Kind → Option (List (List ℕ)) → Bool
lacks_majority script before kind pending = begins kind pending && are_few script.nodes before

-- a reply speaks of the history of that moment, whose last position is `now`, and `after` behind the line; no answer
-- tells of a loss or of a missing majority
abbrev pub IsTimely : ℕ → ℕ → Reply → Type 0
IsTimely now after (reply.Begin position) = position ≡ now
IsTimely now after (reply.Row row) = Unit {0}
IsTimely now after (reply.Done rows) = Unit {0}
IsTimely now after (reply.Changed rows) = Unit {0}
IsTimely now after (reply.Error cause) = Unit {0}
IsTimely now after (reply.Level level) = Unit {0}
IsTimely now after reply.RolledBack = Unit {0}
IsTimely now after (reply.Committed position) = position ≤ after
IsTimely now after (reply.ConflictGenid position table genid) = position ≤ now
IsTimely now after (reply.ConflictRange position table key) = position ≤ now
IsTimely now after (reply.Duplicate position table key) = position ≡ now
IsTimely now after (reply.Lost node down) = ⊥
IsTimely now after (reply.NoMajority up nodes) = ⊥
IsTimely now after reply.NoMemory = Unit {0}

-- a line appends no entry, or that of its transaction at the next position, and tells it
abbrev pub IsAppended : ℕ → List ℕ → ℕ → List Reply → List EntryLine → Type 0
IsAppended now session number replies [] = Unit {0}
IsAppended now session number replies (e ∷ es) =
    (es ≡ []) × (begin : ℕ) × (level : Level) × (e ≡ Commit (now + 1) session number begin level) × StandsIn replies (reply.Committed (now + 1))

-- what a line of a session is answered, under that number, and the entries that it appends, behind the
-- lines `before` and at the last position `now`
pub record IsTurn (now : ℕ) (before : List Line) (session : List ℕ) (number : ℕ) (own : Bool) (replies : List Reply) (added : List EntryLine) : Type 0 where
  pub told : (are_up_to (is_last_of own) replies ≡ true) ⊎ ((replies ≡ []) × (was_cut before session number ≡ true))
  pub timely : AllByRecursion (IsTimely now (now + length added)) replies
  pub appended : IsAppended now session number replies added

-- a line of a session, of that kind and with that transaction open or none, is answered: its transaction is not lost, and
-- no majority is wanting
pub record IsLineAnswered (script : Script) (now : ℕ) (before : List Line) (session : List ℕ) (number : ℕ) (kind : Kind) (pending : Option (List (List ℕ))) (mine : List Line) (added : List EntryLine) : Type 0 where
  pub replies : List Reply
  pub says : mine ≡ lines_of session number replies
  pub turn : IsTurn now before session number (is_own_by kind pending) replies added
  pub kept : loss_of script before session number pending ≡ None
  pub majority : lacks_majority script before kind pending ≡ false

-- a reply is this one, or tells of want of memory in its place
abbrev pub IsOrMemory : Reply → Reply → Type 0
IsOrMemory answer told = (told ≡ answer) ⊎ (told ≡ reply.NoMemory)

-- it is told that its transaction is lost
pub record IsLostThere (script : Script) (before : List Line) (session : List ℕ) (number : ℕ) (pending : Option (List (List ℕ))) (mine : List Line) (added : List EntryLine) : Type 0 where
  pub down : ℕ
  pub is_lost : loss_of script before session number pending ≡ Some down
  pub told : Reply
  pub is_told : IsOrMemory (reply.Lost (node_of script session) down) told
  pub says : mine ≡ lines_of session number (told ∷ [])
  pub none : added ≡ []

-- it is told that no majority is up
pub record IsShortThere (script : Script) (before : List Line) (session : List ℕ) (number : ℕ) (kind : Kind) (pending : Option (List (List ℕ))) (mine : List Line) (added : List EntryLine) : Type 0 where
  pub lacks : lacks_majority script before kind pending ≡ true
  pub told : Reply
  pub is_told : IsOrMemory (reply.NoMajority (up_count script.nodes before) script.nodes) told
  pub says : mine ≡ lines_of session number (told ∷ [])
  pub none : added ≡ []

-- what is told before a transaction is committed: its begin and the replies to its text by a line that is a transaction
-- of its own, and nothing by a `commit`
abbrev pub IsToldFirst : ℕ → Bool → List Reply → Type 0
IsToldFirst now true front = (replies : List Reply) × (front ≡ reply.Begin now ∷ replies) × (are_up_to (is_last_of false) replies ≡ true) × (list_any is_outcome replies ≡ false)
IsToldFirst now false front = front ≡ []

-- a node that is up goes down while its transaction is committed, by a fault, and the transaction is lost by that line
pub record FailsThere (script : Script) (now : ℕ) (before : List Line) (session : List ℕ) (number : ℕ) (kind : Kind) (pending : Option (List (List ℕ))) (mine : List Line) (added : List EntryLine) : Type 0 where
  pub at_commit : commits kind pending ≡ true
  pub uncut : was_cut before session number ≡ false
  pub kept : loss_of script before session number pending ≡ None
  pub majority : lacks_majority script before kind pending ≡ false
  pub front : List Reply
  pub first : IsToldFirst now (is_own_by kind pending) front
  pub node : ℕ
  pub of_script : (1 ≤ node) × (node ≤ script.nodes)
  pub was_up : is_up node before ≡ true
  pub told : Reply
  pub is_told : IsOrMemory (reply.Lost node (downs before + 1)) told
  pub says : mine ≡ lines_of session number front ++ line.Down (downs before + 1) node true ∷ lines_of session number (told ∷ [])
  pub none : added ≡ []

-- a line of a session is answered, or one of these keeps it from that
abbrev pub IsSaid : Script → ℕ → List Line → List ℕ → ℕ → Kind → Option (List (List ℕ)) → List Line → List EntryLine → Type 0
IsSaid script now before session number kind pending mine added =
    IsLineAnswered script now before session number kind pending mine added
    ⊎ (IsLostThere script before session number pending mine added
    ⊎ (IsShortThere script before session number kind pending mine added
    ⊎ FailsThere script now before session number kind pending mine added))

-- the same of a line of the script, behind the script's lines `done`; the others print nothing
abbrev pub IsTurnOf : Basis → ℕ → List BodyLine → List Line → Act → List Line → List EntryLine → Type 0
IsTurnOf basis now done before (act.Say session text) mine added =
    IsSaid basis.script now before session (number_told basis.language (place_after basis.language session done) text) (basis.language.kind text) (place_after basis.language session done).pending mine added
IsTurnOf basis now done before _ mine added = (mine ≡ []) × (added ≡ [])

-- lines and entries are those of the script's lines in turn, behind the script's lines `done`, of which
-- the lines `before` were printed and the entries `history` stood then
abbrev pub InTurns : Basis → List BodyLine → List Line → List EntryLine → List BodyLine → List Line → List EntryLine → Type 0
InTurns basis done before history [] lines entries = (lines ≡ []) × (entries ≡ [])
InTurns basis done before history (b ∷ bs) lines entries =
    (mine : List Line) × (others : List Line) × (added : List EntryLine) × (later : List EntryLine)
    × (lines ≡ mine ++ others) × (entries ≡ added ++ later)
    × IsTurnOf basis (view_of basis history).last done before b.act mine added
    × InTurns basis (done ++ b ∷ []) (before ++ mine) (history ++ added) bs others later

-- a line that a node went down
abbrev pub IsDownLine : Line → Type 0
IsDownLine (line.Session name txn answer) = ⊥
IsDownLine (line.Down count node fault) = Unit {0}
IsDownLine (line.Up node) = ⊥
IsDownLine line.Barrier = ⊥
IsDownLine (line.Fed position) = ⊥

-- the entry with which a history begins, where it begins with this run: the schema's
abbrev pub opening : Origin → List EntryLine
opening origin = if origin.position == 0 then Setup 1 ∷ [] else []

-- the entries that stand before the first line of the script, behind these down lines: none where no majority is up
abbrev pub opened_behind : Basis → List Line → List EntryLine
opened_behind basis first = if are_few basis.script.nodes first then [] else opening basis.origin

-- a transaction of a session was told that it begins at a position, and has operations, run alone on the rows there
pub record HasChanges (basis : Basis) (view : View) (before : List Line) (session : List ℕ) (number : ℕ) : Type 0 where
  pub transaction : Transaction
  pub is_its : transaction_of basis.language session number basis.script.body ≡ Some transaction
  pub begin : ℕ
  pub begun : StandsIn before (line.Session session number (reply.Begin begin))
  pub has_ops : (alone_at basis view transaction begin).ops ≢ []

-- a line that a node went down, among the lines behind the opening, stands right before a line of a transaction that was told
-- its begin and has operations
abbrev pub GoDownAtChanges : Basis → View → List Line → List Line → Type 0
GoDownAtChanges basis view first rest =
    (front : List Line) (back : List Line) (count node : ℕ) (fault : Bool) (session : List ℕ) (number : ℕ) (told : Reply)
    → rest ≡ front ++ line.Down count node fault ∷ line.Session session number told ∷ back → HasChanges basis view (first ++ front) session number

pub record InPlayOrder (basis : Basis) (report : Report) : Type 0 where
  -- the nodes that go down before the first line of the script
  pub first : List Line
  pub go_down : AllByRecursion IsDownLine first
  pub rest : List Line
  pub lines_are : report.lines ≡ first ++ rest
  pub later : List EntryLine
  pub opened : report.entries ≡ opened_behind basis first ++ later
  pub order : InTurns basis [] first (opened_behind basis first) basis.script.body rest later
  -- the transactions at whose commit nodes go down later
  pub changes : GoDownAtChanges basis (view_of basis report.entries) first rest
