-- What a line of a session prints: one form for all.
--
-- Its piece of the report are lines of the session under one number, and between them lines that nodes went down.
-- Each line is due at its place: behind the lines before the piece and those of the piece before it.
--
-- A line of the session tells that its transaction is lost, exactly where the session is without hasql and its node
-- went down since the begin; it may be lost too by another node that went down at its commit, and is where that
-- was a stop. Where no loss is due it tells that no majority is up, exactly where few nodes are up and it begins a
-- transaction, moves, or is told the outcome of a commit with operations. Else it is answered.
--
-- A node goes down in a piece by the arm of a row, right behind that row; at a commit, between the last reply and
-- the outcome, while a majority is up: by a fault, or by an arm of the commit; and by a fault right behind another.
use Rattle.std.specs.Prelude.{◌≡◌, ◌≢◌, ℕ, ◌+◌, ◌≤◌, ◌++◌, ◌∷◌, ◌==◌, ◌&&◌, ◌||◌, [], List, length, map, Bool, true, false, not, Option, Some, None, if◌then◌else◌, ◌⊎◌}
use Rattle.std.specs.List.{list_any}
use Rattle.cdb_values.specs.Good.{first_broken}
use Rattle.cdb_values.specs.Rows.{apply_all}
use Rattle.cdb_values.specs.declared.rows.Level.{Level}
use Rattle.script_form.specs.declared.scripts.Moment.{Moment}
use Rattle.session_language.specs.Each.{EachAfter, StandsIn}
use Rattle.session_language.specs.Language.{Answered, Kind}
use Rattle.session_language.specs.Replies.{are_up_to, are_none, is_last_of, is_outcome}
use Rattle.session_language.specs.Touched.{used_at}
use Rattle.report_laws.specs.Cut.{cuts}
use Rattle.report_laws.specs.History.{Basis}
use Rattle.report_laws.specs.Nodes.{downs, is_up, up_count, are_few, first_down}
use Rattle.report_laws.specs.Places.{survives}
use Rattle.report_laws.specs.Play.{IsTimely, is_own_by, begins, commits, was_cut, since_begin, is_begin, lacks_majority, HasChanges, IsOrMemory}
use Rattle.report_laws.specs.Told.{alone_at, told}
use Rattle.report_laws.specs.View.{IsUntouched, View}
use Rattle.report_laws.specs.Work.{Transaction, transaction_of}
use Rattle.report_text.specs.declared.reports.EntryLine.{EntryLine}
use Rattle.report_text.specs.declared.reports.EntryLine.TheVariants.{Commit}
use Rattle.report_text.specs.declared.reports.Line.{Line}
use Rattle.report_text.specs.declared.reports.Line.TheVariants as line
use Rattle.cdb_values.specs.declared.replies.Reply.{Reply}
use Rattle.cdb_values.specs.declared.replies.Reply.TheVariants as reply
use Rattle.node_reports.specs.Arms.{of_append, of_commit, stops, is_last_a_down, is_row_due}
use Rattle.node_reports.specs.Site.{Site, site_of, is_gone, is_inside}

-- a line of the script that a session says: by what the report is judged, the history of the whole run, whose line it is,
-- under which number it is told, its kind, the texts of the transaction that is open, the arms that wait for it, and the lines
-- of the report before it
pub record Saying : Type 0 where
  pub basis : Basis
  pub view : View
  pub session : List ℕ
  pub number : ℕ
  pub kind : Kind
  pub pending : Option (List (List ℕ))
  pub arms : List Moment
  pub before : List Line

-- what these lines tell a session
abbrev pub replies_in : List ℕ → List Line → List Reply
replies_in session lines = map (λ t. t.1) (told session lines)

-- where the session is behind these lines of its piece
abbrev pub site_at : Saying → List Line → Site
site_at s front = site_of s.basis.script s.session (s.before ++ front)

-- the lines since its transaction began, which is not cut short: it began in this piece, or is open before it
abbrev pub since_by : Saying → List Line → Option (List (List ℕ)) → List Line
since_by s front None = since_begin s.session s.number front
since_by s front (Some texts) = if was_cut s.before s.session s.number then [] else since_begin s.session s.number s.before ++ front

abbrev pub since_at : Saying → List Line → List Line
since_at s front = since_by s front s.pending

-- the number of the line by which its transaction is lost there, if it is
abbrev pub loss_at : Saying → List Line → Option ℕ
loss_at s front = if survives s.basis.script s.session then None else first_down (site_at s front).node (since_at s front)

-- whether few nodes are up there
abbrev pub few_at : Saying → List Line → Bool
few_at s front = are_few s.basis.script.nodes (s.before ++ front)

-- whether a line told there begins a transaction; and whether the session moves by it
abbrev pub begins_at : Saying → List Line → Bool
begins_at s front = begins s.kind s.pending && are_none (replies_in s.session front)

abbrev pub moves_at : Saying → List Line → Bool
moves_at s front = survives s.basis.script s.session && (is_inside s.session s.number (s.before ++ front) && is_gone (site_at s front))

-- whether all replies before an outcome are told: a begin and the replies to its text by a transaction of its own, none by
-- another line
abbrev pub are_ready : Bool → List Reply → Bool
are_ready false replies = are_none replies
are_ready true [] = false
are_ready true (r ∷ rs) = is_begin r && (are_up_to (is_last_of false) rs && not (list_any is_outcome rs))

-- whether the moment of a commit is there
abbrev pub commits_at : Saying → List Line → Bool
commits_at s front = commits s.kind s.pending && are_ready (is_own_by s.kind s.pending) (replies_in s.session front)

-- whether no majority is up at a begin or a move; and at a commit, since whose begin a node went down
abbrev pub lacks_at : Saying → List Line → Bool
lacks_at s front = (begins_at s front || moves_at s front) && few_at s front

abbrev pub wanes_at : Saying → List Line → Bool
wanes_at s front = commits_at s front && (few_at s front && not (downs (since_at s front) == 0))

-- a reply that no majority is needed for: that a transaction without operations is committed, and want of memory
abbrev pub IsUnsent : Reply → Type 0
IsUnsent (reply.Committed position) = Unit {0}
IsUnsent reply.NoMemory = Unit {0}
IsUnsent _ = ⊥

-- a reply behind a line that a node went down at the commit: that the entry of this line is committed, and want of memory
abbrev pub IsSent : ℕ → ℕ → Reply → Type 0
IsSent now after (reply.Committed position) = after ≡ now + 1
IsSent now after reply.NoMemory = Unit {0}
IsSent now after _ = ⊥

-- it is told that its transaction is lost, by the first line since its begin that its node went down
pub record IsLostAt (s : Saying) (front : List Line) (answer : Reply) : Type 0 where
  pub down : ℕ
  pub is_lost : loss_at s front ≡ Some down
  pub says : IsOrMemory (reply.Lost (site_at s front).node down) answer

-- or by a line of its piece that a node went down, which was the master, at its commit
pub record IsLostByMaster (s : Saying) (front : List Line) (answer : Reply) : Type 0 where
  pub kept : loss_at s front ≡ None
  pub stays : survives s.basis.script s.session ≡ false
  pub at_commit : commits_at s front ≡ true
  pub node : ℕ
  pub down : ℕ
  pub fault : Bool
  pub fell : StandsIn front (line.Down down node fault)
  pub says : IsOrMemory (reply.Lost node down) answer

-- no loss is due: its node did not go down since the begin, and no stop stands in the piece
pub record IsKept (s : Saying) (front : List Line) : Type 0 where
  pub kept : loss_at s front ≡ None
  pub unstopped : (survives s.basis.script s.session ≡ true) ⊎ (stops front ≡ 0)

-- it is told that no majority is up: at a begin or a move, or at the commit of a transaction with operations
pub record IsShortAt (s : Saying) (front : List Line) (answer : Reply) : Type 0 where
  pub kept : IsKept s front
  pub lacks : (lacks_at s front ≡ true) ⊎ ((wanes_at s front ≡ true) × HasChanges s.basis s.view (s.before ++ front) s.session s.number)
  pub says : IsOrMemory (reply.NoMajority (up_count s.basis.script.nodes (s.before ++ front)) s.basis.script.nodes) answer

-- it is answered, at the last position `now` and `after` behind its piece
pub record IsAnsweredAt (s : Saying) (now after : ℕ) (front : List Line) (answer : Reply) : Type 0 where
  pub kept : IsKept s front
  pub majority : lacks_at s front ≡ false
  pub unsent : wanes_at s front ≡ true → (after ≡ now) × IsUnsent answer
  pub sent : (commits_at s front && is_last_a_down front) ≡ true → IsSent now after answer
  pub timely : IsTimely now after answer

-- a line of the session is due
abbrev pub IsGiven : Saying → ℕ → ℕ → List Line → Reply → Type 0
IsGiven s now after front answer =
    IsLostAt s front answer ⊎ (IsLostByMaster s front answer ⊎ (IsShortAt s front answer ⊎ IsAnsweredAt s now after front answer))

-- a node goes down at the commit: a majority is up, no loss was due there, and it is by a fault or by an arm that did not fire
pub record FallsAtCommit (s : Saying) (front : List Line) (fault : Bool) : Type 0 where
  pub at_commit : commits_at s front ≡ true
  pub uncut : was_cut s.before s.session s.number ≡ false
  pub kept : (loss_at s front ≡ None) ⊎ (is_last_a_down front ≡ true)
  pub majority : few_at s front ≡ false
  pub changes : HasChanges s.basis s.view (s.before ++ front) s.session s.number
  pub by : (fault ≡ true) ⊎ (stops front + 1 ≤ of_commit s.arms)

-- the session's node goes down by the arm of a row
pub record StopsAtRow (s : Saying) (front : List Line) (node : ℕ) (fault : Bool) : Type 0 where
  pub due : is_row_due s.arms s.session front ≡ true
  pub its : node ≡ (site_at s front).node
  pub stopped : fault ≡ false

-- a node of the script that is up goes down, and the line has the next number: at the commit, by the arm of a row, or by
-- a fault right behind a line that another one went down
pub record FallsAt (s : Saying) (front : List Line) (count node : ℕ) (fault : Bool) : Type 0 where
  pub counted : count ≡ downs (s.before ++ front) + 1
  pub of_script : (1 ≤ node) × (node ≤ s.basis.script.nodes)
  pub was_up : is_up node (s.before ++ front) ≡ true
  pub cause : FallsAtCommit s front fault ⊎ (StopsAtRow s front node fault ⊎ ((fault ≡ true) × (is_last_a_down front ≡ true)))

-- a line of the piece is due behind those before it. A line of the session is none where the arm of a row is due and its
-- node is up: an arm whose moment comes fires
abbrev pub IsDue : Saying → ℕ → ℕ → List Line → Line → Type 0
IsDue s now after front (line.Session name txn answer) =
    (name ≡ s.session) × (txn ≡ s.number) × ((is_row_due s.arms s.session front && is_up (site_at s front).node (s.before ++ front)) ≡ false) × IsGiven s now after front answer
IsDue s now after front (line.Down count node fault) = FallsAt s front count node fault
IsDue s now after front (line.Up node) = ⊥
IsDue s now after front line.Barrier = ⊥
IsDue s now after front (line.Fed position) = ⊥

-- a line of the piece tells that a node went down at the commit
abbrev pub FellAtCommit : Saying → List Line → Type 0
FellAtCommit s mine =
    (front : List Line) × (back : List Line) × (count : ℕ) × (node : ℕ) × (fault : Bool) × (mine ≡ front ++ line.Down count node fault ∷ back) × (commits_at s front ≡ true)

-- an entry that was appended and not acknowledged: a node went down at the commit, and the outcome cuts the transaction
-- short. Where it went down by a fault and none is up behind it, it comes up again
pub record IsUnacknowledged (s : Saying) (mine others : List Line) : Type 0 where
  pub at_commit : commits s.kind s.pending ≡ true
  pub fell : FellAtCommit s mine
  pub cut : list_any cuts (replies_in s.session mine) ≡ true
  pub comes_up : (front back : List Line) (count node : ℕ) → mine ≡ front ++ line.Down count node true ∷ back →
      up_count s.basis.script.nodes (s.before ++ (front ++ line.Down count node true ∷ [])) ≡ 0 → StandsIn others (line.Up node)

-- a line appends no entry, or that of its transaction at the next position, and it is told committed there or is not
-- acknowledged
abbrev pub Appends : Saying → ℕ → List Line → List Line → List EntryLine → Type 0
Appends s now mine others [] = Unit {0}
Appends s now mine others (e ∷ es) =
    (es ≡ []) × (begin : ℕ) × (level : Level) × (e ≡ Commit (now + 1) s.session s.number begin level)
    × (StandsIn (replies_in s.session mine) (reply.Committed (now + 1)) ⊎ IsUnacknowledged s mine others)

-- the commit of a transaction is appended at the position behind `now`: no entry since its begin touches what it uses, and its
-- operations break no key
pub record Enters (s : Saying) (now : ℕ) (before : List Line) : Type 0 where
  pub transaction : Transaction
  pub is_its : transaction_of s.basis.language s.session s.number s.basis.script.body ≡ Some transaction
  pub begin : ℕ
  pub begun : StandsIn before (line.Session s.session s.number (reply.Begin begin))
  pub ran : Answered
  pub is_ran : ran ≡ alone_at s.basis s.view transaction begin
  pub untouched : IsUntouched s.view begin (now + 1) (used_at transaction.level ran)
  pub unbroken : first_broken s.basis.origin.tables (apply_all (s.view.rows now) ran.ops).tables ≡ None

-- a node that is stopped by an arm of the commit is stopped behind the append, and the entry stands where no arm of an append
-- waits: then it was durable
pub record FiresAtCommit (s : Saying) (now : ℕ) (mine : List Line) (added : List EntryLine) : Type 0 where
  pub enters : Enters s now (s.before ++ mine)
  pub durable : of_append s.arms ≡ 0 → added ≢ []

-- nothing is told where the transaction was cut short before; that is no line that begins one while few are up
pub record IsSkipped (s : Saying) (mine : List Line) : Type 0 where
  pub none : mine ≡ []
  pub cut : was_cut s.before s.session s.number ≡ true
  pub majority : lacks_majority s.basis.script s.before s.kind s.pending ≡ false

-- the piece of a line that a session says, behind which the lines `others` stand, and the entries that it appends
pub record IsPiece (s : Saying) (now : ℕ) (mine others : List Line) (added : List EntryLine) : Type 0 where
  -- it goes up to the last reply, or is skipped
  pub up_to : (are_up_to (is_last_of (is_own_by s.kind s.pending)) (replies_in s.session mine) ≡ true) ⊎ IsSkipped s mine
  pub each : EachAfter (IsDue s now (now + length added)) [] mine
  pub appended : Appends s now mine others added
  -- where an entry is appended and an arm of the commit waits, a node goes down
  pub fires : (added ≡ []) ⊎ ((of_commit s.arms ≡ 0) ⊎ (1 ≤ downs mine))
  -- and where its commit is told, a node was stopped by one: the master was up when the entry became durable
  pub fired : StandsIn (replies_in s.session mine) (reply.Committed (now + 1)) → (of_commit s.arms ≡ 0) ⊎ (1 ≤ stops mine)
  -- an arm of the commit fires where the transaction is appended
  pub moment : 1 ≤ of_commit s.arms → (front back : List Line) (count node : ℕ) → mine ≡ front ++ line.Down count node false ∷ back → commits_at s front ≡ true → FiresAtCommit s now mine added
