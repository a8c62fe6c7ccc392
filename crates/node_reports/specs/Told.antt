-- What a session is told along its work, on one to seven nodes.
--
-- It is what a session is told on one node, with two cases more. A session with hasql is told that no majority is up wherever it
-- would move while few nodes are. And a transaction that has an entry may have been cut short at its commit: then it is to be
-- committed, and all its replies were told before.
use Rattle.std.specs.Prelude.{◌≡◌, ℕ, ◌≤◌, ◌++◌, ◌∷◌, [], List, Bool, true, false, Some, ◌⊎◌}
use Rattle.cdb_values.specs.declared.rows.RowOp.{RowOp}
use Rattle.cdb_values.specs.declared.replies.Reply.{Reply}
use Rattle.cdb_values.specs.declared.replies.Reply.TheVariants as reply
use Rattle.report_laws.specs.Cut.{cuts}
use Rattle.report_laws.specs.History.{Basis}
use Rattle.report_laws.specs.Places.{survives}
use Rattle.report_laws.specs.Told.{told, numbered, Numbered, alone_at, IsWhole, IsToCommit, MayCut, EndsAt}
use Rattle.report_laws.specs.View.{View}
use Rattle.report_laws.specs.Work.{Transaction, End, WorkItem, Does, Lone, transaction_of}
use Rattle.report_text.specs.declared.reports.EntryLine.{EntryLine}
use Rattle.report_text.specs.declared.reports.EntryLine.TheVariants.{Setup, Commit}
use Rattle.report_text.specs.declared.reports.Line.{Line}
use Rattle.session_language.specs.Language.{Answered}

-- whether a reply tells that no majority is up
abbrev pub is_short : Reply → Bool
is_short (reply.NoMajority up nodes) = true
is_short _ = false

-- a transaction may be cut short there as on one node; and of a session that goes on at another node, by a missing majority
-- anywhere
abbrev pub MayBeCut : Bool → End → List RowOp → List Reply → List Reply → Reply → Type 0
MayBeCut goes_on end ops front rest cause = MayCut end ops front rest cause ⊎ ((goes_on ≡ true) × (is_short cause ≡ true))

-- a transaction is cut short, behind a front of its begin and its replies
pub record IsCutShort (basis : Basis) (view : View) (name : List ℕ) (t : Transaction) (mine : List Reply) : Type 0 where
  pub begin : ℕ
  pub base : basis.origin.position ≤ begin
  pub within : begin ≤ view.last
  pub ran : Answered
  pub is_ran : ran ≡ alone_at basis view t begin
  pub front : List Reply
  pub rest : List Reply
  pub fits : front ++ rest ≡ reply.Begin begin ∷ ran.replies
  pub cause : Reply
  pub is_cause : cuts cause ≡ true
  pub may : MayBeCut (survives basis.script name) t.end ran.ops front rest cause
  pub says : mine ≡ front ++ cause ∷ []

-- the lines of a transaction are its replies and its end; a line outside one has its one reply
abbrev pub IsToldAlong : Basis → View → List ℕ → WorkItem → List Reply → Type 0
IsToldAlong basis view name (Does t) mine = IsWhole basis view name t mine ⊎ IsCutShort basis view name t mine
IsToldAlong basis view name (Lone answer) mine = mine ≡ answer ∷ []

-- how the transaction of the entry at a position is told to end: that it is committed there; or it was cut short, where it is to
-- be committed
abbrev pub MayEnd : ℕ → End → Reply → Type 0
MayEnd position end outcome = EndsAt position outcome ⊎ ((cuts outcome ≡ true) × IsToCommit end)

-- the transaction of an entry was told, in one segment of its session's lines, the begin that the entry names, all its replies on
-- the rows there, and how it ends
pub record IsEntryHeard (basis : Basis) (view : View) (lines : List Line) (position : ℕ) (session : List ℕ) (txn begin : ℕ) : Type 0 where
  pub transaction : Transaction
  pub is_its : transaction_of basis.language session txn basis.script.body ≡ Some transaction
  pub within : begin ≤ view.last
  pub ran : Answered
  pub is_ran : ran ≡ alone_at basis view transaction begin
  pub outcome : Reply
  pub ends : MayEnd position transaction.end outcome
  pub before : List Numbered
  pub after : List Numbered
  pub says : told session lines ≡ before ++ (numbered txn (reply.Begin begin ∷ (ran.replies ++ outcome ∷ [])) ++ after)

-- an entry is told so; the schema's is told to nobody
abbrev pub IsHeard : Basis → View → List Line → EntryLine → Type 0
IsHeard basis view lines (Setup position) = Unit {0}
IsHeard basis view lines (Commit position session txn begin level) = IsEntryHeard basis view lines position session txn begin
