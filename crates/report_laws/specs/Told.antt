-- What a session was told, along its work.
--
-- The lines of a session are those of its transactions and other lines in order, each under its
-- number, 0 for a line outside a transaction. A transaction is told whole: its begin, the replies of
-- the transaction run alone on the rows at its begin position, and then what ends it, which is nothing
-- where it has no end in the script; what ends it is right. Or it is cut short after some of these, where
-- that may be: its node may go down once it is begun, and a majority is asked for where it begins and where
-- it is to be committed.
-- And a transaction that has an entry was told whole in one segment of its session's lines.
use Rattle.std.specs.Prelude.{◌≡◌, ℕ, ◌≤◌, ◌++◌, ◌∷◌, ◌≢◌, [], List, Some, map, true, if◌then◌else◌, ◌⊎◌}
use Rattle.std.specs.Str.{bytes_eq}
use Rattle.std.specs.List.{AllByRecursion}
use Rattle.cdb_values.specs.declared.rows.RowOp.{RowOp}
use Rattle.report_laws.specs.Cut.{cuts}
use Rattle.report_laws.specs.History.{Basis, alone_on}
use Rattle.session_language.specs.Language.{Answered}
use Rattle.session_language.specs.Touched.{used_at}
use Rattle.report_laws.specs.Outcome.{IsRight, Ends}
use Rattle.report_laws.specs.View.{View}
use Rattle.report_laws.specs.Work.{Transaction, End, ByCommit, ByRollback, WithItsLine, Nowhere, WorkItem, Does, Lone, number_of, transaction_of}
use Rattle.report_text.specs.declared.reports.EntryLine.{EntryLine}
use Rattle.report_text.specs.declared.reports.EntryLine.TheVariants.{Setup, Commit}
use Rattle.report_text.specs.declared.reports.Line.{Line}
use Rattle.report_text.specs.declared.reports.Line.TheVariants as line
use Rattle.cdb_values.specs.declared.replies.Reply.{Reply}
use Rattle.cdb_values.specs.declared.replies.Reply.TheVariants as reply

-- a reply under the number of its transaction
abbrev pub Numbered : Type 0
Numbered = ℕ × Reply

abbrev pub told_by : List ℕ → Line → List Numbered
told_by name (line.Session session txn reply) = if bytes_eq session name then (txn, reply) ∷ [] else []
told_by name (line.Down count node fault) = []
told_by name (line.Up node) = []
told_by name line.Barrier = []
told_by name (line.Fed position) = []

-- the lines of a session, in order
abbrev pub told : List ℕ → List Line → List Numbered
told name [] = []
told name (l ∷ ls) = told_by name l ++ told name ls

abbrev pub numbered : ℕ → List Reply → List Numbered
numbered number replies = map (λ r. (number, r)) replies

-- a session's replies as lines of the report
abbrev pub lines_of : List ℕ → ℕ → List Reply → List Line
lines_of name number replies = map (line.Session name number) replies

-- the lines of a session are those of its items in order, and each item's are as P says
abbrev pub Along : (WorkItem → List Reply → Type 0) → List WorkItem → List Numbered → Type 0
Along P [] lines = lines ≡ []
Along P (item ∷ items) lines =
    (mine : List Reply) × (others : List Numbered) × (lines ≡ numbered (number_of item) mine ++ others) × P item mine × Along P items others

-- a transaction run alone on the rows at its begin position
abbrev pub alone_at : Basis → View → Transaction → ℕ → Answered
alone_at basis view t begin = alone_on basis (view.rows begin) t.texts

-- a transaction is told whole: its begin, its replies, and an end that fits the script and is right
pub record IsWhole (basis : Basis) (view : View) (name : List ℕ) (t : Transaction) (mine : List Reply) : Type 0 where
  pub begin : ℕ
  pub base : basis.origin.position ≤ begin
  pub within : begin ≤ view.last
  pub ran : Answered
  pub is_ran : ran ≡ alone_at basis view t begin
  pub last : List Reply
  pub ends : Ends t.end last
  pub right : AllByRecursion (IsRight basis view name t begin (used_at t.level ran) ran.ops) last
  pub says : mine ≡ reply.Begin begin ∷ (ran.replies ++ last)

-- whether a transaction of that end is to be committed
abbrev pub IsToCommit : End → Type 0
IsToCommit ByCommit = Unit {0}
IsToCommit ByRollback = ⊥
IsToCommit WithItsLine = Unit {0}
IsToCommit Nowhere = ⊥

-- a transaction of that end and with these operations may be cut short by a cause, behind that front of its begin and
-- its replies and before that rest: by a loss once it is begun, for want of a majority in place of its begin, or at its
-- commit where it has operations, and for want of memory anywhere
abbrev pub MayCut : End → List RowOp → List Reply → List Reply → Reply → Type 0
MayCut end ops front rest (reply.Begin position) = ⊥
MayCut end ops front rest (reply.Row row) = ⊥
MayCut end ops front rest (reply.Done rows) = ⊥
MayCut end ops front rest (reply.Changed rows) = ⊥
MayCut end ops front rest (reply.Error cause) = ⊥
MayCut end ops front rest (reply.Level level) = ⊥
MayCut end ops front rest reply.RolledBack = ⊥
MayCut end ops front rest (reply.Committed position) = ⊥
MayCut end ops front rest (reply.ConflictGenid position table genid) = ⊥
MayCut end ops front rest (reply.ConflictRange position table key) = ⊥
MayCut end ops front rest (reply.Duplicate position table key) = ⊥
MayCut end ops front rest (reply.Lost node down) = front ≢ []
MayCut end ops front rest (reply.NoMajority up nodes) = (front ≡ []) ⊎ ((rest ≡ []) × (ops ≢ []) × IsToCommit end)
MayCut end ops front rest reply.NoMemory = Unit {0}

-- a transaction is cut short, behind a front of its begin and its replies
pub record IsCut (basis : Basis) (view : View) (t : Transaction) (mine : List Reply) : Type 0 where
  pub begin : ℕ
  pub base : basis.origin.position ≤ begin
  pub within : begin ≤ view.last
  pub ran : Answered
  pub is_ran : ran ≡ alone_at basis view t begin
  pub front : List Reply
  pub rest : List Reply
  pub fits : front ++ rest ≡ reply.Begin begin ∷ ran.replies
  pub cause : Reply
  pub is_cause : cuts cause ≡ true
  pub may : MayCut t.end ran.ops front rest cause
  pub says : mine ≡ front ++ cause ∷ []

-- the lines of a transaction are its replies and its end; a line outside one has its one reply
abbrev pub IsTold : Basis → View → List ℕ → WorkItem → List Reply → Type 0
IsTold basis view name (Does t) mine = IsWhole basis view name t mine ⊎ IsCut basis view t mine
IsTold basis view name (Lone answer) mine = mine ≡ answer ∷ []

-- how the transaction of the entry at a position is told to end: that it is committed there. A transaction
-- that was cut short at its commit has no entry yet
abbrev pub EndsAt : ℕ → Reply → Type 0
EndsAt position (reply.Begin at) = ⊥
EndsAt position (reply.Row row) = ⊥
EndsAt position (reply.Done rows) = ⊥
EndsAt position (reply.Changed rows) = ⊥
EndsAt position (reply.Error cause) = ⊥
EndsAt position (reply.Level level) = ⊥
EndsAt position reply.RolledBack = ⊥
EndsAt position (reply.Committed at) = at ≡ position
EndsAt position (reply.ConflictGenid at table genid) = ⊥
EndsAt position (reply.ConflictRange at table key) = ⊥
EndsAt position (reply.Duplicate at table key) = ⊥
EndsAt position (reply.Lost node down) = ⊥
EndsAt position (reply.NoMajority up nodes) = ⊥
EndsAt position reply.NoMemory = ⊥

-- the transaction of an entry was told whole, in one segment of its session's lines: the begin that the
-- entry names, its replies on the rows there, and how it ends
pub record IsCommitTold (basis : Basis) (view : View) (lines : List Line) (position : ℕ) (session : List ℕ) (txn begin : ℕ) : Type 0 where
  pub transaction : Transaction
  pub is_its : transaction_of basis.language session txn basis.script.body ≡ Some transaction
  pub within : begin ≤ view.last
  pub ran : Answered
  pub is_ran : ran ≡ alone_at basis view transaction begin
  pub outcome : Reply
  pub ends : EndsAt position outcome
  pub before : List Numbered
  pub after : List Numbered
  pub says : told session lines ≡ before ++ (numbered txn (reply.Begin begin ∷ (ran.replies ++ outcome ∷ [])) ++ after)

-- an entry is told so; the schema's is told to nobody
abbrev pub IsEntryTold : Basis → View → List Line → EntryLine → Type 0
IsEntryTold basis view lines (Setup position) = Unit {0}
IsEntryTold basis view lines (Commit position session txn begin level) = IsCommitTold basis view lines position session txn begin
