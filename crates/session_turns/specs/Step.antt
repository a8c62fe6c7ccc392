-- What one line of a session does when nobody comes between, by where the session is.
--
-- Outside a transaction `begin` opens one at the last position, a line that does not fit there or
-- sets the level is answered so, and any other line is a transaction of its own. In a transaction
-- `commit` has it decided, `rollback` ends it, and any other line is answered. After a transaction
-- that want of memory ended, lines are skipped up to its `commit` or `rollback`.
use Rattle.std.specs.Prelude.{ℕ, ◌+◌, ◌++◌, ◌∷◌, [], List, Option, Some, None}
use Rattle.cdb_values.specs.declared.rows.Level.{Level}
use Rattle.cdb_values.specs.declared.rows.RowOp.{RowOp}
use Rattle.cdb_values.specs.declared.rows.StatementError.TheVariants.{State}
use Rattle.cdb_values.specs.declared.tables.TableDef.{TableDef}
use Rattle.session_turns.specs.Seen.{SeenRows}
use Rattle.cdb_values.specs.declared.replies.Reply.{Reply}
use Rattle.cdb_values.specs.declared.replies.Reply.TheVariants as reply
use Rattle.session_language.specs.Language.{Answered, Kind, BeginText, CommitText, RollbackText, LevelText, OtherText}
use Rattle.sql_answer.specs.Answers.{Meaning}
use Rattle.sql_answer.specs.Language.{meaning, sql_binder}
use Rattle.sql_answer.specs.Reading.{kind_of_text}
use Rattle.sql_run.specs.Texts.{answer_to}
use Rattle.cdb_values.specs.declared.items.GenidItem.{GenidItem}
use Rattle.cdb_values.specs.declared.items.Interval.{Interval}
use Rattle.cdb_values.specs.declared.rows.Change.{Change}
use Rattle.session_turns.specs.Decisions.{decision, added_by, used_by}
use Rattle.session_turns.specs.Doing.{SessionAt, Doing}
use Rattle.session_turns.specs.Doing as doing

abbrev pub state : ℕ → Level → Doing → SessionAt
state number level what = record { number = number; level = level; doing = what }

-- what a line adds: its replies and the number that they are told under, where the session is then,
-- and the operations of the transaction that it commits, if it commits one with operations, begun there
pub record Turned : Type 0 where
  pub number : ℕ
  pub replies : List Reply
  pub after : SessionAt
  pub begin : ℕ
  pub added : List (List RowOp)

abbrev pub told_turn : ℕ → List Reply → SessionAt → Turned
told_turn number replies after = record { number = number; replies = replies; after = after; begin = 0; added = [] }

-- what the run is before a line: the tables, the rows at each position, what each entry changed,
-- and the last position
pub record World : Type 0 where
  pub tables : List TableDef
  pub seen : SeenRows
  pub changed : List (List Change)
  pub now : ℕ

abbrev pub world_of : List TableDef → SeenRows → List (List Change) → ℕ → World
world_of tables seen changed now = record { tables = tables; seen = seen; changed = changed; now = now }

-- a transaction that began at a position comes to its commit at a level with these operations, its texts having used these
-- versions and read these intervals
abbrev pub outcome : World → ℕ → Level → List GenidItem → List Interval → List RowOp → Reply
outcome w begin level uses ranges ops = decision w.tables w.changed (w.seen.at w.now) begin w.now (used_by level ops uses ranges) ops

-- an answer in a transaction that began there, by what the text means
abbrev pub answer_of : World → ℕ → List RowOp → Meaning → Answered
answer_of w begin ops meant = answer_to w.tables (w.seen.at begin).tables ops meant

-- the same by the text
abbrev pub answer_at : World → ℕ → List RowOp → List ℕ → Answered
answer_at w begin ops text = answer_of w begin ops (meaning sql_binder w.tables text)

-- a transaction of one line
abbrev pub own_line : World → ℕ → Level → Answered → Turned
own_line w number level a = record {
  number = number;
  replies = reply.Begin w.now ∷ (a.replies ++ outcome w w.now level a.uses a.ranges a.ops ∷ []);
  after = state number level doing.No;
  begin = w.now;
  added = added_by (outcome w w.now level a.uses a.ranges a.ops) a.ops;
}

-- a transaction comes to its commit
abbrev pub committed : World → ℕ → Level → ℕ → List GenidItem → List Interval → List RowOp → Turned
committed w number level begin uses ranges ops = record {
  number = number;
  replies = outcome w begin level uses ranges ops ∷ [];
  after = state number level doing.No;
  begin = begin;
  added = added_by (outcome w begin level uses ranges ops) ops;
}

-- a statement is answered in an open transaction, whose texts used these versions and read these intervals so far
abbrev pub goes_on : ℕ → Level → ℕ → List GenidItem → List Interval → Answered → Turned
goes_on number level begin uses ranges a = told_turn number a.replies (state number level (doing.Open begin a.ops (uses ++ a.uses) (ranges ++ a.ranges)))

-- what a line does, by what its text means and is to transactions
abbrev pub turn_of : World → ℕ → Level → Meaning → Kind → Doing → Turned
turn_of w number level meant BeginText doing.No = told_turn (number + 1) (reply.Begin w.now ∷ []) (state (number + 1) level (doing.Open w.now [] [] []))
turn_of w number level meant CommitText doing.No = told_turn 0 (reply.Error State ∷ []) (state number level doing.No)
turn_of w number level meant RollbackText doing.No = told_turn 0 (reply.Error State ∷ []) (state number level doing.No)
turn_of w number level meant (LevelText later) doing.No = told_turn 0 (reply.Level later ∷ []) (state number later doing.No)
turn_of w number level meant OtherText doing.No = own_line w (number + 1) level (answer_of w w.now [] meant)
turn_of w number level meant BeginText (doing.Open begin ops uses ranges) = goes_on number level begin uses ranges (answer_of w begin ops meant)
turn_of w number level meant CommitText (doing.Open begin ops uses ranges) = committed w number level begin uses ranges ops
turn_of w number level meant RollbackText (doing.Open begin ops uses ranges) = told_turn number (reply.RolledBack ∷ []) (state number level doing.No)
turn_of w number level meant (LevelText later) (doing.Open begin ops uses ranges) = goes_on number level begin uses ranges (answer_of w begin ops meant)
turn_of w number level meant OtherText (doing.Open begin ops uses ranges) = goes_on number level begin uses ranges (answer_of w begin ops meant)
turn_of w number level meant BeginText doing.Aborted = told_turn number [] (state number level doing.Aborted)
turn_of w number level meant CommitText doing.Aborted = told_turn number [] (state number level doing.No)
turn_of w number level meant RollbackText doing.Aborted = told_turn number [] (state number level doing.No)
turn_of w number level meant (LevelText later) doing.Aborted = told_turn number [] (state number level doing.Aborted)
turn_of w number level meant OtherText doing.Aborted = told_turn number [] (state number level doing.Aborted)

-- the same by the text
abbrev pub turn_by : World → ℕ → Level → List ℕ → Kind → Doing → Turned
turn_by w number level text k what = turn_of w number level (meaning sql_binder w.tables text) k what

abbrev pub turn : World → SessionAt → List ℕ → Turned
turn w before text = turn_by w before.number before.level text (kind_of_text text) before.doing

-- the number of a transaction that want of memory ends, and where the session is then: it skips the
-- lines of the transaction that are still to come
pub record Cut : Type 0 where
  pub number : ℕ
  pub after : SessionAt

abbrev pub cut : ℕ → SessionAt → Option Cut
cut number after = Some (record { number = number; after = after })

abbrev pub cut_by : ℕ → Level → Kind → Doing → Option Cut
cut_by number level BeginText doing.No = cut (number + 1) (state (number + 1) level doing.Aborted)
cut_by number level CommitText doing.No = None
cut_by number level RollbackText doing.No = None
cut_by number level (LevelText later) doing.No = None
cut_by number level OtherText doing.No = cut (number + 1) (state (number + 1) level doing.No)
cut_by number level BeginText (doing.Open begin ops uses ranges) = cut number (state number level doing.Aborted)
cut_by number level CommitText (doing.Open begin ops uses ranges) = cut number (state number level doing.No)
cut_by number level RollbackText (doing.Open begin ops uses ranges) = cut number (state number level doing.No)
cut_by number level (LevelText later) (doing.Open begin ops uses ranges) = cut number (state number level doing.Aborted)
cut_by number level OtherText (doing.Open begin ops uses ranges) = cut number (state number level doing.Aborted)
cut_by number level _ doing.Aborted = None
