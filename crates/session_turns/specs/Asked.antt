-- What one line of a session does up to a commit that it asks for: the node has answered all but that.
--
-- Where the commit is decided on the same history, both together are what the line does when nobody comes between.
use Rattle.std.specs.Prelude.{ℕ, ◌+◌, ◌++◌, ◌∷◌, [], List, Option, Some, None}
use Rattle.cdb_values.specs.declared.items.GenidItem.{GenidItem}
use Rattle.cdb_values.specs.declared.items.Interval.{Interval}
use Rattle.cdb_values.specs.declared.rows.Level.{Level}
use Rattle.cdb_values.specs.declared.rows.RowOp.{RowOp}
use Rattle.cdb_values.specs.declared.rows.StatementError.TheVariants.{State}
use Rattle.cdb_values.specs.declared.replies.Reply.{Reply}
use Rattle.cdb_values.specs.declared.replies.Reply.TheVariants as reply
use Rattle.session_language.specs.Language.{Answered, Kind, BeginText, CommitText, RollbackText, LevelText, OtherText}
use Rattle.sql_answer.specs.Answers.{Meaning}
use Rattle.session_turns.specs.Decisions.{added_by}
use Rattle.session_turns.specs.Doing.{SessionAt, Doing}
use Rattle.session_turns.specs.Doing as doing
use Rattle.session_turns.specs.Step.{World, Turned, answer_of, outcome, state, told_turn}

-- a transaction that comes to its commit: where it began, its operations, the versions that its texts used besides and the
-- intervals that they read
pub record Coming : Type 0 where
  pub begin : ℕ
  pub ops : List RowOp
  pub uses : List GenidItem
  pub ranges : List Interval

abbrev pub coming : ℕ → List RowOp → List GenidItem → List Interval → Option Coming
coming begin ops uses ranges = Some (record { begin = begin; ops = ops; uses = uses; ranges = ranges })

-- the replies of a line so far and the number that they are told under, where the session is then, and the transaction whose
-- commit it asks for: its outcome is one reply more
pub record Asked : Type 0 where
  pub number : ℕ
  pub replies : List Reply
  pub after : SessionAt
  pub commits : Option Coming

abbrev pub told : ℕ → List Reply → SessionAt → Asked
told number replies after = record { number = number; replies = replies; after = after; commits = None }

-- a line that asks for a commit, behind which its session is in no transaction
abbrev pub asks : ℕ → Level → List Reply → Option Coming → Asked
asks number level replies commits = record { number = number; replies = replies; after = state number level doing.No; commits = commits }

-- a transaction of one line that began there was answered
abbrev pub own_asked : ℕ → Level → ℕ → Answered → Asked
own_asked number level begin a = asks number level (reply.Begin begin ∷ a.replies) (coming begin a.ops a.uses a.ranges)

-- a statement is answered in an open transaction
abbrev pub went_on : ℕ → Level → ℕ → List GenidItem → List Interval → Answered → Asked
went_on number level begin uses ranges a = told number a.replies (state number level (doing.Open begin a.ops (uses ++ a.uses) (ranges ++ a.ranges)))

-- what a line asks, by what its text means and is to transactions; a transaction that it begins, begins at that position
abbrev pub asked_of : World → ℕ → ℕ → Level → Meaning → Kind → Doing → Asked
asked_of w last number level meant BeginText doing.No = told (number + 1) (reply.Begin last ∷ []) (state (number + 1) level (doing.Open last [] [] []))
asked_of w last number level meant CommitText doing.No = told 0 (reply.Error State ∷ []) (state number level doing.No)
asked_of w last number level meant RollbackText doing.No = told 0 (reply.Error State ∷ []) (state number level doing.No)
asked_of w last number level meant (LevelText later) doing.No = told 0 (reply.Level later ∷ []) (state number later doing.No)
asked_of w last number level meant OtherText doing.No = own_asked (number + 1) level last (answer_of w last [] meant)
asked_of w last number level meant BeginText (doing.Open begin ops uses ranges) = went_on number level begin uses ranges (answer_of w begin ops meant)
asked_of w last number level meant CommitText (doing.Open begin ops uses ranges) = asks number level [] (coming begin ops uses ranges)
asked_of w last number level meant RollbackText (doing.Open begin ops uses ranges) = told number (reply.RolledBack ∷ []) (state number level doing.No)
asked_of w last number level meant (LevelText later) (doing.Open begin ops uses ranges) = went_on number level begin uses ranges (answer_of w begin ops meant)
asked_of w last number level meant OtherText (doing.Open begin ops uses ranges) = went_on number level begin uses ranges (answer_of w begin ops meant)
asked_of w last number level meant BeginText doing.Aborted = told number [] (state number level doing.Aborted)
asked_of w last number level meant CommitText doing.Aborted = told number [] (state number level doing.No)
asked_of w last number level meant RollbackText doing.Aborted = told number [] (state number level doing.No)
asked_of w last number level meant (LevelText later) doing.Aborted = told number [] (state number level doing.Aborted)
asked_of w last number level meant OtherText doing.Aborted = told number [] (state number level doing.Aborted)

-- what a line does whose commit is decided on a history
abbrev pub settled_by : World → ℕ → List Reply → SessionAt → Option Coming → Turned
settled_by w number replies after None = told_turn number replies after
settled_by w number replies after (Some c) = record {
  number = number;
  replies = replies ++ outcome w c.begin after.level c.uses c.ranges c.ops ∷ [];
  after = after;
  begin = c.begin;
  added = added_by (outcome w c.begin after.level c.uses c.ranges c.ops) c.ops;
}

abbrev pub settled : World → Asked → Turned
settled w a = settled_by w a.number a.replies a.after a.commits
