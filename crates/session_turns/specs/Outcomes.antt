-- What became of a commit, in the words of the report, and whether it is the right outcome.
use Rattle.std.specs.Prelude.{◌≡◌, ℕ, ◌+◌, List, ◌∷◌, Some}
use Rattle.cdb_values.specs.declared.rows.RowOp.{RowOp}
use Rattle.cdb_values.specs.declared.tables.TableDef.{TableDef}
use Rattle.osql_session.specs.Sessions.{Session}
use Rattle.cdb_values.specs.declared.replies.Reply.{Reply}
use Rattle.cdb_values.specs.declared.replies.Reply.TheVariants as reply
use Rattle.session_turns.specs.Decisions.{item_told, key_named, table_name_at}
use Rattle.session_turns.specs.Step.{World}
use Rattle.session_turns.specs.Worlds.{IsBetween, IsEntryBehind, outcome_at}
use Rattle.session_turns.specs.declared.answers.CommitOutcome.{CommitOutcome}
use Rattle.session_turns.specs.declared.answers.CommitOutcome.TheVariants.{Committed, Conflict, Duplicate, Lost, NoMajority}

-- how an outcome is told
abbrev pub outcome_told : List TableDef → CommitOutcome → Reply
outcome_told tables (Committed position) = reply.Committed position
outcome_told tables (Conflict position item) = item_told tables position item
outcome_told tables (Duplicate position table key) = reply.Duplicate position (table_name_at tables table) (key_named tables table (Some key))
outcome_told tables (Lost node down) = reply.Lost node down
outcome_told tables (NoMajority up nodes) = reply.NoMajority up nodes

-- an outcome is what is decided at a position on a session's transaction
abbrev pub IsDecidedAt : World → ℕ → Session → CommitOutcome → Type 0
IsDecidedAt w position s o = outcome_told w.tables o ≡ outcome_at w position s.begin s.level s.genids s.ranges s.ops

-- some position between two moments at which it is
pub record IsDecidedIn (w w' : World) (s : Session) (o : CommitOutcome) : Type 0 where
  pub position : ℕ
  pub between : IsBetween w w' position
  pub decided : IsDecidedAt w' position s o

-- a transaction with operations that is committed at a position has its entry there, and it is decided right before it; one
-- without operations is committed where it began
pub record IsKept (w w' : World) (s : Session) (position : ℕ) : Type 0 where
  pub before : ℕ
  pub between : IsBetween w w' before
  pub decided : IsDecidedAt w' before s (Committed position)
  pub entered : (op : RowOp) (ops : List RowOp) → s.ops ≡ op ∷ ops → (position ≡ before + 1)
      × IsEntryBehind w' before s.ops

-- an outcome is right, over what the history was before and behind the commit; that it is lost, or that no majority is up, may
-- come of any
abbrev pub IsRightFor : World → World → Session → CommitOutcome → Type 0
IsRightFor w w' s (Committed position) = IsKept w w' s position
IsRightFor w w' s (Conflict position item) = IsDecidedIn w w' s (Conflict position item)
IsRightFor w w' s (Duplicate position table key) = IsDecidedIn w w' s (Duplicate position table key)
IsRightFor w w' s (Lost node down) = Unit {0}
IsRightFor w w' s (NoMajority up nodes) = Unit {0}

-- an outcome that leaves nothing behind: the transaction conflicts, or is a duplicate, or no majority is up
abbrev pub IsRefusal : CommitOutcome → Type 0
IsRefusal (Committed position) = ⊥
IsRefusal (Conflict position item) = Unit {0}
IsRefusal (Duplicate position table key) = Unit {0}
IsRefusal (Lost node down) = ⊥
IsRefusal (NoMajority up nodes) = Unit {0}
