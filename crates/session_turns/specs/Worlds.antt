-- What a history may become while a session waits, and what a commit finds in it.
use Rattle.std.specs.Prelude.{◌≡◌, ℕ, ◌+◌, ◌<◌, ◌≤◌, List, Some, slice_get, take}
use Rattle.cdb_values.specs.Changes.{changes_of}
use Rattle.cdb_values.specs.Rows.{apply_all}
use Rattle.cdb_values.specs.declared.items.GenidItem.{GenidItem}
use Rattle.cdb_values.specs.declared.items.Interval.{Interval}
use Rattle.cdb_values.specs.declared.rows.Level.{Level}
use Rattle.cdb_values.specs.declared.rows.RowOp.{RowOp}
use Rattle.cdb_values.specs.declared.replies.Reply.{Reply}
use Rattle.session_turns.specs.Decisions.{decision, used_by}
use Rattle.session_turns.specs.Step.{World}

-- a history with perhaps further entries: what stands up to the last position of before stays
pub record Grows (w w' : World) : Type 0 where
  pub tables : w'.tables ≡ w.tables
  pub now : w.now ≤ w'.now
  pub rows : (at : ℕ) → at ≤ w.now → w'.seen.at at ≡ w.seen.at at
  pub changes : (place : ℕ) → place < w.now → slice_get w'.changed place ≡ slice_get w.changed place

-- a position that was the last one at some time between two moments
pub record IsBetween (w w' : World) (position : ℕ) : Type 0 where
  pub from : w.now ≤ position
  pub to : position ≤ w'.now

-- what is decided on a transaction at its commit, where the history then ended at a position
abbrev pub outcome_at : World → ℕ → ℕ → Level → List GenidItem → List Interval → List RowOp → Reply
outcome_at w position begin level uses ranges ops = decision w.tables (take position w.changed) (w.seen.at position) begin position (used_by level ops uses ranges) ops

-- the entry behind a position is that of a transaction with these operations
pub record IsEntryBehind (w : World) (position : ℕ) (ops : List RowOp) : Type 0 where
  pub within : position + 1 ≤ w.now
  pub changes : slice_get w.changed position ≡ Some (changes_of ops (w.seen.at position).next)
  pub rows : w.seen.at (position + 1) ≡ apply_all (w.seen.at position) ops
