-- A source of undone pages: who grants them, those that are kept, and the loaded one.
use Rattle.std.specs.Prelude.{◌≡◌, ℕ, List, Option, length}
use Rattle.page_store.specs.Image.{Image}
use Rattle.phys_log.specs.declared.entries.Entry.{Entry}
use Rattle.phys_log.specs.Logs.{pages_of}
use Rattle.undo_snapshot.specs.Kept.{AreOf}

pub record Snapshot (G : Type 0) : Type 0 where
  pub granter : G
  pub kept : List (ℕ × Image)
  pub loaded : Option Image

-- the position is the number of the first entries, and the kept pages are theirs
pub record IsSnapshot (front : List Entry) (position : ℕ) (kept : List (ℕ × Image)) : Type 0 where
  pub length : position ≡ length front
  pub pages : AreOf (pages_of front) kept
