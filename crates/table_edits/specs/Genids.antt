-- The next genid: how operations raise it, and how the meta page is told the new one.
use Rattle.std.specs.Prelude.{◌≡◌, ℕ, List, [], ◌∷◌}
use Rattle.page_store.specs.Image.{Image}
use Rattle.page_workspace.specs.Spare.{IsMeta, next_genid, count_of, first_free}
use Rattle.cdb_values.specs.declared.rows.RowOp.{RowOp}
use Rattle.table_changes.specs.Changed.{next_of}

-- the next genid behind operations: each row that is written takes one
abbrev pub next_after : ℕ → List RowOp → ℕ
next_after next [] = next
next_after next (op ∷ ops) = next_after (next_of next op) ops

-- nothing but the next genid changed
pub record SetsGenid (old new : ℕ → Image) (next : ℕ) : Type 0 where
  pub genid : next_genid new ≡ next
  pub count : count_of new ≡ count_of old
  pub free : first_free new ≡ first_free old
  pub meta : IsMeta (old 0) → IsMeta (new 0)
  pub others : (n : ℕ) → (n ≡ 0 → ⊥) → new n ≡ old n
