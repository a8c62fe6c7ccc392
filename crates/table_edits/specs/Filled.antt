-- Operations leave no leaf without cells that was none before, but for the roots: of so many trees, the pages 1, 2, .. are these.
use Rattle.std.specs.Prelude.{ℕ, ◌<◌}
use Rattle.page_store.specs.Image.{Image}
use Rattle.btree_index.specs.Filled.{IsEmptyLeaf}

abbrev pub KeepsLeavesFilled : (ℕ → Image) → (ℕ → Image) → ℕ → Type 0
KeepsLeavesFilled old new trees = (n : ℕ) → trees < n → IsEmptyLeaf (new n) → IsEmptyLeaf (old n)
