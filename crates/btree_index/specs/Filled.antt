-- A change of a tree leaves no leaf without cells that was none before, but for the root.
use Rattle.std.specs.Prelude.{◌≡◌, ℕ, []}
use Rattle.page_store.specs.Image.{Image}
use Rattle.page_store.specs.declared.pages.PageKind.TheVariants.{Leaf}

-- a leaf without cells
pub record IsEmptyLeaf (image : Image) : Type 0 where
  pub kind : image.head.kind ≡ Leaf
  pub none : image.cells ≡ []

-- each page but the root that is such a leaf was one before
abbrev pub KeepsFilled : (ℕ → Image) → (ℕ → Image) → ℕ → Type 0
KeepsFilled old new root = (n : ℕ) → (n ≡ root → ⊥) → IsEmptyLeaf (new n) → IsEmptyLeaf (old n)
