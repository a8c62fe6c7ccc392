-- Pages that are the same but for their LSNs.
use Rattle.std.specs.Prelude.{◌≡◌, ℕ}
use Rattle.page_store.specs.Image.{Image}

-- the same head and the same cells
pub record IsAlike (old new : Image) : Type 0 where
  pub head : new.head ≡ old.head
  pub cells : new.cells ≡ old.cells

abbrev pub AreAlike : (ℕ → Image) → (ℕ → Image) → Type 0
AreAlike old new = (n : ℕ) → IsAlike (old n) (new n)
