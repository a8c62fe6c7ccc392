-- The free pages as a list, in the order of their chain from the meta page on, where one is taken: it is the first of
-- them, or was never written, and the others stay.
use Rattle.std.specs.Prelude.{◌≡◌, ◌⊎◌, ℕ, ◌≤◌, ◌<◌, ◌^◌, List, []}
use Rattle.page_store.specs.Image.{Image}
use Rattle.page_workspace.specs.Spare.{IsIn, AreFree, count_of}

-- what the taking of a page leaves of the free pages
pub record LeavesFree (old new : ℕ → Image) (id : ℕ) (ids : List ℕ) : Type 0 where
  pub rest : List ℕ
  pub spare : AreFree new rest
  pub from : (n : ℕ) → IsIn n rest → IsIn n ids
  pub keeps : (n : ℕ) → IsIn n ids → (n ≡ id) ⊎ IsIn n rest
  pub off : IsIn id rest → ⊥
  pub was : IsIn id ids ⊎ (count_of old ≤ id)
  pub some : id ≡ 0 → ⊥
  pub below : id < count_of new
  pub count : count_of old ≤ count_of new
  pub few : count_of old < 2 ^ 62 → count_of new < 2 ^ 62
  pub only : (n : ℕ) → count_of old ≤ n → n < count_of new → n ≡ id
  pub empty : (old id).cells ≡ []
