-- The word `create` in any case.
use Rattle.std.proofs.Common.{◌≡◌, ℕ, List, Bool, true, false, refl, sym, map, codes, IsTrue, ◌↔◌}
use Rattle.std.specs.Char.{to_ascii_lowercase}
use Rattle.std.proofs.lemmas.Slice.Eq.{bytes_eq-Decides}
use Rattle.script_read.specs.Kinds.{is_create}

-- what a test of folded bytes says
pub folded : (word : List ℕ) (found : Bool) → (IsTrue found ↔ (map to_ascii_lowercase word ≡ codes "create")) → found ≡ is_create word
folded word found same = go found (is_create word) (λ t. (bytes_eq-Decides (map to_ascii_lowercase word) (codes "create")).1 (same.0 t)) (λ e. same.1 ((bytes_eq-Decides (map to_ascii_lowercase word) (codes "create")).0 e))
  where
    go : (a b : Bool) → (a ≡ true → b ≡ true) → (b ≡ true → a ≡ true) → a ≡ b
    go true b there back = sym (there refl)
    go false true there back = back refl
    go false false there back = refl
