-- What is among items, and what among others.
use Rattle.std.proofs.Common.{◌≡◌, ℕ, suc, List, [], ◌∷◌, length, refl, arith}

pub empty_is : {A : Type 0} (xs : List A) → length xs ≡ 0 → xs ≡ []
empty_is [] e = refl
empty_is (x ∷ xs) e = absurd (none (length xs) e)
  where
    none : (n : ℕ) → suc n ≡ 0 → ⊥
    none n e = omega arith
