-- Numbers among others, and one more behind them.
use Rattle.std.proofs.Common.{inl, inr, ℕ, List, [], ◌∷◌, ◌++◌, refl}
use Rattle.page_workspace.specs.Spare.{IsIn}

pub in_more : (x n : ℕ) (ns : List ℕ) → IsIn x ns → IsIn x (ns ++ n ∷ [])
in_more x n [] i = absurd i
in_more x n (m ∷ ms) (inl e) = inl e
in_more x n (m ∷ ms) (inr i) = inr (in_more x n ms i)

pub in_end : (n : ℕ) (ns : List ℕ) → IsIn n (ns ++ n ∷ [])
in_end n [] = inl refl
in_end n (m ∷ ms) = inr (in_end n ms)
