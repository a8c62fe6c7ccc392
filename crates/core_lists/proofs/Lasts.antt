-- A list with one more element at its end.
use Rattle.std.proofs.Common.{◌≡◌, List, [], ◌∷◌, ◌++◌, refl, subst}
use mathlib.Core.Logic.{◌⊎◌, inl, inr}
use Rattle.core_lists.specs.Fronts.{Front}
use Rattle.core_lists.specs.Fronts.Front.{front_nil, front_cons}

pub front_parts : {E : Type 0} (x y : E) (xs ys : List E) → Front (x ∷ xs) (y ∷ ys) → (x ≡ y) × Front xs ys
front_parts x y xs ys (front_cons p) = (refl, p)

pub front_join : {E : Type 0} (x y : E) (xs ys : List E) → x ≡ y → Front xs ys → Front (x ∷ xs) (y ∷ ys)
front_join x y xs ys e p = subst (λ t. Front (x ∷ xs) (t ∷ ys)) e (front_cons p)

pub no_more : {E : Type 0} (xs : List E) (e : E) → Front (xs ++ e ∷ []) [] → ⊥
no_more [] e p = elim p [ ]
no_more (x ∷ xs) e p = elim p [ ]

-- a beginning of a list with one more entry is a beginning of the list, or all of it
pub front_last : {E : Type 0} (xs l : List E) (e f : E) → Front (xs ++ e ∷ []) (l ++ f ∷ []) → Front (xs ++ e ∷ []) l ⊎ ((xs ≡ l) × (e ≡ f))
front_last [] [] e f p = inr (refl, (front_parts e f [] [] p).0)
front_last [] (y ∷ l) e f p = inl (front_join e y [] l (front_parts e y [] (l ++ f ∷ []) p).0 front_nil)
front_last (x ∷ xs) [] e f p = absurd (no_more xs e (front_parts x f (xs ++ e ∷ []) [] p).1)
front_last (x ∷ xs) (y ∷ l) e f p =
    let q = front_parts x y (xs ++ e ∷ []) (l ++ f ∷ []) p in
    elim (front_last xs l e f q.1) [
      | inl r ↦ inl (front_join x y (xs ++ e ∷ []) l q.0 r)
      | inr r ↦ inr (cc, r.1)
    ]
