-- Numbers among numbers, and none of them twice.
use Rattle.std.proofs.Common.{◌≡◌, ◌⊎◌, inl, inr, ℕ, List, [], ◌∷◌, ◌++◌, refl, sym}
use Rattle.page_workspace.specs.Spare.{IsIn, AreApart}

pub in_left : (n : ℕ) (xs ys : List ℕ) → IsIn n xs → IsIn n (xs ++ ys)
in_left n [] ys h = absurd h
in_left n (x ∷ xs) ys (inl e) = inl e
in_left n (x ∷ xs) ys (inr h) = inr (in_left n xs ys h)

pub in_right : (n : ℕ) (xs ys : List ℕ) → IsIn n ys → IsIn n (xs ++ ys)
in_right n [] ys h = h
in_right n (x ∷ xs) ys h = inr (in_right n xs ys h)

pub in_either : (n : ℕ) (xs ys : List ℕ) → IsIn n (xs ++ ys) → IsIn n xs ⊎ IsIn n ys
in_either n [] ys h = inr h
in_either n (x ∷ xs) ys (inl e) = inl (inl e)
in_either n (x ∷ xs) ys (inr h) = go (in_either n xs ys h)
  where
    go : IsIn n xs ⊎ IsIn n ys → IsIn n (x ∷ xs) ⊎ IsIn n ys
    go (inl h) = inl (inr h)
    go (inr h) = inr h

pub apart_left : (xs ys : List ℕ) → AreApart (xs ++ ys) → AreApart xs
apart_left [] ys h = tt
apart_left (x ∷ xs) ys h = (λ i. h.0 (in_left x xs ys i), apart_left xs ys h.1)

pub apart_right : (xs ys : List ℕ) → AreApart (xs ++ ys) → AreApart ys
apart_right [] ys h = h
apart_right (x ∷ xs) ys h = apart_right xs ys h.1

pub apart_cross : (n : ℕ) (xs ys : List ℕ) → AreApart (xs ++ ys) → IsIn n xs → IsIn n ys → ⊥
apart_cross n [] ys h i j = absurd i
apart_cross n (x ∷ xs) ys h (inl e) j = h.0 (go xs)
  where
    same : (zs : List ℕ) → IsIn n zs → IsIn x zs
    same [] k = k
    same (z ∷ zs) (inl k) = inl (cc)
    same (z ∷ zs) (inr k) = inr (same zs k)

    go : (zs : List ℕ) → IsIn x (zs ++ ys)
    go zs = in_right x zs ys (same ys j)
apart_cross n (x ∷ xs) ys h (inr i) j = apart_cross n xs ys h.1 i j

pub apart_join : (xs ys : List ℕ) → AreApart xs → AreApart ys → ((n : ℕ) → IsIn n xs → IsIn n ys → ⊥) → AreApart (xs ++ ys)
apart_join [] ys a b cross = b
apart_join (x ∷ xs) ys a b cross = (λ h. go (in_either x xs ys h), apart_join xs ys a.1 b (λ n i j. cross n (inr i) j))
  where
    go : IsIn x xs ⊎ IsIn x ys → ⊥
    go (inl h) = a.0 h
    go (inr h) = cross x (inl refl) h

-- one more in the middle
pub apart_more : (xs : List ℕ) (n : ℕ) (ys : List ℕ) → AreApart (xs ++ ys) → (IsIn n (xs ++ ys) → ⊥) → AreApart (xs ++ (n ∷ ys))
apart_more [] n ys h off = (off, h)
apart_more (x ∷ xs) n ys h off =
    (λ i. go (in_either x xs (n ∷ ys) i), apart_more xs n ys h.1 (λ i. off (inr i)))
  where
    go : IsIn x xs ⊎ IsIn x (n ∷ ys) → ⊥
    go (inl i) = h.0 (in_left x xs ys i)
    go (inr (inl e)) = off (inl (sym e))
    go (inr (inr i)) = h.0 (in_right x xs ys i)

pub in_more : (k : ℕ) (xs : List ℕ) (n : ℕ) (ys : List ℕ) → IsIn k (xs ++ (n ∷ ys)) → IsIn k (xs ++ ys) ⊎ (k ≡ n)
in_more k xs n ys h = go (in_either k xs (n ∷ ys) h)
  where
    go : IsIn k xs ⊎ IsIn k (n ∷ ys) → IsIn k (xs ++ ys) ⊎ (k ≡ n)
    go (inl i) = inl (in_left k xs ys i)
    go (inr (inl e)) = inr e
    go (inr (inr i)) = inl (in_right k xs ys i)
