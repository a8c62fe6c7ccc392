-- Lists that are split in two ways, and what stands in their parts.
use Rattle.std.proofs.Common.{◌≡◌, List, [], ◌∷◌, ◌++◌, refl, sym, ap, ◌∙◌, ◌⊎◌, inl, inr}
use Rattle.std.proofs.lemmas.List.{append-nil, append_cancel_left}
use Rattle.session_language.proofs.UpToLaws.{same_head, same_tail}

-- a member stands in the front of a list, or behind it
pub reaches : {A : Type 0} (u : List A) (r : A) (tail xs ys : List A) → u ++ r ∷ tail ≡ xs ++ ys → ((more : List A) × (xs ≡ u ++ r ∷ more)) ⊎ ((extra : List A) × (u ≡ xs ++ extra) × (ys ≡ extra ++ r ∷ tail))
reaches u r tail [] ys is = inr (u, refl, sym is)
reaches [] r tail (x ∷ xs) ys is = inl (xs, ap (λ z. z ∷ xs) (sym (same_head r x tail (xs ++ ys) is)))
reaches {A} (z ∷ u) r tail (x ∷ xs) ys is = go (reaches u r tail xs ys (same_tail z x (u ++ r ∷ tail) (xs ++ ys) is))
  where
    head : z ≡ x
    head = same_head z x (u ++ r ∷ tail) (xs ++ ys) is

    go : ((more : List A) × (xs ≡ u ++ r ∷ more)) ⊎ ((extra : List A) × (u ≡ xs ++ extra) × (ys ≡ extra ++ r ∷ tail)) → ((more : List A) × (x ∷ xs ≡ z ∷ (u ++ r ∷ more))) ⊎ ((extra : List A) × (z ∷ u ≡ x ∷ (xs ++ extra)) × (ys ≡ extra ++ r ∷ tail))
    go (inl (more, e)) = inl (more, ap (λ (ws : List A). x ∷ ws) e ∙ ap (λ (w : A). w ∷ (u ++ r ∷ more)) (sym head))
    go (inr (extra, e, f)) = inr (extra, ap (λ (ws : List A). z ∷ ws) e ∙ ap (λ (w : A). w ∷ (xs ++ extra)) head, f)

pub none_left : {A : Type 0} (r : A) (extra tail : List A) → [] ≡ extra ++ r ∷ tail → ⊥
none_left r [] tail is = cc
none_left r (x ∷ extra) tail is = cc

-- where one member is left, it is that one
pub one_left : {A : Type 0} (x r : A) (extra tail : List A) → x ∷ [] ≡ extra ++ r ∷ tail → (extra ≡ []) × (x ≡ r) × (tail ≡ [])
one_left x r [] tail is = (refl, same_head x r [] tail is, sym (same_tail x r [] tail is))
one_left x r (y ∷ extra) tail is = absurd (none_left r extra tail (same_tail x y [] (extra ++ r ∷ tail) is))

-- a list is not longer than itself
pub no_longer : {A : Type 0} (u : List A) (r : A) (more : List A) → u ≡ u ++ r ∷ more → ⊥
no_longer u r more is = none_left r [] more (append_cancel_left u [] (r ∷ more) (append-nil u ∙ is))

-- behind the same front the next members of one list are the same
pub same_next : {A : Type 0} (u : List A) (r q : A) (more others : List A) → u ++ r ∷ more ≡ u ++ q ∷ others → r ≡ q
same_next u r q more others is = same_head r q more others (append_cancel_left u (r ∷ more) (q ∷ others) is)
