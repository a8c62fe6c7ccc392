-- Each kind of step keeps the rule: what a view has to fit, and how often a number stands.
use Rattle.std.proofs.Common.{◌≡◌, ℕ, ◌≢◌, ◌⊎◌, List, [], ◌∷◌, ◌++◌, set, refl, ap, subst, ◌∙◌, inl, inr, append_assoc}
use mathlib.Core.Option.{some}
use lib.ListN.{get_elem?}
use Rattle.atomic_table.proofs.Lists.{at_set, at_snoc}
use Rattle.actor_trace.specs.Lists.{Begins, times}
use Rattle.actor_trace.specs.Views.{Fits}
use Rattle.actor_trace.specs.declared.view.View.{View}

pub begins_self : {A : Type 0} (xs : List A) → Begins xs xs
begins_self xs = record { later = []; whole = refl }

pub begins_nil : {A : Type 0} (xs : List A) → Begins [] xs
begins_nil xs = record { later = xs; whole = append_nil xs }
  where
    append_nil : {A : Type 0} (xs : List A) → xs ++ [] ≡ xs
    append_nil [] = refl
    append_nil (x ∷ xs) = ap (λ ys. x ∷ ys) (append_nil xs)

pub begins_more : {A : Type 0} (x : A) (xs ys : List A) → Begins xs ys → Begins xs (x ∷ ys)
begins_more x xs ys b = record { later = x ∷ b.later; whole = ap (λ zs. x ∷ zs) b.whole }

pub begins_trans : {A : Type 0} (xs ys zs : List A) → Begins xs ys → Begins ys zs → Begins xs zs
begins_trans xs ys zs b c = record { later = c.later ++ b.later; whole = append_assoc c.later b.later xs ∙ (ap (λ t. c.later ++ t) b.whole ∙ c.whole) }

abbrev pub own_of : {E : Type 0} → ℕ → View E → ℕ
own_of a v = times a v.made

-- a view was changed
pub fits_set : {E : Type 0} (n : ℕ) (log : List (ℕ × E)) (views : List (View E)) (id : ℕ) (w : View E) → Fits n log w
    → ((i : ℕ) (v : View E) → i ≢ id → get_elem? views i ≡ some v → Fits n log v)
    → (i : ℕ) (v : View E) → get_elem? (set views id w) i ≡ some v → Fits n log v
fits_set {E} n log views id w fw f i v e = go (at_set views id i w v e)
  where
    go : ((i ≡ id) × (w ≡ v)) ⊎ ((i ≢ id) × (get_elem? views i ≡ some v)) → Fits n log v
    go (inl p) = subst (λ (u : View E). Fits n log u) p.1 fw
    go (inr p) = f i v p.0 p.1

-- a view was added
pub fits_snoc : {E : Type 0} (n : ℕ) (log : List (ℕ × E)) (views : List (View E)) (w : View E) → Fits n log w
    → ((i : ℕ) (v : View E) → get_elem? views i ≡ some v → Fits n log v)
    → (i : ℕ) (v : View E) → get_elem? (views ++ w ∷ []) i ≡ some v → Fits n log v
fits_snoc {E} n log views w fw f i v e = go (at_snoc views w v i e)
  where
    go : (get_elem? views i ≡ some v) ⊎ (w ≡ v) → Fits n log v
    go (inl p) = f i v p
    go (inr p) = subst (λ (u : View E). Fits n log u) p fw
