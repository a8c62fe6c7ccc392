-- Sums over the views, and which numbers stand in them.
use Rattle.std.proofs.Common.{◌≡◌, ℕ, zero, suc, ◌+◌, ◌≤◌, ◌≢◌, ◌⊎◌, List, [], ◌∷◌, ◌++◌, set, sym, refl, ap, inl, inr, arith}
use Rattle.std.specs.Prelude.{◌==◌, true}
use Rattle.std.proofs.lemmas.Bool.Decides.{Decides-eqb}
use mathlib.Core.Option.{some, some-injective, some-ne-none}
use lib.ListN.{get_elem?}
use Rattle.actor_trace.specs.Lists.{In, times, total}
use Rattle.actor_trace.specs.Lists.In.{here, there}

pub total_set : {A : Type 0} (f : A → ℕ) (l : List A) (i : ℕ) (v w : A) → get_elem? l i ≡ some v → total f (set l i w) + f v ≡ total f l + f w
total_set f [] i v w e = absurd (some-ne-none v (sym e))
total_set f (x ∷ xs) zero v w e = let same : f x ≡ f v = ap f (some-injective x v e) in omega arith
total_set f (x ∷ xs) (suc i) v w e = let r : total f (set xs i w) + f v ≡ total f xs + f w = total_set f xs i v w e in omega arith

pub total_snoc : {A : Type 0} (f : A → ℕ) (l : List A) (w : A) → total f (l ++ w ∷ []) ≡ total f l + f w
total_snoc f [] w = omega arith
total_snoc f (x ∷ xs) w = let r : total f (xs ++ w ∷ []) ≡ total f xs + f w = total_snoc f xs w in omega arith

pub total_has : {A : Type 0} (f : A → ℕ) (l : List A) (i : ℕ) (v : A) → get_elem? l i ≡ some v → f v ≤ total f l
total_has f [] i v e = absurd (some-ne-none v (sym e))
total_has f (x ∷ xs) zero v e = let same : f x ≡ f v = ap f (some-injective x v e) in omega arith
total_has f (x ∷ xs) (suc i) v e = let r : f v ≤ total f xs = total_has f xs i v e in omega arith

-- two places
pub total_two : {A : Type 0} (f : A → ℕ) (l : List A) (i j : ℕ) (v w : A) → j ≢ i → get_elem? l i ≡ some v → get_elem? l j ≡ some w → f v + f w ≤ total f l
total_two f [] i j v w n e d = absurd (some-ne-none v (sym e))
total_two f (x ∷ xs) zero zero v w n e d = absurd (n refl)
total_two f (x ∷ xs) zero (suc j) v w n e d =
    let same : f x ≡ f v = ap f (some-injective x v e) in
    let r : f w ≤ total f xs = total_has f xs j w d in omega arith
total_two f (x ∷ xs) (suc i) zero v w n e d =
    let same : f x ≡ f w = ap f (some-injective x w d) in
    let r : f v ≤ total f xs = total_has f xs i v e in omega arith
total_two f (x ∷ xs) (suc i) (suc j) v w n e d =
    let r : f v + f w ≤ total f xs = total_two f xs i j v w (λ h. n (ap suc h)) e d in omega arith

pub eq_self : (a : ℕ) → (a == a) ≡ true
eq_self a = (Decides-eqb a a).1 refl

pub times_has : {B : Type 0} (a : ℕ) (b : B) (xs : List (ℕ × B)) → In (a, b) xs → 1 ≤ times a xs
times_has a b [] m = elim m [ ]
times_has a b (x ∷ xs) here = rw (eq_self a) (omega arith)
times_has a b (x ∷ xs) (there m) = let r : 1 ≤ times a xs = times_has a b xs m in omega arith

pub times_append : {B : Type 0} (a : ℕ) (xs ys : List (ℕ × B)) → times a (xs ++ ys) ≡ times a xs + times a ys
times_append a [] ys = omega arith
times_append a (x ∷ xs) ys = let r : times a (xs ++ ys) ≡ times a xs + times a ys = times_append a xs ys in omega arith

pub in_append : {A : Type 0} (x : A) (xs ys : List A) → In x (xs ++ ys) → In x xs ⊎ In x ys
in_append x [] ys m = inr m
in_append x (y ∷ xs) ys here = inl here
in_append x (y ∷ xs) ys (there m) = go (in_append x xs ys m)
  where
    go : In x xs ⊎ In x ys → In x (y ∷ xs) ⊎ In x ys
    go (inl a) = inl (there a)
    go (inr b) = inr b
