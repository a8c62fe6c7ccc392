-- Fronts of lists.
use Rattle.std.proofs.Common.{◌≡◌, ℕ, ◌≤◌, List, [], ◌∷◌, ◌++◌, length, take, arith, refl, ap}
use Rattle.std.specs.Prelude.{zero, suc}
use mathlib.Core.Logic.{◌⊎◌, inl, inr}
use Rattle.core_lists.specs.Fronts.{Front}
use Rattle.core_lists.specs.Fronts.Front.{front_nil, front_cons}

pub front_refl : {A : Type 0} (xs : List A) → Front xs xs
front_refl [] = front_nil
front_refl (x ∷ xs) = front_cons (front_refl xs)

pub front_trans : {A : Type 0} {xs ys zs : List A} → Front xs ys → Front ys zs → Front xs zs
front_trans front_nil q = front_nil
front_trans (front_cons p) (front_cons q) = front_cons (front_trans p q)

pub front_length : {A : Type 0} {xs ys : List A} → Front xs ys → length xs ≤ length ys
front_length front_nil = omega arith
front_length (front_cons p) = let h = front_length p in omega arith

pub front_append : {A : Type 0} (xs ys : List A) → Front xs (xs ++ ys)
front_append [] ys = front_nil
front_append (x ∷ xs) ys = front_cons (front_append xs ys)

pub front_rest : {A : Type 0} {xs ys : List A} → Front xs ys → (zs : List A) × (xs ++ zs ≡ ys)
front_rest {A} {xs} {ys} front_nil = (ys, refl)
front_rest (front_cons {x = x} p) = let r = front_rest p in (r.0, ap (λ t. x ∷ t) r.1)

-- of two beginnings of one list one begins the other
pub front_either : {A : Type 0} {xs ys zs : List A} → Front xs zs → Front ys zs → Front xs ys ⊎ Front ys xs
front_either front_nil q = inl front_nil
front_either (front_cons p) front_nil = inr front_nil
front_either (front_cons p) (front_cons q) = elim (front_either p q) [ inl a ↦ inl (front_cons a) | inr b ↦ inr (front_cons b) ]

pub front_shorter : {A : Type 0} {xs ys zs : List A} → Front xs zs → Front ys zs → length xs ≤ length ys → Front xs ys
front_shorter front_nil q h = front_nil
front_shorter (front_cons p) front_nil h = absurd (omega arith)
front_shorter (front_cons p) (front_cons q) h = front_cons (front_shorter p q (omega arith))

pub front_same : {A : Type 0} {xs ys : List A} → Front xs ys → length ys ≤ length xs → xs ≡ ys
front_same {A} {xs} {ys} front_nil h = short ys h
  where
    short : (zs : List A) → length zs ≤ 0 → [] ≡ zs
    short [] h = refl
    short (z ∷ zs) h = absurd (omega arith)
front_same (front_cons {x = x} p) h = ap (λ t. x ∷ t) (front_same p (omega arith))

pub front_take : {A : Type 0} (n : ℕ) (xs : List A) → Front (take n xs) xs
front_take zero xs = front_nil
front_take (suc n) [] = front_nil
front_take (suc n) (x ∷ xs) = front_cons (front_take n xs)

pub length_take : {A : Type 0} (n : ℕ) (xs : List A) → length (take n xs) ≤ n
length_take zero xs = omega arith
length_take (suc n) [] = omega arith
length_take (suc n) (x ∷ xs) = let h = length_take n xs in omega arith

pub take_length : {A : Type 0} (n : ℕ) (xs : List A) → n ≤ length xs → n ≤ length (take n xs)
take_length zero xs h = omega arith
take_length (suc n) [] h = absurd (omega arith)
take_length (suc n) (x ∷ xs) h = let k = take_length n xs (omega arith) in omega arith

-- a log that begins with the first n of another has the same first n
pub same_front : {A : Type 0} (n : ℕ) (xs ys : List A) → n ≤ length xs → Front (take n xs) ys → n ≤ length ys × (take n xs ≡ take n ys)
same_front n xs ys h p =
    let a = front_length p in
    let b = take_length n xs h in
    let c : n ≤ length ys = omega arith in
    let d = length_take n ys in
    let e = length_take n xs in
    let f = take_length n ys c in
    (c, front_same (front_shorter p (front_take n ys) (omega arith)) (omega arith))
