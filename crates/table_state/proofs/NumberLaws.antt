-- Numbers that were sorted rise exactly where none comes twice.
use Rattle.std.proofs.Common.{◌≡◌, inl, inr, ℕ, suc, ◌+◌, ◌≤◌, ◌<◌, ◌==◌, ◌&&◌, Bool, true, false, if◌then◌else◌, List, [], ◌∷◌, length, refl, sym, ap, ◌∙◌, subst, arith, get_or}
use Rattle.std.specs.Prelude.{nat_lt}
use Rattle.std.specs.List.{sum_by}
use Rattle.std.specs.List.Sorted.{IsPermutation, IsNonDecreasing}
use Rattle.std.proofs.lemmas.Bool.{eqb-true, eq-eqb, ltb-true, lt-ltb}
use Rattle.std.proofs.lemmas.List.Sums.{sum_by-cons}
use Rattle.std.proofs.lemmas.List.Sorted.{sum_by-IsPermutation}
use Rattle.page_workspace.specs.Spare.{IsIn, AreApart}
use Rattle.std.specs.Bool.{Decides}
use Rattle.table_state.specs.Numbers.{rise_from}
use Rattle.table_state.specs.Grown.{AreOwn}
use Rattle.table_state.proofs.ChainLaws.{and_true}

-- how often a number is there
abbrev is_it : ℕ → ℕ → ℕ
is_it n x = if x == n then 1 else 0

abbrev often : ℕ → List ℕ → ℕ
often n xs = sum_by (is_it n) xs

often_in : (n : ℕ) (xs : List ℕ) → 1 ≤ often n xs → IsIn n xs
often_in n [] h = absurd (none h)
  where
    none : 1 ≤ 0 → ⊥
    none h = omega arith
often_in n (x ∷ xs) h = go (x == n) refl (subst (λ (k : ℕ). 1 ≤ k) (sum_by-cons (is_it n) x xs) h) (often_in n xs)
  where
    go : (t : Bool) → (x == n) ≡ t → 1 ≤ (if t then 1 else 0) + often n xs → (1 ≤ often n xs → IsIn n xs) → IsIn n (x ∷ xs)
    go true e k more = inl (sym (eqb-true x n e))
    go false e k more = let one : 1 ≤ often n xs = omega (arith, k) in inr (more one)

in_often : (n : ℕ) (xs : List ℕ) → IsIn n xs → 1 ≤ often n xs
in_often n [] i = absurd i
in_often n (x ∷ xs) (inl e) =
    let one : is_it n x ≡ 1 = ap (λ (t : Bool). if t then 1 else 0) (eq-eqb x n (sym e)) in
    let sum : often n (x ∷ xs) ≡ is_it n x + often n xs = sum_by-cons (is_it n) x xs in
    omega (arith, one, sum)
in_often n (x ∷ xs) (inr i) =
    let more : 1 ≤ often n xs = in_often n xs i in
    let sum : often n (x ∷ xs) ≡ is_it n x + often n xs = sum_by-cons (is_it n) x xs in
    omega (arith, more, sum)

apart_often : (n : ℕ) (xs : List ℕ) → AreApart xs → often n xs ≤ 1
apart_often n [] h = omega arith
apart_often n (x ∷ xs) h = subst (λ (k : ℕ). k ≤ 1) (sym (sum_by-cons (is_it n) x xs)) (go (x == n) refl (apart_often n xs h.1))
  where
    go : (t : Bool) → (x == n) ≡ t → often n xs ≤ 1 → (if t then 1 else 0) + often n xs ≤ 1
    go false e few = omega (arith, few)
    go true e few =
        let none : 1 ≤ often n xs → ⊥ = λ k. h.0 (subst (λ (m : ℕ). IsIn m xs) (sym (eqb-true x n e)) (often_in n xs k)) in
        omega (arith, none)

often_apart : (xs : List ℕ) → ((n : ℕ) → often n xs ≤ 1) → AreApart xs
often_apart [] h = tt
often_apart (x ∷ xs) h = (λ i. twice i, often_apart xs (λ n. fewer n))
  where
    twice : IsIn x xs → ⊥
    twice i =
        let more : 1 ≤ often x xs = in_often x xs i in
        let one : is_it x x ≡ 1 = ap (λ (t : Bool). if t then 1 else 0) (eq-eqb x x refl) in
        let sum : often x (x ∷ xs) ≡ is_it x x + often x xs = sum_by-cons (is_it x) x xs in
        let few : often x (x ∷ xs) ≤ 1 = h x in
        omega (arith, more, one, sum, few)

    fewer : (n : ℕ) → often n xs ≤ 1
    fewer n =
        let sum : often n (x ∷ xs) ≡ is_it n x + often n xs = sum_by-cons (is_it n) x xs in
        let few : often n (x ∷ xs) ≤ 1 = h n in
        omega (arith, sum, few)

pub apart_moved : (xs ys : List ℕ) → IsPermutation xs ys → AreApart xs → AreApart ys
apart_moved xs ys p h =
    often_apart ys (λ n. subst (λ (k : ℕ). k ≤ 1) (sym (sum_by-IsPermutation (is_it n) xs ys p)) (apart_often n xs h))

pub apart_back : (xs ys : List ℕ) → IsPermutation xs ys → AreApart ys → AreApart xs
apart_back xs ys p h =
    often_apart xs (λ n. subst (λ (k : ℕ). k ≤ 1) (sum_by-IsPermutation (is_it n) xs ys p) (apart_often n ys h))

pub in_moved : (n : ℕ) (xs ys : List ℕ) → IsPermutation xs ys → IsIn n xs → IsIn n ys
in_moved n xs ys p i = often_in n ys (subst (λ (k : ℕ). 1 ≤ k) (sym (sum_by-IsPermutation (is_it n) xs ys p)) (in_often n xs i))

pub in_back : (n : ℕ) (xs ys : List ℕ) → IsPermutation xs ys → IsIn n ys → IsIn n xs
in_back n xs ys p i = often_in n xs (subst (λ (k : ℕ). 1 ≤ k) (sum_by-IsPermutation (is_it n) xs ys p) (in_often n ys i))

-- each number is above a least one and below a limit
abbrev pub AreWithin : ℕ → ℕ → List ℕ → Type 0
AreWithin low limit xs = (n : ℕ) → IsIn n xs → (low < n) × (n < limit)

pub rise_sound : (low limit : ℕ) (xs : List ℕ) → rise_from low limit xs ≡ true → AreApart xs × AreWithin low limit xs
rise_sound low limit [] h = (tt, λ n i. absurd i)
rise_sound low limit (x ∷ xs) h =
    let a = and_true (nat_lt low x) (nat_lt x limit && rise_from x limit xs) h in
    let b = and_true (nat_lt x limit) (rise_from x limit xs) a.1 in
    let r = rise_sound x limit xs b.1 in
    let more : low < x = ltb-true low x a.0 in
    let under : x < limit = ltb-true x limit b.0 in
    ((λ i. itself (r.1 x i).0, r.0), within more under r.1)
  where
    itself : x < x → ⊥
    itself h = omega arith

    within : low < x → x < limit → AreWithin x limit xs → AreWithin low limit (x ∷ xs)
    within more under rest n (inl e) = (subst (λ (k : ℕ). low < k) (sym e) more, subst (λ (k : ℕ). k < limit) (sym e) under)
    within more under rest n (inr i) = let w = rest n i in (let above : x < n = w.0 in omega (arith, above, more), w.1)

record IsPlace (n : ℕ) (xs : List ℕ) : Type 0 where
  at : ℕ
  less : at < length xs
  is : get_or xs at 0 ≡ n

place_of : (n : ℕ) (xs : List ℕ) → IsIn n xs → IsPlace n xs
place_of n [] i = absurd i
place_of n (x ∷ xs) (inl e) = record { at = 0; less = omega arith; is = sym e }
place_of n (x ∷ xs) (inr i) = let p = place_of n xs i in record { at = suc p.at; less = (let less : p.at < length xs = p.less in omega (arith, less)); is = p.is }

pub rise_full : (low limit : ℕ) (xs : List ℕ) → IsNonDecreasing xs → AreApart xs → AreWithin low limit xs → rise_from low limit xs ≡ true
rise_full low limit [] up apart within = refl
rise_full low limit (x ∷ xs) up apart within =
    let w = within x (inl refl) in
    ap (λ (t : Bool). t && (nat_lt x limit && rise_from x limit xs)) (lt-ltb low x w.0)
    ∙ ap (λ (t : Bool). t && rise_from x limit xs) (lt-ltb x limit w.1)
    ∙ rise_full x limit xs (λ i j d h k. up (suc i) (suc j) d (omega (arith, h)) (omega (arith, k))) apart.1 (λ n i. (above n i, (within n (inr i)).1))
  where
    above : (n : ℕ) → IsIn n xs → x < n
    above n i =
        let p = place_of n xs i in
        let less : p.at < length xs = p.less in
        let atmost : x ≤ get_or xs p.at 0 = up 0 (suc p.at) 0 (omega arith) (omega (arith, less)) in
        let is : get_or xs p.at 0 ≡ n = p.is in
        let other : x ≡ n → ⊥ = λ e. apart.0 (subst (λ (k : ℕ). IsIn k xs) (sym e) i) in
        omega (arith, atmost, is, other)

-- numbers that were sorted tell it of those that were not
pub own_decides : (xs ys : List ℕ) (limit : ℕ) (t : Bool) → IsPermutation xs ys → IsNonDecreasing ys → t ≡ rise_from 0 limit ys → Decides t (AreOwn xs limit)
own_decides xs ys limit t moved up e = (
  λ h. sound (rise_sound 0 limit ys (sym e ∙ h)),
  λ own. e ∙ rise_full 0 limit ys up (apart_moved xs ys moved own.apart) (λ n i. own.within n (in_back n xs ys moved i)),
)
  where
    sound : AreApart ys × AreWithin 0 limit ys → AreOwn xs limit
    sound r = record { apart = apart_back xs ys moved r.0; within = λ n i. r.1 n (in_moved n xs ys moved i) }
