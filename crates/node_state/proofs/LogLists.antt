-- A log that is taken, by what a packet has of it.
use Rattle.std.proofs.Common.{ℕ, ◌≡◌, ◌+◌, ◌-◌, ◌≤◌, List, [], ◌∷◌, ◌++◌, length, take, drop, map, length-append, arith, refl, sym, ap, ◌∙◌}
use Rattle.std.specs.Prelude.{zero, suc, Some, None, slice_get}
use mathlib.Core.Logic.{◌⊎◌, inl, inr}
use Rattle.core_lists.specs.Fronts.{Front}
use Rattle.core_lists.specs.Fronts.Front.{front_nil, front_cons}
use Rattle.core_lists.specs.Lists.{In}
use Rattle.core_lists.proofs.Fronts.{front_trans, front_either, front_same, length_take, take_length}
use Rattle.cluster_consensus.specs.Facts.{Claim, World}
use Rattle.cluster_consensus.proofs.Invariant.{Inv}
use Rattle.cluster_consensus.proofs.Generations.{comparable}

-- two fronts of one list are the same where they are as long
one_front : {A : Type 0} {xs ys zs : List A} → Front xs zs → Front ys zs → length xs ≡ length ys → xs ≡ ys
one_front {A} {xs} {ys} p q e = go (front_either p q)
  where
    go : Front xs ys ⊎ Front ys xs → xs ≡ ys
    go (inl f) = front_same f (omega arith)
    go (inr f) = sym (front_same f (omega arith))

-- fronts of what was shipped in one generation are the same where they are as long
pub one_ship : {E : Type 0} {n : ℕ} {w : World E} → Inv n w → (m k : ℕ) (s c : Claim E) → In s (w.nodes m).ships → In c (w.nodes k).ships → s.gen ≡ c.gen
    → (xs ys : List E) → Front xs s.log → Front ys c.log → length xs ≡ length ys → xs ≡ ys
one_ship {n = n} {w = w} inv m k s c hs hc g xs ys p q e = go (comparable inv m k s c ((inv.local m).ships.at s hs).1 ((inv.local k).ships.at c hc).1 g)
  where
    go : Front s.log c.log ⊎ Front c.log s.log → xs ≡ ys
    go (inl f) = one_front (front_trans p f) q e
    go (inr f) = one_front p (front_trans q f) e

pub take_size : {A : Type 0} (l : ℕ) (xs : List A) → l ≤ length xs → length (take l xs) ≡ l
take_size l xs le = let a = length_take l xs in let b = take_length l xs le in omega arith

pub map_size : {A B : Type 0} (f : A → B) (xs : List A) → length (map f xs) ≡ length xs
map_size f [] = refl
map_size f (x ∷ xs) = ap suc (map_size f xs)

pub map_take : {A B : Type 0} (f : A → B) (n : ℕ) (xs : List A) → map f (take n xs) ≡ take n (map f xs)
map_take f zero xs = refl
map_take f (suc n) [] = refl
map_take f (suc n) (x ∷ xs) = ap (λ t. f x ∷ t) (map_take f n xs)

pub map_front : {A B : Type 0} (f : A → B) {xs ys : List A} → Front xs ys → Front (map f xs) (map f ys)
map_front f front_nil = front_nil
map_front f (front_cons p) = front_cons (map_front f p)

-- the end of a list that is as long as the list
pub whole_end : {A : Type 0} (log front es : List A) → log ≡ front ++ es → length es ≡ length log → es ≡ log
whole_end log [] es e l = sym e
whole_end log (x ∷ front) es e l =
    let a : length log ≡ length ((x ∷ front) ++ es) = ap length e in
    let b : length (front ++ es) ≡ length front + length es = length-append front es in
    absurd (omega arith)

some_same : {A : Type 0} (a b : A) → Some a ≡ Some b → a ≡ b
some_same a b e = cc

-- the element at a place, and what is left behind it
pub drop_at : {A : Type 0} (es : List A) (at : ℕ) (e : A) → slice_get es at ≡ Some e → drop at es ≡ e ∷ drop (suc at) es
drop_at [] at e q = absurd (let f : None ≡ Some e = q in cc)
drop_at (x ∷ es) zero e q = ap (λ t. t ∷ es) (some_same x e q)
drop_at (x ∷ es) (suc at) e q = drop_at es at e q

pub put_step : {A : Type 0} (xs : List A) (x : A) (rest : List A) → (xs ++ x ∷ []) ++ rest ≡ xs ++ x ∷ rest
put_step [] x rest = refl
put_step (y ∷ xs) x rest = ap (λ t. y ∷ t) (put_step xs x rest)

pub none_behind : {A : Type 0} (xs : List A) → xs ++ [] ≡ xs
none_behind [] = refl
none_behind (x ∷ xs) = ap (λ t. x ∷ t) (none_behind xs)

-- a log that is a front of a longer one, whose last elements are given: with the next of these it is the front that is one longer
next_of : {A : Type 0} {log whole : List A} (e : A) → Front log whole → slice_get whole (length log) ≡ Some e → take (suc (length log)) whole ≡ log ++ e ∷ []
next_of {whole = whole} e front_nil q = first whole e q
  where
    first : {A : Type 0} (ys : List A) (e : A) → slice_get ys 0 ≡ Some e → take 1 ys ≡ e ∷ []
    first [] e q = absurd (let g : None ≡ Some e = q in cc)
    first (y ∷ ys) e q = ap (λ t. t ∷ []) (some_same y e q)
next_of e (front_cons {x = x} p) q = ap (λ t. x ∷ t) (next_of e p q)

place_behind : {A : Type 0} (front es : List A) (k : ℕ) → length front ≤ k → slice_get (front ++ es) k ≡ slice_get es (k - length front)
place_behind [] es k le = ap (λ i. slice_get es i) (let e : k ≡ k - 0 = omega arith in e)
place_behind (x ∷ front) es zero le = absurd (omega arith)
place_behind (x ∷ front) es (suc k) le = place_behind front es k (omega arith) ∙ ap (λ i. slice_get es i) (let e : k - length front ≡ suc k - suc (length front) = omega arith in e)

pub one_taken : {A : Type 0} (log log' whole front es : List A) (at l : ℕ) (e : A) → Front log whole → whole ≡ front ++ es → length front ≤ length log → at ≡ length log - length front
    → l ≡ length log + 1 → slice_get es at ≡ Some e → log' ≡ log ++ e ∷ [] → log' ≡ take l whole
one_taken log log' whole front es at l e f split gap place size got new =
    let found : slice_get whole (length log) ≡ Some e = ap (λ t. slice_get t (length log)) split ∙ (place_behind front es (length log) gap ∙ (ap (λ i. slice_get es i) (sym place) ∙ got)) in
    let count : l ≡ suc (length log) = omega arith in
    new ∙ (sym (next_of e f found) ∙ ap (λ k. take k whole) (sym count))
