-- As many actors as there are, each with a number below that and no two with the same, are all of them.
use Rattle.std.proofs.Common.{◌≡◌, ℕ, zero, suc, ◌+◌, ◌<◌, ◌≤◌, ◌≢◌, Bool, true, false, cond, List, [], ◌∷◌, ◌++◌, length, map, reverse, sym, refl, ap, subst, ◌∙◌, arith, length-append}
use Rattle.std.specs.Prelude.{◌==◌}
use Rattle.std.proofs.lemmas.Bool.Decides.{Decides-eqb}
use Rattle.actor_trace.specs.Lists.{In, times, total}
use Rattle.actor_trace.specs.Lists.In.{here, there}
use Rattle.actor_trace.specs.History.{AllBelow, entries_of}
use Rattle.actor_trace.specs.Actors.{Knows, tag_of}
use Rattle.actor_trace.proofs.Totals.{eq_self, times_append}
use Rattle.actor_trace.proofs.Entries.{not_eq, sum_to, sum_all}
use Rattle.actor_trace.proofs.Joined.{rev_cons, map_reverse}
use Rattle.actor_trace.proofs.Merged.{nobody, too}

times_back : {B : Type 0} (a : ℕ) (xs : List (ℕ × B)) → times a (reverse xs) ≡ times a xs
times_back a [] = refl
times_back a (x ∷ xs) =
    let p : times a (reverse (x ∷ xs)) ≡ times a (reverse xs ++ x ∷ []) = ap (λ t. times a t) (rev_cons x xs) in
    let q : times a (reverse xs ++ x ∷ []) ≡ times a (reverse xs) + times a (x ∷ []) = times_append a (reverse xs) (x ∷ []) in
    let r : times a (reverse xs) ≡ times a xs = times_back a xs in omega arith

-- in the other order they have the same numbers
pub tags_back : {E : Type 0} (a : ℕ) (actors : List (Knows E)) → times a (map tag_of (reverse actors)) ≡ times a (map tag_of actors)
tags_back {E} a actors = ap (λ t. times a t) (map_reverse (tag_of {E = E}) actors) ∙ times_back a (map tag_of actors)

times_is : {B : Type 0} (a : ℕ) (xs : List (ℕ × B)) → length (entries_of a xs) ≡ times a xs
times_is a [] = refl
times_is {B} a (x ∷ xs) = go (times_is a xs) (a == x.0) refl
  where
    go : length (entries_of a xs) ≡ times a xs → (t : Bool) → (a == x.0) ≡ t → length (entries_of a (x ∷ xs)) ≡ times a (x ∷ xs)
    go r true e = let l : length (entries_of a xs ++ (length xs, x.1) ∷ []) ≡ length (entries_of a xs) + 1 = length-append (entries_of a xs) _ in rw e (omega arith)
    go r false e = rw e (omega arith)

below_tags : {E : Type 0} (n : ℕ) (actors : List (Knows E)) → ((x : Knows E) → In x actors → x.number < n) → AllBelow n (map tag_of actors)
below_tags n [] low = tt
below_tags n (x ∷ xs) low = (low x here, below_tags n xs (λ y m. low y (there m)))

length_tags : {E : Type 0} (actors : List (Knows E)) → length (map tag_of actors) ≡ length actors
length_tags [] = refl
length_tags (x ∷ xs) = ap suc (length_tags xs)

sum_few : {B : Type 0} (n : ℕ) (h : List (ℕ × B)) → ((a : ℕ) → length (entries_of a h) ≤ 1) → sum_to n h ≤ n
sum_few zero h few = omega arith
sum_few (suc n) h few = let f : length (entries_of n h) ≤ 1 = few n in let r : sum_to n h ≤ n = sum_few n h few in omega arith

-- n numbers that come at most once, and are n in all, come once each
sum_full : {B : Type 0} (n : ℕ) (h : List (ℕ × B)) → ((a : ℕ) → length (entries_of a h) ≤ 1) → sum_to n h ≡ n → (a : ℕ) → a < n → length (entries_of a h) ≡ 1
sum_full zero h few is a lt = absurd (omega arith)
sum_full {B} (suc n) h few is a lt =
    let f : length (entries_of n h) ≤ 1 = few n in
    let r : sum_to n h ≤ n = sum_few n h few in
    let s : length (entries_of n h) + sum_to n h ≡ suc n = is in
    go (sum_full n h few (omega arith) a) (omega arith) (a == n) refl
  where
    go : (a < n → length (entries_of a h) ≡ 1) → length (entries_of n h) ≡ 1 → (t : Bool) → (a == n) ≡ t → length (entries_of a h) ≡ 1
    go r last true e = ap (λ (k : ℕ). length (entries_of k h)) ((Decides-eqb a n).0 e) ∙ last
    go r last false e = r (let ne : a ≢ n = (λ q. absurd (cc (e, (Decides-eqb a n).1 q))) in omega arith)

pub each_once : {E : Type 0} (n : ℕ) (actors : List (Knows E)) → length actors ≡ n → ((x : Knows E) → In x actors → x.number < n) → ((a : ℕ) → times a (map tag_of actors) ≤ 1)
    → (a : ℕ) → a < n → times a (map tag_of actors) ≡ 1
each_once {E} n actors many low once a lt =
    sym (times_is a (map tag_of actors)) ∙ sum_full n (map tag_of actors) (λ b. subst (λ (k : ℕ). k ≤ 1) (sym (times_is b (map tag_of actors))) (once b))
    (sum_all n (map tag_of actors) (below_tags n actors low) ∙ (length_tags actors ∙ many)) a lt

-- whether one of them has the number
abbrev pub among : {E : Type 0} → List (Knows E) → ℕ → Bool
among [] = nobody
among (x ∷ xs) = too x.number (among xs)

too_has : (k : ℕ) (told : ℕ → Bool) (a : ℕ) → told a ≡ true → too k told a ≡ true
too_has k told a e = go (k == a)
  where
    go : (t : Bool) → cond t true (told a) ≡ true
    go true = refl
    go false = e

pub among_has : {E : Type 0} (a : ℕ) (actors : List (Knows E)) → times a (map tag_of actors) ≡ 1 → among actors a ≡ true
among_has a [] is = absurd (omega arith)
among_has {E} a (x ∷ xs) is = go (among_has a xs) (a == x.number) refl
  where
    go : (times a (map tag_of xs) ≡ 1 → among xs a ≡ true) → (t : Bool) → (a == x.number) ≡ t → among (x ∷ xs) a ≡ true
    go r true e = ap (λ b. cond b true (among xs a)) ((Decides-eqb x.number a).1 (sym ((Decides-eqb a x.number).0 e)))
    go r false e =
        let s : cond false 1 0 + times a (map tag_of xs) ≡ 1 = subst (λ b. cond b 1 0 + times a (map tag_of xs) ≡ 1) e is in
        too_has x.number (among xs) a (r (let z : 0 + times a (map tag_of xs) ≡ 1 = s in omega arith))

one_more : {E : Type 0} (a b : ℕ) (e : E) (h : List (ℕ × E)) → length (entries_of a ((b, e) ∷ h)) ≡ length (entries_of a h) + cond (b == a) 1 0
one_more {E} a b e h = go (a == b) refl
  where
    go : (t : Bool) → (a == b) ≡ t → length (entries_of a ((b, e) ∷ h)) ≡ length (entries_of a h) + cond (b == a) 1 0
    go true d =
        let l : length (entries_of a h ++ (length h, e) ∷ []) ≡ length (entries_of a h) + 1 = length-append (entries_of a h) _ in
        rw (d, (Decides-eqb b a).1 (sym ((Decides-eqb a b).0 d))) (omega arith)
    go false d = rw (d, not_eq b a (λ q. absurd (cc (d, (Decides-eqb a b).1 (sym q))))) (omega arith)

total_none : {E : Type 0} (actors : List (Knows E)) → total (λ (x : Knows E). length (entries_of {E = E} x.number [])) actors ≡ 0
total_none [] = refl
total_none {E} (x ∷ xs) = let r : total (λ (y : Knows E). length (entries_of {E = E} y.number [])) xs ≡ 0 = total_none xs in omega arith

total_more : {E : Type 0} (b : ℕ) (e : E) (h : List (ℕ × E)) (actors : List (Knows E))
    → total (λ (x : Knows E). length (entries_of x.number ((b, e) ∷ h))) actors ≡ total (λ (x : Knows E). length (entries_of x.number h)) actors + times b (map tag_of actors)
total_more b e h [] = refl
total_more {E} b e h (x ∷ xs) =
    let one : length (entries_of x.number ((b, e) ∷ h)) ≡ length (entries_of x.number h) + cond (b == x.number) 1 0 = one_more x.number b e h in
    let r : total (λ (y : Knows E). length (entries_of y.number ((b, e) ∷ h))) xs ≡ total (λ (y : Knows E). length (entries_of y.number h)) xs + times b (map tag_of xs) = total_more b e h xs in
    omega arith

-- all that they did are all events
pub entries_total : {E : Type 0} (n : ℕ) (log : List (ℕ × E)) (actors : List (Knows E)) → ((a : ℕ) → a < n → times a (map tag_of actors) ≡ 1) → AllBelow n log
    → total (λ (x : Knows E). length (entries_of x.number log)) actors ≡ length log
entries_total n [] actors once b = total_none actors
entries_total {E} n (x ∷ log) actors once b =
    let m : total (λ (y : Knows E). length (entries_of y.number (x ∷ log))) actors ≡ total (λ (y : Knows E). length (entries_of y.number log)) actors + times x.0 (map tag_of actors) = total_more x.0 x.1 log actors in
    let t : times x.0 (map tag_of actors) ≡ 1 = once x.0 b.0 in
    let r : total (λ (y : Knows E). length (entries_of y.number log)) actors ≡ length log = entries_total n log actors once b.1 in omega arith

pub made_total : {E : Type 0} (log : List (ℕ × E)) (actors : List (Knows E)) → ((x : Knows E) → In x actors → x.made ≡ entries_of x.number log)
    → total (λ a. length a.made) actors ≡ total (λ (x : Knows E). length (entries_of x.number log)) actors
made_total log [] made = refl
made_total {E} log (x ∷ xs) made =
    let h : length x.made ≡ length (entries_of x.number log) = ap length (made x here) in
    let r : total (λ (a : Knows E). length a.made) xs ≡ total (λ (y : Knows E). length (entries_of y.number log)) xs = made_total log xs (λ y m. made y (there m)) in omega arith
