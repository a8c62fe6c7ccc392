-- Falls with their tickets, the last of them first: who knows each node's own knows them all.
use Rattle.std.proofs.Common.{ℕ, ◌≡◌, ◌<◌, ◌≤◌, List, [], ◌∷◌, ◌++◌, length, arith, refl, sym, subst, ap, ◌∙◌}
use Rattle.std.specs.Prelude.{◌==◌, suc, Bool, true, false, cond}
use Rattle.std.proofs.lemmas.Bool.Decides.{Decides-eqb}
use Rattle.cluster_answers.proofs.BeginLaws.{cons_parts}
use Rattle.cluster_events.proofs.OwnLines.{eq_swap}

-- those of one actor
abbrev pub only : ℕ → List (ℕ × ℕ) → List (ℕ × ℕ)
only k [] = []
only k (x ∷ xs) = cond (k == x.1) (x ∷ only k xs) (only k xs)

abbrev pub AllUnder : ℕ → List (ℕ × ℕ) → Type 0
AllUnder t [] = Unit {0}
AllUnder t (x ∷ xs) = (x.0 < t) × AllUnder t xs

abbrev pub Descends : List (ℕ × ℕ) → Type 0
Descends [] = Unit {0}
Descends (x ∷ xs) = AllUnder x.0 xs × Descends xs

abbrev pub nodes_of : List (ℕ × ℕ) → List ℕ
nodes_of [] = []
nodes_of (x ∷ xs) = nodes_of xs ++ x.1 ∷ []

pub under_more : (s t : ℕ) (xs : List (ℕ × ℕ)) → s ≤ t → AllUnder s xs → AllUnder t xs
under_more s t [] le all = tt
under_more s t (x ∷ xs) le all = (let lt : x.0 < s = all.0 in omega (arith, lt, le), under_more s t xs le all.1)

self_eq : (k : ℕ) → (k == k) ≡ true
self_eq k = (Decides-eqb k k).1 refl

-- one of that actor comes first, or none does
only_own : (x : ℕ × ℕ) (xs : List (ℕ × ℕ)) → only x.1 (x ∷ xs) ≡ x ∷ only x.1 xs
only_own x xs = ap (λ b. cond b (x ∷ only x.1 xs) (only x.1 xs)) (self_eq x.1)

only_other : (k : ℕ) (x : ℕ × ℕ) (xs : List (ℕ × ℕ)) → (k == x.1) ≡ false → only k (x ∷ xs) ≡ only k xs
only_other k x xs ne = ap (λ b. cond b (x ∷ only k xs) (only k xs)) ne

-- what stands first among those of an actor stands there, with a ticket below
first_under : (k t : ℕ) (x : ℕ × ℕ) (ys xs : List (ℕ × ℕ)) → AllUnder t xs → only k xs ≡ x ∷ ys → x.0 < t
first_under k t x ys [] all is = absurd (let size : 0 ≡ suc (length ys) = ap (λ z. length z) is in omega (arith, size))
first_under k t x ys (y ∷ xs) all is = go (k == y.1) refl (first_under k t x ys xs all.1)
  where
    go : (b : Bool) → (k == y.1) ≡ b → (only k xs ≡ x ∷ ys → x.0 < t) → x.0 < t
    go true e later =
        let its : y ∷ only k xs ≡ x ∷ ys = sym (ap (λ b. cond b (y ∷ only k xs) (only k xs)) e) ∙ is in
        let same : y.0 ≡ x.0 = ap (λ (z : ℕ × ℕ). z.0) (cons_parts its).0 in
        let lt : y.0 < t = all.0 in
        omega (arith, same, lt)
    go false e later = later (sym (only_other k y xs e) ∙ is)

-- two lists of falls in which each actor has the same are the same
same_rest : (x : ℕ × ℕ) (xs ys : List (ℕ × ℕ)) → ((k : ℕ) → only k (x ∷ xs) ≡ only k (x ∷ ys)) → (k : ℕ) → only k xs ≡ only k ys
same_rest x xs ys all k = go (k == x.1) refl
  where
    go : (b : Bool) → (k == x.1) ≡ b → only k xs ≡ only k ys
    go true e =
        let left : only k (x ∷ xs) ≡ x ∷ only k xs = ap (λ b. cond b (x ∷ only k xs) (only k xs)) e in
        let right : only k (x ∷ ys) ≡ x ∷ only k ys = ap (λ b. cond b (x ∷ only k ys) (only k ys)) e in
        (cons_parts (sym left ∙ (all k ∙ right))).1
    go false e = sym (only_other k x xs e) ∙ (all k ∙ only_other k x ys e)

same_first : (x y : ℕ × ℕ) (xs ys : List (ℕ × ℕ)) → AllUnder x.0 xs → AllUnder y.0 ys → ((k : ℕ) → only k (x ∷ xs) ≡ only k (y ∷ ys)) → x ≡ y
same_first x y xs ys under over all = go (x.1 == y.1) refl
  where
    go : (b : Bool) → (x.1 == y.1) ≡ b → x ≡ y
    go true e =
        let right : only x.1 (y ∷ ys) ≡ y ∷ only x.1 ys = ap (λ b. cond b (y ∷ only x.1 ys) (only x.1 ys)) e in
        (cons_parts (sym (only_own x xs) ∙ (all x.1 ∙ right))).0
    go false e =
        let swap : (y.1 == x.1) ≡ false = eq_swap x.1 y.1 e in
        let low : x.0 < y.0 = first_under x.1 y.0 x (only x.1 xs) ys over (sym (only_other x.1 y ys e) ∙ (sym (all x.1) ∙ only_own x xs)) in
        let high : y.0 < x.0 = first_under y.1 x.0 y (only y.1 ys) xs under (sym (only_other y.1 x xs swap) ∙ (all y.1 ∙ only_own y ys)) in
        absurd (omega (arith, low, high))

pub same_tags : (xs ys : List (ℕ × ℕ)) → Descends xs → Descends ys → ((k : ℕ) → only k xs ≡ only k ys) → xs ≡ ys
same_tags [] [] a b all = refl
same_tags [] (y ∷ ys) a b all = absurd (let size : 0 ≡ suc (length (only y.1 ys)) = ap (λ z. length z) (all y.1 ∙ only_own y ys) in omega (arith, size))
same_tags (x ∷ xs) [] a b all = absurd (let size : suc (length (only x.1 xs)) ≡ 0 = ap (λ z. length z) (sym (only_own x xs) ∙ all x.1) in omega (arith, size))
same_tags (x ∷ xs) (y ∷ ys) a b all =
    let same : x ≡ y = same_first x y xs ys a.0 b.0 all in
    let rest : (k : ℕ) → only k xs ≡ only k ys = same_rest x xs ys (subst (λ z. (k : ℕ) → only k (x ∷ xs) ≡ only k (z ∷ ys)) (sym same) all) in
    ap (λ z. z ∷ xs) same ∙ ap (λ z. y ∷ z) (same_tags xs ys a.1 b.1 rest)
