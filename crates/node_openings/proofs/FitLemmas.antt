-- The lowest store that does not fit, as the openings of reports look for it.
use Rattle.std.proofs.Common.{◌≡◌, ◌⊎◌, inl, inr, ℕ, zero, suc, ◌+◌, ◌<◌, ◌≤◌, Bool, true, false, List, [], ◌∷◌, ◌++◌, length, Option, Some, None, refl, sym, subst, ap, ◌∙◌, arith, if◌then◌else◌}
use Rattle.core_lists.specs.Lists.{Each, In}
use Rattle.core_lists.specs.Lists.In.{here, there}
use Rattle.cluster_consensus.specs.Enabled.{Fit}
use Rattle.cluster_consensus.specs.Facts.{Admit}
use Rattle.election_core.specs.Fits.{IsLowestUnfit, lacks_cover}
use Rattle.election_core.proofs.Fitting.{FitTo, first_unfit, fit_more}
use Rattle.play_order.specs.Openings.{first_where}
use Rattle.play_order.specs.Peers.{numbers_to}
use Rattle.node_openings.specs.declared.found.StoreFound.{StoreFound}
use Rattle.node_openings.specs.declared.found.StoreFound.TheVariants as store
use Rattle.node_openings.specs.Judged.{admit_of, admits_of}

abbrev or_else : Option ℕ → Option ℕ → Option ℕ
or_else None other = other
or_else (Some k) other = Some k

where_behind : (q : ℕ → Bool) (xs : List ℕ) (k : ℕ) → first_where q (xs ++ k ∷ []) ≡ or_else (first_where q xs) (if q k then Some k else None)
where_behind q [] k = refl
where_behind q (x ∷ xs) k = go (q x) (where_behind q xs k)
  where
    go : (t : Bool) → first_where q (xs ++ k ∷ []) ≡ or_else (first_where q xs) (if q k then Some k else None)
        → (if t then Some x else first_where q (xs ++ k ∷ [])) ≡ or_else (if t then Some x else first_where q xs) (if q k then Some k else None)
    go true again = refl
    go false again = again

-- none of the numbers passes, or this is the first
where_none : (q : ℕ → Bool) (n : ℕ) → ((k : ℕ) → 0 < k → k ≤ n → q k ≡ false) → first_where q (numbers_to n) ≡ None
where_none q zero fails = refl
where_none q (suc n) fails =
    where_behind q (numbers_to n) (suc n)
    ∙ (ap (λ o. or_else o (if q (suc n) then Some (suc n) else None)) (where_none q n (λ k low high. fails k low (omega arith)))
    ∙ ap (λ (t : Bool). if t then Some (suc n) else None) (fails (suc n) (omega arith) (omega arith)))

where_some : (q : ℕ → Bool) (n k : ℕ) → 0 < k → k ≤ n → q k ≡ true → ((j : ℕ) → 0 < j → j < k → q j ≡ false) → first_where q (numbers_to n) ≡ Some k
where_some q zero k low high passes fails = absurd (omega arith)
where_some q (suc n) k low high passes fails = go (below k n high) (λ le. where_some q n k low le passes fails)
  where
    below : (k n : ℕ) → k ≤ suc n → (k ≤ n) ⊎ (k ≡ suc n)
    below k n h = grind arith

    go : (k ≤ n) ⊎ (k ≡ suc n) → (k ≤ n → first_where q (numbers_to n) ≡ Some k) → first_where q (numbers_to (suc n)) ≡ Some k
    go (inl le) again = where_behind q (numbers_to n) (suc n) ∙ ap (λ o. or_else o (if q (suc n) then Some (suc n) else None)) (again le)
    go (inr is) again =
        where_behind q (numbers_to n) (suc n)
        ∙ (ap (λ o. or_else o (if q (suc n) then Some (suc n) else None)) (where_none q n (λ j low le. fails j low (let e : k ≡ suc n = is in omega arith)))
        ∙ (ap (λ (t : Bool). if t then Some (suc n) else None) (subst (λ m. q m ≡ true) is passes) ∙ ap Some (sym is)))

-- the test of a number, of which it is not known yet how it ends
by_test : (b : Bool) → (b ≡ true → ⊥) → b ≡ false
by_test true never = absurd (never refl)
by_test false never = refl

by_tests : (b : Bool) → (b ≡ false → ⊥) → b ≡ true
by_tests true never = refl
by_tests false never = absurd (never refl)

-- where stores fit up to a number, none does not that is not above it
lacks_none : (n : ℕ) (ss : List Admit) (i : ℕ) → FitTo n ss (i + 1) → lacks_cover n ss (i + 1) ss ≡ false
lacks_none n ss i fit = by_test (lacks_cover n ss (i + 1) ss) (λ lacks. refute (first_unfit n ss i (record { at = λ a m le. fit.at a m (omega arith) }) lacks))
  where
    refute : IsLowestUnfit n ss (i + 1) → ⊥
    refute u = u.lacks.is.1 (fit.at u.lacks.it u.lacks.mem (let e : u.lacks.it.node ≡ i + 1 = u.lacks.is.0 in omega arith))

lacks_low : (n : ℕ) (ss : List Admit) (k j : ℕ) → FitTo n ss k → 0 < j → j ≤ k → lacks_cover n ss j ss ≡ false
lacks_low n ss k zero fit low le = absurd (omega arith)
lacks_low n ss k (suc i) fit low le = subst (λ m. lacks_cover n ss m ss ≡ false) (next i) (lacks_none n ss i (record { at = λ a m lt. fit.at a m (omega arith) }))
  where
    next : (i : ℕ) → i + 1 ≡ suc i
    next i = omega arith

-- stores that fit
pub none_unfit : (n : ℕ) (ss : List Admit) → Fit n ss → first_where (λ k. lacks_cover n ss k ss) (numbers_to n) ≡ None
none_unfit n ss fit = where_none (λ k. lacks_cover n ss k ss) n (λ k low high. lacks_low n ss k k (record { at = λ a m le. fit.at a m }) low (omega arith))

-- and the lowest that does not
fit_below : (n : ℕ) (ss : List Admit) (k : ℕ) → IsLowestUnfit n ss (k + 1) → FitTo n ss k
fit_below n ss k u = record { at = λ a m le. u.lowest.at a m (omega arith) }

lacks_there : (n : ℕ) (ss : List Admit) (i : ℕ) → IsLowestUnfit n ss (i + 1) → lacks_cover n ss (i + 1) ss ≡ true
lacks_there n ss i u = by_tests (lacks_cover n ss (i + 1) ss) (λ covered. refute (fit_more n ss i (fit_below n ss i u) covered))
  where
    refute : FitTo n ss (i + 1) → ⊥
    refute fit = u.lacks.is.1 (fit.at u.lacks.it u.lacks.mem (let e : u.lacks.it.node ≡ i + 1 = u.lacks.is.0 in omega arith))

lowest_at : (n : ℕ) (ss : List Admit) (i : ℕ) → i + 1 ≤ n → IsLowestUnfit n ss (i + 1) → first_where (λ k. lacks_cover n ss k ss) (numbers_to n) ≡ Some (i + 1)
lowest_at n ss i high u =
    where_some (λ k. lacks_cover n ss k ss) n (i + 1) (omega arith) high (lacks_there n ss i u) (λ j low lt. lacks_low n ss i j (fit_below n ss i u) low (omega arith))

pub lowest_unfit : (n : ℕ) (ss : List Admit) (k : ℕ) → Each (λ s. (0 < s.node) × (s.node ≤ n)) ss → IsLowestUnfit n ss k → first_where (λ k. lacks_cover n ss k ss) (numbers_to n) ≡ Some k
lowest_unfit n ss k numbered u = go k u (numbered.at u.lacks.it u.lacks.mem) u.lacks.is.0
  where
    next : (i : ℕ) → i + 1 ≡ suc i
    next i = omega arith

    go : (k : ℕ) → IsLowestUnfit n ss k → (0 < u.lacks.it.node) × (u.lacks.it.node ≤ n) → u.lacks.it.node ≡ k → first_where (λ k. lacks_cover n ss k ss) (numbers_to n) ≡ Some k
    go zero v inside is = let low : 0 < u.lacks.it.node = inside.0 in absurd (omega arith)
    go (suc i) v inside is =
        let high : u.lacks.it.node ≤ n = inside.1 in
        let within : i + 1 ≤ n = omega arith in
        subst (λ m. first_where (λ k. lacks_cover n ss k ss) (numbers_to n) ≡ Some m) (next i) (lowest_at n ss i within (subst (λ m. IsLowestUnfit n ss m) (sym (next i)) v))

-- what was found of stores is numbered
admit_at : (n k : ℕ) (s : StoreFound) (x : Admit) → In x (admit_of k s) → x.node ≡ k
admit_at n k store.Failed x h = absurd (elim h [ ])
admit_at n k (store.Bad at) x h = absurd (elim h [ ])
admit_at n k store.NotSound x h = absurd (elim h [ ])
admit_at n k (store.Whole r) x here = refl
admit_at n k (store.Whole r) x (there h) = absurd (elim h [ ])

in_either : {A : Type 0} (xs ys : List A) (x : A) → In x (xs ++ ys) → In x xs ⊎ In x ys
in_either [] ys x h = inr h
in_either (y ∷ xs) ys x here = inl here
in_either (y ∷ xs) ys x (there h) = go (in_either xs ys x h)
  where
    go : In x xs ⊎ In x ys → In x (y ∷ xs) ⊎ In x ys
    go (inl a) = inl (there a)
    go (inr b) = inr b

numbered_from : (n k : ℕ) (ss : List StoreFound) → 0 < k → k + length ss ≤ n + 1 → (x : Admit) → In x (admits_of k ss) → (0 < x.node) × (x.node ≤ n)
numbered_from n k [] low high x h = absurd (elim h [ ])
numbered_from n k (s ∷ ss) low high x h =
    let more : length (s ∷ ss) ≡ suc (length ss) = refl in
    go (in_either (admit_of k s) (admits_of (k + 1) ss) x h) (λ b. numbered_from n (k + 1) ss (omega arith) (omega arith) x b)
  where
    go : In x (admit_of k s) ⊎ In x (admits_of (k + 1) ss) → (In x (admits_of (k + 1) ss) → (0 < x.node) × (x.node ≤ n)) → (0 < x.node) × (x.node ≤ n)
    go (inl a) again =
        let e : x.node ≡ k = admit_at n k s x a in
        let more : length (s ∷ ss) ≡ suc (length ss) = refl in
        ((let l : 0 < x.node = omega arith in l), (let m : x.node ≤ n = omega arith in m))
    go (inr b) again = again b

pub all_numbered : (ss : List StoreFound) → Each (λ x. (0 < x.node) × (x.node ≤ length ss)) (admits_of 1 ss)
all_numbered ss = record { at = λ x h. numbered_from (length ss) 1 ss (omega arith) (omega arith) x h }

-- what is told of the numbers that were read is told of the stores
pub numbered_in : (ss : List StoreFound) (n : ℕ) (xs ys : List Admit) → n ≡ length ss → xs ≡ ys → ys ≡ admits_of 1 ss → Each (λ x. (0 < x.node) × (x.node ≤ n)) xs
numbered_in ss n xs ys many same are =
    subst (λ l. Each (λ x. (0 < x.node) × (x.node ≤ n)) l) (sym (same ∙ are)) (subst (λ m. Each (λ x. (0 < x.node) × (x.node ≤ m)) (admits_of 1 ss)) (sym many) (all_numbered ss))
