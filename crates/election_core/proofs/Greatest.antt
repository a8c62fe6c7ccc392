-- The greatest length that a majority acknowledged is one that a node acknowledged.
use Rattle.std.proofs.Common.{◌≡◌, ℕ, ◌+◌, ◌<◌, ◌≤◌, List, slice_index, arith, refl, sym, subst}
use Rattle.std.specs.Prelude.{zero, suc, Bool, true, false}
use Rattle.std.proofs.lemmas.Bool.Decides.{nat_tests}
use mathlib.Core.Logic.{◌⊎◌, inl, inr}
use Rattle.core_lists.specs.Majorities.{count}
use Rattle.core_lists.proofs.Numbers.{lt_or_eq, lt_or_le}
use Rattle.election_core.specs.Counts.{reaches, IsReached, IsGreatest}

-- what the first k nodes acknowledged, where a majority did, is not above this
pub record Covers (acked : List ℕ) (nodes k best : ℕ) : Type 0 where
  pub at : (j : ℕ) → j < k → IsReached acked nodes (slice_index acked j) → slice_index acked j ≤ best

step : (n : ℕ) (p q : ℕ → Bool) → count n p ≤ count n q → (a b : Bool) → p (suc n) ≡ a → q (suc n) ≡ b → (p (suc n) ≡ true → q (suc n) ≡ true) → count (suc n) p ≤ count (suc n) q
step n p q le true true e f h = rw (e, f) (omega arith)
step n p q le true false e f h = absurd (let g = h e in cc)
step n p q le false true e f h = rw (e, f) (omega arith)
step n p q le false false e f h = rw (e, f) (omega arith)

-- a test that takes more counts no less
pub count_le : (n : ℕ) (p q : ℕ → Bool) → ((k : ℕ) → k ≤ n → p k ≡ true → q k ≡ true) → count n p ≤ count n q
count_le zero p q h = omega arith
count_le (suc n) p q h = step n p q (count_le n p q (λ k le e. h k (omega arith) e)) (p (suc n)) (q (suc n)) refl refl (h (suc n) (omega arith))

pub reach : (acked : List ℕ) (l k : ℕ) → l ≤ slice_index acked k → reaches acked l (suc k) ≡ true
reach acked l k h = grind (arith, nat_tests)

pub reached : (acked : List ℕ) (l k : ℕ) → reaches acked l (suc k) ≡ true → l ≤ slice_index acked k
reached acked l k h = grind (arith, nat_tests)

-- whoever acknowledged a length acknowledged that of node j + 1
Least : List ℕ → ℕ → ℕ → ℕ → Type 0
Least acked n d j = (j < n) × (d ≤ slice_index acked j) × ((k : ℕ) → k ≤ n → reaches acked d k ≡ true → reaches acked (slice_index acked j) k ≡ true)

lower : (acked : List ℕ) (l m k : ℕ) → m ≤ l → reaches acked l k ≡ true → reaches acked m k ≡ true
lower acked l m zero h e = e
lower acked l m (suc k) h e = let a = reached acked l k e in reach acked m k (omega arith)

none_no : (n : ℕ) (q : ℕ → Bool) → count (suc n) q ≡ 0 → q (suc n) ≡ false
none_no n q e = go (q (suc n)) refl
  where
    go : (b : Bool) → q (suc n) ≡ b → q (suc n) ≡ false
    go false f = f
    go true f = absurd (let x : 1 + count n q ≡ 0 = rw f at e in omega arith)

none_less : (n : ℕ) (q : ℕ → Bool) → count (suc n) q ≡ 0 → count n q ≡ 0
none_less n q e = let f = none_no n q e in let x : 0 + count n q ≡ 0 = rw f at e in omega arith

none_at : (n : ℕ) (q : ℕ → Bool) → q 0 ≡ false → count n q ≡ 0 → (k : ℕ) → k ≤ n → q k ≡ false
none_at zero q z e k le = let f : k ≡ 0 = omega arith in rw f z
none_at (suc n) q z e k le = go (lt_or_eq k (suc n) le) (none_at n q z (none_less n q e))
  where
    go : (k < suc n) ⊎ (k ≡ suc n) → ((k : ℕ) → k ≤ n → q k ≡ false) → q k ≡ false
    go (inl lt) ih = ih k (omega arith)
    go (inr eq) ih = rw eq (none_no n q e)

least : (acked : List ℕ) (n d : ℕ) → (count n (λ k. reaches acked d k) ≡ 0) ⊎ ((j : ℕ) × Least acked n d j)
unfolding Least
least acked zero d = inl refl
least acked (suc n) d = go (reaches acked d (suc n)) refl (least acked n d)
  where
    both : (j k : ℕ) → j ≤ slice_index acked n → ((k : ℕ) → k ≤ n → reaches acked d k ≡ true → reaches acked j k ≡ true) → k ≤ suc n → reaches acked d k ≡ true → reaches acked j k ≡ true
    both j k le h top e = pick (lt_or_eq k (suc n) top)
      where
        pick : (k < suc n) ⊎ (k ≡ suc n) → reaches acked j k ≡ true
        pick (inl lt) = h k (omega arith) e
        pick (inr eq) = rw eq (reach acked j n le)

    go : (b : Bool) → reaches acked d (suc n) ≡ b → (count n (λ k. reaches acked d k) ≡ 0) ⊎ ((j : ℕ) × Least acked n d j) → (count (suc n) (λ k. reaches acked d k) ≡ 0) ⊎ ((j : ℕ) × Least acked (suc n) d j)
    go false e (inl z) = inl (rw e (omega arith))
    go false e (inr r) = inr (r.0, (omega arith, r.1.1, λ k top h. pick k h (lt_or_eq k (suc n) top)))
      where
        pick : (k : ℕ) → reaches acked d k ≡ true → (k < suc n) ⊎ (k ≡ suc n) → reaches acked (slice_index acked r.0) k ≡ true
        pick k h (inl lt) = r.1.2 k (omega arith) h
        pick k h (inr eq) = absurd (let x : reaches acked d (suc n) ≡ true = subst (λ t. reaches acked d t ≡ true) eq h in cc)
    go true e (inl z) =
        let le = reached acked d n e in
        inr (n, (omega arith, le, λ k top h. both (slice_index acked n) k (omega arith) (λ k q f. absurd (let x = none_at n (λ k. reaches acked d k) refl z k q in cc)) top h))
    go true e (inr r) = pick (lt_or_le (slice_index acked r.0) (slice_index acked n))
      where
        le : d ≤ slice_index acked n
        le = reached acked d n e

        pick : (slice_index acked r.0 < slice_index acked n) ⊎ (slice_index acked n ≤ slice_index acked r.0) → (count (suc n) (λ k. reaches acked d k) ≡ 0) ⊎ ((j : ℕ) × Least acked (suc n) d j)
        pick (inl lt) = inr (r.0, (omega arith, r.1.1, λ k top h. both (slice_index acked r.0) k (omega arith) r.1.2 top h))
        pick (inr ge) = inr (n, (omega arith, le, λ k top h. both (slice_index acked n) k (omega arith) (λ k q f. lower acked (slice_index acked r.0) (slice_index acked n) k ge (r.1.2 k q f)) top h))

-- what covers all nodes is not below any length that a majority acknowledged
pub greatest_of_all : (acked : List ℕ) (nodes best d : ℕ) → Covers acked nodes nodes best → IsReached acked nodes d → d ≤ best
unfolding Least
greatest_of_all acked nodes best d c r = go (least acked nodes d)
  where
    go : (count nodes (λ k. reaches acked d k) ≡ 0) ⊎ ((j : ℕ) × Least acked nodes d j) → d ≤ best
    go (inl z) = absurd (omega arith)
    go (inr x) =
        let le = count_le nodes (λ k. reaches acked d k) (λ k. reaches acked (slice_index acked x.0) k) x.1.2 in
        let many : IsReached acked nodes (slice_index acked x.0) = omega arith in
        let a = c.at x.0 x.1.0 many in
        let b : d ≤ slice_index acked x.0 = x.1.1 in
        omega arith

pub covers_none : (acked : List ℕ) (nodes best : ℕ) → Covers acked nodes 0 best
covers_none acked nodes best = record { at = λ j lt r. absurd (omega arith) }

pub covers_more : (acked : List ℕ) (nodes k best next : ℕ) → Covers acked nodes k best → best ≤ next → (IsReached acked nodes (slice_index acked k) → slice_index acked k ≤ next) → Covers acked nodes (k + 1) next
covers_more acked nodes k best next c le h = record { at = λ j lt r. go j r (lt_or_eq j k (omega arith)) }
  where
    go : (j : ℕ) → IsReached acked nodes (slice_index acked j) → (j < k) ⊎ (j ≡ k) → slice_index acked j ≤ next
    go j r (inl lt) = let a = c.at j lt r in omega arith
    go j r (inr eq) = let m : IsReached acked nodes (slice_index acked k) = subst (λ t. IsReached acked nodes (slice_index acked t)) eq r in rw eq (h m)

pub covers_all : (acked : List ℕ) (nodes k best : ℕ) → nodes ≤ k → k ≤ nodes → (best ≡ 0) ⊎ IsReached acked nodes best → Covers acked nodes k best → IsGreatest acked nodes best
covers_all acked nodes k best ge le old c = let e : k ≡ nodes = omega arith in record { reached = old; greatest = λ d r. greatest_of_all acked nodes best d (subst (λ t. Covers acked nodes t best) e c) r }

pub raised_keeps : (acked : List ℕ) (nodes best next : ℕ) → (best ≡ 0) ⊎ IsReached acked nodes best → (next ≡ best) ⊎ IsReached acked nodes next → (next ≡ 0) ⊎ IsReached acked nodes next
raised_keeps acked nodes best next (inl z) (inl e) = inl (omega arith)
raised_keeps acked nodes best next (inr r) (inl e) = inr (subst (λ t. IsReached acked nodes t) (sym e) r)
raised_keeps acked nodes best next old (inr r) = inr r

pub covers_next : (acked : List ℕ) (nodes k from best next : ℕ) → from ≡ k → Covers acked nodes k best → best ≤ next → (IsReached acked nodes (slice_index acked from) → slice_index acked from ≤ next) → Covers acked nodes (k + 1) next
covers_next acked nodes k from best next e c le h = covers_more acked nodes k best next c le (subst (λ t. IsReached acked nodes (slice_index acked t) → slice_index acked t ≤ next) e h)
