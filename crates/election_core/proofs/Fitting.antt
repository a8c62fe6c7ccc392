-- The lowest node whose store does not fit.
use Rattle.std.proofs.Common.{ℕ, ◌≡◌, ◌+◌, ◌*◌, ◌<◌, ◌≤◌, List, [], ◌∷◌, arith, refl, sym, subst, ◌∙◌}
use Rattle.std.specs.Prelude.{zero, suc, ◌==◌, ◌&&◌, ◌||◌, leb, ltb, not, Bool, true, false, cond}
use Rattle.std.specs.List.{list_any, list_all}
use mathlib.Core.Logic.{◌⊎◌, inl, inr}
use Rattle.std.proofs.lemmas.Bool.Decides.{nat_tests, Decides-eqb}
use Rattle.core_lists.specs.Lists.{In, Each, Has}
use Rattle.core_lists.specs.Lists.In.{here, there}
use Rattle.core_lists.specs.Majorities.{Majority, count}
use Rattle.cluster_consensus.specs.Enabled.{Fit}
use Rattle.cluster_consensus.specs.Facts.{Admit}
use Rattle.election_core.specs.Fits.{has_promised, is_covered, lacks_cover, IsPromised, IsLowestUnfit}

-- what is true of each
both : (a b : Bool) → (a && b) ≡ true → (a ≡ true) × (b ≡ true)
both true b e = (refl, e)
both false b e = absurd (let f : false ≡ true = e in cc)

tested : (node k g p : ℕ) → (not (node == k) || leb g p) ≡ true → node ≡ k → g ≤ p
tested node k g p e s = grind (arith, nat_tests)

passes : (node k g p : ℕ) → (node ≡ k → g ≤ p) → (not (node == k) || leb g p) ≡ true
passes node k g p f = go (node == k) refl
  where
    go : (b : Bool) → (node == k) ≡ b → (not b || leb g p) ≡ true
    go true e = let h : g ≤ p = f ((Decides-eqb node k).0 e) in grind (arith, nat_tests)
    go false e = refl

promised_at : (g k : ℕ) (ss : List Admit) → has_promised ss g k ≡ true → (b : Admit) → In b ss → b.node ≡ k → g ≤ b.promised
promised_at g k [] e b h s = absurd (elim h [ ])
promised_at g k (x ∷ ss) e b here s = tested x.node k g x.promised (both (not (x.node == k) || leb g x.promised) (has_promised ss g k) e).0 s
promised_at g k (x ∷ ss) e b (there h) s = promised_at g k ss (both (not (x.node == k) || leb g x.promised) (has_promised ss g k) e).1 b h s

all_promised : (g k : ℕ) (ss : List Admit) → ((b : Admit) → In b ss → b.node ≡ k → g ≤ b.promised) → has_promised ss g k ≡ true
all_promised g k [] f = refl
all_promised g k (x ∷ ss) f =
    let a = passes x.node k g x.promised (f x here) in
    let r = all_promised g k ss (λ b h. f b (there h)) in
    subst (λ c. (c && has_promised ss g k) ≡ true) (sym a) r

-- who counts by one test counts by another
count_within : (n : ℕ) (p q : ℕ → Bool) → ((k : ℕ) → 0 < k → k ≤ n → p k ≡ true → q k ≡ true) → count n p ≤ count n q
count_within zero p q f = omega arith
count_within (suc n) p q f =
    let r : count n p ≤ count n q = count_within n p q (λ k low high. f k low (omega arith)) in
    step (p (suc n)) (q (suc n)) (f (suc n) (omega arith) (omega arith)) r
  where
    step : (a b : Bool) → (a ≡ true → b ≡ true) → count n p ≤ count n q → cond a 1 0 + count n p ≤ cond b 1 0 + count n q
    step true true g r = omega arith
    step true false g r = absurd (let e : false ≡ true = g refl in cc)
    step false true g r = omega arith
    step false false g r = omega arith

pub covered_yes : (n : ℕ) (ss : List Admit) (g : ℕ) → is_covered n ss g ≡ true → IsPromised n ss g
covered_yes n ss g e = record {
  who = λ k. has_promised ss g k;
  many = grind (arith, nat_tests);
  hold = λ k low high t. record { at = λ b h s. promised_at g k ss t b h s };
}

pub covered_no : (n : ℕ) (ss : List Admit) (g : ℕ) → is_covered n ss g ≡ false → IsPromised n ss g → ⊥
covered_no n ss g e m =
    let le : count n m.who ≤ count n (λ k. has_promised ss g k) = count_within n m.who (λ k. has_promised ss g k) (λ k low high t. all_promised g k ss (λ b h s. (m.hold k low high t).at b h s)) in
    let many : n < 2 * count n m.who = m.many in
    not_less n (count n (λ k. has_promised ss g k)) e (omega arith)
  where
    not_less : (a b : ℕ) → ltb a (2 * b) ≡ false → a < 2 * b → ⊥
    not_less a b e h = grind (arith, nat_tests)

-- a test finds one, or none
found : (n : ℕ) (all : List Admit) (k : ℕ) (ss : List Admit) → lacks_cover n all k ss ≡ true → Has (λ a. (a.node ≡ k) × (IsPromised n all a.accepted → ⊥)) ss
found n all k [] e = absurd (let f : false ≡ true = e in cc)
found n all k (x ∷ ss) e = go (x.node == k) (is_covered n all x.accepted) refl refl (found n all k ss) e
  where
    go : (a b : Bool) → (x.node == k) ≡ a → is_covered n all x.accepted ≡ b → (lacks_cover n all k ss ≡ true → Has (λ a. (a.node ≡ k) × (IsPromised n all a.accepted → ⊥)) ss)
        → ((a && not b) || lacks_cover n all k ss) ≡ true → Has (λ a. (a.node ≡ k) × (IsPromised n all a.accepted → ⊥)) (x ∷ ss)
    go true false p q again e = record { it = x; mem = here; is = ((Decides-eqb x.node k).0 p, covered_no n all x.accepted q) }
    go true true p q again e = let r = again e in record { it = r.it; mem = there r.mem; is = r.is }
    go false true p q again e = let r = again e in record { it = r.it; mem = there r.mem; is = r.is }
    go false false p q again e = let r = again e in record { it = r.it; mem = there r.mem; is = r.is }

none_found : (n : ℕ) (all : List Admit) (k : ℕ) (ss : List Admit) → lacks_cover n all k ss ≡ false → (a : Admit) → In a ss → a.node ≡ k → IsPromised n all a.accepted
none_found n all k [] e a h s = absurd (elim h [ ])
none_found n all k (x ∷ ss) e a h s = go a (x.node == k) (is_covered n all x.accepted) refl refl (λ q i. none_found n all k ss q a i s) e h s
  where
    go : (a : Admit) (b c : Bool) → (x.node == k) ≡ b → is_covered n all x.accepted ≡ c → (lacks_cover n all k ss ≡ false → In a ss → IsPromised n all a.accepted)
        → ((b && not c) || lacks_cover n all k ss) ≡ false → In a (x ∷ ss) → a.node ≡ k → IsPromised n all a.accepted
    go a true false p q again e h s = absurd (let f : true ≡ false = e in cc)
    go a true true p q again e here s = covered_yes n all x.accepted q
    go a true true p q again e (there h) s = again e h
    go a false c p q again e here s = absurd (let t = (Decides-eqb x.node k).1 s in cc)
    go a false c p q again e (there h) s = again e h

-- the stores of the nodes up to one fit
abbrev pub FitTo : ℕ → List Admit → ℕ → Type 0
FitTo n stores i = Each (λ a. a.node ≤ i → IsPromised n stores a.accepted) stores

pub fit_more : (n : ℕ) (stores : List Admit) (i : ℕ) → FitTo n stores i → lacks_cover n stores (i + 1) stores ≡ false → FitTo n stores (i + 1)
fit_more n stores i fit e = record { at = λ a h le. one a h (lt_or a.node i le) }
  where
    lt_or : (k i : ℕ) → k ≤ i + 1 → (k ≤ i) ⊎ (k ≡ i + 1)
    lt_or k i le = grind arith

    one : (a : Admit) → In a stores → (a.node ≤ i) ⊎ (a.node ≡ i + 1) → IsPromised n stores a.accepted
    one a h (inl le) = fit.at a h le
    one a h (inr s) = none_found n stores (i + 1) stores e a h s

pub none_fit : (n : ℕ) (stores : List Admit) → Each (λ s. (0 < s.node) × (s.node ≤ n)) stores → FitTo n stores 0
none_fit n stores numbered = record { at = λ a h le. absurd (let low : 0 < a.node = (numbered.at a h).0 in omega arith) }

pub all_fit : (n : ℕ) (stores : List Admit) → Each (λ s. (0 < s.node) × (s.node ≤ n)) stores → FitTo n stores n → Fit n stores
all_fit n stores numbered fit = record { at = λ a h. fit.at a h (numbered.at a h).1 }

pub first_unfit : (n : ℕ) (stores : List Admit) (i : ℕ) → FitTo n stores i → lacks_cover n stores (i + 1) stores ≡ true → IsLowestUnfit n stores (i + 1)
first_unfit n stores i fit e = record { lacks = found n stores (i + 1) stores e; lowest = record { at = λ a h lt. fit.at a h (omega arith) } }
