-- Two majorities share a node.
use Rattle.std.proofs.Common.{◌≡◌, ℕ, ◌+◌, ◌<◌, ◌≤◌, arith, refl}
use Rattle.std.specs.Prelude.{zero, suc, Bool, true, false}
use Rattle.core_lists.specs.Majorities.{Majority, count}

at_most : (n : ℕ) (q : ℕ → Bool) (b : Bool) → q (suc n) ≡ b → count (suc n) q ≤ count n q + 1
at_most n q true e = rw e (omega arith)
at_most n q false e = rw e (omega arith)

later : {n : ℕ} {p q : ℕ → Bool} → (k : ℕ) × (0 < k) × (k ≤ n) × (p k ≡ true) × (q k ≡ true) → (k : ℕ) × (0 < k) × (k ≤ suc n) × (p k ≡ true) × (q k ≡ true)
later r = (r.0, r.1, omega arith, r.3, r.4)

abbrev pub Shared : ℕ → (ℕ → Bool) → (ℕ → Bool) → Type 0
Shared n p q = (k : ℕ) × (0 < k) × (k ≤ n) × (p k ≡ true) × (q k ≡ true)

shared_step : (n : ℕ) (p q : ℕ → Bool) → suc n < count (suc n) p + count (suc n) q → (n < count n p + count n q → Shared n p q) → (a b : Bool) → p (suc n) ≡ a → q (suc n) ≡ b → Shared (suc n) p q
shared_step n p q h rec true true e f = (suc n, omega arith, omega arith, e, f)
shared_step n p q h rec true false e f =
    let x : suc n < (1 + count n p) + (0 + count n q) = rw (e, f) at h in
    later {n = n} {p = p} {q = q} (rec (omega arith))
shared_step n p q h rec false b e f =
    let x : suc n < (0 + count n p) + count (suc n) q = rw e at h in
    let y = at_most n q b f in
    later {n = n} {p = p} {q = q} (rec (omega arith))

pub shared : (n : ℕ) (p q : ℕ → Bool) → n < count n p + count n q → Shared n p q
shared zero p q h = absurd (omega arith)
shared (suc n) p q h = shared_step n p q h (λ x. shared n p q x) (p (suc n)) (q (suc n)) refl refl

-- two majorities share a number
pub meet : {n : ℕ} {P Q : ℕ → Type 0} → Majority n P → Majority n Q → (k : ℕ) × P k × Q k
meet {n} {P} {Q} a b =
    let r = shared n a.who b.who (let x = a.many in let y = b.many in omega arith) in
    (r.0, a.hold r.0 r.1 r.2 r.3, b.hold r.0 r.1 r.2 r.4)

pub majority_weaker : {n : ℕ} {P Q : ℕ → Type 0} → ((k : ℕ) → P k → Q k) → Majority n P → Majority n Q
majority_weaker f a = record { who = a.who; many = a.many; hold = λ k p l e. f k (a.hold k p l e) }

-- a majority has a member
pub some_of : {n : ℕ} {P : ℕ → Type 0} → Majority n P → (k : ℕ) × P k
some_of a = let r = meet a a in (r.0, r.1)
