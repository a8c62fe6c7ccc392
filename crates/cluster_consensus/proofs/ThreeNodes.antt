-- The written histories are legal, and what they show holds of them.
use Rattle.std.proofs.Common.{◌≡◌, ◌≢◌, ℕ, ◌<◌, ◌≤◌, List, [], ◌∷◌, arith, refl}
use Rattle.std.specs.Prelude.{◌==◌, not, true, false, Bool, zero, suc}
use mathlib.Core.Logic.{inl, inr}
use Rattle.core_lists.specs.Lists.{In, Each, Has}
use Rattle.core_lists.specs.Lists.In.{here, there}
use Rattle.core_lists.specs.Fronts.Front.{front_nil, front_cons}
use Rattle.core_lists.specs.Majorities.{Majority, count}
use Rattle.core_lists.proofs.Lists.{each_add, each_none}
use Rattle.core_lists.proofs.Fronts.{front_refl}
use Rattle.cluster_consensus.specs.Facts.{Admit}
use Rattle.cluster_consensus.specs.Enabled.{Fit}
use Rattle.cluster_consensus.specs.Histories.{Legal, after}
use Rattle.cluster_consensus.specs.Durable.{DurableIn}
use Rattle.cluster_consensus.specs.ThreeNodes.{opened, one_entry, grown_on, two_leaders, tail_dropped}

-- the first of a list
pub first_has : {A : Type 0} {P : A → Type 0} {x : A} {xs : List A} → P x → Has P (x ∷ xs)
first_has {x = x} p = record { it = x; mem = here; is = p }

-- and the second
pub second_has : {A : Type 0} {P : A → Type 0} {x y : A} {xs : List A} → P y → Has P (x ∷ y ∷ xs)
second_has {y = y} p = record { it = y; mem = there here; is = p }

pub no : {A : Type 0} → false ≡ true → A
no e = absurd (cc)

but_one : (P : ℕ → Type 0) → P 2 → P 3 → (k : ℕ) → 0 < k → k ≤ 3 → not (k == 1) ≡ true → P k
but_one P p q (suc zero) a b e = no e
but_one P p q (suc (suc zero)) a b e = p
but_one P p q (suc (suc (suc zero))) a b e = q
but_one P p q zero a b e = absurd (omega arith)
but_one P p q (suc (suc (suc (suc k)))) a b e = absurd (omega arith)

but_three : (P : ℕ → Type 0) → P 1 → P 2 → (k : ℕ) → 0 < k → k ≤ 3 → not (k == 3) ≡ true → P k
but_three P p q (suc zero) a b e = p
but_three P p q (suc (suc zero)) a b e = q
but_three P p q (suc (suc (suc zero))) a b e = no e
but_three P p q zero a b e = absurd (omega arith)
but_three P p q (suc (suc (suc (suc k)))) a b e = absurd (omega arith)

-- of three nodes the second and the third
pub two_and_three : {P : ℕ → Type 0} → P 2 → P 3 → Majority 3 P
two_and_three {P} p q = record { who = λ k. not (k == 1); many = let c : count 3 (λ k. not (k == 1)) ≡ 2 = refl in omega arith; hold = but_one P p q }

-- and the first and the second
pub one_and_two : {P : ℕ → Type 0} → P 1 → P 2 → Majority 3 P
one_and_two {P} p q = record { who = λ k. not (k == 3); many = let c : count 3 (λ k. not (k == 3)) ≡ 2 = refl in omega arith; hold = but_three P p q }

all_three : {P : ℕ → Type 0} → ((k : ℕ) → P k) → Majority 3 P
all_three f = record { who = λ k. true; many = omega arith; hold = λ k q l e. f k }

pub empty_fits : (xs : List Admit) → Each (λ a. a.accepted ≡ 0) xs → Fit 3 xs
empty_fits xs all = record { at = λ a h. all_three (λ k. record { at = λ b t e. (let z : a.accepted ≡ 0 = all.at a h in omega arith) }) }

pub apart : (a b : ℕ) → a < b → a ≢ b
apart a b l e = absurd (omega arith)

pub opened_legal : Legal 3 opened
opened_legal = ((refl, refl, omega arith, here), ((refl, refl, omega arith, there here), ((refl, refl, omega arith, there (there here)), ((each_add (apart 2 3 (omega arith)) (each_add (apart 1 3 (omega arith)) each_none), empty_fits _ (each_add refl (each_add refl (each_add refl each_none)))), ((each_add (apart 1 2 (omega arith)) each_none, empty_fits _ (each_add refl (each_add refl each_none))), ((each_none, empty_fits _ (each_add refl each_none)), tt))))))

pub one_legal : Legal 3 one_entry
one_legal = ((refl, refl, omega arith, omega arith, one_and_two (first_has (refl, omega arith)) (first_has (refl, omega arith))), ((refl, (omega arith, 1, first_has (refl, front_refl (7 ∷ []), inl refl))), ((refl, refl), ((refl, (omega arith, omega arith, (1, first_has (refl, refl)))), ((refl, (omega arith, one_and_two (first_has (refl, refl)) (first_has (refl, refl)))), ((refl, omega arith, first_has (refl, inr (refl, omega arith))), ((refl, omega arith), opened_legal)))))))

pub grown_legal : Legal 3 grown_on
grown_legal = ((refl, refl, omega arith, omega arith, two_and_three (first_has (refl, omega arith)) (first_has (refl, omega arith))), ((refl, (omega arith, omega arith, (2, first_has (refl, refl)))), ((refl, refl), ((refl, (omega arith, two_and_three (first_has (refl, refl)) (first_has (refl, refl)))), ((refl, omega arith, first_has (refl, inl (omega arith))), ((refl, omega arith), (tt, one_legal)))))))

pub two_legal : Legal 3 two_leaders
two_legal = ((refl, refl, omega arith, omega arith, two_and_three (first_has (refl, omega arith)) (first_has (refl, omega arith))), ((refl, (omega arith, omega arith, (2, first_has (refl, refl)))), ((refl, refl), ((refl, (omega arith, two_and_three (first_has (refl, refl)) (first_has (refl, refl)))), ((refl, omega arith, first_has (refl, inl (omega arith))), ((refl, omega arith), ((refl, refl), one_legal)))))))

pub dropped_legal : Legal 3 tail_dropped
dropped_legal = ((refl, (omega arith, omega arith, (2, first_has (refl, refl)))), two_legal)

pub one_durable : DurableIn 3 (after one_entry) 1 (7 ∷ [])
one_durable = one_and_two (first_has (refl, front_refl (7 ∷ []))) (first_has (refl, front_refl (7 ∷ [])))

pub both_durable : DurableIn 3 (after grown_on) 2 (7 ∷ 8 ∷ [])
both_durable = two_and_three (first_has (refl, front_refl (7 ∷ 8 ∷ []))) (first_has (refl, front_refl (7 ∷ 8 ∷ [])))

pub newer_durable : DurableIn 3 (after two_leaders) 2 (7 ∷ 8 ∷ [])
newer_durable = two_and_three (first_has (refl, front_refl (7 ∷ 8 ∷ []))) (first_has (refl, front_refl (7 ∷ 8 ∷ [])))
