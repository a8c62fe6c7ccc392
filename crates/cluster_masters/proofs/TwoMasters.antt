-- The adopted log of a master that nobody followed is durable as a front of a later master's.
use Rattle.std.proofs.Common.{◌≡◌, ◌≢◌, ℕ, ◌<◌, ◌≤◌, [], ◌∷◌, arith, refl}
use Rattle.std.specs.Prelude.{◌==◌, not, true, zero, suc}
use mathlib.Core.Logic.{inr}
use Rattle.core_lists.specs.Lists.{In, Each}
use Rattle.core_lists.specs.Majorities.{Majority, count}
use Rattle.core_lists.specs.Lists.In.{here, there}
use Rattle.core_lists.specs.Fronts.Front.{front_nil, front_cons}
use Rattle.cluster_consensus.specs.Facts.{Admit}
use Rattle.cluster_consensus.specs.Histories.{Legal, after}
use Rattle.cluster_consensus.specs.Durable.{DurableIn}
use Rattle.cluster_consensus.specs.Enabled.{Fit}
use Rattle.cluster_consensus.proofs.ThreeNodes.{no}
use Rattle.core_lists.proofs.Lists.{each_add, each_none}
use Rattle.cluster_masters.specs.TwoMasters.{two_masters}

all3 : {P : ℕ → Type 0} → ((k : ℕ) → P k) → Majority 3 P
all3 f = record { who = λ k. true; many = omega arith; hold = λ k q l e. f k }

not1 : (P : ℕ → Type 0) → P 2 → P 3 → (k : ℕ) → 0 < k → k ≤ 3 → not (k == 1) ≡ true → P k
not1 P p q (suc zero) a b e = no e
not1 P p q (suc (suc zero)) a b e = p
not1 P p q (suc (suc (suc zero))) a b e = q
not1 P p q zero a b e = absurd (omega arith)
not1 P p q (suc (suc (suc (suc k)))) a b e = absurd (omega arith)

not2 : (P : ℕ → Type 0) → P 1 → P 3 → (k : ℕ) → 0 < k → k ≤ 3 → not (k == 2) ≡ true → P k
not2 P p q (suc zero) a b e = p
not2 P p q (suc (suc zero)) a b e = no e
not2 P p q (suc (suc (suc zero))) a b e = q
not2 P p q zero a b e = absurd (omega arith)
not2 P p q (suc (suc (suc (suc k)))) a b e = absurd (omega arith)

maj1 : {P : ℕ → Type 0} → P 2 → P 3 → Majority 3 P
maj1 {P} p q = record { who = λ k. not (k == 1); many = let c : count 3 (λ k. not (k == 1)) ≡ 2 = refl in omega arith; hold = not1 P p q }

maj2 : {P : ℕ → Type 0} → P 1 → P 3 → Majority 3 P
maj2 {P} p q = record { who = λ k. not (k == 2); many = let c : count 3 (λ k. not (k == 2)) ≡ 2 = refl in omega arith; hold = not2 P p q }

adm : ℕ → Admit
adm k = record { node = k; promised = 5; accepted = 5 }

fit1 : Fit 3 (record { node = 1; promised = 5; accepted = 5 } ∷ [])
fit1 = each_add (all3 (λ k. each_add (λ e. omega arith) each_none)) each_none

fit2 : Fit 3 (record { node = 2; promised = 5; accepted = 5 } ∷ record { node = 1; promised = 5; accepted = 5 } ∷ [])
fit2 = each_add (all3 (λ k. each_add (λ e. omega arith) (each_add (λ e. omega arith) each_none))) (each_add (all3 (λ k. each_add (λ e. omega arith) (each_add (λ e. omega arith) each_none))) each_none)

three5 : (k : ℕ) → Each (λ (b : Admit). b.node ≡ k → 5 ≤ b.promised) (record { node = 3; promised = 5; accepted = 5 } ∷ record { node = 2; promised = 5; accepted = 5 } ∷ record { node = 1; promised = 5; accepted = 5 } ∷ [])
three5 k = each_add (λ e. omega arith) (each_add (λ e. omega arith) (each_add (λ e. omega arith) each_none))

fit3 : Fit 3 (record { node = 3; promised = 5; accepted = 5 } ∷ record { node = 2; promised = 5; accepted = 5 } ∷ record { node = 1; promised = 5; accepted = 5 } ∷ [])
fit3 = each_add (all3 three5) (each_add (all3 three5) (each_add (all3 three5) each_none))

ne : (a b : ℕ) → a < b → a ≢ b
ne a b l e = absurd (omega arith)

pub legal : Legal 3 two_masters
legal = ((refl, (omega arith, omega arith, (2, record { it = record { gen = 7; log = 7 ∷ 8 ∷ [] }; mem = here; is = (refl, refl) }))), ((refl, (omega arith, (maj1 (record { it = record { gen = 7; to = 2; accepted = 5; log = 7 ∷ 8 ∷ [] }; mem = here; is = (refl, refl) }) (record { it = record { gen = 7; to = 2; accepted = 5; log = 7 ∷ [] }; mem = here; is = (refl, refl) })))), ((refl, omega arith, record { it = record { gen = 7; accepted = 5; log = 7 ∷ 8 ∷ [] }; mem = here; is = (refl, inr (refl, omega arith)) }), ((refl, omega arith), ((refl, (omega arith, (maj2 (record { it = record { gen = 6; to = 1; accepted = 5; log = 7 ∷ [] }; mem = here; is = (refl, refl) }) (record { it = record { gen = 6; to = 1; accepted = 5; log = 7 ∷ [] }; mem = here; is = (refl, refl) })))), ((refl, omega arith, record { it = record { gen = 6; accepted = 5; log = 7 ∷ [] }; mem = here; is = (refl, inr (refl, omega arith)) }), ((refl, omega arith), ((refl, refl, omega arith, here), ((refl, refl, omega arith, there here), ((refl, refl, omega arith, there (there here)), ((each_add (ne 2 3 (omega arith)) (each_add (ne 1 3 (omega arith)) each_none), fit3), ((each_add (ne 1 2 (omega arith)) each_none, fit2), ((each_none, fit1), tt)))))))))))))

-- node 1 led with the log of one entry, and it is durable in the generation of node 2, which led with two
pub led_one : In (record { gen = 6; log = 7 ∷ [] }) ((after two_masters).nodes 1).leads
led_one = here

pub durable_one : DurableIn 3 (after two_masters) 7 (7 ∷ [])
durable_one = (maj1 (record { it = record { gen = 7; log = 7 ∷ 8 ∷ [] }; mem = here; is = (refl, front_cons front_nil) }) (record { it = record { gen = 7; log = 7 ∷ 8 ∷ [] }; mem = here; is = (refl, front_cons front_nil) }))
