-- What nodes hold at the end fits again.
use Rattle.std.proofs.Common.{◌≡◌, ℕ, ◌<◌, ◌≤◌, arith, refl, ap}
use Rattle.std.specs.Prelude.{zero, suc, Bool, true, false}
use mathlib.Core.Logic.{◌⊎◌, inl, inr}
use Rattle.cluster_consensus.proofs.Invariant.{Inv}
use Rattle.cluster_consensus.specs.Facts.{World}
use Rattle.core_lists.proofs.Majorities.{majority_weaker}
use Rattle.core_lists.specs.Lists.{Has}
use Rattle.core_lists.specs.Majorities.{Majority, count}

pub all_of : (n : ℕ) → count n (λ k. true) ≡ n
all_of zero = refl
all_of (suc n) = let h = all_of n in omega arith

-- the stores of the nodes fit again
pub fits_again : {E : Type 0} {n : ℕ} {w : World E} → Inv n w → 0 < n → (k : ℕ) → Majority n (λ j. (w.nodes j).was_up ≡ true → (w.nodes k).accepted ≤ (w.nodes j).promised)
fits_again {E} {n} {w} inv pos k = go (inv.local k).held
  where
    store : (b : Bool) → (w.nodes k).was_up ≡ b → (w.nodes k).accepted ≤ (w.nodes k).store_accepted → Majority n (λ j. (w.nodes j).was_up ≡ true → (w.nodes k).accepted ≤ (w.nodes j).promised)
    store true e le =
        let a = (inv.refs k).admitted e in
        majority_weaker (λ j h was. (
        let b = (inv.refs j).admitted was in
        let x : (w.nodes k).store_accepted ≤ (w.nodes j).store_promised = h.at (record { node = j; promised = (w.nodes j).store_promised; accepted = (w.nodes j).store_accepted }) b refl in
        let y = (inv.local j).store in
        omega arith)) (inv.fit.at (record { node = k; promised = (w.nodes k).store_promised; accepted = (w.nodes k).store_accepted }) a)
    store false e le =
        let z : (w.nodes k).store_accepted ≡ 0 = ap (λ o. o.store_accepted) ((inv.local k).fresh e) in
        record { who = λ j. true; many = let c = all_of n in omega arith; hold = λ j p l t was. omega arith }

    go : Has (λ c. (c.gen ≡ (w.nodes k).accepted) × (c.log ≡ (w.nodes k).log)) (w.nodes k).accepts ⊎ ((w.nodes k).accepted ≤ (w.nodes k).store_accepted) → Majority n (λ j. (w.nodes j).was_up ≡ true → (w.nodes k).accepted ≤ (w.nodes j).promised)
    go (inl c) =
        let f = (inv.refs k).follows.at c.it c.mem in
        let fg : f.adopted.it.gen ≡ c.it.gen = f.adopted.is.0 in
        let cg : c.it.gen ≡ (w.nodes k).accepted = c.is.0 in
        majority_weaker (λ j x was. (
        let low : x.it.gen ≤ (w.nodes j).promised = ((inv.local j).grants.at x.it x.mem).low in
        let xg : x.it.gen ≡ f.adopted.it.gen = x.is.0 in
        omega arith)) ((inv.refs f.by).led.at f.adopted.it f.adopted.mem)
    go (inr le) = store (w.nodes k).was_up refl le

pub fits_or_old : {E : Type 0} {n : ℕ} {w : World E} → Inv n w → (k : ℕ) → Majority n (λ j. ((w.nodes j).was_up ≡ true) × ((w.nodes k).accepted ≤ (w.nodes j).promised)) ⊎ ((w.nodes k).accepted ≤ (w.nodes k).store_accepted)
fits_or_old {E} {n} {w} inv k = go (inv.local k).held
  where
    go : Has (λ c. (c.gen ≡ (w.nodes k).accepted) × (c.log ≡ (w.nodes k).log)) (w.nodes k).accepts ⊎ ((w.nodes k).accepted ≤ (w.nodes k).store_accepted) → Majority n (λ j. ((w.nodes j).was_up ≡ true) × ((w.nodes k).accepted ≤ (w.nodes j).promised)) ⊎ ((w.nodes k).accepted ≤ (w.nodes k).store_accepted)
    go (inl c) =
        let f = (inv.refs k).follows.at c.it c.mem in
        let fg : f.adopted.it.gen ≡ c.it.gen = f.adopted.is.0 in
        let cg : c.it.gen ≡ (w.nodes k).accepted = c.is.0 in
        inl (majority_weaker (λ j x. (
        let ok = (inv.local j).grants.at x.it x.mem in
        let low : x.it.gen ≤ (w.nodes j).promised = ok.low in
        let xg : x.it.gen ≡ f.adopted.it.gen = x.is.0 in
        (ok.was, omega arith))) ((inv.refs f.by).led.at f.adopted.it f.adopted.mem))
    go (inr le) = inr le
