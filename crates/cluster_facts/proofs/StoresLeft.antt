-- The stores that a run leaves.
use Rattle.std.proofs.Common.{◌≡◌, ℕ, ◌≤◌, List, arith, refl}
use Rattle.std.specs.Prelude.{true, false, Bool, cond}
use mathlib.Core.Logic.{◌⊎◌, inl, inr}
use Rattle.cluster_consensus.proofs.Invariant.{Inv}
use Rattle.cluster_consensus.proofs.Kept.{always}
use Rattle.cluster_consensus.proofs.StoresFit.{fits_or_old}
use Rattle.cluster_consensus.specs.Events.{NodeEvent}
use Rattle.cluster_consensus.specs.Facts.{Own, World}
use Rattle.cluster_consensus.specs.Histories.{Legal, after}
use Rattle.cluster_facts.specs.Stores.{Stored, left_by, AreTaken, AllFit}
use Rattle.core_lists.proofs.Majorities.{majority_weaker}
use Rattle.core_lists.specs.Majorities.{Majority}

pub promise_stays : {E : Type 0} (n i : ℕ) (h : List (ℕ × NodeEvent E)) → Legal n h → ((after h).nodes i).store_promised ≤ ((after h).nodes i).promised
promise_stays n i h legal = ((always n h legal).local i).store

-- what is left of a store
left_promise : {E : Type 0} (o : Own E) (s : Stored) → (o.was_up ≡ true → s.promised ≤ o.promised) → s.promised ≤ (left_by o s).promised
left_promise o s f = go o.was_up refl
  where
    go : (b : Bool) → o.was_up ≡ b → s.promised ≤ (cond b (record { promised = o.promised; accepted = o.accepted }) s).promised
    go true e = f e
    go false e = omega arith

left_up : {E : Type 0} (o : Own E) (s : Stored) → o.was_up ≡ true → o.promised ≤ (left_by o s).promised
left_up o s up = go o.was_up refl
  where
    go : (b : Bool) → o.was_up ≡ b → o.promised ≤ (cond b (record { promised = o.promised; accepted = o.accepted }) s).promised
    go true e = omega arith
    go false e = let f = up in absurd (cc)

pub left_fit : {E : Type 0} (n : ℕ) (h : List (ℕ × NodeEvent E)) (stores : ℕ → Stored) → Legal n h → AreTaken (after h) stores → AllFit n stores → AllFit n (λ k. left_by ((after h).nodes k) (stores k))
left_fit {E} n h stores legal taken fit k pos le = go ((after h).nodes k).was_up refl
  where
    w : World E
    w = after h

    inv : Inv n w
    inv = always n h legal

    kept : (j : ℕ) → (stores j).promised ≤ (left_by (w.nodes j) (stores j)).promised
    kept j = left_promise (w.nodes j) (stores j) (λ up. (let s : (w.nodes j).store_promised ≡ (stores j).promised = (taken j up).0 in let p = (inv.local j).store in omega arith))

    old : Majority n (λ j. (stores k).accepted ≤ (left_by (w.nodes j) (stores j)).promised)
    old = majority_weaker (λ j x. (let y = kept j in let z : (stores k).accepted ≤ (stores j).promised = x in omega arith)) (fit k pos le)

    new : (w.nodes k).was_up ≡ true → Majority n (λ j. ((w.nodes j).was_up ≡ true) × ((w.nodes k).accepted ≤ (w.nodes j).promised)) ⊎ ((w.nodes k).accepted ≤ (w.nodes k).store_accepted) → Majority n (λ j. (w.nodes k).accepted ≤ (left_by (w.nodes j) (stores j)).promised)
    new up (inl m) = majority_weaker (λ j x. (let y = left_up (w.nodes j) (stores j) x.0 in let z : (w.nodes k).accepted ≤ (w.nodes j).promised = x.1 in omega arith)) m
    new up (inr low) = majority_weaker (λ j x. (let s : (w.nodes k).store_accepted ≡ (stores k).accepted = (taken k up).1 in let z : (stores k).accepted ≤ (left_by (w.nodes j) (stores j)).promised = x in omega arith)) old

    go : (b : Bool) → (w.nodes k).was_up ≡ b → Majority n (λ j. (cond b (record { promised = (w.nodes k).promised; accepted = (w.nodes k).accepted }) (stores k)).accepted ≤ (left_by (w.nodes j) (stores j)).promised)
    go true up = new up (fits_or_old inv k)
    go false e = old
