-- A begin's position is at least what each leader below it adopted whose adopted log is durable in its generation.
use Rattle.std.proofs.Common.{◌≡◌, ℕ, ◌<◌, ◌≤◌, List, length, arith, sym, subst, ◌∙◌}
use mathlib.Core.Logic.{◌⊎◌, inl, inr}
use Rattle.cluster_begins.proofs.Fresh.{always_answering}
use Rattle.cluster_consensus.proofs.Generations.{one_leader, one_log, adopts}
use Rattle.cluster_consensus.proofs.Invariant.{Inv}
use Rattle.cluster_consensus.proofs.Kept.{always}
use Rattle.cluster_consensus.specs.Durable.{DurableIn}
use Rattle.cluster_consensus.specs.Events.{NodeEvent}
use Rattle.cluster_consensus.specs.Facts.{Claim, Ping}
use Rattle.cluster_consensus.specs.Histories.{Legal, after}
use Rattle.core_lists.proofs.Fronts.{front_length}
use Rattle.core_lists.proofs.Numbers.{lt_or_eq}
use Rattle.core_lists.specs.Lists.{In, Has}

pub at_least_led : {E : Type 0} (n m j : ℕ) (h : List (ℕ × NodeEvent E)) (x : Ping) (l : Claim E) → Legal n h → In x ((after h).nodes m).pings → In l ((after h).nodes j).leads → DurableIn n (after h) l.gen l.log → l.gen ≤ x.gen → length l.log ≤ x.durable
at_least_led {E} n m j h x l legal hx mem durable low = go (lt_or_eq l.gen x.gen low)
  where
    inv : Inv n (after h)
    inv = always n h legal

    own : Has (λ a. (a.gen ≡ x.gen) × (length a.log ≤ x.durable)) ((after h).nodes m).leads
    own = (always_answering n h legal m).pings.at x hx

    go : (l.gen < x.gen) ⊎ (l.gen ≡ x.gen) → length l.log ≤ x.durable
    go (inl lt) =
        let a = own in
        let ag : a.it.gen ≡ x.gen = a.is.0 in
        let al : length a.it.log ≤ x.durable = a.is.1 in
        let q = front_length (adopts inv l.gen l.log durable a.it.gen m a.it a.mem (omega arith) (omega arith)) in
        omega arith
    go (inr eq) =
        let a = own in
        let by : j ≡ m = one_leader inv j m l a.it mem a.mem (eq ∙ sym a.is.0) in
        let log : l.log ≡ a.it.log = one_log inv m l a.it (subst (λ t. In l ((after h).nodes t).leads) by mem) a.mem (eq ∙ sym a.is.0) in
        subst (λ t. length t ≤ x.durable) (sym log) a.is.1
