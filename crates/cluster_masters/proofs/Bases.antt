-- Begins reach the base.
use Rattle.std.proofs.Common.{◌≡◌, ℕ, ◌<◌, ◌≤◌, List, [], ◌∷◌, length, arith, sym, subst, ◌∙◌}
use mathlib.Core.Logic.{◌⊎◌, inl, inr}
use Rattle.cluster_begins.proofs.Fresh.{always_fresh, always_answering}
use Rattle.cluster_consensus.proofs.Generations.{one_leader, one_log, adopts}
use Rattle.cluster_consensus.proofs.Invariant.{Inv}
use Rattle.cluster_consensus.proofs.Kept.{always, at_node}
use Rattle.cluster_consensus.specs.Durable.{DurableIn}
use Rattle.cluster_consensus.specs.Enabled.{Enabled}
use Rattle.cluster_consensus.specs.Events.{NodeEvent, change}
use Rattle.cluster_consensus.specs.Events.NodeEvent.{Probe}
use Rattle.cluster_consensus.specs.Facts.{Claim, Ping, Own, World}
use Rattle.cluster_consensus.specs.Histories.{Legal, after}
use Rattle.cluster_masters.specs.FirstMaster.{IsFirstMaster}
use Rattle.cluster_masters.proofs.MasterLaws.{first_of}
use Rattle.core_lists.proofs.Fronts.{front_length}
use Rattle.core_lists.proofs.Lists.{each_add, each_none}
use Rattle.core_lists.proofs.Numbers.{lt_or_eq}
use Rattle.core_lists.specs.Lists.{In, Each, Has}

-- a ping's position is at least 1
record Positive {E : Type 0} (o : Own E) : Type 0 where
  each : Each (λ x. 1 ≤ x.durable) o.pings

positive_row : {E : Type 0} (n : ℕ) (w : World E) (i : ℕ) (e : NodeEvent E) → Enabled n w i (w.nodes i) e → Positive (w.nodes i) → Positive (change i (w.nodes i) e)
positive_row n w i (Probe t) en p = record { each = each_add en.3 p.each }
positive_row n w i _ en p = record { each = p.each }

positive : {E : Type 0} (n : ℕ) (h : List (ℕ × NodeEvent E)) → Legal n h → (k : ℕ) → Positive ((after h).nodes k)
positive n [] legal k = record { each = each_none }
positive {E} n (x ∷ h) legal k =
    let w : World E = after h in
    at_node w x.0 x.1 (λ j o. Positive o) k (positive_row n w x.0 x.1 legal.0 (positive n h legal.1 x.0)) (positive n h legal.1 k)

pub at_least_one : {E : Type 0} (n m : ℕ) (h : List (ℕ × NodeEvent E)) (x : Ping) → Legal n h → In x ((after h).nodes m).pings → 1 ≤ x.durable
at_least_one n m h x legal hx = (positive n h legal m).each.at x hx

-- a begin that was answered has a leader at or below it whose adopted log is durable in its own generation
pub some_founded : {E : Type 0} (n m : ℕ) (h : List (ℕ × NodeEvent E)) (x : Ping) → Legal n h → In x ((after h).nodes m).pings → (k : ℕ) × Has (λ l. (l.gen ≤ x.gen) × DurableIn n (after h) l.gen l.log) ((after h).nodes k).leads
some_founded n m h x legal hx =
    let v = always_fresh n h legal in
    let b = ((v.refs m).pings.at x hx).0 in
    let f = first_of v.inv b.0 b.2 b.3 in
    let low : b.0 ≤ x.gen = b.1 in
    let same : f.1.it.gen ≡ b.0 = f.1.is.0 in
    (f.0, record { it = f.1.it; mem = f.1.mem; is = (omega arith, subst (λ t. DurableIn n (after h) t f.1.it.log) (sym f.1.is.0) f.1.is.1) })

-- and it is at least what the first master adopted
pub at_least_base : {E : Type 0} (n m j : ℕ) (h : List (ℕ × NodeEvent E)) (x : Ping) (l : Claim E) → Legal n h → In x ((after h).nodes m).pings → IsFirstMaster n (after h) j l → length l.log ≤ x.durable
at_least_base {E} n m j h x l legal hx first = go (lt_or_eq l.gen x.gen low)
  where
    inv : Inv n (after h)
    inv = always n h legal

    own : Has (λ a. (a.gen ≡ x.gen) × (length a.log ≤ x.durable)) ((after h).nodes m).leads
    own = (always_answering n h legal m).pings.at x hx

    low : l.gen ≤ x.gen
    low =
        let f = some_founded n m h x legal hx in
        let a : l.gen ≤ f.1.it.gen = first.least f.0 f.1.it f.1.mem f.1.is.1 in
        let b : f.1.it.gen ≤ x.gen = f.1.is.0 in
        omega arith

    go : (l.gen < x.gen) ⊎ (l.gen ≡ x.gen) → length l.log ≤ x.durable
    go (inl lt) =
        let a = own in
        let ag : a.it.gen ≡ x.gen = a.is.0 in
        let al : length a.it.log ≤ x.durable = a.is.1 in
        let q = front_length (adopts inv l.gen l.log first.durable a.it.gen m a.it a.mem (omega arith) (omega arith)) in
        omega arith
    go (inr eq) =
        let a = own in
        let by : j ≡ m = one_leader inv j m l a.it first.mem a.mem (eq ∙ sym a.is.0) in
        let log : l.log ≡ a.it.log = one_log inv m l a.it (subst (λ t. In l ((after h).nodes t).leads) by first.mem) a.mem (eq ∙ sym a.is.0) in
        subst (λ t. length t ≤ x.durable) (sym log) a.is.1
