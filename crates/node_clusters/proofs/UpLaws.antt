-- Who is down stays down, so no more are up afterwards.
use Rattle.std.proofs.Common.{ℕ, ◌≡◌, ◌+◌, ◌*◌, ◌<◌, ◌≤◌, List, length, arith, refl, subst, ap, ◌∙◌}
use Rattle.std.specs.Prelude.{zero, suc, Bool, true, false, cond, IsTrue, ◌↔◌}
use mathlib.Core.Logic.{◌⊎◌, inl, inr}
use Rattle.cluster_events.specs.Settings.{Setting}
use Rattle.core_lists.proofs.Majorities.{some_of}
use Rattle.core_lists.proofs.Numbers.{lt_or_eq}
use Rattle.core_lists.specs.Majorities.{count}
use Rattle.election_core.proofs.Greatest.{count_le}
use Rattle.election_core.specs.declared.votes.NodeVote.{NodeVote}
use Rattle.node_clusters.specs.Clusters.{HasMajority, up_count}
use Rattle.node_clusters.specs.Passes.{PassAll, Passes}
use Rattle.node_clusters.specs.Places.{node_at, votes}
use Rattle.node_state.specs.Stores.{Stored}

-- a test that takes one less counts less
count_fewer : (n : ℕ) (p q : ℕ → Bool) (c : ℕ) → 0 < c → c ≤ n → ((k : ℕ) → p k ≡ true → q k ≡ true) → p c ≡ false → q c ≡ true → count n p < count n q
count_fewer zero p q c low high h a b = absurd (omega arith)
count_fewer (suc n) p q c low high h a b = go (lt_or_eq c (suc n) high) (λ le. count_fewer n p q c low le h a b)
  where
    less : (x y : Bool) (s t : ℕ) → (x ≡ true → y ≡ true) → s < t → cond x 1 0 + s < cond y 1 0 + t
    less true true s t f lt = omega arith
    less true false s t f lt = let e : false ≡ true = f refl in absurd (cc)
    less false true s t f lt = omega arith
    less false false s t f lt = omega arith

    top : (x y : Bool) (s t : ℕ) → x ≡ false → y ≡ true → s ≤ t → cond x 1 0 + s < cond y 1 0 + t
    top false true s t e f le = omega arith
    top true y s t e f le = absurd (cc)
    top false false s t e f le = absurd (cc)

    go : (c < suc n) ⊎ (c ≡ suc n) → (c ≤ n → count n p < count n q) → count (suc n) p < count (suc n) q
    go (inl lt) rec = less (p (suc n)) (q (suc n)) (count n p) (count n q) (h (suc n)) (rec (omega arith))
    go (inr e) rec = top (p (suc n)) (q (suc n)) (count n p) (count n q) (subst (λ j. p j ≡ false) e a) (subst (λ j. q j ≡ true) e b) (count_le n p q (λ k le. h k))

pub was_up : (v u : Stored) → Passes v u → u.vote.up ≡ true → v.vote.up ≡ true
was_up v u p up = go v.vote.up refl
  where
    go : (b : Bool) → v.vote.up ≡ b → v.vote.up ≡ true
    go true e = e
    go false e = absurd (let s = p.sleeps e in let x : u.vote.up ≡ v.vote.up = ap (λ (t : NodeVote). t.up) s.same.vote in cc)

pub less_up : (vs us : List Stored) → PassAll vs us → (n : ℕ) → count n (λ k. (votes us k).up) ≤ count n (λ k. (votes vs k).up)
less_up vs us p n = count_le n (λ k. (votes us k).up) (λ k. (votes vs k).up) (λ k le up. was_up (node_at vs k) (node_at us k) (p.each k) up)

pub no_more_up : (vs us : List Stored) → PassAll vs us → up_count us ≤ up_count vs
no_more_up vs us p =
    let e : count (length us) (λ k. (votes us k).up) ≡ count (length vs) (λ k. (votes us k).up) = ap (λ n. count n (λ k. (votes us k).up)) p.size in
    let le = less_up vs us p (length vs) in
    omega arith

pub majority_before : (G : Setting) (vs us : List Stored) → PassAll vs us → HasMajority G us → HasMajority G vs
majority_before G vs us p many = let le = less_up vs us p G.nodes in omega arith

pub fewer_by : (vs us : List Stored) (c : ℕ) → PassAll vs us → 0 < c → c ≤ length vs → (votes vs c).up ≡ true → (votes us c).up ≡ false → up_count us < up_count vs
fewer_by vs us c p low high was fell =
    let e : count (length us) (λ k. (votes us k).up) ≡ count (length vs) (λ k. (votes us k).up) = ap (λ n. count n (λ k. (votes us k).up)) p.size in
    let lt = count_fewer (length vs) (λ k. (votes us k).up) (λ k. (votes vs k).up) c low high (λ k up. was_up (node_at vs k) (node_at us k) (p.each k) up) fell was in
    omega arith

-- where a majority is up, somebody is
pub somebody : (G : Setting) (vs : List Stored) → HasMajority G vs → (k : ℕ) × ((k ≤ G.nodes) × ((votes vs k).up ≡ true))
somebody G vs many = some_of {n = G.nodes} {P = λ k. (k ≤ G.nodes) × ((votes vs k).up ≡ true)} (record { who = λ k. (votes vs k).up; many = many; hold = λ k low high up. (high, up) })

-- more than half of them are up
pub majority_so : (G : Setting) (vs : List Stored) (n : ℕ) (b : Bool) → length vs ≡ G.nodes → n ≡ up_count vs → (IsTrue b ↔ (length vs < 2 * n)) → IsTrue b ↔ HasMajority G vs
majority_so G vs n b size is most = (λ t. many (most.0 t), λ h. most.1 (few h))
  where
    here : n ≡ count G.nodes (λ k. (votes vs k).up)
    here = is ∙ ap (λ m. count m (λ k. (votes vs k).up)) size

    many : length vs < 2 * n → G.nodes < 2 * count G.nodes (λ k. (votes vs k).up)
    many lt = let h : n ≡ count G.nodes (λ k. (votes vs k).up) = here in omega arith

    few : G.nodes < 2 * count G.nodes (λ k. (votes vs k).up) → length vs < 2 * n
    few lt = let h : n ≡ count G.nodes (λ k. (votes vs k).up) = here in omega arith
