-- A round of an election that leaves no leader leaves fewer nodes up.
use Rattle.std.proofs.Common.{ℕ, ◌≡◌, ◌+◌, ◌<◌, ◌≤◌, List, arith, refl, subst}
use Rattle.std.specs.Prelude.{zero, suc, Bool, true, false, cond}
use mathlib.Core.Logic.{◌⊎◌, inl, inr}
use Rattle.core_lists.specs.Majorities.{count}
use Rattle.core_lists.proofs.Numbers.{lt_or_eq}
use Rattle.election_core.proofs.Greatest.{count_le}
use Rattle.election_core.specs.declared.votes.NodeVote.{NodeVote}
use Rattle.quiet_cluster.specs.Deliveries.{Run}
use Rattle.quiet_cluster.specs.Packets.{Packet}
use Rattle.quiet_cluster.proofs.Runs.{run_down}

-- a test that takes one less counts less
count_fewer : (n : ℕ) (p q : ℕ → Bool) (c : ℕ) → 0 < c → c ≤ n → ((k : ℕ) → p k ≡ true → q k ≡ true) → p c ≡ false → q c ≡ true → count n p < count n q
count_fewer zero p q c low high h a b = absurd (omega arith)
count_fewer (suc n) p q c low high h a b = go (lt_or_eq c (suc n) high) (λ le. count_fewer n p q c low le h a b)
  where
    less : (x y : Bool) (s t : ℕ) → (x ≡ true → y ≡ true) → s < t → cond x 1 0 + s < cond y 1 0 + t
    less true true s t f lt = omega arith
    less true false s t f lt = let e : false ≡ true = f refl in absurd (cc)
    less false true s t f lt = omega arith
    less false false s t f lt = omega arith

    top : (x y : Bool) (s t : ℕ) → x ≡ false → y ≡ true → s ≤ t → cond x 1 0 + s < cond y 1 0 + t
    top false true s t e f le = omega arith
    top true y s t e f le = absurd (cc)
    top false false s t e f le = absurd (cc)

    go : (c < suc n) ⊎ (c ≡ suc n) → (c ≤ n → count n p < count n q) → count (suc n) p < count (suc n) q
    go (inl lt) rec = less (p (suc n)) (q (suc n)) (count n p) (count n q) (h (suc n)) (rec (omega arith))
    go (inr e) rec = top (p (suc n)) (q (suc n)) (count n p) (count n q) (subst (λ j. p j ≡ false) e a) (subst (λ j. q j ≡ true) e b) (count_le n p q (λ k le. h k))

pub fewer_up : (n : ℕ) {at to : ℕ → NodeVote} {q : List Packet} (c : ℕ) → Run at q to → 0 < c → c ≤ n → (at c).up ≡ true → (to c).up ≡ false → count n (λ k. (to k).up) < count n (λ k. (at k).up)
fewer_up n {at} {to} {q} c r low high was fell = count_fewer n (λ k. (to k).up) (λ k. (at k).up) c low high (λ k up. kept k (at k).up refl up) fell was
  where
    kept : (k : ℕ) (b : Bool) → (at k).up ≡ b → (to k).up ≡ true → (at k).up ≡ true
    kept k true e up = e
    kept k false e up = absurd (let x = run_down k r e in cc)
