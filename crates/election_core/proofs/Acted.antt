-- What is counted stays told: after an action, and where more is told.
use Rattle.std.proofs.Common.{ℕ, ◌≡◌, ◌<◌, ◌≤◌, List, length, replicate, slice_index, arith, refl, sym, subst, ap, ◌∙◌, Some}
use Rattle.std.specs.Prelude.{zero, suc, ◌==◌, ◌&&◌, Bool, true, false}
use Rattle.std.specs.Int.{bit_at}
use Rattle.std.proofs.lemmas.Nat.Bits.{bit_at-zero}
use Rattle.std.proofs.lemmas.Bool.Decides.{nat_tests, Decides-eqb}
use Rattle.std.proofs.lemmas.Grind.{common_steps}
use Rattle.std.proofs.lemmas.Option.{same_Some}
use Rattle.core_lists.specs.Fronts.{Front}
use Rattle.core_lists.specs.Lists.{In, Has}
use Rattle.cluster_consensus.specs.Events.{NodeEvent}
use Rattle.cluster_consensus.specs.Facts.{Claim, World}
use Rattle.cluster_consensus.specs.Histories.{Legal, after}
use Rattle.cluster_consensus.specs.Shipped.{find_log}
use Rattle.cluster_consensus.proofs.Kept.{always}
use Rattle.cluster_consensus.proofs.Lengths.{front_found}
use Rattle.election_core.specs.Counts.{has_bit, reaches}
use Rattle.election_core.specs.Counted.{acted}
use Rattle.election_core.specs.More.{TellsMore}
use Rattle.election_core.specs.Told.{IsAcked, IsCounted}
use Rattle.election_core.proofs.Greatest.{reached}
use Rattle.election_core.specs.declared.votes.NodeVote.{NodeVote}
use Rattle.election_core.specs.declared.messages.Action.{Action}
use Rattle.election_core.specs.declared.messages.Action.TheVariants.{Nothing, Promise, Lead, Take, Know, Answer}

pub no_bit : (k : ℕ) → has_bit 0 k ≡ true → ⊥
no_bit k e =
    let a : bit_at 0 k ≡ 1 = (Decides-eqb (bit_at 0 k) 1).0 e in
    let z : bit_at 0 k ≡ 0 = bit_at-zero k in
    absurd (omega arith)

none : (j : ℕ) → slice_index (replicate 7 0) j ≡ 0
none j = grind (arith, common_steps)

no_ack : (l k : ℕ) → 1 ≤ l → reaches (replicate 7 0) l k ≡ true → ⊥
no_ack l zero one e = absurd (let f : false ≡ true = e in cc)
no_ack l (suc j) one e =
    let a : l ≤ slice_index (replicate 7 0) j = reached (replicate 7 0) l j e in
    let z : slice_index (replicate 7 0) j ≡ 0 = none j in
    absurd (omega arith)

both : (b : Bool) (x y : ℕ) → (b && x == y) ≡ true → (b ≡ true) × (x ≡ y)
both b x y e = grind (arith, nat_tests)

-- a promise and a take let the votes go, a lead the lengths; a take in another generation ends a lead
pub acted_counted : {E : Type 0} (w : World E) (v : NodeVote) (a : Action) → IsCounted w v → IsCounted w (acted v a)
acted_counted w v Nothing c = c
acted_counted w v (Promise g to) c = record { size = c.size; granted = λ k e. absurd (no_bit k e); acked = λ (l : false ≡ true) m k one e. absurd (cc) }
acted_counted w v (Lead g) c = record { size = refl; granted = c.granted; acked = λ l m k one e. absurd (no_ack m k one e) }
acted_counted w v (Take g l) c = record {
  size = c.size;
  granted = λ k e. absurd (no_bit k e);
  acked = λ lead m k one e. (let t = both v.leading v.accepted g lead in subst (λ j. IsAcked w j m k) t.1 (c.acked t.0 m k one e));
}
acted_counted w v (Know d) c = record { size = c.size; granted = c.granted; acked = c.acked }
acted_counted w v (Answer m to) c = c

pub has_in : {A : Type 0} {P : A → Type 0} {xs ys : List A} → ((x : A) → In x xs → In x ys) → Has P xs → Has P ys
has_in f h = record { it = h.it; mem = f h.it h.mem; is = h.is }

pub counted_on : {E : Type 0} (w u : World E) (v : NodeVote) → TellsMore w u → IsCounted w v → IsCounted u v
counted_on w u v more c = record {
  size = c.size;
  granted = λ k e. has_in (more.nodes k).grants (c.granted k e);
  acked = λ lead l k one e. has_in (more.nodes k).acks (c.acked lead l k one e);
}

-- both are found by the generation and the length
pub one_ship : {E : Type 0} (n m k : ℕ) (h : List (ℕ × NodeEvent E)) (s c : Claim E) (xs ys : List E) → Legal n h → 0 < m → m ≤ n → 0 < k → k ≤ n
    → In s ((after h).nodes m).ships → In c ((after h).nodes k).ships → s.gen ≡ c.gen → Front xs s.log → Front ys c.log → length xs ≡ length ys → xs ≡ ys
one_ship {E} n m k h s c xs ys legal mp mn kp kn hs hc g p q e =
    let inv = always n h legal in
    let one : find_log (after h) c.gen (length xs) n ≡ Some xs = front_found inv c.gen m n s xs hs g p mp mn in
    let two : find_log (after h) c.gen (length ys) n ≡ Some ys = front_found inv c.gen k n c ys hc refl q kp kn in
    same_Some xs ys (sym one ∙ (ap (λ (l : ℕ). find_log (after h) c.gen l n) e ∙ two))
