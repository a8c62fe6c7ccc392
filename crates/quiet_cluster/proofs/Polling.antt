-- An election: the candidate leads in the end, or fell, or few are up.
use Rattle.std.proofs.Common.{ℕ, ◌≡◌, ◌*◌, ◌<◌, ◌≤◌, ◌^◌, List, [], ◌∷◌, ◌++◌, max, replicate, slice_index, arith, refl, sym, subst, ap, ◌∙◌}
use Rattle.std.specs.Prelude.{zero, suc, true, false}
use Rattle.std.specs.Int.{bit_at}
use Rattle.std.specs.Int.Bits.{bit_or}
use Rattle.std.proofs.lemmas.Nat.Bits.{bit_at_or, bit_at-pow_same, bit_at-zero, bit_at-lt}
use Rattle.std.proofs.lemmas.Bool.Decides.{Decides-eqb}
use mathlib.Core.Logic.{◌⊎◌, inl, inr}
use Rattle.core_lists.specs.Lists.{Each, Has}
use Rattle.core_lists.specs.Majorities.{count}
use Rattle.core_lists.proofs.Majorities.{shared}
use Rattle.cluster_consensus.specs.Enabled.{Below}
use Rattle.election_core.specs.Counts.{has_bit, with_bit}
use Rattle.election_core.specs.Counted.{acted}
use Rattle.election_core.specs.Allowed.{MayGrant}
use Rattle.election_core.specs.declared.votes.NodeVote.{NodeVote}
use Rattle.election_core.specs.declared.messages.Message.{Message}
use Rattle.election_core.specs.declared.messages.Message.TheVariants.{Vote, Granted, Adopt, Ship, Ack, Durable, Ping, Pong}
use Rattle.election_core.specs.declared.messages.Action.TheVariants as action
use Rattle.quiet_cluster.specs.Packets.{packet, Packet}
use Rattle.quiet_cluster.proofs.Answered.{Does}
use Rattle.quiet_cluster.specs.Deliveries.{Delivered}
use Rattle.quiet_cluster.specs.Polled.{Stands, Asked, Bound, Vow, Polls, Polled}
use Rattle.quiet_cluster.specs.Polled.Vow.{asked, bound}
use Rattle.quiet_cluster.proofs.Lists.{has_left, has_right, has_split, has_one, each_one, each_tail, each_join, same_or}
use Rattle.quiet_cluster.proofs.Acting.{vote_acts}
use Rattle.quiet_cluster.proofs.Follower.{has_past}

pub bit_self : (n f : ℕ) → has_bit (with_bit n f) f ≡ true
bit_self n f =
    let a = bit_at_or n (2 ^ f) f in
    let b = bit_at-pow_same f in
    let c = bit_at-lt n f in
    let d : bit_at (bit_or n (2 ^ f)) f ≡ 1 = a ∙ (subst (λ t. max (bit_at n f) t ≡ 1) (sym b) (top (bit_at n f) c)) in
    (Decides-eqb (bit_at (bit_or n (2 ^ f)) f) 1).1 d
  where
    top : (x : ℕ) → x < 2 → max x 1 ≡ 1
    top x h = grind arith

pub bit_more : (n f k : ℕ) → has_bit n k ≡ true → has_bit (with_bit n f) k ≡ true
bit_more n f k e =
    let a = bit_at_or n (2 ^ f) k in
    let b : bit_at n k ≡ 1 = (Decides-eqb (bit_at n k) 1).0 e in
    let c = bit_at-lt (2 ^ f) k in
    let d : bit_at (bit_or n (2 ^ f)) k ≡ 1 = a ∙ (subst (λ t. max t (bit_at (2 ^ f) k) ≡ 1) (sym b) (top (bit_at (2 ^ f) k) c)) in
    (Decides-eqb (bit_at (bit_or n (2 ^ f)) k) 1).1 d
  where
    top : (x : ℕ) → x < 2 → max 1 x ≡ 1
    top x h = grind arith

pub no_bits : (n : ℕ) → n < 2 * count n (λ k. has_bit 0 k) → ⊥
no_bits n h =
    let r = shared n (λ k. has_bit 0 k) (λ k. has_bit 0 k) (omega arith) in
    let b : bit_at 0 r.0 ≡ 1 = (Decides-eqb (bit_at 0 r.0) 1).0 r.3 in
    let z = bit_at-zero r.0 in
    omega arith

-- nobody acknowledged anything yet
pub no_lengths : (k : ℕ) → slice_index (replicate 7 0) k ≡ 0
no_lengths zero = refl
no_lengths (suc zero) = refl
no_lengths (suc (suc zero)) = refl
no_lengths (suc (suc (suc zero))) = refl
no_lengths (suc (suc (suc (suc zero)))) = refl
no_lengths (suc (suc (suc (suc (suc zero))))) = refl
no_lengths (suc (suc (suc (suc (suc (suc zero)))))) = refl
no_lengths (suc (suc (suc (suc (suc (suc (suc k))))))) = refl

-- what each node that is up owes the candidate, whoever else was given something
asked_past : (p : Packet) (ps s : List Packet) (c g a l k : ℕ) (v : NodeVote) → ((p.to ≡ k) × (p.message ≡ Vote c g a l) → ⊥) → Asked (p ∷ ps) c g a l k v → Asked (ps ++ s) c g a l k v
asked_past p ps s c g a l k v ne x = record { promised = x.promised; accepted = x.accepted; below = x.below; under_way = has_past s ne x.under_way }

pub bound_past : (granted more : ℕ) (p : Packet) (ps s : List Packet) (c g k : ℕ) (v : NodeVote) → ((j : ℕ) → has_bit granted j ≡ true → has_bit more j ≡ true) → ((p.to ≡ c) × (p.message ≡ Granted k g c) → has_bit more k ≡ true)
    → Bound granted (p ∷ ps) c g k v → Bound more (ps ++ s) c g k v
bound_past granted more p ps s c g k v grows got x = record { promised = x.promised; accepted = x.accepted; follows = x.follows; counted = go x.counted }
  where
    split : (p.to ≡ c) × (p.message ≡ Granted k g c) ⊎ Has (λ z. (z.to ≡ c) × (z.message ≡ Granted k g c)) ps → (has_bit more k ≡ true) ⊎ Has (λ z. (z.to ≡ c) × (z.message ≡ Granted k g c)) (ps ++ s)
    split (inl y) = inl (got y)
    split (inr y) = inr (has_left s y)

    go : (has_bit granted k ≡ true) ⊎ Has (λ z. (z.to ≡ c) × (z.message ≡ Granted k g c)) (p ∷ ps) → (has_bit more k ≡ true) ⊎ Has (λ z. (z.to ≡ c) × (z.message ≡ Granted k g c)) (ps ++ s)
    go (inl e) = inl (grows k e)
    go (inr h) = split (has_split h)

pub vow_past : (granted more : ℕ) (p : Packet) (ps s : List Packet) (c g a l k : ℕ) (v : NodeVote) → ((j : ℕ) → has_bit granted j ≡ true → has_bit more j ≡ true) → ((p.to ≡ k) × (p.message ≡ Vote c g a l) → ⊥)
    → ((p.to ≡ c) × (p.message ≡ Granted k g c) → has_bit more k ≡ true) → Vow granted (p ∷ ps) c g a l k v → Vow more (ps ++ s) c g a l k v
vow_past granted more p ps s c g a l k v grows ne got (asked x) = asked (asked_past p ps s c g a l k v ne x)
vow_past granted more p ps s c g a l k v grows ne got (bound x) = bound (bound_past granted more p ps s c g k v grows got x)

-- what a delivery leaves at a node that is asked
pub record Voted (n granted : ℕ) (ps s : List Packet) (c g a l i : ℕ) (u : NodeVote) : Type 0 where
  named : u.up ≡ true → (0 < i) × (i ≤ n) × (u.node ≡ i)
  vow : u.up ≡ true → Vow granted (ps ++ s) c g a l i u
  polls : Each (λ z. Polls z.message z.to c g a l) s

pub no_polls : (c g a l : ℕ) (s : List Packet) → s ≡ [] → Each (λ z. Polls z.message z.to c g a l) s
no_polls c g a l s e = subst (λ t. Each (λ z. Polls z.message z.to c g a l) t) (sym e) (record { at = λ y h. absurd (elim h [ ]) })

vote_lengths : (f h x y c g a l : ℕ) → Vote f h x y ≡ Vote c g a l → (x ≡ a) × (y ≡ l)
vote_lengths f h x y c g a l e = (ap fst e, ap snd e)
  where
    fst : Message → ℕ
    fst (Vote f g a l) = a
    fst _ = 0

    snd : Message → ℕ
    snd (Vote f g a l) = l
    snd _ = 0

voted : (n granted : ℕ) (p : Packet) (ps s : List Packet) (c g a l : ℕ) (v u : NodeVote) (f h x y : ℕ) → p.message ≡ Vote f h x y → (p.to ≡ c → ⊥) → f ≡ c → h ≡ g → v.up ≡ true → (0 < p.to) × (p.to ≤ n) × (v.node ≡ p.to) → p.to ≤ 7
    → Vow granted (p ∷ ps) c g a l p.to v
    → ((u ≡ v) × (s ≡ []) × (MayGrant v h x y → ⊥)) ⊎ (MayGrant v h x y × (u ≡ acted v (action.Promise h f)) × (s ≡ packet f (Granted u.node h f) 0 ∷ [])) → Voted n granted ps s c g a l p.to u
voted n granted p ps s c g a l v u f h x y e ne from gen up name top vow (inl t) = record {
  named = λ z. (name.0, name.1, ap (λ w. w.node) t.0 ∙ name.2);
  vow = λ z. subst (λ w. Vow granted (ps ++ s) c g a l p.to w) (sym t.0) (go vow);
  polls = no_polls c g a l s t.1;
}
  where
    may : Asked (p ∷ ps) c g a l p.to v → p.message ≡ Vote c g a l → MayGrant v h x y
    may k q =
        let r = vote_lengths f h x y c g a l (sym e ∙ q) in
        (up, (let z = k.promised in omega arith), subst (λ j. Below v.accepted v.length x j) (sym r.1) (subst (λ j. Below v.accepted v.length j l) (sym r.0) k.below))

    go : Vow granted (p ∷ ps) c g a l p.to v → Vow granted (ps ++ s) c g a l p.to v
    go (asked k) = asked (asked_past p ps s c g a l p.to v (λ z. t.2 (may k z.1)) k)
    go (bound k) = bound (bound_past granted granted p ps s c g p.to v (λ j z. z) (λ z. absurd (ne z.0)) k)
voted n granted p ps s c g a l v u f h x y e ne from gen up name top vow (inr t) = record {
  named = λ z. (name.0, name.1, ap (λ w. w.node) t.1 ∙ name.2);
  vow = λ z. bound (record {
    promised = ap (λ w. w.promised) t.1 ∙ gen;
    accepted = (let q : u.accepted ≡ v.accepted = ap (λ w. w.accepted) t.1 in let r : v.accepted < g = low vow in omega arith);
    follows = ap (λ w. w.leading) t.1;
    counted = inr (has_right ps (subst (λ w. Has (λ z. (z.to ≡ c) × (z.message ≡ Granted p.to g c)) w) (sym t.2) (has_one (from, grants))));
  });
  polls = subst (λ w. Each (λ z. Polls z.message z.to c g a l) w) (sym t.2) (each_one (from, (let q : u.node ≡ p.to = ap (λ w. w.node) t.1 ∙ name.2 in omega arith)));
}
  where
    low : Vow granted (p ∷ ps) c g a l p.to v → v.accepted < g
    low (asked k) = k.accepted
    low (bound k) = k.accepted

    grants : Granted u.node h f ≡ Granted p.to g c
    grants = ap (λ w. Granted w h f) (ap (λ w. w.node) t.1 ∙ name.2) ∙ (ap (λ w. Granted p.to w f) gen ∙ ap (λ w. Granted p.to g w) from)

-- a delivery to another node than the candidate
pub polled_other : (n : ℕ) (at to : ℕ → NodeVote) (p : Packet) (ps s : List Packet) (c g a l : ℕ) → Polled n at (p ∷ ps) c g a l → Delivered at to p s → (p.to ≡ c → ⊥) → Voted n (at c).granted ps s c g a l p.to (to p.to) → Polled n to (ps ++ s) c g a l
polled_other n at to p ps s c g a l old d ne h = record {
  few = old.few;
  stands = subst (λ t. Stands n c g l t) (sym me) old.stands;
  named = λ k up. named k up (same_or k p.to);
  vows = λ k up. subst (λ t. Vow t.granted (ps ++ s) c g a l k (to k)) (sym me) (vow k up (same_or k p.to));
  polls = each_join (each_tail old.polls) h.polls;
}
  where
    me : to c ≡ at c
    me = d.others c (λ e. ne (sym e))

    named : (k : ℕ) → (to k).up ≡ true → (k ≡ p.to) ⊎ (k ≡ p.to → ⊥) → (0 < k) × (k ≤ n) × ((to k).node ≡ k)
    named k up (inl e) = subst (λ j. (0 < j) × (j ≤ n) × ((to j).node ≡ j)) (sym e) (h.named (subst (λ j. (to j).up ≡ true) e up))
    named k up (inr e) = subst (λ t. (0 < k) × (k ≤ n) × (t.node ≡ k)) (sym (d.others k e)) (old.named k (subst (λ t. t.up ≡ true) (d.others k e) up))

    vow : (k : ℕ) → (to k).up ≡ true → (k ≡ p.to) ⊎ (k ≡ p.to → ⊥) → Vow (at c).granted (ps ++ s) c g a l k (to k)
    vow k up (inl e) = subst (λ j. Vow (at c).granted (ps ++ s) c g a l j (to j)) (sym e) (h.vow (subst (λ j. (to j).up ≡ true) e up))
    vow k up (inr e) = subst (λ t. Vow (at c).granted (ps ++ s) c g a l k t) (sym (d.others k e))
        (vow_past (at c).granted (at c).granted p ps s c g a l k (at k) (λ j z. z) (λ x. e (sym x.0)) (λ x. absurd (ne x.0)) (old.vows k (subst (λ t. t.up ≡ true) (d.others k e) up)))

pub asks : (n : ℕ) (at : ℕ → NodeVote) (p : Packet) (ps s : List Packet) (c g a l : ℕ) (u : NodeVote) (x : Message) → p.message ≡ x → Polled n at (p ∷ ps) c g a l → (p.to ≡ c → ⊥) → Polls x p.to c g a l → ((u.up ≡ false) × (s ≡ [])) ⊎ (((at p.to).up ≡ true) × Does (at p.to) x p.entries u s)
    → Voted n (at c).granted ps s c g a l p.to u
asks n at p ps s c g a l u x e old ne fit (inl t) = record { named = λ up. absurd (let x = t.0 in cc); vow = λ up. absurd (let x = t.0 in cc); polls = no_polls c g a l s t.1 }
asks n at p ps s c g a l u (Vote f h y z) e old ne fit (inr t) =
    let name = old.named p.to t.0 in
    let few = old.few in
    voted n (at c).granted p ps s c g a l (at p.to) u f h y z e ne fit.1 fit.2 t.0 name (omega arith) (old.vows p.to t.0) (vote_acts (at p.to) u f h y z s t.1)
asks n at p ps s c g a l u (Granted f h y) e old ne fit (inr t) = absurd (ne fit.0)
asks n at p ps s c g a l u (Adopt f h y) e old ne fit (inr t) = absurd fit
asks n at p ps s c g a l u (Ship f h y) e old ne fit (inr t) = absurd fit
asks n at p ps s c g a l u (Ack f h y) e old ne fit (inr t) = absurd fit
asks n at p ps s c g a l u (Durable f h y) e old ne fit (inr t) = absurd fit
asks n at p ps s c g a l u (Ping f h y z) e old ne fit (inr t) = absurd fit
asks n at p ps s c g a l u (Pong f h y) e old ne fit (inr t) = absurd fit
