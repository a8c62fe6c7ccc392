-- A delivery to the candidate, and an election from its beginning to its end.
use Rattle.std.proofs.Common.{ℕ, ◌≡◌, ◌*◌, ◌<◌, ◌≤◌, List, [], ◌∷◌, ◌++◌, length, slice_index, arith, refl, sym, subst, ap, ◌∙◌}
use Rattle.std.specs.Prelude.{◌==◌, ◌&&◌, Bool, true, false, cond}
use Rattle.std.proofs.lemmas.Bool.Decides.{Decides-eqb}
use mathlib.Core.Logic.{◌⊎◌, inl, inr}
use Rattle.core_lists.specs.Lists.{Each, Has}
use Rattle.core_lists.specs.Lists.In.{here}
use Rattle.core_lists.specs.Majorities.{count}
use Rattle.election_core.specs.Counts.{has_bit, with_bit}
use Rattle.election_core.specs.Counted.{acted, counted, counts_vote}
use Rattle.election_core.specs.Allowed.{MayLead}
use Rattle.election_core.specs.Senders.{sender_of}
use Rattle.election_core.proofs.Keeping.{vote_tests}
use Rattle.election_core.specs.declared.votes.NodeVote.{NodeVote}
use Rattle.election_core.specs.declared.messages.Message.{Message}
use Rattle.election_core.specs.declared.messages.Message.TheVariants.{Vote, Granted, Adopt, Ship, Ack, Durable, Ping, Pong}
use Rattle.election_core.specs.declared.messages.Action.TheVariants as action
use Rattle.quiet_cluster.specs.Packets.{packet, packets_of, others, Packet}
use Rattle.quiet_cluster.specs.Led.{MayTakeAll, IsLog, Fits, Claim, LedAlone}
use Rattle.quiet_cluster.proofs.Answered.{Does, Came, does_of}
use Rattle.quiet_cluster.specs.Deliveries.{Delivered}
use Rattle.quiet_cluster.specs.Polled.{Stands, Vow, Polls, Polled}
use Rattle.quiet_cluster.specs.Led.Claim.{coming}
use Rattle.quiet_cluster.specs.Polled.Vow.{asked, bound}
use Rattle.quiet_cluster.proofs.Lists.{has_left, has_right, each_one, each_head, each_tail, each_join, same_or, others_in, others_each, reached_some}
use Rattle.quiet_cluster.proofs.Acting.{granted_acts}
use Rattle.quiet_cluster.proofs.Polling.{bit_self, bit_more, no_lengths, bound_past, vow_past, no_polls, polled_other, asks}

-- the candidate's numbers, however many votes it has
record Base (n c g l : ℕ) (v : NodeVote) : Type 0 where
  node : v.node ≡ c
  nodes : v.nodes ≡ n
  up : v.up ≡ true
  promised : v.promised ≡ g
  accepted : v.accepted < g
  long : v.length ≡ l
  size : length v.acked ≡ 7
  within : v.durable ≤ l
  follows : v.leading ≡ false

base_of : (n c g l : ℕ) (v : NodeVote) → Stands n c g l v → Base n c g l v
base_of n c g l v a = record { node = a.node; nodes = a.nodes; up = a.up; promised = a.promised; accepted = a.accepted; long = a.long; size = a.size; within = a.within; follows = a.follows }

base_voted : (n c g l x : ℕ) (v : NodeVote) (b : Bool) → Base n c g l v → Base n c g l (cond b (record v { granted = x }) v)
base_voted n c g l x v true a = record { node = a.node; nodes = a.nodes; up = a.up; promised = a.promised; accepted = a.accepted; long = a.long; size = a.size; within = a.within; follows = a.follows }
base_voted n c g l x v false a = a

-- one more vote, and still no majority
record Counts (n : ℕ) (p : Packet) (c g l : ℕ) (v u : NodeVote) : Type 0 where
  stands : Stands n c g l u
  grows : (j : ℕ) → has_bit v.granted j ≡ true → has_bit u.granted j ≡ true
  got : (k : ℕ) → p.message ≡ Granted k g c → has_bit u.granted k ≡ true

granted_same : (f h t k g c : ℕ) → Granted f h t ≡ Granted k g c → (h ≡ g) × (t ≡ c)
granted_same f h t k g c e = (ap gen e, ap to e)
  where
    gen : Message → ℕ
    gen (Granted f g t) = g
    gen _ = 0

    to : Message → ℕ
    to (Granted f g t) = t
    to _ = 0

counts : (n : ℕ) (p : Packet) (c g l : ℕ) (v u : NodeVote) (f h t : ℕ) → p.message ≡ Granted f h t → Stands n c g l v → u ≡ counted v (Granted f h t) → (MayLead (counted v (Granted f h t)) h t → ⊥) → Counts n p c g l v u
counts n p c g l v u f h t e a same refuses = go (counts_vote v h t) refl same refuses
  where
    go : (b : Bool) → counts_vote v h t ≡ b → u ≡ cond b (record v { granted = with_bit v.granted f }) v → (MayLead (cond b (record v { granted = with_bit v.granted f }) v) h t → ⊥) → Counts n p c g l v u
    go true y w r = subst (λ z. Counts n p c g l v z) (sym w) (record {
      stands = record {
        node = a.node;
        nodes = a.nodes;
        up = a.up;
        promised = a.promised;
        accepted = a.accepted;
        long = a.long;
        size = a.size;
        within = a.within;
        follows = a.follows;
        short = λ many. let q = vote_tests t v.node h v.promised y in r (a.up, q.0, q.1, (let x = a.accepted in let z : v.promised ≡ g = a.promised in omega arith), subst (λ j. j < 2 * count j (λ k. has_bit (with_bit v.granted f) k)) (sym a.nodes) many);
      };
      grows = λ j z. bit_more v.granted f j z;
      got = λ k z. subst (λ j. has_bit (with_bit v.granted f) j ≡ true) (ap sender_of (sym e ∙ z)) (bit_self v.granted f);
    })
    go false y w r = subst (λ z. Counts n p c g l v z) (sym w) (record { stands = a; grows = λ j z. z; got = λ k z. absurd (missed k z) })
      where
        missed : (k : ℕ) → p.message ≡ Granted k g c → ⊥
        missed k z =
            let q = granted_same f h t k g c (sym e ∙ z) in
            let i = (Decides-eqb t v.node).1 (q.1 ∙ sym a.node) in
            let j = (Decides-eqb h v.promised).1 (q.0 ∙ sym a.promised) in
            clash (t == v.node) (h == v.promised) i j y
          where
            clash : (x y : Bool) → x ≡ true → y ≡ true → (x && y) ≡ false → ⊥
            clash true true i j k = absurd (cc)
            clash false y i j k = absurd (cc)
            clash true false i j k = absurd (cc)

-- still no majority
polled_self : (n : ℕ) (at to : ℕ → NodeVote) (p : Packet) (ps s : List Packet) (c g a l : ℕ) → Polled n at (p ∷ ps) c g a l → Delivered at to p s → p.to ≡ c → s ≡ [] → Counts n p c g l (at c) (to c) → Polled n to (ps ++ s) c g a l
polled_self n at to p ps s c g a l old d e none h = record {
  few = old.few;
  stands = h.stands;
  named = λ k up. named k up (same_or k c);
  vows = λ k up. vow k up (same_or k c);
  polls = each_join (each_tail old.polls) (no_polls c g a l s none);
}
  where
    named : (k : ℕ) → (to k).up ≡ true → (k ≡ c) ⊎ (k ≡ c → ⊥) → (0 < k) × (k ≤ n) × ((to k).node ≡ k)
    named k up (inl q) = let r = old.named c old.stands.up in subst (λ j. (0 < j) × (j ≤ n) × ((to j).node ≡ j)) (sym q) (r.0, r.1, h.stands.node)
    named k up (inr q) = let f = d.others k (λ x. q (x ∙ e)) in subst (λ t. (0 < k) × (k ≤ n) × (t.node ≡ k)) (sym f) (old.named k (subst (λ t. t.up ≡ true) f up))

    self : Vow (at c).granted (p ∷ ps) c g a l c (at c) → Vow (to c).granted (ps ++ s) c g a l c (to c)
    self (asked x) = absurd (let q = x.promised in let r : (at c).promised ≡ g = old.stands.promised in omega arith)
    self (bound x) =
        let r = bound_past (at c).granted (to c).granted p ps s c g c (at c) h.grows (λ y. h.got c y.1) x in
        bound (record { promised = h.stands.promised; accepted = h.stands.accepted; follows = h.stands.follows; counted = r.counted })

    vow : (k : ℕ) → (to k).up ≡ true → (k ≡ c) ⊎ (k ≡ c → ⊥) → Vow (to c).granted (ps ++ s) c g a l k (to k)
    vow k up (inl q) = subst (λ j. Vow (to c).granted (ps ++ s) c g a l j (to j)) (sym q) (self (old.vows c old.stands.up))
    vow k up (inr q) =
        let f = d.others k (λ x. q (x ∙ e)) in
        subst (λ t. Vow (to c).granted (ps ++ s) c g a l k t) (sym f)
        (vow_past (at c).granted (to c).granted p ps s c g a l k (at k) h.grows (λ x. q (sym x.0 ∙ e)) (λ x. h.got k x.1) (old.vows k (subst (λ t. t.up ≡ true) f up)))

abbrev ships : ℕ → ℕ → ℕ → ℕ → List Packet
ships n c g l = others n c (Adopt c g l) l ++ packet c (Ack c g l) 0 ∷ []

shipped : (n c g l n' c' g' l' : ℕ) (s : List Packet) → n ≡ n' → c ≡ c' → g ≡ g' → l ≡ l' → s ≡ ships n c g l → s ≡ ships n' c' g' l'
shipped n c g l n' c' g' l' s en ec eg el e = subst (λ z. s ≡ ships n' c' g' z) el (subst (λ z. s ≡ ships n' c' z l) eg (subst (λ z. s ≡ ships n' z g l) ec (subst (λ z. s ≡ ships z c g l) en e)))

poll_fits : (c g a l : ℕ) (x : Message) (to : ℕ) → Polls x to c g a l → Fits x to c g l
poll_fits c g a l (Vote f h y z) to e = (e.1, (let q : h ≡ g = e.2 in omega arith))
poll_fits c g a l (Granted f h t) to e = e.0
poll_fits c g a l (Adopt f h y) to e = absurd e
poll_fits c g a l (Ship f h y) to e = absurd e
poll_fits c g a l (Ack f h y) to e = absurd e
poll_fits c g a l (Durable f h y) to e = absurd e
poll_fits c g a l (Ping f h y z) to e = absurd e
poll_fits c g a l (Pong f h y) to e = absurd e

-- it leads
wins : (n : ℕ) (at to : ℕ → NodeVote) (p : Packet) (ps s : List Packet) (c g a l h t : ℕ) (w : NodeVote) → Polled n at (p ∷ ps) c g a l → Delivered at to p s → p.to ≡ c → Base n c g l w → MayLead w h t → to c ≡ acted w (action.Lead h) → s ≡ packets_of (to c) (action.Lead h) 0
    → LedAlone n to (ps ++ s) c g l
wins n at to p ps s c g a l h t w old d e b may eq sent = record {
  led = record {
    few = old.few;
    leads = record {
      node = ap (λ z. z.node) eq ∙ b.node;
      nodes = ap (λ z. z.nodes) eq ∙ b.nodes;
      up = ap (λ z. z.up) eq ∙ b.up;
      leading = ap (λ z. z.leading) eq;
      promised = ap (λ z. z.promised) eq ∙ b.promised;
      accepted = ap (λ z. z.accepted) eq ∙ gen;
      long = ap (λ z. z.length) eq ∙ b.long;
      size = ap (λ z. length z.acked) eq;
      within = (let x : (to c).durable ≡ w.durable = ap (λ z. z.durable) eq in let y = b.within in omega arith);
      acked = λ k. (let x = zeros k in omega arith);
      known = λ r. (let x = reached_some (to c).acked n l r in let y = zeros x.0 in let z : l ≤ slice_index (to c).acked x.0 = x.1 in omega arith);
    };
    own = inr (has_right ps (subst (λ z. Has (λ z. (z.to ≡ c) × (z.message ≡ Ack c g l)) z) (sym out) (has_right (others n c (Adopt c g l) l) (record { it = packet c (Ack c g l) 0; mem = here; is = (refl, refl) }))));
    named = λ k up. named k up (same_or k c);
    claims = λ k apart up le. claim k apart up (d.others k (λ x. apart (x ∙ e)));
    fits = each_join (each_polls (each_tail old.polls)) (subst (λ z. Each (λ z. Fits z.message z.to c g l) z) (sym out) (each_join (others_each n c (Adopt c g l) l (λ j ne. (ne, refl, refl, refl))) (each_one (refl, name.0, (let f = old.few in let x = name.1 in omega arith), refl, refl))));
  };
  below = λ k up. below k up (same_or k c);
}
  where
    gen : h ≡ g
    gen = may.2 ∙ b.promised

    name : (0 < c) × (c ≤ n) × ((at c).node ≡ c)
    name = old.named c old.stands.up

    zeros : (k : ℕ) → slice_index (to c).acked k ≡ 0
    zeros k = ap (λ z. slice_index z.acked k) eq ∙ no_lengths k

    out : s ≡ ships n c g l
    out = shipped (to c).nodes (to c).node h (to c).length n c g l s (ap (λ z. z.nodes) eq ∙ b.nodes) (ap (λ z. z.node) eq ∙ b.node) gen (ap (λ z. z.length) eq ∙ b.long) sent

    named : (k : ℕ) → (to k).up ≡ true → (k ≡ c) ⊎ (k ≡ c → ⊥) → (0 < k) × (k ≤ n) × ((to k).node ≡ k)
    named k up (inl q) = subst (λ j. (0 < j) × (j ≤ n) × ((to j).node ≡ j)) (sym q) (name.0, name.1, ap (λ z. z.node) eq ∙ b.node)
    named k up (inr q) = let f = d.others k (λ x. q (x ∙ e)) in subst (λ t. (0 < k) × (k ≤ n) × (t.node ≡ k)) (sym f) (old.named k (subst (λ t. t.up ≡ true) f up))

    low : (k : ℕ) → Vow (at c).granted (p ∷ ps) c g a l k (at k) → ((at k).promised ≤ g) × ((at k).accepted < g)
    low k (asked x) = ((let y = x.promised in omega arith), x.accepted)
    low k (bound x) = ((let y : (at k).promised ≡ g = x.promised in omega arith), x.accepted)

    claim : (k : ℕ) → (k ≡ c → ⊥) → (to k).up ≡ true → to k ≡ at k → Claim n (to c).acked (ps ++ s) c g l k (to k)
    claim k apart up f =
        let up' : (at k).up ≡ true = subst (λ t. t.up ≡ true) f up in
        let y = low k (old.vows k up') in
        let q = old.named k up' in
        subst (λ t. Claim n (to c).acked (ps ++ s) c g l k t) (sym f) (coming (record {
          follows = λ z. absurd (let x : (at k).accepted ≡ g = z in let v = y.1 in omega arith);
          under_way = has_right ps (subst (λ z. Has (λ z. (z.to ≡ k) × IsLog z.message c g l × MayTakeAll (at k) g l z.entries) z) (sym out) (has_left (packet c (Ack c g l) 0 ∷ []) (record {
            it = packet k (Adopt c g l) l;
            mem = others_in n c (Adopt c g l) l k q.0 q.1 apart;
            is = (refl, (refl, refl, refl), (y.0, inl (y.1, refl)));
          })));
        }))

    below : (k : ℕ) → (to k).up ≡ true → (k ≡ c) ⊎ (k ≡ c → ⊥) → (to k).promised ≤ g
    below k up (inl q) = subst (λ j. (to j).promised ≤ g) (sym q) (let x : (to c).promised ≡ g = ap (λ z. z.promised) eq ∙ b.promised in omega arith)
    below k up (inr q) = let f = d.others k (λ x. q (x ∙ e)) in subst (λ t. t.promised ≤ g) (sym f) (low k (old.vows k (subst (λ t. t.up ≡ true) f up))).0

    each_polls : Each (λ z. Polls z.message z.to c g a l) ps → Each (λ z. Fits z.message z.to c g l) ps
    each_polls x = record { at = λ y i. poll_fits c g a l y.message y.to (x.at y i) }

-- after a delivery: it still stands, or leads, or fell
pub data After (n : ℕ) (to : ℕ → NodeVote) (q : List Packet) (c g a l : ℕ) : Type 0 where
  stands : Polled n to q c g a l → After n to q c g a l
  leads : LedAlone n to q c g l → After n to q c g a l
  fell : (to c).up ≡ false → After n to q c g a l

chosen : (n : ℕ) (at to : ℕ → NodeVote) (p : Packet) (ps s : List Packet) (c g a l : ℕ) (x : Message) → p.message ≡ x → Polled n at (p ∷ ps) c g a l → Delivered at to p s → p.to ≡ c → Polls x p.to c g a l → Does (at c) x p.entries (to c) s → After n to (ps ++ s) c g a l
chosen n at to p ps s c g a l (Vote f h y z) e old d mine fit r = absurd (fit.0 mine)
chosen n at to p ps s c g a l (Granted f h t) e old d mine fit r =
    elim (granted_acts (at c) (to c) f h t s r) [
      | inl q ↦ After.stands (polled_self n at to p ps s c g a l old d mine q.1 (counts n p c g l (at c) (to c) f h t e old.stands q.0 q.2))
      | inr q ↦ After.leads (wins n at to p ps s c g a l h t (counted (at c) (Granted f h t)) old d mine (base_voted n c g l (with_bit (at c).granted f) (at c) (counts_vote (at c) h t) (base_of n c g l (at c) old.stands)) q.0 q.1 q.2)
    ]
chosen n at to p ps s c g a l (Adopt f h y) e old d mine fit r = absurd fit
chosen n at to p ps s c g a l (Ship f h y) e old d mine fit r = absurd fit
chosen n at to p ps s c g a l (Ack f h y) e old d mine fit r = absurd fit
chosen n at to p ps s c g a l (Durable f h y) e old d mine fit r = absurd fit
chosen n at to p ps s c g a l (Ping f h y z) e old d mine fit r = absurd fit
chosen n at to p ps s c g a l (Pong f h y) e old d mine fit r = absurd fit

pub polled_step : (n : ℕ) (at to : ℕ → NodeVote) (p : Packet) (ps s : List Packet) (c g a l : ℕ) → Polled n at (p ∷ ps) c g a l → Delivered at to p s → After n to (ps ++ s) c g a l
polled_step n at to p ps s c g a l old d = go (same_or p.to c)
  where
    at_candidate : p.to ≡ c → Came (at c) p (to c) s → After n to (ps ++ s) c g a l
    at_candidate e (inl t) = After.fell t.0
    at_candidate e (inr t) = chosen n at to p ps s c g a l p.message refl old d e (each_head old.polls) t.1

    go : (p.to ≡ c) ⊎ (p.to ≡ c → ⊥) → After n to (ps ++ s) c g a l
    go (inl e) = at_candidate e (subst (λ j. Came (at j) p (to j) s) e (does_of d))
    go (inr ne) = After.stands (polled_other n at to p ps s c g a l old d ne (asks n at p ps s c g a l (to p.to) p.message refl old ne (each_head old.polls) (does_of d)))
