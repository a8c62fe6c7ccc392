-- With nothing under way a led cluster is quiet; and what begins from there keeps it led.
use Rattle.std.proofs.Common.{ℕ, ◌≡◌, ◌+◌, ◌*◌, ◌<◌, ◌≤◌, List, [], ◌∷◌, ◌++◌, slice_index, arith, refl, sym, subst, ap, ◌∙◌}
use Rattle.std.specs.Prelude.{true, false}
use mathlib.Core.Logic.{◌⊎◌, inl, inr}
use Rattle.core_lists.specs.Lists.{Each, Has}
use Rattle.core_lists.specs.Lists.In.{here}
use Rattle.core_lists.specs.Majorities.{count}
use Rattle.core_lists.proofs.Numbers.{lt_or_eq}
use Rattle.election_core.proofs.Greatest.{count_le}
use Rattle.election_core.specs.Counts.{reaches, IsReached}
use Rattle.election_core.specs.declared.votes.NodeVote.{NodeVote}
use Rattle.election_core.specs.declared.messages.Message.TheVariants.{Adopt, Ship, Ack}
use Rattle.quiet_cluster.specs.Packets.{packet, others, Packet}
use Rattle.quiet_cluster.specs.Led.{Fits, Noted, Claim, Leads, Led}
use Rattle.quiet_cluster.specs.Quiet.{Quiet}
use Rattle.quiet_cluster.specs.Led.Claim.{coming, acking, noted}
use Rattle.quiet_cluster.proofs.Lists.{has_left, has_right, has_none, each_one, each_join, others_in, others_each, reached_some, same_or}

settled : (n : ℕ) (acked : List ℕ) (m g l k : ℕ) (v : NodeVote) → Claim n acked [] m g l k v → Noted n acked [] g l k v
settled n acked m g l k v (coming c) = absurd (has_none c.under_way)
settled n acked m g l k v (acking c) = absurd (has_none c.under_way)
settled n acked m g l k v (noted c) = c

own_counted : (n : ℕ) (at : ℕ → NodeVote) (m g l : ℕ) → Led n at [] m g l → reaches (at m).acked l m ≡ true
own_counted n at m g l old = elim old.own [ inl a ↦ a | inr h ↦ absurd (has_none h) ]

pub quiet : (n : ℕ) (at : ℕ → NodeVote) (m g l : ℕ) → Led n at [] m g l → ((k : ℕ) → (at k).up ≡ true → (at k).promised ≤ g) → n < 2 * count n (λ k. (at k).up) → Quiet n at m g l
quiet n at m g l old low many = record {
  leads = old.leads;
  knows = (let a = old.leads.known whole in let b = old.leads.within in let r : (at m).durable ≡ l = omega arith in r);
  named = old.named;
  below = low;
  others = λ k apart up. let c = settled n (at m).acked m g l k (at k) (old.claims k apart up (low k up)) in (c.holds, elim (c.knows whole) [ inl a ↦ a | inr h ↦ absurd (has_none h) ]);
}
  where
    counted : (k : ℕ) → (at k).up ≡ true → (k ≡ m) ⊎ (k ≡ m → ⊥) → reaches (at m).acked l k ≡ true
    counted k up (inl e) = subst (λ j. reaches (at m).acked l j ≡ true) (sym e) (own_counted n at m g l old)
    counted k up (inr ne) = let c = settled n (at m).acked m g l k (at k) (old.claims k ne up (low k up)) in c.counted

    whole : IsReached (at m).acked n l
    whole =
        let le = count_le n (λ k. (at k).up) (λ k. reaches (at m).acked l k) (λ k top up. counted k up (same_or k m)) in
        omega arith

-- more is under way that fits
pub led_more : (n : ℕ) (at : ℕ → NodeVote) (q s : List Packet) (m g l : ℕ) → Each (λ p. Fits p.message p.to m g l) s → Led n at q m g l → Led n at (q ++ s) m g l
led_more n at q s m g l f old = record {
  few = old.few;
  leads = old.leads;
  own = elim old.own [ inl a ↦ inl a | inr h ↦ inr (has_left s h) ];
  named = old.named;
  claims = λ k apart up le. claim k (old.claims k apart up le);
  fits = each_join old.fits f;
}
  where
    claim : (k : ℕ) → Claim n (at m).acked q m g l k (at k) → Claim n (at m).acked (q ++ s) m g l k (at k)
    claim k (coming c) = coming (record { follows = c.follows; under_way = has_left s c.under_way })
    claim k (acking c) = acking (record { holds = c.holds; under_way = has_left s c.under_way })
    claim k (noted c) = noted (record { holds = c.holds; counted = c.counted; knows = λ r. elim (c.knows r) [ inl a ↦ inl a | inr h ↦ inr (has_left s h) ] })

-- one node changed by itself: it went down, or came up and was sent the log
pub led_other : (n : ℕ) (at to : ℕ → NodeVote) (q : List Packet) (m g l i : ℕ) → (i ≡ m → ⊥) → ((k : ℕ) → (k ≡ i → ⊥) → to k ≡ at k)
    → ((to i).up ≡ true → (0 < i) × (i ≤ n) × ((to i).node ≡ i)) → ((to i).up ≡ true → (to i).promised ≤ g → Claim n (at m).acked q m g l i (to i)) → Led n at q m g l → Led n to q m g l
led_other n at to q m g l i apart same name mine old = record {
  few = old.few;
  leads = subst (λ t. Leads n m g l t) (sym me) old.leads;
  own = subst (λ t. (reaches t.acked l m ≡ true) ⊎ Has (λ z. (z.to ≡ m) × (z.message ≡ Ack m g l)) q) (sym me) old.own;
  named = λ k up. named k up (same_or k i);
  claims = λ k ne up le. subst (λ t. Claim n t.acked q m g l k (to k)) (sym me) (claim k ne up le (same_or k i));
  fits = old.fits;
}
  where
    me : to m ≡ at m
    me = same m (λ e. apart (sym e))

    named : (k : ℕ) → (to k).up ≡ true → (k ≡ i) ⊎ (k ≡ i → ⊥) → (0 < k) × (k ≤ n) × ((to k).node ≡ k)
    named k up (inl e) = subst (λ j. (0 < j) × (j ≤ n) × ((to j).node ≡ j)) (sym e) (name (subst (λ j. (to j).up ≡ true) e up))
    named k up (inr e) = subst (λ t. (0 < k) × (k ≤ n) × (t.node ≡ k)) (sym (same k e)) (old.named k (subst (λ t. t.up ≡ true) (same k e) up))

    claim : (k : ℕ) → (k ≡ m → ⊥) → (to k).up ≡ true → (to k).promised ≤ g → (k ≡ i) ⊎ (k ≡ i → ⊥) → Claim n (at m).acked q m g l k (to k)
    claim k ne up le (inl e) = subst (λ j. Claim n (at m).acked q m g l j (to j)) (sym e) (mine (subst (λ j. (to j).up ≡ true) e up) (subst (λ j. (to j).promised ≤ g) e le))
    claim k ne up le (inr e) = subst (λ t. Claim n (at m).acked q m g l k t) (sym (same k e)) (old.claims k ne (subst (λ t. t.up ≡ true) (same k e) up) (subst (λ t. t.promised ≤ g) (same k e) le))

pub led_down : (n : ℕ) (at to : ℕ → NodeVote) (q : List Packet) (m g l i : ℕ) → (i ≡ m → ⊥) → ((k : ℕ) → (k ≡ i → ⊥) → to k ≡ at k) → (to i).up ≡ false → Led n at q m g l → Led n to q m g l
led_down n at to q m g l i apart same down old = led_other n at to q m g l i apart same (λ up. absurd (cc)) (λ up le. absurd (cc)) old

-- a node comes up, and the leader ships it its log; s is what else it is told
pub led_up : (n : ℕ) (at to : ℕ → NodeVote) (s : List Packet) (m g l i : ℕ) → (i ≡ m → ⊥) → ((k : ℕ) → (k ≡ i → ⊥) → to k ≡ at k) → 0 < i → i ≤ n → (to i).node ≡ i → (to i).leading ≡ false
    → (to i).accepted ≤ (to i).promised → ((to i).accepted ≡ g → (to i).length ≤ l) → Each (λ p. Fits p.message p.to m g l) s → Led n at [] m g l → Led n to (packet i (Adopt m g l) l ∷ s) m g l
led_up n at to s m g l i apart same low high name off covered short f old =
    led_other n at to (packet i (Adopt m g l) l ∷ s) m g l i apart same (λ up. (low, high, name)) (λ up le. coming (record {
      follows = λ e. off;
      under_way = record { it = packet i (Adopt m g l) l; mem = here; is = (refl, (refl, refl, refl), (le, joins le (lt_or_eq (to i).accepted g (let c = covered in omega arith)))) };
    }))
    (led_more n at [] (packet i (Adopt m g l) l ∷ s) m g l (each_join (each_one (apart, refl, refl, refl)) f) old)
  where
    joins : (to i).promised ≤ g → ((to i).accepted < g) ⊎ ((to i).accepted ≡ g) → (((to i).accepted < g) × (l ≡ l)) ⊎ (((to i).accepted ≡ g) × ((to i).length ≤ l) × (l ≤ (to i).length + l))
    joins le (inl lt) = inl (lt, refl)
    joins le (inr e) = inr (e, short e, omega arith)

-- the leader's log has one entry more, which it ships
pub led_append : (n : ℕ) (at to : ℕ → NodeVote) (m g l : ℕ) → ((k : ℕ) → (k ≡ m → ⊥) → to k ≡ at k) → to m ≡ record (at m) { length = l + 1 } → Led n at [] m g l
    → Led n to (others n m (Ship m g (l + 1)) 1 ++ packet m (Ack m g (l + 1)) 0 ∷ []) m g (l + 1)
led_append n at to m g l same me old = record {
  few = old.few;
  leads = subst (λ t. Leads n m g (l + 1) t) (sym me) (record { node = a.node; nodes = a.nodes; up = a.up; leading = a.leading; promised = a.promised; accepted = a.accepted; long = refl; size = a.size; within = (let w = a.within in omega arith); acked = λ k. (let w = a.acked k in omega arith); known = λ r. absurd (beyond (reached_some (at m).acked n (l + 1) r)) });
  own = inr (has_right (others n m (Ship m g (l + 1)) 1) (record { it = packet m (Ack m g (l + 1)) 0; mem = here; is = (refl, refl) }));
  named = λ k up. named k up (same_or k m);
  claims = λ k apart up le. subst (λ t. Claim n (to m).acked (others n m (Ship m g (l + 1)) 1 ++ packet m (Ack m g (l + 1)) 0 ∷ []) m g (l + 1) k t) (sym (same k apart)) (claim k apart (subst (λ t. t.up ≡ true) (same k apart) up) (subst (λ t. t.promised ≤ g) (same k apart) le));
  fits = each_join (others_each n m (Ship m g (l + 1)) 1 (λ j ne. (ne, refl, refl, refl))) (each_one (refl, (old.named m a.up).0, (let f = old.few in let h = (old.named m a.up).1 in omega arith), refl, refl));
}
  where
    a : Leads n m g l (at m)
    a = old.leads

    beyond : (k : ℕ) × (l + 1 ≤ slice_index (at m).acked k) → ⊥
    beyond r = let w = a.acked r.0 in let x : l + 1 ≤ slice_index (at m).acked r.0 = r.1 in omega arith

    named : (k : ℕ) → (to k).up ≡ true → (k ≡ m) ⊎ (k ≡ m → ⊥) → (0 < k) × (k ≤ n) × ((to k).node ≡ k)
    named k up (inl e) = let r = old.named m a.up in subst (λ j. (0 < j) × (j ≤ n) × ((to j).node ≡ j)) (sym e) (r.0, r.1, ap (λ t. t.node) me ∙ a.node)
    named k up (inr e) = subst (λ t. (0 < k) × (k ≤ n) × (t.node ≡ k)) (sym (same k e)) (old.named k (subst (λ t. t.up ≡ true) (same k e) up))

    claim : (k : ℕ) → (k ≡ m → ⊥) → (at k).up ≡ true → (at k).promised ≤ g → Claim n (to m).acked (others n m (Ship m g (l + 1)) 1 ++ packet m (Ack m g (l + 1)) 0 ∷ []) m g (l + 1) k (at k)
    claim k apart up le =
        let c = settled n (at m).acked m g l k (at k) (old.claims k apart up le) in
        let name = old.named k up in
        coming (record {
          follows = λ e. c.holds.follows;
          under_way = has_left (packet m (Ack m g (l + 1)) 0 ∷ []) (record {
            it = packet k (Ship m g (l + 1)) 1;
            mem = others_in n m (Ship m g (l + 1)) 1 k name.0 name.1 apart;
            is = (refl, (refl, refl, refl), (le, inr (c.holds.accepted, (let w : (at k).length ≡ l = c.holds.long in omega arith), (let w : (at k).length ≡ l = c.holds.long in omega arith))));
          });
        })
