-- A queue that is run empty leaves a quiet cluster, or its leader fell, or few are up.
use Rattle.std.proofs.Common.{ℕ, ◌≡◌, ◌*◌, ◌<◌, ◌≤◌, List, [], ◌∷◌, ◌++◌, length, arith, refl, sym, subst, ap, ◌∙◌}
use Rattle.std.specs.Prelude.{true, false}
use mathlib.Core.Logic.{◌⊎◌, inl, inr}
use Rattle.core_lists.specs.Lists.In.{here}
use Rattle.core_lists.specs.Majorities.{count}
use Rattle.election_core.proofs.Greatest.{count_le}
use Rattle.election_core.specs.Counts.{has_bit}
use Rattle.election_core.specs.Counted.{acted}
use Rattle.election_core.specs.declared.votes.NodeVote.{NodeVote}
use Rattle.election_core.specs.declared.messages.Message.TheVariants.{Vote, Granted}
use Rattle.election_core.specs.declared.messages.Action.TheVariants as action
use Rattle.quiet_cluster.specs.Packets.{packet, others, Packet}
use Rattle.quiet_cluster.proofs.Answered.{Came, does_of}
use Rattle.quiet_cluster.specs.Deliveries.{Delivered, Run}
use Rattle.quiet_cluster.specs.Led.{Led, LedAlone}
use Rattle.quiet_cluster.specs.Polled.{Vow, Polled, Best}
use Rattle.quiet_cluster.specs.Quiet.{Quiet}
use Rattle.quiet_cluster.specs.Deliveries.Run.{rest, step}
use Rattle.quiet_cluster.specs.Polled.Vow.{asked, bound}
use Rattle.quiet_cluster.proofs.Lists.{has_left, has_right, has_none, each_one, each_join, same_or, others_in, others_each}
use Rattle.quiet_cluster.proofs.Steps.{here as at_follower, led_step}
use Rattle.quiet_cluster.proofs.Ends.{quiet}
use Rattle.quiet_cluster.proofs.Polling.{no_bits}
use Rattle.quiet_cluster.proofs.Winning.{After, polled_step}

-- who is down stays down
pub down_stays : (at to : ℕ → NodeVote) (p : Packet) (s : List Packet) (k : ℕ) → Delivered at to p s → (at k).up ≡ false → (to k).up ≡ false
down_stays at to p s k d down = go (same_or k p.to)
  where
    self : Came (at p.to) p (to p.to) s → (at p.to).up ≡ false → (to p.to).up ≡ false
    self (inl t) e = t.0
    self (inr t) e = absurd (let x = t.0 in cc)

    go : (k ≡ p.to) ⊎ (k ≡ p.to → ⊥) → (to k).up ≡ false
    go (inl e) = subst (λ j. (to j).up ≡ false) (sym e) (self (does_of d) (subst (λ j. (at j).up ≡ false) e down))
    go (inr e) = subst (λ t. t.up ≡ false) (sym (d.others k e)) down

pub run_down : {at to : ℕ → NodeVote} {q : List Packet} (k : ℕ) → Run at q to → (at k).up ≡ false → (to k).up ≡ false
run_down k rest e = e
run_down k (step {at = at} {mid = mid} {p = p} s d r) e = run_down k r (down_stays at mid p s k d e)

pub alone_step : (n : ℕ) (at to : ℕ → NodeVote) (p : Packet) (ps s : List Packet) (m g l : ℕ) → LedAlone n at (p ∷ ps) m g l → Delivered at to p s → LedAlone n to (ps ++ s) m g l ⊎ ((to m).up ≡ false)
alone_step n at to p ps s m g l old d = elim (led_step n at to p ps s m g l old.led d) [ inl x ↦ inl (record { led = x; below = λ k up. below x k up (same_or k m) (same_or k p.to) }) | inr x ↦ inr x ]
  where
    below : Led n to (ps ++ s) m g l → (k : ℕ) → (to k).up ≡ true → (k ≡ m) ⊎ (k ≡ m → ⊥) → (k ≡ p.to) ⊎ (k ≡ p.to → ⊥) → (to k).promised ≤ g
    below x k up (inl e) b = subst (λ j. (to j).promised ≤ g) (sym e) (let y : (to m).promised ≡ g = x.leads.promised in omega arith)
    below x k up (inr ne) (inl e) =
        let h = at_follower n at p ps s m g l (to p.to) old.led (λ z. ne (e ∙ z)) (does_of d) in
        subst (λ j. (to j).promised ≤ g) (sym e) (h.below (subst (λ j. (to j).up ≡ true) e up) (λ z. old.below p.to z))
    below x k up (inr ne) (inr e) = subst (λ t. t.promised ≤ g) (sym (d.others k e)) (old.below k (subst (λ t. t.up ≡ true) (d.others k e) up))

-- shipping: where the leader is up in the end, it leads with nothing under way
pub run_led : (n : ℕ) {at to : ℕ → NodeVote} {q : List Packet} (m g l : ℕ) → LedAlone n at q m g l → Run at q to → (to m).up ≡ true → LedAlone n to [] m g l
run_led n m g l old rest up = old
run_led n m g l old (step {at = at} {mid = mid} {to = to} {p = p} {ps = ps} s d r) up = go (alone_step n at mid p ps s m g l old d)
    (λ x. run_led n m g l x r up)
  where
    go : LedAlone n mid (ps ++ s) m g l ⊎ ((mid m).up ≡ false) → (LedAlone n mid (ps ++ s) m g l → LedAlone n to [] m g l) → LedAlone n to [] m g l
    go (inl x) f = f x
    go (inr x) f = absurd (let y = run_down m r x in cc)

-- the same where somebody may have promised more
pub run_kept : (n : ℕ) {at to : ℕ → NodeVote} {q : List Packet} (m g l : ℕ) → Led n at q m g l → Run at q to → (to m).up ≡ true → Led n to [] m g l
run_kept n m g l old rest up = old
run_kept n m g l old (step {at = at} {mid = mid} {to = to} {p = p} {ps = ps} s d r) up = go (led_step n at mid p ps s m g l old d)
    (λ x. run_kept n m g l x r up)
  where
    go : Led n mid (ps ++ s) m g l ⊎ ((mid m).up ≡ false) → (Led n mid (ps ++ s) m g l → Led n to [] m g l) → Led n to [] m g l
    go (inl x) f = f x
    go (inr x) f = absurd (let y = run_down m r x in cc)

pub run_polled : (n : ℕ) {at to : ℕ → NodeVote} {q : List Packet} (c g a l : ℕ) → Polled n at q c g a l → Run at q to → (to c).up ≡ true → Polled n to [] c g a l ⊎ LedAlone n to [] c g l
run_polled n c g a l old rest up = inl old
run_polled n c g a l old (step {at = at} {mid = mid} {to = to} {p = p} {ps = ps} s d r) up = go (polled_step n at mid p ps s c g a l old d)
    (λ x. run_polled n c g a l x r up)
  where
    go : After n mid (ps ++ s) c g a l → (Polled n mid (ps ++ s) c g a l → Polled n to [] c g a l ⊎ LedAlone n to [] c g l) → Polled n to [] c g a l ⊎ LedAlone n to [] c g l
    go (After.stands x) f = f x
    go (After.leads x) f = inr (run_led n c g l x r up)
    go (After.fell x) f = absurd (let y = run_down c r x in cc)

-- with nothing under way a candidate has the votes of all that are up
pub few_voted : (n : ℕ) (at : ℕ → NodeVote) (c g a l : ℕ) → Polled n at [] c g a l → n < 2 * count n (λ k. (at k).up) → ⊥
few_voted n at c g a l old many =
    let le = count_le n (λ k. (at k).up) (λ k. has_bit (at c).granted k) (λ k top up. voted k (old.vows k up)) in
    old.stands.short (omega arith)
  where
    voted : (k : ℕ) → Vow (at c).granted [] c g a l k (at k) → has_bit (at c).granted k ≡ true
    voted k (asked x) = absurd (has_none x.under_way)
    voted k (bound x) = elim x.counted [ inl e ↦ e | inr h ↦ absurd (has_none h) ]

-- a whole election
pub elected : (n : ℕ) {at to : ℕ → NodeVote} {q : List Packet} (c g a l : ℕ) → Polled n at q c g a l → Run at q to → (to c).up ≡ true → n < 2 * count n (λ k. (to k).up) → LedAlone n to [] c g l
elected n {at} {to} {q} c g a l old r up many = elim (run_polled n c g a l old r up) [ inl x ↦ absurd (few_voted n to c g a l x many) | inr x ↦ x ]

-- in the end all is quiet
pub led_is_quiet : (n : ℕ) (at : ℕ → NodeVote) (m g l : ℕ) → LedAlone n at [] m g l → n < 2 * count n (λ k. (at k).up) → Quiet n at m g l
led_is_quiet n at m g l x many = quiet n at m g l x.led x.below many

pub polled : (n : ℕ) (at to : ℕ → NodeVote) (c g : ℕ) → Best n at c g → ((k : ℕ) → (k ≡ c → ⊥) → to k ≡ at k) → to c ≡ acted (at c) (action.Promise g c)
    → Polled n to (others n c (Vote c g (at c).accepted (at c).length) 0 ++ packet c (Granted c g c) 0 ∷ []) c g (at c).accepted (at c).length
polled n at to c g b same me = record {
  few = b.few;
  stands = record {
    node = ap (λ z. z.node) me ∙ name.2;
    nodes = ap (λ z. z.nodes) me ∙ b.nodes;
    up = ap (λ z. z.up) me ∙ b.up;
    promised = ap (λ z. z.promised) me;
    accepted = (let x : (to c).accepted ≡ (at c).accepted = ap (λ z. z.accepted) me in let y = b.above c b.up in let z = b.covered c b.up in omega arith);
    long = ap (λ z. z.length) me;
    size = ap (λ z. length z.acked) me ∙ b.size;
    within = (let x : (to c).durable ≡ (at c).durable = ap (λ z. z.durable) me in let y = b.within in omega arith);
    follows = ap (λ z. z.leading) me;
    short = λ many. no_bits n (subst (λ z. n < 2 * count n (λ k. has_bit z k)) (ap (λ z. z.granted) me) many);
  };
  named = λ k up. named k up (same_or k c);
  vows = λ k up. vow k up (same_or k c);
  polls = each_join (others_each n c (Vote c g (at c).accepted (at c).length) 0 (λ j ne. (ne, refl, refl))) (each_one (refl, (let x = b.few in let y = name.1 in omega arith)));
}
  where
    name : (0 < c) × (c ≤ n) × ((at c).node ≡ c)
    name = b.named c b.up

    named : (k : ℕ) → (to k).up ≡ true → (k ≡ c) ⊎ (k ≡ c → ⊥) → (0 < k) × (k ≤ n) × ((to k).node ≡ k)
    named k up (inl q) = subst (λ j. (0 < j) × (j ≤ n) × ((to j).node ≡ j)) (sym q) (name.0, name.1, ap (λ z. z.node) me ∙ name.2)
    named k up (inr q) = subst (λ t. (0 < k) × (k ≤ n) × (t.node ≡ k)) (sym (same k q)) (b.named k (subst (λ t. t.up ≡ true) (same k q) up))

    queue : List Packet
    queue = others n c (Vote c g (at c).accepted (at c).length) 0 ++ packet c (Granted c g c) 0 ∷ []

    low : (to c).accepted < g
    low = let x : (to c).accepted ≡ (at c).accepted = ap (λ z. z.accepted) me in let y = b.above c b.up in let z = b.covered c b.up in omega arith

    self : Vow (to c).granted queue c g (at c).accepted (at c).length c (to c)
    self = bound (record {
      promised = ap (λ z. z.promised) me;
      accepted = low;
      follows = ap (λ z. z.leading) me;
      counted = inr (has_right (others n c (Vote c g (at c).accepted (at c).length) 0) (record { it = packet c (Granted c g c) 0; mem = here; is = (refl, refl) }));
    })

    other : (k : ℕ) → (at k).up ≡ true → (k ≡ c → ⊥) → Vow (to c).granted queue c g (at c).accepted (at c).length k (at k)
    other k up ne =
        let q = b.named k up in
        asked (record {
          promised = b.above k up;
          accepted = (let y = b.above k up in let z = b.covered k up in omega arith);
          below = b.best k up;
          under_way = has_left (packet c (Granted c g c) 0 ∷ []) (record { it = packet k (Vote c g (at c).accepted (at c).length) 0; mem = others_in n c (Vote c g (at c).accepted (at c).length) 0 k q.0 q.1 ne; is = (refl, refl) });
        })

    vow : (k : ℕ) → (to k).up ≡ true → (k ≡ c) ⊎ (k ≡ c → ⊥) → Vow (to c).granted queue c g (at c).accepted (at c).length k (to k)
    vow k up (inl q) = subst (λ j. Vow (to c).granted queue c g (at c).accepted (at c).length j (to j)) (sym q) self
    vow k up (inr q) = subst (λ t. Vow (to c).granted queue c g (at c).accepted (at c).length k t) (sym (same k q)) (other k (subst (λ t. t.up ≡ true) (same k q) up) q)
