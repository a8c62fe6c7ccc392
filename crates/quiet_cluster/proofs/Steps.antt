-- A delivery keeps a cluster led, or its leader fell.
use Rattle.std.proofs.Common.{ℕ, ◌≡◌, ◌<◌, ◌≤◌, List, [], ◌∷◌, ◌++◌, arith, refl, sym, subst, ap, ◌∙◌}
use Rattle.std.specs.Prelude.{◌==◌, ◌&&◌, Bool, true, false, cond}
use Rattle.std.proofs.lemmas.Bool.Decides.{Decides-eqb}
use mathlib.Core.Logic.{◌⊎◌, inl, inr}
use Rattle.core_lists.specs.Lists.{Each, Has}
use Rattle.election_core.specs.Counts.{with_bit, reaches, IsReached}
use Rattle.election_core.specs.Counted.{counted, counts_vote, counts_length, with_length}
use Rattle.election_core.specs.Allowed.{MayLead, MayLearn}
use Rattle.election_core.specs.declared.votes.NodeVote.{NodeVote}
use Rattle.election_core.specs.declared.messages.Message.{Message}
use Rattle.election_core.specs.declared.messages.Message.TheVariants.{Vote, Granted, Adopt, Ship, Ack, Durable, Ping, Pong}
use Rattle.quiet_cluster.specs.Packets.{packet, Packet}
use Rattle.quiet_cluster.proofs.Answered.{Does, Acts, Came, does_of}
use Rattle.quiet_cluster.specs.Deliveries.{Delivered}
use Rattle.quiet_cluster.specs.Led.{IsKnown, Fits, Claim, Leads, Led}
use Rattle.quiet_cluster.specs.Led.Claim.{coming, acking, noted}
use Rattle.quiet_cluster.proofs.Lists.{has_left, has_right, has_split, each_head, each_tail, each_join, same_or}
use Rattle.quiet_cluster.proofs.Acting.{vote_acts, granted_acts, ack_acts, Learnt, ping_acts, pong_acts}
use Rattle.quiet_cluster.proofs.Follower.{has_past, kept_other}
use Rattle.quiet_cluster.proofs.Followed.{fits_none, fits_one, followed}
use Rattle.quiet_cluster.proofs.Leader.{Kept, Told, IsAck, kept_same, leads_voted, kept_ack}

same_leads : (n m g l : ℕ) (v u : NodeVote) → u ≡ v → Leads n m g l v → Leads n m g l u
same_leads n m g l v u e a = subst (λ t. Leads n m g l t) (sym e) a

length_counts : (v : NodeVote) (f g l : ℕ) → v.leading ≡ true → v.accepted ≡ g → counted v (Ack f g l) ≡ record v { acked = with_length v.acked f l }
length_counts v f g l lead acc = go (counts_length v g) (yes v.leading lead)
  where
    yes : (b : Bool) → b ≡ true → (b && g == v.accepted) ≡ true
    yes true e = (Decides-eqb g v.accepted).1 (sym acc)
    yes false e = absurd (cc)

    go : (b : Bool) → b ≡ true → cond b (record v { acked = with_length v.acked f l }) v ≡ record v { acked = with_length v.acked f l }
    go true e = refl
    go false e = absurd (cc)

pub led : (n : ℕ) (p : Packet) (s : List Packet) (m g l : ℕ) (v u : NodeVote) (x : Message) → p.message ≡ x → p.to ≡ m → Leads n m g l v → Fits x p.to m g l → Does v x p.entries u s → Kept n p s m g l v u
led n p s m g l v u (Adopt f h y) e to a fit d = absurd (fit.0 to)
led n p s m g l v u (Ship f h y) e to a fit d = absurd (fit.0 to)
led n p s m g l v u (Durable f h y) e to a fit d = absurd (fit to)
led n p s m g l v u (Vote f h b y) e to a fit d =
    elim (vote_acts v u f h b y s d) [
      | inl t ↦ kept_same n p s m g l v u (same_leads n m g l v u t.0 a) (ap (λ z. z.acked) t.0) (λ i. subst (λ z. IsAck z) e i) (fits_none m g l s t.1)
      | inr t ↦ absurd (let q : v.promised ≡ g = a.promised in let r : v.promised < h = t.0.1 in let w : h ≤ g = fit.1 in omega arith)
    ]
led n p s m g l v u (Granted f h t) e to a fit d =
    let b = leads_voted n m g l (with_bit v.granted f) v (counts_vote v h t) a in
    elim (granted_acts v u f h t s d) [
      | inl r ↦ kept_same n p s m g l v u (same_leads n m g l (counted v (Granted f h t)) u r.0 b.0) (ap (λ z. z.acked) r.0 ∙ b.1) (λ i. subst (λ z. IsAck z) e i) (fits_none m g l s r.1)
      | inr r ↦ absurd (low (counted v (Granted f h t)) b.0 r.0)
    ]
  where
    low : (w : NodeVote) → Leads n m g l w → MayLead w h t → ⊥
    low w b r = let q : w.promised ≡ g = b.promised in let y : w.accepted ≡ g = b.accepted in let z : w.accepted < w.promised = r.3 in omega arith
led n p s m g l v u (Ack f h y) e to a fit d =
    let d' : Acts v (Ack f g l) u s = subst (λ z. Acts v (Ack f g z) u s) fit.4 (subst (λ z. Acts v (Ack f z y) u s) fit.3 d) in
    let e' : p.message ≡ Ack f g l = subst (λ z. p.message ≡ Ack f g z) fit.4 (subst (λ z. p.message ≡ Ack f z y) fit.3 e) in
    kept_ack n p s m g l v u f e' fit.1 fit.2 a
    (subst (λ w. ((u ≡ w) × (s ≡ []) × ((d : ℕ) → MayLearn w g d → ⊥)) ⊎ Learnt w u g s) (length_counts v f g l a.leading a.accepted) (ack_acts v u f g l s d'))
led n p s m g l v u (Ping f h b y) e to a fit d = go (ping_acts v u f h b y s d)
  where
    go : (u ≡ v) × ((s ≡ []) ⊎ (s ≡ packet f (Pong v.node h b) 0 ∷ [])) → Kept n p s m g l v u
    go (same, inl w) = kept_same n p s m g l v u (same_leads n m g l v u same a) (ap (λ z. z.acked) same) (λ i. subst (λ z. IsAck z) e i) (fits_none m g l s w)
    go (same, inr w) = kept_same n p s m g l v u (same_leads n m g l v u same a) (ap (λ z. z.acked) same) (λ i. subst (λ z. IsAck z) e i) (fits_one m g l s (packet f (Pong v.node h b) 0) w tt)
led n p s m g l v u (Pong f h b) e to a fit d =
    let t = pong_acts v u f h b s d in
    kept_same n p s m g l v u (same_leads n m g l v u t.0 a) (ap (λ z. z.acked) t.0) (λ i. subst (λ z. IsAck z) e i) (fits_none m g l s t.1)

-- of another node, after the leader's delivery
claim_led : (n : ℕ) (p : Packet) (ps s : List Packet) (m g l k : ℕ) (v u w : NodeVote) → (p.to ≡ k → ⊥) → 0 < k → k ≤ n → (k ≡ m → ⊥) → Kept n p s m g l v u → Claim n v.acked (p ∷ ps) m g l k w → Claim n u.acked (ps ++ s) m g l k w
claim_led n p ps s m g l k v u w ne pos top apart kept (coming c) = coming (record { follows = c.follows; under_way = has_past s (λ h. ne h.0) c.under_way })
claim_led n p ps s m g l k v u w ne pos top apart kept (acking c) = go (has_split c.under_way)
  where
    told : Told n s m g l → (l ≤ w.durable) ⊎ Has (λ z. (z.to ≡ k) × IsKnown z.message g l) (ps ++ s)
    told (inl z) = inl (omega arith)
    told (inr f) = inr (has_right ps (f k pos top apart))

    go : (p.to ≡ m) × (p.message ≡ Ack k g l) ⊎ Has (λ z. (z.to ≡ m) × (z.message ≡ Ack k g l)) ps → Claim n u.acked (ps ++ s) m g l k w
    go (inl x) = let r = kept.counts k x.1 in noted (record { holds = c.holds; counted = r.0; knows = λ q. told (r.1 q) })
    go (inr h) = acking (record { holds = c.holds; under_way = has_left s h })
claim_led n p ps s m g l k v u w ne pos top apart kept (noted c) = noted (record { holds = c.holds; counted = kept.more k c.counted; knows = λ q. go (kept.news q) })
  where
    told : Told n s m g l → (l ≤ w.durable) ⊎ Has (λ z. (z.to ≡ k) × IsKnown z.message g l) (ps ++ s)
    told (inl z) = inl (omega arith)
    told (inr f) = inr (has_right ps (f k pos top apart))

    before : (l ≤ w.durable) ⊎ Has (λ z. (z.to ≡ k) × IsKnown z.message g l) (p ∷ ps) → (l ≤ w.durable) ⊎ Has (λ z. (z.to ≡ k) × IsKnown z.message g l) (ps ++ s)
    before (inl a) = inl a
    before (inr h) = inr (has_past s (λ x. ne x.0) h)

    go : IsReached v.acked n l ⊎ Told n s m g l → (l ≤ w.durable) ⊎ Has (λ z. (z.to ≡ k) × IsKnown z.message g l) (ps ++ s)
    go (inl r) = before (c.knows r)
    go (inr t) = told t

-- what a delivery leaves at a follower, up or down
pub record Here (n : ℕ) (acked : List ℕ) (ps s : List Packet) (m g l i : ℕ) (v u : NodeVote) : Type 0 where
  pub named : u.up ≡ true → (0 < i) × (i ≤ n) × (u.node ≡ i)
  pub claim : u.up ≡ true → u.promised ≤ g → Claim n acked (ps ++ s) m g l i u
  pub fits : Each (λ z. Fits z.message z.to m g l) s
  pub below : u.up ≡ true → (v.up ≡ true → v.promised ≤ g) → u.promised ≤ g

pub here : (n : ℕ) (at : ℕ → NodeVote) (p : Packet) (ps s : List Packet) (m g l : ℕ) (u : NodeVote) → Led n at (p ∷ ps) m g l → (p.to ≡ m → ⊥) → Came (at p.to) p u s → Here n (at m).acked ps s m g l p.to (at p.to) u
here n at p ps s m g l u old ne (inl t) = record { named = λ up. absurd (let x = t.0 in cc); claim = λ up le. absurd (let x = t.0 in cc); fits = fits_none m g l s t.1; below = λ up h. absurd (let x = t.0 in cc) }
here n at p ps s m g l u old ne (inr t) =
    let name = old.named p.to t.0 in
    let fit : Fits p.message p.to m g l = each_head old.fits in
    let few : n ≤ 7 = old.few in
    let d = followed n (at m).acked p ps s m g l (at p.to) u p.message refl ne t.0 name.2 name.0 (omega arith) fit t.1 in
    record {
      named = λ up. (name.0, name.1, d.node ∙ name.2);
      claim = λ up le. d.claim le (old.claims p.to ne t.0 (let r = d.rises in omega arith));
      fits = d.fits;
      below = λ up h. d.below (h t.0);
    }

after_follower : (n : ℕ) (at to : ℕ → NodeVote) (p : Packet) (ps s : List Packet) (m g l : ℕ) → Led n at (p ∷ ps) m g l → Delivered at to p s → (p.to ≡ m → ⊥) → Led n to (ps ++ s) m g l
after_follower n at to p ps s m g l old d ne = record {
  few = old.few;
  leads = subst (λ t. Leads n m g l t) (sym me) old.leads;
  own = subst (λ t. (reaches t.acked l m ≡ true) ⊎ Has (λ z. (z.to ≡ m) × (z.message ≡ Ack m g l)) (ps ++ s)) (sym me) (own old.own);
  named = λ k up. named k up (same_or k p.to);
  claims = λ k apart up le. subst (λ t. Claim n t.acked (ps ++ s) m g l k (to k)) (sym me) (claim k apart up le (same_or k p.to));
  fits = each_join (each_tail old.fits) h.fits;
}
  where
    h : Here n (at m).acked ps s m g l p.to (at p.to) (to p.to)
    h = here n at p ps s m g l (to p.to) old ne (does_of d)

    me : to m ≡ at m
    me = d.others m (λ e. ne (sym e))

    own : (reaches (at m).acked l m ≡ true) ⊎ Has (λ z. (z.to ≡ m) × (z.message ≡ Ack m g l)) (p ∷ ps) → (reaches (at m).acked l m ≡ true) ⊎ Has (λ z. (z.to ≡ m) × (z.message ≡ Ack m g l)) (ps ++ s)
    own (inl a) = inl a
    own (inr a) = inr (has_past s (λ x. ne x.0) a)

    named : (k : ℕ) → (to k).up ≡ true → (k ≡ p.to) ⊎ (k ≡ p.to → ⊥) → (0 < k) × (k ≤ n) × ((to k).node ≡ k)
    named k up (inl e) = subst (λ j. (0 < j) × (j ≤ n) × ((to j).node ≡ j)) (sym e) (h.named (subst (λ j. (to j).up ≡ true) e up))
    named k up (inr e) = subst (λ t. (0 < k) × (k ≤ n) × (t.node ≡ k)) (sym (d.others k e)) (old.named k (subst (λ t. t.up ≡ true) (d.others k e) up))

    claim : (k : ℕ) → (k ≡ m → ⊥) → (to k).up ≡ true → (to k).promised ≤ g → (k ≡ p.to) ⊎ (k ≡ p.to → ⊥) → Claim n (at m).acked (ps ++ s) m g l k (to k)
    claim k apart up le (inl e) = subst (λ j. Claim n (at m).acked (ps ++ s) m g l j (to j)) (sym e) (h.claim (subst (λ j. (to j).up ≡ true) e up) (subst (λ j. (to j).promised ≤ g) e le))
    claim k apart up le (inr e) = subst (λ t. Claim n (at m).acked (ps ++ s) m g l k t) (sym (d.others k e))
        (kept_other n (at m).acked p ps s m g l k (at k) (λ x. e (sym x)) (λ x. ne x.0) (old.claims k apart (subst (λ t. t.up ≡ true) (d.others k e) up) (subst (λ t. t.promised ≤ g) (d.others k e) le)))

after_leader : (n : ℕ) (at to : ℕ → NodeVote) (p : Packet) (ps s : List Packet) (m g l : ℕ) → Led n at (p ∷ ps) m g l → Delivered at to p s → p.to ≡ m → Kept n p s m g l (at m) (to m) → Led n to (ps ++ s) m g l
after_leader n at to p ps s m g l old d here kept = record {
  few = old.few;
  leads = kept.leads;
  own = own old.own;
  named = λ k up. named k up (same_or k m);
  claims = λ k apart up le. claim k apart up le (d.others k (λ e. apart (e ∙ here)));
  fits = each_join (each_tail old.fits) kept.fits;
}
  where
    own : (reaches (at m).acked l m ≡ true) ⊎ Has (λ z. (z.to ≡ m) × (z.message ≡ Ack m g l)) (p ∷ ps) → (reaches (to m).acked l m ≡ true) ⊎ Has (λ z. (z.to ≡ m) × (z.message ≡ Ack m g l)) (ps ++ s)
    own (inl a) = inl (kept.more m a)
    own (inr a) = elim (has_split a) [ inl x ↦ inl (kept.counts m x.1).0 | inr x ↦ inr (has_left s x) ]

    named : (k : ℕ) → (to k).up ≡ true → (k ≡ m) ⊎ (k ≡ m → ⊥) → (0 < k) × (k ≤ n) × ((to k).node ≡ k)
    named k up (inl e) = let r = old.named m old.leads.up in subst (λ j. (0 < j) × (j ≤ n) × ((to j).node ≡ j)) (sym e) (r.0, r.1, kept.leads.node)
    named k up (inr e) = let f = d.others k (λ x. e (x ∙ here)) in subst (λ t. (0 < k) × (k ≤ n) × (t.node ≡ k)) (sym f) (old.named k (subst (λ t. t.up ≡ true) f up))

    claim : (k : ℕ) → (k ≡ m → ⊥) → (to k).up ≡ true → (to k).promised ≤ g → to k ≡ at k → Claim n (to m).acked (ps ++ s) m g l k (to k)
    claim k apart up le f =
        let up' : (at k).up ≡ true = subst (λ t. t.up ≡ true) f up in
        let name = old.named k up' in
        subst (λ t. Claim n (to m).acked (ps ++ s) m g l k t) (sym f)
        (claim_led n p ps s m g l k (at m) (to m) (at k) (λ x. apart (sym x ∙ here)) name.0 name.1 apart kept (old.claims k apart up' (subst (λ t. t.promised ≤ g) f le)))

pub led_step : (n : ℕ) (at to : ℕ → NodeVote) (p : Packet) (ps s : List Packet) (m g l : ℕ) → Led n at (p ∷ ps) m g l → Delivered at to p s → Led n to (ps ++ s) m g l ⊎ ((to m).up ≡ false)
led_step n at to p ps s m g l old d = go (same_or p.to m)
  where
    at_leader : p.to ≡ m → Came (at m) p (to m) s → Led n to (ps ++ s) m g l ⊎ ((to m).up ≡ false)
    at_leader e (inl t) = inr t.0
    at_leader e (inr t) = inl (after_leader n at to p ps s m g l old d e (led n p s m g l (at m) (to m) p.message refl e old.leads (each_head old.fits) t.1))

    go : (p.to ≡ m) ⊎ (p.to ≡ m → ⊥) → Led n to (ps ++ s) m g l ⊎ ((to m).up ≡ false)
    go (inl e) = at_leader e (subst (λ j. Came (at j) p (to j) s) e (does_of d))
    go (inr ne) = inl (after_follower n at to p ps s m g l old d ne)
