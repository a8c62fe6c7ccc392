-- A delivery at the leader.
use Rattle.std.proofs.Common.{ℕ, ◌≡◌, ◌-◌, ◌<◌, ◌≤◌, List, [], length, max, slice_index, arith, refl, sym, subst, ap, ◌∙◌}
use Rattle.std.specs.Prelude.{zero, suc, Bool, true, false, cond}
use Rattle.std.proofs.lemmas.Grind.{common_steps, get_or-set_at}
use Rattle.std.proofs.lemmas.List.{get_or-set_other}
use mathlib.Core.Logic.{◌⊎◌, inl, inr}
use Rattle.core_lists.specs.Lists.{Each, Has}
use Rattle.core_lists.proofs.Numbers.{lt_or_le}
use Rattle.election_core.specs.Counts.{reaches, IsReached}
use Rattle.election_core.specs.Counted.{with_length}
use Rattle.election_core.specs.Allowed.{MayLearn}
use Rattle.election_core.proofs.Greatest.{reach, reached}
use Rattle.election_core.specs.Senders.{sender_of}
use Rattle.election_core.specs.declared.votes.NodeVote.{NodeVote}
use Rattle.election_core.specs.declared.messages.Message.{Message}
use Rattle.election_core.specs.declared.messages.Message.TheVariants.{Ack, Durable}
use Rattle.quiet_cluster.specs.Packets.{packet, others, Packet}
use Rattle.quiet_cluster.specs.Led.{IsKnown, Fits, Leads}
use Rattle.quiet_cluster.proofs.Lists.{same_or, others_in, others_each, reached_some}
use Rattle.quiet_cluster.proofs.Acting.{Learnt}
use Rattle.quiet_cluster.proofs.Followed.{fits_none}

raised : (acked : List ℕ) (f l j : ℕ) → 0 < f → f ≤ 7 → length acked ≡ 7 → j ≡ f - 1 → slice_index (with_length acked f l) j ≡ max (slice_index acked (f - 1)) l
raised acked f l j low high size e = get_or-set_at acked (f - 1) j (max (slice_index acked (f - 1)) l) 0 e (omega arith)

beside : (acked : List ℕ) (f l j : ℕ) → (j ≡ f - 1 → ⊥) → slice_index (with_length acked f l) j ≡ slice_index acked j
beside acked f l j ne = get_or-set_other acked (f - 1) j (max (slice_index acked (f - 1)) l) 0 ne

size_with : (acked : List ℕ) (f l : ℕ) → length acked ≡ 7 → length (with_length acked f l) ≡ 7
size_with acked f l e = grind (arith, common_steps)

with_most : (acked : List ℕ) (f l : ℕ) → 0 < f → f ≤ 7 → length acked ≡ 7 → ((k : ℕ) → slice_index acked k ≤ l) → (k : ℕ) → slice_index (with_length acked f l) k ≤ l
with_most acked f l low high size most k = go (same_or k (f - 1))
  where
    both : (a b : ℕ) → a ≤ b → max a b ≤ b
    both a b h = grind arith

    go : (k ≡ f - 1) ⊎ (k ≡ f - 1 → ⊥) → slice_index (with_length acked f l) k ≤ l
    go (inl e) = subst (λ t. t ≤ l) (sym (raised acked f l k low high size e)) (both (slice_index acked (f - 1)) l (most (f - 1)))
    go (inr ne) = subst (λ t. t ≤ l) (sym (beside acked f l k ne)) (most k)

counts_self : (acked : List ℕ) (f l : ℕ) → 0 < f → f ≤ 7 → length acked ≡ 7 → reaches (with_length acked f l) l f ≡ true
counts_self acked zero l low high size = absurd (omega arith)
counts_self acked (suc j) l low high size = reach (with_length acked (suc j) l) l j (subst (λ t. l ≤ t) (sym (raised acked (suc j) l j low high size (omega arith))) (right (slice_index acked (suc j - 1)) l))
  where
    right : (a b : ℕ) → b ≤ max a b
    right a b = grind arith

counts_more : (acked : List ℕ) (f l k : ℕ) → 0 < f → f ≤ 7 → length acked ≡ 7 → reaches acked l k ≡ true → reaches (with_length acked f l) l k ≡ true
counts_more acked f l zero low high size e = e
counts_more acked f l (suc j) low high size e = go (same_or j (f - 1))
  where
    right : (a b : ℕ) → b ≤ max a b
    right a b = grind arith

    go : (j ≡ f - 1) ⊎ (j ≡ f - 1 → ⊥) → reaches (with_length acked f l) l (suc j) ≡ true
    go (inl q) = reach (with_length acked f l) l j (subst (λ t. l ≤ t) (sym (raised acked f l j low high size q)) (right (slice_index acked (f - 1)) l))
    go (inr ne) = reach (with_length acked f l) l j (subst (λ t. l ≤ t) (sym (beside acked f l j ne)) (reached acked l j e))

-- each other node is told that l is durable, if there is anything to know
abbrev pub Told : ℕ → List Packet → ℕ → ℕ → ℕ → Type 0
Told n s m g l = (l ≤ 0) ⊎ ((k : ℕ) → 0 < k → k ≤ n → (k ≡ m → ⊥) → Has (λ z. (z.to ≡ k) × IsKnown z.message g l) s)

-- what a delivery leaves at the leader
pub record Kept (n : ℕ) (p : Packet) (s : List Packet) (m g l : ℕ) (v u : NodeVote) : Type 0 where
  pub leads : Leads n m g l u
  pub fits : Each (λ z. Fits z.message z.to m g l) s
  pub more : (k : ℕ) → reaches v.acked l k ≡ true → reaches u.acked l k ≡ true
  pub counts : (k : ℕ) → p.message ≡ Ack k g l → (reaches u.acked l k ≡ true) × (IsReached u.acked n l → Told n s m g l)
  pub news : IsReached u.acked n l → IsReached v.acked n l ⊎ Told n s m g l

abbrev pub IsAck : Message → Type 0
IsAck (Ack f g l) = Unit {0}
IsAck _ = ⊥

pub kept_same : (n : ℕ) (p : Packet) (s : List Packet) (m g l : ℕ) (v u : NodeVote) → Leads n m g l u → u.acked ≡ v.acked → (IsAck p.message → ⊥) → Each (λ z. Fits z.message z.to m g l) s → Kept n p s m g l v u
kept_same n p s m g l v u a same ne f = record {
  leads = a;
  fits = f;
  more = λ k e. subst (λ t. reaches t l k ≡ true) (sym same) e;
  counts = λ k e. absurd (ne (subst (λ t. IsAck t) (sym e) tt));
  news = λ r. inl (subst (λ t. IsReached t n l) same r);
}

pub leads_voted : (n m g l x : ℕ) (v : NodeVote) (b : Bool) → Leads n m g l v → Leads n m g l (cond b (record v { granted = x }) v) × ((cond b (record v { granted = x }) v).acked ≡ v.acked)
leads_voted n m g l x v true a = (record { node = a.node; nodes = a.nodes; up = a.up; leading = a.leading; promised = a.promised; accepted = a.accepted; long = a.long; size = a.size; within = a.within; acked = a.acked; known = a.known }, refl)
leads_voted n m g l x v false a = (a, refl)

-- where the leader learns nothing, a majority has not its log, or it is known
learns : (n m g l : ℕ) (w : NodeVote) → w.nodes ≡ n → w.up ≡ true → w.leading ≡ true → w.accepted ≡ g → w.durable ≤ l → IsReached w.acked n l → (l ≤ 0) ⊎ MayLearn w g l
learns n m g l w nodes up lead acc within r = go (lt_or_le 0 l)
  where
    go : (0 < l) ⊎ (l ≤ 0) → (l ≤ 0) ⊎ MayLearn w g l
    go (inl lt) = inr (up, lead, sym acc, (let q : 1 ≤ l = omega arith in q), within, subst (λ t. IsReached w.acked t l) (sym nodes) r)
    go (inr le) = inl le

pub kept_ack : (n : ℕ) (p : Packet) (s : List Packet) (m g l : ℕ) (v u : NodeVote) (f : ℕ) → p.message ≡ Ack f g l → 0 < f → f ≤ 7 → Leads n m g l v
    → ((u ≡ record v { acked = with_length v.acked f l }) × (s ≡ []) × ((d : ℕ) → MayLearn (record v { acked = with_length v.acked f l }) g d → ⊥)) ⊎ Learnt (record v { acked = with_length v.acked f l }) u g s → Kept n p s m g l v u
kept_ack n p s m g l v u f e low high a (inl t) = subst (λ z. Kept n p s m g l v z) (sym t.0) (record {
  leads = record { node = a.node; nodes = a.nodes; up = a.up; leading = a.leading; promised = a.promised; accepted = a.accepted; long = a.long; size = size_with v.acked f l a.size; within = a.within; acked = with_most v.acked f l low high a.size a.acked; known = λ r. lies (none r) };
  fits = fits_none m g l s t.1;
  more = λ k r. counts_more v.acked f l k low high a.size r;
  counts = λ k q. (subst (λ j. reaches (with_length v.acked f l) l j ≡ true) (ap sender_of (sym e ∙ q)) (counts_self v.acked f l low high a.size), λ r. inl (none r));
  news = λ r. inr (inl (none r));
})
  where
    lies : l ≤ 0 → l ≤ v.durable
    lies h = omega arith

    none : IsReached (with_length v.acked f l) n l → l ≤ 0
    none r = elim (learns n m g l (record v { acked = with_length v.acked f l }) a.nodes a.up a.leading a.accepted a.within r) [ inl z ↦ z | inr may ↦ absurd (t.2 l may) ]
kept_ack n p s m g l v u f e low high a (inr t) = record {
  leads = subst (λ z. Leads n m g l z) (sym t.changes) (record { node = a.node; nodes = a.nodes; up = a.up; leading = a.leading; promised = a.promised; accepted = a.accepted; long = a.long; size = size_with v.acked f l a.size; within = within; acked = with_most v.acked f l low high a.size a.acked; known = known });
  fits = subst (λ z. Each (λ z. Fits z.message z.to m g l) z) (sym sent) (others_each u.nodes u.node (Durable u.node u.accepted t.length) 0 (λ j ne h. ne (h ∙ sym node)));
  more = λ k r. subst (λ z. reaches z l k ≡ true) (sym acks) (counts_more v.acked f l k low high a.size r);
  counts = λ k q. (subst (λ z. reaches z l k ≡ true) (sym acks) (subst (λ j. reaches (with_length v.acked f l) l j ≡ true) (ap sender_of (sym e ∙ q)) (counts_self v.acked f l low high a.size)), told);
  news = λ r. inr (told r);
}
  where
    node : u.node ≡ m
    node = ap (λ z. z.node) t.changes ∙ a.node

    acks : u.acked ≡ with_length v.acked f l
    acks = ap (λ z. z.acked) t.changes

    speaks : (b : Bool) → b ≡ true → s ≡ cond b (others u.nodes u.node (Durable u.node u.accepted t.length) 0) [] → s ≡ others u.nodes u.node (Durable u.node u.accepted t.length) 0
    speaks true r w = w
    speaks false r w = absurd (cc)

    sent : s ≡ others u.nodes u.node (Durable u.node u.accepted t.length) 0
    sent = speaks u.leading (ap (λ z. z.leading) t.changes ∙ a.leading) t.sends

    within : t.length ≤ l
    within =
        let some = reached_some (with_length v.acked f l) v.nodes t.length t.may.5 in
        let top = with_most v.acked f l low high a.size a.acked some.0 in
        let b : t.length ≤ slice_index (with_length v.acked f l) some.0 = some.1 in
        omega arith

    known : IsReached (with_length v.acked f l) n l → l ≤ t.length
    known r = elim (learns n m g l (record v { acked = with_length v.acked f l }) a.nodes a.up a.leading a.accepted a.within r) [ inl z ↦ (let y : l ≤ 0 = z in let x : l ≤ t.length = omega arith in x) | inr may ↦ t.most l may ]

    told : IsReached u.acked n l → Told n s m g l
    told r = inr (λ k pos top ne. subst (λ z. Has (λ z. (z.to ≡ k) × IsKnown z.message g l) z) (sym sent) (record {
      it = packet k (Durable u.node u.accepted t.length) 0;
      mem = others_in u.nodes u.node (Durable u.node u.accepted t.length) 0 k pos (let q : u.nodes ≡ n = ap (λ z. z.nodes) t.changes ∙ a.nodes in omega arith) (λ h. ne (h ∙ node));
      is = (refl, (ap (λ z. z.accepted) t.changes ∙ a.accepted, known (subst (λ z. IsReached z n l) acks r)));
    }))
