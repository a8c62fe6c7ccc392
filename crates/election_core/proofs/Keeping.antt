-- Counting a message changes nothing of the part, and counts what is told.
use Rattle.std.proofs.Common.{ℕ, ◌≡◌, ◌≢◌, ◌-◌, ◌<◌, ◌≤◌, ◌^◌, List, length, max, slice_index, slice_set, arith, refl, sym, subst, ◌∙◌, ap}
use Rattle.std.specs.Prelude.{◌==◌, ◌&&◌, Bool, true, false, cond, zero, suc}
use Rattle.std.specs.Int.{bit_at}
use Rattle.std.specs.Int.Bits.{bit_or}
use Rattle.std.proofs.lemmas.Nat.Bits.{bit_at_or, bit_at-pow_other}
use Rattle.std.proofs.lemmas.Bool.Decides.{nat_tests, Decides-eqb}
use Rattle.std.proofs.lemmas.Grind.{common_steps, get_or-set_at}
use Rattle.std.proofs.lemmas.List.{get_or-set_other}
use mathlib.Core.Logic.{◌⊎◌, inl, inr}
use Rattle.cluster_consensus.specs.Facts.{Own, World}
use Rattle.cluster_consensus.specs.Enabled.{IsGranted}
use Rattle.election_core.specs.Counts.{has_bit, with_bit, reaches}
use Rattle.election_core.specs.Counted.{acted, counted, counts_vote, counts_length, with_length}
use Rattle.election_core.specs.Senders.{sender_of}
use Rattle.election_core.specs.Told.{IsPart, IsMessageTold, IsAcked, IsCounted}
use Rattle.election_core.proofs.Greatest.{reach, reached}
use Rattle.election_core.specs.declared.votes.NodeVote.{NodeVote}
use Rattle.election_core.specs.declared.messages.Message.{Message}
use Rattle.election_core.specs.declared.messages.Message.TheVariants.{Vote, Granted, Adopt, Ship, Ack, Durable, Ping, Pong}
use Rattle.election_core.specs.declared.messages.Action.{Action}
use Rattle.election_core.specs.declared.messages.Action.TheVariants.{Nothing, Promise, Lead, Take, Know, Answer}

pub part_kept : {E : Type 0} (v : NodeVote) (m : Message) (o : Own E) → IsPart v o → IsPart (counted v m) o
part_kept {E} v (Granted f g to) o p = go (counts_vote v g to)
  where
    go : (b : Bool) → IsPart (cond b (record v { granted = with_bit v.granted f }) v) o
    go true = record { promised = p.promised; accepted = p.accepted; length = p.length; adopted = p.adopted; durable = p.durable; leading = p.leading; up = p.up }
    go false = p
part_kept {E} v (Ack f g l) o p = go (counts_length v g)
  where
    go : (b : Bool) → IsPart (cond b (record v { acked = with_length v.acked f l }) v) o
    go true = record { promised = p.promised; accepted = p.accepted; length = p.length; adopted = p.adopted; durable = p.durable; leading = p.leading; up = p.up }
    go false = p
part_kept v (Vote f g a l) o p = p
part_kept v (Adopt f g l) o p = p
part_kept v (Ship f g l) o p = p
part_kept v (Durable f g l) o p = p
part_kept v (Ping f g t d) o p = p
part_kept v (Pong f g t) o p = p

-- who and how many
pub same_nodes : (v : NodeVote) (m : Message) → ((counted v m).node ≡ v.node) × ((counted v m).nodes ≡ v.nodes)
same_nodes v (Granted f g to) = go (counts_vote v g to)
  where
    go : (b : Bool) → ((cond b (record v { granted = with_bit v.granted f }) v).node ≡ v.node) × ((cond b (record v { granted = with_bit v.granted f }) v).nodes ≡ v.nodes)
    go true = (refl, refl)
    go false = (refl, refl)
same_nodes v (Ack f g l) = go (counts_length v g)
  where
    go : (b : Bool) → ((cond b (record v { acked = with_length v.acked f l }) v).node ≡ v.node) × ((cond b (record v { acked = with_length v.acked f l }) v).nodes ≡ v.nodes)
    go true = (refl, refl)
    go false = (refl, refl)
same_nodes v (Vote f g a l) = (refl, refl)
same_nodes v (Adopt f g l) = (refl, refl)
same_nodes v (Ship f g l) = (refl, refl)
same_nodes v (Durable f g l) = (refl, refl)
same_nodes v (Ping f g t d) = (refl, refl)
same_nodes v (Pong f g t) = (refl, refl)

-- a bit of the votes with one more is that one, or was there
bit_of : (n f k : ℕ) → has_bit (with_bit n f) k ≡ true → (k ≡ f) ⊎ (has_bit n k ≡ true)
bit_of n f k e = go (k == f) refl
  where
    go : (b : Bool) → (k == f) ≡ b → (k ≡ f) ⊎ (has_bit n k ≡ true)
    go true h = inl ((Decides-eqb k f).0 h)
    go false h =
        let ne : k ≢ f = λ q. (let r = (Decides-eqb k f).1 q in absurd (cc)) in
        let a : bit_at (bit_or n (2 ^ f)) k ≡ 1 = (Decides-eqb (bit_at (bit_or n (2 ^ f)) k) 1).0 e in
        let b = bit_at_or n (2 ^ f) k in
        let z = bit_at-pow_other f k ne in
        let m : max (bit_at n k) (bit_at (2 ^ f) k) ≡ 1 = sym b ∙ a in
        let o : max (bit_at n k) 0 ≡ 1 = subst (λ t. max (bit_at n k) t ≡ 1) z m in
        let x : bit_at n k ≡ 1 = grind arith in
        inr ((Decides-eqb (bit_at n k) 1).1 x)

pub vote_tests : (a b c d : ℕ) → (a == b && c == d) ≡ true → (a ≡ b) × (c ≡ d)
vote_tests a b c d h = grind (arith, nat_tests)

length_tests : (b : Bool) (c d : ℕ) → (b && c == d) ≡ true → c ≡ d
length_tests b c d h = grind (arith, nat_tests)

-- a length that is reached with one more acknowledgement was reached, or is reached by it
reached_with : (acked : List ℕ) (f l m k : ℕ) → 0 < f → f ≤ length acked → reaches (with_length acked f l) m k ≡ true → (reaches acked m k ≡ true) ⊎ ((k ≡ f) × (m ≤ l))
reached_with acked f l m zero pos top e = inl e
reached_with acked f l m (suc j) pos top e = go (j == f - 1) refl
  where
    le : m ≤ slice_index (slice_set acked (f - 1) (max (slice_index acked (f - 1)) l)) j
    le = reached (slice_set acked (f - 1) (max (slice_index acked (f - 1)) l)) m j e

    most : (x : ℕ) → m ≤ max x l → (m ≤ x) ⊎ (m ≤ l)
    most x h = grind arith

    go : (b : Bool) → (j == f - 1) ≡ b → (reaches acked m (suc j) ≡ true) ⊎ ((suc j ≡ f) × (m ≤ l))
    go true h =
        let q : j ≡ f - 1 = (Decides-eqb j (f - 1)).0 h in
        let s : slice_index (slice_set acked (f - 1) (max (slice_index acked (f - 1)) l)) j ≡ max (slice_index acked (f - 1)) l = get_or-set_at acked (f - 1) j (max (slice_index acked (f - 1)) l) 0 q (omega arith) in
        elim (most (slice_index acked (f - 1)) (subst (λ t. m ≤ t) s le)) [
          | inl x ↦ inl (reach acked m j (subst (λ t. m ≤ slice_index acked t) (sym q) x))
          | inr x ↦ inr (omega arith, x)
        ]
    go false h =
        let ne : j ≢ f - 1 = λ q. (let r = (Decides-eqb j (f - 1)).1 q in absurd (cc)) in
        let s : slice_index (slice_set acked (f - 1) (max (slice_index acked (f - 1)) l)) j ≡ slice_index acked j = get_or-set_other acked (f - 1) j (max (slice_index acked (f - 1)) l) 0 ne in
        inl (reach acked m j (subst (λ t. m ≤ t) s le))

size_with : (acked : List ℕ) (f l : ℕ) → length acked ≡ 7 → length (with_length acked f l) ≡ 7
size_with acked f l e = grind (arith, common_steps)

pub counted_kept : {E : Type 0} (w : World E) (v : NodeVote) (m : Message) → 0 < sender_of m → sender_of m ≤ 7 → IsCounted w v → IsMessageTold w m → IsCounted w (counted v m)
counted_kept {E} w v (Granted f g to) pos top c x = go (counts_vote v g to) refl
  where
    vote : counts_vote v g to ≡ true → (k : ℕ) → (k ≡ f) ⊎ (has_bit v.granted k ≡ true) → IsGranted w v.promised v.node k
    vote h k (inl e) =
        let t = vote_tests to v.node g v.promised h in
        subst (λ j. IsGranted w v.promised v.node j) (sym e) (record { it = x.it; mem = x.mem; is = (x.is.0 ∙ t.1, x.is.1 ∙ t.0) })
    vote h k (inr b) = c.granted k b

    go : (b : Bool) → counts_vote v g to ≡ b → IsCounted w (cond b (record v { granted = with_bit v.granted f }) v)
    go true h = record { size = c.size; granted = λ k e. vote h k (bit_of v.granted f k e); acked = c.acked }
    go false h = c
counted_kept {E} w v (Ack f g l) pos top c x = go (counts_length v g) refl
  where
    told : counts_length v g ≡ true → v.leading ≡ true → (m k : ℕ) → 1 ≤ m → (reaches v.acked m k ≡ true) ⊎ ((k ≡ f) × (m ≤ l)) → IsAcked w v.accepted m k
    told h lead m k one (inl r) = c.acked lead m k one r
    told h lead m k one (inr r) =
        let e = length_tests v.leading g v.accepted h in
        let xl : length x.it.log ≡ l = x.is.1 in
        let le : m ≤ l = r.1 in
        subst (λ j. IsAcked w v.accepted m j) (sym r.0) (record { it = x.it; mem = x.mem; is = (x.is.0 ∙ e, omega arith) })

    go : (b : Bool) → counts_length v g ≡ b → IsCounted w (cond b (record v { acked = with_length v.acked f l }) v)
    go true h = record { size = size_with v.acked f l c.size; granted = c.granted; acked = λ lead m k one r. told h lead m k one (reached_with v.acked f l m k pos (let s : length v.acked ≡ 7 = c.size in omega arith) r) }
    go false h = c
counted_kept w v (Vote f g a l) pos top c x = c
counted_kept w v (Adopt f g l) pos top c x = c
counted_kept w v (Ship f g l) pos top c x = c
counted_kept w v (Durable f g l) pos top c x = c
counted_kept w v (Ping f g t d) pos top c x = c
counted_kept w v (Pong f g t) pos top c x = c

acted_same : (v : NodeVote) (a : Action) → ((acted v a).node ≡ v.node) × ((acted v a).nodes ≡ v.nodes)
acted_same v Nothing = (refl, refl)
acted_same v (Promise g to) = (refl, refl)
acted_same v (Lead g) = (refl, refl)
acted_same v (Take g l) = (refl, refl)
acted_same v (Know d) = (refl, refl)
acted_same v (Answer m to) = (refl, refl)

-- neither counting nor acting changes who the node is, nor of how many
pub same_after : (v w : NodeVote) (m : Message) (a : Action) → w ≡ acted (counted v m) a → (w.node ≡ v.node) × (w.nodes ≡ v.nodes)
same_after v w m a e =
    let x = acted_same (counted v m) a in
    let y = same_nodes v m in
    (ap (λ t. t.node) e ∙ (x.0 ∙ y.0), ap (λ t. t.nodes) e ∙ (x.1 ∙ y.1))
