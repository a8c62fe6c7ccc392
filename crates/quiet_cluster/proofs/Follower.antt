-- What a delivery at a follower keeps.
use Rattle.std.proofs.Common.{ℕ, ◌≡◌, ◌+◌, ◌<◌, ◌≤◌, List, ◌∷◌, ◌++◌, arith, sym, ◌∙◌}
use Rattle.std.specs.Prelude.{false}
use mathlib.Core.Logic.{◌⊎◌, inl, inr}
use Rattle.core_lists.specs.Lists.{Has}
use Rattle.election_core.specs.declared.votes.NodeVote.{NodeVote}
use Rattle.election_core.specs.declared.messages.Message.TheVariants.{Ack}
use Rattle.quiet_cluster.specs.Led.{MayTakeAll, IsLog, IsKnown, Holds, Claim}
use Rattle.quiet_cluster.specs.Packets.{Packet}
use Rattle.quiet_cluster.specs.Led.Claim.{coming, acking, noted}
use Rattle.quiet_cluster.proofs.Lists.{has_left, has_split}

-- the first packet is not the one
pub has_past : {P : Packet → Type 0} {x : Packet} {xs : List Packet} (ys : List Packet) → (P x → ⊥) → Has P (x ∷ xs) → Has P (xs ++ ys)
has_past {P} {x} {xs} ys ne h = elim (has_split h) [ inl p ↦ absurd (ne p) | inr r ↦ has_left ys r ]

-- of a node to which nothing was delivered
pub kept_other : (n : ℕ) (acked : List ℕ) (p : Packet) (ps s : List Packet) (m g l k : ℕ) (v : NodeVote) → (p.to ≡ k → ⊥) → ((p.to ≡ m) × (p.message ≡ Ack k g l) → ⊥)
    → Claim n acked (p ∷ ps) m g l k v → Claim n acked (ps ++ s) m g l k v
kept_other n acked p ps s m g l k v ne apart (coming c) = coming (record { follows = c.follows; under_way = has_past s (λ h. ne h.0) c.under_way })
kept_other n acked p ps s m g l k v ne apart (acking c) = acking (record { holds = c.holds; under_way = has_past s apart c.under_way })
kept_other n acked p ps s m g l k v ne apart (noted c) = noted (record { holds = c.holds; counted = c.counted; knows = λ r. go (c.knows r) })
  where
    go : (l ≤ v.durable) ⊎ Has (λ p. (p.to ≡ k) × IsKnown p.message g l) (p ∷ ps) → (l ≤ v.durable) ⊎ Has (λ p. (p.to ≡ k) × IsKnown p.message g l) (ps ++ s)
    go (inl a) = inl a
    go (inr h) = inr (has_past s (λ x. ne x.0) h)

-- numbers that changed in nothing that counts here
pub record Like (g : ℕ) (v u : NodeVote) : Type 0 where
  pub promised : u.promised ≤ g
  pub accepted : u.accepted ≡ v.accepted
  pub long : u.length ≡ v.length
  pub durable : v.durable ≤ u.durable
  pub follows : v.leading ≡ false → u.leading ≡ false

joins_like : (g l e : ℕ) (v u : NodeVote) → Like g v u → MayTakeAll v g l e → MayTakeAll u g l e
joins_like g l e v u k j = (k.promised, go j.1)
  where
    go : ((v.accepted < g) × (e ≡ l)) ⊎ ((v.accepted ≡ g) × (v.length ≤ l) × (l ≤ v.length + e)) → ((u.accepted < g) × (e ≡ l)) ⊎ ((u.accepted ≡ g) × (u.length ≤ l) × (l ≤ u.length + e))
    go (inl x) = inl ((let a : u.accepted ≡ v.accepted = k.accepted in let b : v.accepted < g = x.0 in omega arith), x.1)
    go (inr x) = inr (k.accepted ∙ x.0, (let a : u.length ≡ v.length = k.long in let b : v.length ≤ l = x.1 in omega arith), (let a : u.length ≡ v.length = k.long in let b : l ≤ v.length + e = x.2 in omega arith))

holds_like : (g l : ℕ) (v u : NodeVote) → Like g v u → Holds g l v → Holds g l u
holds_like g l v u k h = record { accepted = k.accepted ∙ h.accepted; follows = k.follows h.follows; long = k.long ∙ h.long }

-- it was told something else, or knows what it was told
pub kept_self : (n : ℕ) (acked : List ℕ) (p : Packet) (ps s : List Packet) (m g l k : ℕ) (v u : NodeVote) → Like g v u → (p.to ≡ m → ⊥) → (IsLog p.message m g l → MayTakeAll v g l p.entries → ⊥)
    → (Holds g l v → IsKnown p.message g l → l ≤ u.durable) → Claim n acked (p ∷ ps) m g l k v → Claim n acked (ps ++ s) m g l k u
kept_self n acked p ps s m g l k v u like ne log know (coming c) =
    coming (record { follows = λ e. like.follows (c.follows (sym like.accepted ∙ e)); under_way = more (has_past s (λ h. log h.1 h.2) c.under_way) })
  where
    more : Has (λ p. (p.to ≡ k) × IsLog p.message m g l × MayTakeAll v g l p.entries) (ps ++ s) → Has (λ p. (p.to ≡ k) × IsLog p.message m g l × MayTakeAll u g l p.entries) (ps ++ s)
    more h = record { it = h.it; mem = h.mem; is = (h.is.0, h.is.1, joins_like g l h.it.entries v u like h.is.2) }
kept_self n acked p ps s m g l k v u like ne log know (acking c) = acking (record { holds = holds_like g l v u like c.holds; under_way = has_past s (λ h. ne h.0) c.under_way })
kept_self n acked p ps s m g l k v u like ne log know (noted c) = noted (record { holds = holds_like g l v u like c.holds; counted = c.counted; knows = λ r. go (c.knows r) })
  where
    later : (p.to ≡ k) × IsKnown p.message g l ⊎ Has (λ p. (p.to ≡ k) × IsKnown p.message g l) ps → (l ≤ u.durable) ⊎ Has (λ p. (p.to ≡ k) × IsKnown p.message g l) (ps ++ s)
    later (inl x) = inl (know c.holds x.1)
    later (inr h) = inr (has_left s h)

    go : (l ≤ v.durable) ⊎ Has (λ p. (p.to ≡ k) × IsKnown p.message g l) (p ∷ ps) → (l ≤ u.durable) ⊎ Has (λ p. (p.to ≡ k) × IsKnown p.message g l) (ps ++ s)
    go (inl a) = inl (let b = like.durable in omega arith)
    go (inr h) = later (has_split h)
