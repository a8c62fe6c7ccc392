-- What a node does about each message, by the clauses of on_message.
use Rattle.std.proofs.Common.{ℕ, ◌≡◌, ◌≤◌, List, [], ◌∷◌, refl, subst}
use Rattle.std.specs.Prelude.{true}
use mathlib.Core.Logic.{◌⊎◌, inl, inr}
use Rattle.election_core.specs.Counted.{acted, counted}
use Rattle.election_core.specs.Allowed.{MayGrant, MayLead, MayLearn, MayHear, AllowsExactly, IsMost}
use Rattle.election_core.specs.declared.votes.NodeVote.{NodeVote}
use Rattle.election_core.specs.declared.messages.Message.TheVariants.{Vote, Granted, Ack, Durable, Ping, Pong}
use Rattle.election_core.specs.declared.messages.Action.{Action}
use Rattle.election_core.specs.declared.messages.Action.TheVariants as action
use Rattle.quiet_cluster.specs.Deliveries.{Answers}
use Rattle.quiet_cluster.specs.Packets.{packet, packets_of, Packet}
use Rattle.quiet_cluster.proofs.Answered.{Acts, does}

pub vote_acts : (v u : NodeVote) (f h x y : ℕ) (s : List Packet) → Acts v (Vote f h x y) u s
    → ((u ≡ v) × (s ≡ []) × (MayGrant v h x y → ⊥)) ⊎ (MayGrant v h x y × (u ≡ acted v (action.Promise h f)) × (s ≡ packet f (Granted u.node h f) 0 ∷ []))
vote_acts v u f h x y s t = go t.done t.decides t.changes t.sends
  where
    go : (a : Action) → AllowsExactly v (Vote f h x y) a → u ≡ acted v a → s ≡ packets_of u a f
        → ((u ≡ v) × (s ≡ []) × (MayGrant v h x y → ⊥)) ⊎ (MayGrant v h x y × (u ≡ acted v (action.Promise h f)) × (s ≡ packet f (Granted u.node h f) 0 ∷ []))
    go action.Nothing d e w = inl (e, w, λ m. d (action.Promise h f) (m, refl, refl))
    go (action.Promise k to) d e w = inr (
      d.0,
      subst (λ j. u ≡ acted v (action.Promise h j)) d.2 (subst (λ j. u ≡ acted v (action.Promise j to)) d.1 e),
      subst (λ j. s ≡ packet j (Granted u.node h j) 0 ∷ []) d.2 (subst (λ j. s ≡ packet to (Granted u.node j to) 0 ∷ []) d.1 w),
    )
    go (action.Lead k) d e w = absurd d
    go (action.Take k n) d e w = absurd d
    go (action.Know n) d e w = absurd d
    go (action.Answer m to) d e w = absurd d

pub granted_acts : (v u : NodeVote) (f h t : ℕ) (s : List Packet) → Acts v (Granted f h t) u s
    → ((u ≡ counted v (Granted f h t)) × (s ≡ []) × (MayLead (counted v (Granted f h t)) h t → ⊥))
    ⊎ (MayLead (counted v (Granted f h t)) h t × (u ≡ acted (counted v (Granted f h t)) (action.Lead h)) × (s ≡ packets_of u (action.Lead h) 0))
granted_acts v u f h t s x = go x.done x.decides x.changes x.sends
  where
    go : (a : Action) → AllowsExactly v (Granted f h t) a → u ≡ acted (counted v (Granted f h t)) a → s ≡ packets_of u a f
        → ((u ≡ counted v (Granted f h t)) × (s ≡ []) × (MayLead (counted v (Granted f h t)) h t → ⊥))
        ⊎ (MayLead (counted v (Granted f h t)) h t × (u ≡ acted (counted v (Granted f h t)) (action.Lead h)) × (s ≡ packets_of u (action.Lead h) 0))
    go action.Nothing d e w = inl (e, w, λ m. d (action.Lead h) (m, refl))
    go (action.Lead k) d e w = inr (d.0, subst (λ j. u ≡ acted (counted v (Granted f h t)) (action.Lead j)) d.1 e, subst (λ j. s ≡ packets_of u (action.Lead j) 0) d.1 w)
    go (action.Promise k to) d e w = absurd d
    go (action.Take k n) d e w = absurd d
    go (action.Know n) d e w = absurd d
    go (action.Answer m to) d e w = absurd d

-- a length is counted, and the greatest that a majority acknowledged is known
pub record Learnt (v u : NodeVote) (g : ℕ) (s : List Packet) : Type 0 where
  pub length : ℕ
  pub may : MayLearn v g length
  pub most : (e : ℕ) → MayLearn v g e → e ≤ length
  pub changes : u ≡ acted v (action.Know length)
  pub sends : s ≡ packets_of u (action.Know length) 0

pub ack_acts : (v u : NodeVote) (f g l : ℕ) (s : List Packet) → Acts v (Ack f g l) u s
    → ((u ≡ counted v (Ack f g l)) × (s ≡ []) × ((d : ℕ) → MayLearn (counted v (Ack f g l)) g d → ⊥)) ⊎ Learnt (counted v (Ack f g l)) u g s
ack_acts v u f g l s x = go x.done x.decides x.most x.changes x.sends
  where
    go : (a : Action) → AllowsExactly v (Ack f g l) a → IsMost v (Ack f g l) a → u ≡ acted (counted v (Ack f g l)) a → s ≡ packets_of u a f
        → ((u ≡ counted v (Ack f g l)) × (s ≡ []) × ((d : ℕ) → MayLearn (counted v (Ack f g l)) g d → ⊥)) ⊎ Learnt (counted v (Ack f g l)) u g s
    go action.Nothing d b e w = inl (e, w, λ n m. d (action.Know n) m)
    go (action.Know n) d b e w = inr (record { length = n; may = d; most = b; changes = e; sends = w })
    go (action.Lead k) d b e w = absurd d
    go (action.Promise k to) d b e w = absurd d
    go (action.Take k n) d b e w = absurd d
    go (action.Answer m to) d b e w = absurd d

-- a length is told durable
pub record Heard (v u : NodeVote) (g l : ℕ) (s : List Packet) : Type 0 where
  pub length : ℕ
  pub may : MayHear v g l length
  pub most : (e : ℕ) → MayHear v g l e → e ≤ length
  pub changes : u ≡ acted v (action.Know length)
  pub sends : s ≡ packets_of u (action.Know length) 0

pub durable_acts : (v u : NodeVote) (f g l : ℕ) (s : List Packet) → Acts v (Durable f g l) u s → ((u ≡ v) × (s ≡ []) × ((d : ℕ) → MayHear v g l d → ⊥)) ⊎ Heard v u g l s
durable_acts v u f g l s x = go x.done x.decides x.most x.changes x.sends
  where
    go : (a : Action) → AllowsExactly v (Durable f g l) a → IsMost v (Durable f g l) a → u ≡ acted v a → s ≡ packets_of u a f → ((u ≡ v) × (s ≡ []) × ((d : ℕ) → MayHear v g l d → ⊥)) ⊎ Heard v u g l s
    go action.Nothing d b e w = inl (e, w, λ n m. d (action.Know n) m)
    go (action.Know n) d b e w = inr (record { length = n; may = d; most = b; changes = e; sends = w })
    go (action.Lead k) d b e w = absurd d
    go (action.Promise k to) d b e w = absurd d
    go (action.Take k n) d b e w = absurd d
    go (action.Answer m to) d b e w = absurd d

pub ping_acts : (v u : NodeVote) (f g t d : ℕ) (s : List Packet) → Acts v (Ping f g t d) u s → (u ≡ v) × ((s ≡ []) ⊎ (s ≡ packet f (Pong v.node g t) 0 ∷ []))
ping_acts v u f g t d s x = go x.done x.decides x.changes x.sends
  where
    go : (a : Action) → AllowsExactly v (Ping f g t d) a → u ≡ acted v a → s ≡ packets_of u a f → (u ≡ v) × ((s ≡ []) ⊎ (s ≡ packet f (Pong v.node g t) 0 ∷ []))
    go action.Nothing d e w = (e, inl w)
    go (action.Answer m to) d e w = (e, inr (subst (λ j. s ≡ packet f j 0 ∷ []) d.1 (subst (λ j. s ≡ packet j m 0 ∷ []) d.2 w)))
    go (action.Know n) d e w = absurd d
    go (action.Lead k) d e w = absurd d
    go (action.Promise k to) d e w = absurd d
    go (action.Take k n) d e w = absurd d

pub pong_acts : (v u : NodeVote) (f g t : ℕ) (s : List Packet) → Acts v (Pong f g t) u s → (u ≡ v) × (s ≡ [])
pong_acts v u f g t s x = go x.done x.decides x.changes x.sends
  where
    go : (a : Action) → AllowsExactly v (Pong f g t) a → u ≡ acted v a → s ≡ packets_of u a f → (u ≡ v) × (s ≡ [])
    go action.Nothing d e w = (e, w)
    go (action.Answer m to) d e w = absurd d
    go (action.Know n) d e w = absurd d
    go (action.Lead k) d e w = absurd d
    go (action.Promise k to) d e w = absurd d
    go (action.Take k n) d e w = absurd d

-- a node that is up and promised no more confirms
pub ping_confirms : (v u : NodeVote) (f g t d : ℕ) (s : List Packet) → v.up ≡ true → v.promised ≤ g → Acts v (Ping f g t d) u s → s ≡ packet f (Pong v.node g t) 0 ∷ []
ping_confirms v u f g t d s up le x = go x.done x.decides x.sends
  where
    go : (a : Action) → AllowsExactly v (Ping f g t d) a → s ≡ packets_of u a f → s ≡ packet f (Pong v.node g t) 0 ∷ []
    go action.Nothing d w = absurd (d (action.Answer (Pong v.node g t) f) ((up, le), refl, refl))
    go (action.Answer m to) d w = subst (λ j. s ≡ packet f j 0 ∷ []) d.1 (subst (λ j. s ≡ packet j m 0 ∷ []) d.2 w)
    go (action.Know n) d w = absurd d
    go (action.Lead k) d w = absurd d
    go (action.Promise k to) d w = absurd d
    go (action.Take k n) d w = absurd d

pub confirmed : (v u : NodeVote) (m g t d e : ℕ) (s : List Packet) → v.up ≡ true → v.promised ≤ g → Answers v (Ping m g t d) e u s → (u ≡ v) × (s ≡ packet m (Pong v.node g t) 0 ∷ [])
confirmed v u m g t d e s up le x = let y = does v u (Ping m g t d) e s up x in ((ping_acts v u m g t d s y).0, ping_confirms v u m g t d s up le y)
