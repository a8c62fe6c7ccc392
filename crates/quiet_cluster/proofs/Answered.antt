-- What comes of a packet, by cases: a log is taken to its end and acknowledged, or left; any other message is one action.
use Rattle.std.proofs.Common.{ℕ, ◌≡◌, ◌+◌, ◌<◌, ◌≤◌, List, [], ◌∷◌, arith, refl, subst, ap}
use Rattle.std.specs.Prelude.{true, false}
use mathlib.Core.Logic.{◌⊎◌, inl, inr}
use Rattle.core_lists.proofs.Numbers.{lt_or_eq}
use Rattle.election_core.specs.Allowed.{MayTake, Takes, Allows, AllowsExactly, IsMost}
use Rattle.election_core.specs.Counted.{acted, counted}
use Rattle.election_core.specs.Senders.{sender_of}
use Rattle.election_core.specs.declared.messages.Action.{Action}
use Rattle.election_core.specs.declared.messages.Action.TheVariants as action
use Rattle.election_core.specs.declared.messages.Message.{Message}
use Rattle.election_core.specs.declared.messages.Message.TheVariants.{Vote, Granted, Adopt, Ship, Ack, Durable, Ping, Pong}
use Rattle.election_core.specs.declared.votes.NodeVote.{NodeVote}
use Rattle.quiet_cluster.specs.Deliveries.{Joins, Judges, through, Answers, Outcome, Delivered}
use Rattle.quiet_cluster.specs.Led.{MayTakeAll}
use Rattle.quiet_cluster.specs.Packets.{Packet, packet, packets_of}

-- a log is taken to its end and acknowledged, or left
abbrev pub DoesLog : NodeVote → ℕ → ℕ → ℕ → ℕ → NodeVote → List Packet → Type 0
DoesLog v f g l e u s = (MayTakeAll v g l e × (u ≡ acted v (action.Take g l)) × (s ≡ packet f (Ack v.node g l) 0 ∷ [])) ⊎ ((MayTakeAll v g l e → ⊥) × (u ≡ v) × (s ≡ []))

-- any other message: one action
pub record Acts (v : NodeVote) (m : Message) (u : NodeVote) (s : List Packet) : Type 0 where
  pub done : Action
  pub decides : AllowsExactly v m done
  pub most : IsMost v m done
  pub changes : u ≡ acted (counted v m) done
  pub sends : s ≡ packets_of u done (sender_of m)

abbrev pub Does : NodeVote → Message → ℕ → NodeVote → List Packet → Type 0
Does v (Adopt f g l) e u s = DoesLog v f g l e u s
Does v (Ship f g l) e u s = DoesLog v f g l e u s
Does v m e u s = Acts v m u s

abbrev pub Came : NodeVote → Packet → NodeVote → List Packet → Type 0
Came v p u s = ((u.up ≡ false) × (s ≡ [])) ⊎ ((v.up ≡ true) × Does v p.message p.entries u s)

-- a log that may be taken to its end joins, and the node takes some of it
pub all_joins : (v : NodeVote) (g l e : ℕ) → MayTakeAll v g l e → (l ≤ v.length + e) × (v.accepted < g → e ≡ l)
all_joins v g l e j = go j.1
  where
    go : ((v.accepted < g) × (e ≡ l)) ⊎ ((v.accepted ≡ g) × (v.length ≤ l) × (l ≤ v.length + e)) → (l ≤ v.length + e) × (v.accepted < g → e ≡ l)
    go (inl t) = ((let x : e ≡ l = t.1 in omega arith), λ lt. t.1)
    go (inr t) = (t.2, λ lt. absurd (let x : v.accepted ≡ g = t.0 in omega arith))

pub all_takes : (v : NodeVote) (g l e : ℕ) → v.up ≡ true → MayTakeAll v g l e → (x : ℕ) × MayTake v g l x
all_takes v g l e up j = go j.1
  where
    go : ((v.accepted < g) × (e ≡ l)) ⊎ ((v.accepted ≡ g) × (v.length ≤ l) × (l ≤ v.length + e)) → (x : ℕ) × MayTake v g l x
    go (inl t) = (l, (up, j.0, inl (t.0, refl)))
    go (inr t) = elim (lt_or_eq v.length l t.1) [ inl a ↦ (v.length + 1, (up, j.0, inr (inl (t.0, (a, refl))))) | inr a ↦ (l, (up, j.0, inr (inr (t.0, (a, refl))))) ]

-- what is taken, and joins, may be taken to its end
pub takes_all : (v : NodeVote) (g l e x : ℕ) → MayTake v g l x → l ≤ v.length + e → (v.accepted < g → e ≡ l) → MayTakeAll v g l e
takes_all v g l e x may near whole = (may.1, go may.2)
  where
    go : Takes v g l x → ((v.accepted < g) × (e ≡ l)) ⊎ ((v.accepted ≡ g) × (v.length ≤ l) × (l ≤ v.length + e))
    go (inl t) = inl (t.0, whole t.0)
    go (inr (inl t)) = inr (t.0, (let a : v.length < l = t.1.0 in omega arith), near)
    go (inr (inr t)) = inr (t.0, (let a : v.length ≡ l = t.1.0 in omega arith), near)

taken : (v u : NodeVote) (f g l e h x : ℕ) (s : List Packet) → MayTake v g l x → h ≡ g → l ≤ v.length + e → (v.accepted < g → e ≡ l) → u ≡ acted v (action.Take h l) → s ≡ packet f (Ack u.node h l) 0 ∷ [] → DoesLog v f g l e u s
taken v u f g l e h x s may gen near whole same sent = inl (
  takes_all v g l e x may near whole,
  subst (λ j. u ≡ acted v (action.Take j l)) gen same,
  subst (λ j. s ≡ packet f (Ack v.node j l) 0 ∷ []) gen (subst (λ j. s ≡ packet f (Ack j h l) 0 ∷ []) (ap (λ z. z.node) same) sent),
)

left : (v u : NodeVote) (f g l e : ℕ) (s : List Packet) → (MayTakeAll v g l e → ⊥) → u ≡ v → s ≡ [] → DoesLog v f g l e u s
left v u f g l e s never same sent = inr (never, same, sent)

joined : (v : NodeVote) (m : Message) (e : ℕ) (a : Action) → (a ≡ action.Nothing → ⊥) → Judges v m e a → Joins v m e × AllowsExactly v m a
joined v m e a some (inl t) = t
joined v m e a some (inr t) = absurd (some t.1)

adopt_does : (v u : NodeVote) (f g l e : ℕ) (s : List Packet) → v.up ≡ true → Answers v (Adopt f g l) e u s → DoesLog v f g l e u s
adopt_does v u f g l e s up t = go t.action t.judged t.changes t.sends
  where
    never : Judges v (Adopt f g l) e action.Nothing → MayTakeAll v g l e → ⊥
    never (inl j) all = let r = all_takes v g l e up all in j.1 (action.Take g r.0) (r.1, refl)
    never (inr j) all = let r = all_joins v g l e all in j.0 (record { reaches = r.0; whole = r.1 })

    go : (a : Action) → Judges v (Adopt f g l) e a → u ≡ acted v (through (Adopt f g l) a) → s ≡ packets_of u (through (Adopt f g l) a) f → DoesLog v f g l e u s
    go action.Nothing j c w = left v u f g l e s (never j) c w
    go (action.Take h x) j c w = let d = joined v (Adopt f g l) e (action.Take h x) (λ q. absurd (cc)) j in taken v u f g l e h x s d.1.0 d.1.1 d.0.reaches d.0.whole c w
    go (action.Promise h to) j c w = absurd (joined v (Adopt f g l) e (action.Promise h to) (λ q. absurd (cc)) j).1
    go (action.Lead h) j c w = absurd (joined v (Adopt f g l) e (action.Lead h) (λ q. absurd (cc)) j).1
    go (action.Know d) j c w = absurd (joined v (Adopt f g l) e (action.Know d) (λ q. absurd (cc)) j).1
    go (action.Answer m to) j c w = absurd (joined v (Adopt f g l) e (action.Answer m to) (λ q. absurd (cc)) j).1

ship_does : (v u : NodeVote) (f g l e : ℕ) (s : List Packet) → v.up ≡ true → Answers v (Ship f g l) e u s → DoesLog v f g l e u s
ship_does v u f g l e s up t = go t.action t.judged t.changes t.sends
  where
    never : Judges v (Ship f g l) e action.Nothing → MayTakeAll v g l e → ⊥
    never (inl j) all = let r = all_takes v g l e up all in j.1 (action.Take g r.0) (r.1, refl)
    never (inr j) all = let r = all_joins v g l e all in j.0 (record { reaches = r.0; whole = r.1 })

    go : (a : Action) → Judges v (Ship f g l) e a → u ≡ acted v (through (Ship f g l) a) → s ≡ packets_of u (through (Ship f g l) a) f → DoesLog v f g l e u s
    go action.Nothing j c w = left v u f g l e s (never j) c w
    go (action.Take h x) j c w = let d = joined v (Ship f g l) e (action.Take h x) (λ q. absurd (cc)) j in taken v u f g l e h x s d.1.0 d.1.1 d.0.reaches d.0.whole c w
    go (action.Promise h to) j c w = absurd (joined v (Ship f g l) e (action.Promise h to) (λ q. absurd (cc)) j).1
    go (action.Lead h) j c w = absurd (joined v (Ship f g l) e (action.Lead h) (λ q. absurd (cc)) j).1
    go (action.Know d) j c w = absurd (joined v (Ship f g l) e (action.Know d) (λ q. absurd (cc)) j).1
    go (action.Answer m to) j c w = absurd (joined v (Ship f g l) e (action.Answer m to) (λ q. absurd (cc)) j).1

-- a message that ships nothing always joins
acts : (v u : NodeVote) (m : Message) (e : ℕ) (s : List Packet) → ((g l : ℕ) → Allows v m (action.Take g l) → ⊥) → Joins v m e → Answers v m e u s → Acts v m u s
acts v u m e s none joins t = go t.action t.judged t.most t.changes t.sends
  where
    decided : (a : Action) → Judges v m e a → AllowsExactly v m a
    decided a (inl j) = j.1
    decided a (inr j) = absurd (j.0 joins)

    go : (a : Action) → Judges v m e a → IsMost v m a → u ≡ acted (counted v m) (through m a) → s ≡ packets_of u (through m a) (sender_of m) → Acts v m u s
    go action.Nothing j b c w = record { done = action.Nothing; decides = decided action.Nothing j; most = b; changes = c; sends = w }
    go (action.Promise h to) j b c w = record { done = action.Promise h to; decides = decided (action.Promise h to) j; most = b; changes = c; sends = w }
    go (action.Lead h) j b c w = record { done = action.Lead h; decides = decided (action.Lead h) j; most = b; changes = c; sends = w }
    go (action.Know d) j b c w = record { done = action.Know d; decides = decided (action.Know d) j; most = b; changes = c; sends = w }
    go (action.Answer x to) j b c w = record { done = action.Answer x to; decides = decided (action.Answer x to) j; most = b; changes = c; sends = w }
    go (action.Take h x) j b c w = absurd (none h x (decided (action.Take h x) j))

pub none_joins : (v : NodeVote) (e : ℕ) → (0 ≤ v.length + e) × (v.accepted < 0 → e ≡ 0)
none_joins v e = (omega arith, λ lt. absurd (omega arith))

pub does : (v u : NodeVote) (m : Message) (e : ℕ) (s : List Packet) → v.up ≡ true → Answers v m e u s → Does v m e u s
does v u (Adopt f g l) e s up t = adopt_does v u f g l e s up t
does v u (Ship f g l) e s up t = ship_does v u f g l e s up t
does v u (Vote f g a l) e s up t = let j = none_joins v e in acts v u (Vote f g a l) e s (λ h x d. d) (record { reaches = j.0; whole = j.1 }) t
does v u (Granted f g to) e s up t = let j = none_joins v e in acts v u (Granted f g to) e s (λ h x d. d) (record { reaches = j.0; whole = j.1 }) t
does v u (Ack f g l) e s up t = let j = none_joins v e in acts v u (Ack f g l) e s (λ h x d. d) (record { reaches = j.0; whole = j.1 }) t
does v u (Durable f g l) e s up t = let j = none_joins v e in acts v u (Durable f g l) e s (λ h x d. d) (record { reaches = j.0; whole = j.1 }) t
does v u (Ping f g t d) e s up x = let j = none_joins v e in acts v u (Ping f g t d) e s (λ h y d. d) (record { reaches = j.0; whole = j.1 }) x
does v u (Pong f g t) e s up x = let j = none_joins v e in acts v u (Pong f g t) e s (λ h y d. d) (record { reaches = j.0; whole = j.1 }) x

pub came : (v u : NodeVote) (p : Packet) (s : List Packet) → Outcome v p u s → Came v p u s
came v u p s (inl t) = inl t
came v u p s (inr t) = inr (t.0, does v u p.message p.entries s t.0 t.1)

pub does_of : {at to : ℕ → NodeVote} {p : Packet} {s : List Packet} → Delivered at to p s → Came (at p.to) p (to p.to) s
does_of {at} {to} {p} {s} d = came (at p.to) (to p.to) p s d.outcome
