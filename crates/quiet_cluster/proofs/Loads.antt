-- A delivery makes the queue lighter.
use Rattle.std.proofs.Common.{ℕ, ◌≡◌, ◌+◌, ◌*◌, ◌<◌, ◌≤◌, List, [], ◌∷◌, ◌++◌, arith, sym, subst, ap, ◌∙◌}
use Rattle.std.specs.Prelude.{zero, suc, ◌==◌, Bool, true, false, cond}
use mathlib.Core.Logic.{◌⊎◌, inl, inr}
use Rattle.election_core.specs.declared.votes.NodeVote.{NodeVote}
use Rattle.election_core.specs.declared.messages.Message.{Message}
use Rattle.election_core.specs.declared.messages.Message.TheVariants.{Vote, Granted, Adopt, Ship, Ack, Durable, Ping, Pong}
use Rattle.election_core.specs.declared.messages.Action.TheVariants as action
use Rattle.quiet_cluster.specs.Packets.{packet, packets_of, others, Packet}
use Rattle.quiet_cluster.proofs.Answered.{DoesLog, Does, Came, came, does_of}
use Rattle.quiet_cluster.specs.Deliveries.{Outcome, Delivered}
use Rattle.quiet_cluster.specs.Loads.{weight, load}
use Rattle.quiet_cluster.proofs.Acting.{vote_acts, granted_acts, ack_acts, durable_acts, Heard, ping_acts, pong_acts}

pub load_join : (a b : List Packet) → load (a ++ b) ≡ load a + load b
load_join [] b = omega arith
load_join (p ∷ a) b = let r = load_join a b in omega arith

load_others : (k node : ℕ) (m : Message) (e : ℕ) → load (others k node m e) ≤ k * weight m
load_others zero node m e = omega arith
load_others (suc k) node m e = go (suc k == node) (load_others k node m e)
  where
    go : (b : Bool) → load (others k node m e) ≤ k * weight m → load (others k node m e ++ cond b [] (packet (suc k) m e ∷ [])) ≤ suc k * weight m
    go true le = let r = load_join (others k node m e) [] in omega arith
    go false le = let r = load_join (others k node m e) (packet (suc k) m e ∷ []) in omega arith

pub load_none : (s : List Packet) (w : ℕ) → 0 < w → s ≡ [] → load s < w
load_none s w h e = subst (λ z. load z < w) (sym e) h

load_one : (s : List Packet) (x : Packet) (w : ℕ) → weight x.message + 0 < w → s ≡ x ∷ [] → load s < w
load_one s x w h e = subst (λ z. load z < w) (sym e) h

lead_load : (u : NodeVote) (h : ℕ) → u.nodes ≤ 7 → load (packets_of u (action.Lead h) 0) < 4096
lead_load u h few =
    let a = load_others u.nodes u.node (Adopt u.node h u.length) u.length in
    let b = load_join (others u.nodes u.node (Adopt u.node h u.length) u.length) (packet u.node (Ack u.node h u.length) 0 ∷ []) in
    omega arith

know_load : (u : NodeVote) (d : ℕ) → u.nodes ≤ 7 → load (packets_of u (action.Know d) 0) < 64
know_load u d few = go u.leading
  where
    go : (b : Bool) → load (cond b (others u.nodes u.node (Durable u.node u.accepted d) 0) []) < 64
    go true = let a = load_others u.nodes u.node (Durable u.node u.accepted d) 0 in omega arith
    go false = omega arith

log_load : (v u : NodeVote) (f g l e : ℕ) (s : List Packet) → DoesLog v f g l e u s → load s < 512
log_load v u f g l e s (inl t) = load_one s (packet f (Ack v.node g l) 0) 512 (omega arith) t.2
log_load v u f g l e s (inr t) = load_none s 512 (omega arith) t.2

pub lighter : (v u : NodeVote) (x : Message) (e : ℕ) (s : List Packet) → u.nodes ≤ 7 → Does v x e u s → load s < weight x
lighter v u (Vote f h a l) e s few d = elim (vote_acts v u f h a l s d) [ inl t ↦ load_none s 32768 (omega arith) t.1 | inr t ↦ load_one s (packet f (Granted u.node h f) 0) 32768 (omega arith) t.2 ]
lighter v u (Granted f h t) e s few d = elim (granted_acts v u f h t s d) [ inl r ↦ load_none s 4096 (omega arith) r.1 | inr r ↦ subst (λ z. load z < 4096) (sym r.2) (lead_load u h few) ]
lighter v u (Adopt f g l) e s few d = log_load v u f g l e s d
lighter v u (Ship f g l) e s few d = log_load v u f g l e s d
lighter v u (Ack f g l) e s few d = elim (ack_acts v u f g l s d) [ inl r ↦ load_none s 64 (omega arith) r.1 | inr r ↦ subst (λ z. load z < 64) (sym r.sends) (know_load u r.length few) ]
lighter v u (Durable f g l) e s few d = elim (durable_acts v u f g l s d) [ inl r ↦ load_none s 8 (omega arith) r.1 | inr r ↦ silent r u.leading (ap (λ z. z.leading) r.changes ∙ r.may.1) r.sends ]
  where
    silent : (r : Heard v u g l s) (b : Bool) → b ≡ false → s ≡ cond b (others u.nodes u.node (Durable u.node u.accepted r.length) 0) [] → load s < 8
    silent r false q w = load_none s 8 (omega arith) w
    silent r true q w = absurd (cc)
lighter v u (Ping f g t n) e s few d = elim (ping_acts v u f g t n s d).1 [ inl r ↦ load_none s 8 (omega arith) r | inr r ↦ load_one s (packet f (Pong v.node g t) 0) 8 (omega arith) r ]
lighter v u (Pong f g t) e s few d = load_none s 1 (omega arith) (pong_acts v u f g t s d).1

pub weighs : (x : Message) → 0 < weight x
weighs (Vote f h a l) = omega arith
weighs (Granted f h t) = omega arith
weighs (Adopt f g l) = omega arith
weighs (Ship f g l) = omega arith
weighs (Ack f g l) = omega arith
weighs (Durable f g l) = omega arith
weighs (Ping f g t n) = omega arith
weighs (Pong f g t) = omega arith

-- each delivery takes more from the queue than it adds
pub falls : (at to : ℕ → NodeVote) (p : Packet) (ps s : List Packet) → (to p.to).nodes ≤ 7 → Delivered at to p s → load (ps ++ s) < load (p ∷ ps)
falls at to p ps s few d = go (does_of d)
  where
    go : Came (at p.to) p (to p.to) s → load (ps ++ s) < load (p ∷ ps)
    go (inl t) = let a = load_join ps s in let b = load_none s (weight p.message) (weighs p.message) t.1 in omega arith
    go (inr t) = let a = load_join ps s in let b = lighter (at p.to) (to p.to) p.message p.entries s few t.1 in omega arith

-- what comes of a packet weighs less than it
pub lighter_outcome : (v u : NodeVote) (p : Packet) (s : List Packet) → Outcome v p u s → (u.nodes ≤ 7) ⊎ (s ≡ []) → load s < weight p.message
lighter_outcome v u p s o h = go (came v u p s o) h
  where
    go : Came v p u s → (u.nodes ≤ 7) ⊎ (s ≡ []) → load s < weight p.message
    go (inl t) h = load_none s (weight p.message) (weighs p.message) t.1
    go (inr t) (inl few) = lighter v u p.message p.entries s few t.1
    go (inr t) (inr e) = load_none s (weight p.message) (weighs p.message) e
