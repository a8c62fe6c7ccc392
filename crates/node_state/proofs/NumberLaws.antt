-- What an action leaves of the numbers that a store keeps.
use Rattle.std.proofs.Common.{ℕ, ◌≡◌, ◌<◌, ◌≤◌, List, arith, refl, sym, subst, ap, ◌∙◌}
use Rattle.std.specs.Prelude.{Bool, true, false, cond}
use mathlib.Core.Logic.{inl, inr}
use Rattle.cluster_events.specs.Settings.{Setting}
use Rattle.cluster_steps.specs.Named.{world}
use Rattle.cluster_steps.specs.declared.events.Event.{Event}
use Rattle.cluster_steps.proofs.StepLaws.{inv_of}
use Rattle.election_core.specs.Allowed.{Allows, AllowsExactly, Takes}
use Rattle.election_core.specs.Counted.{acted, counted, counts_vote, counts_length, with_length}
use Rattle.election_core.specs.Counts.{with_bit}
use Rattle.election_core.specs.declared.messages.Action.{Action}
use Rattle.election_core.specs.declared.messages.Action.TheVariants as action
use Rattle.election_core.specs.declared.messages.Message.{Message}
use Rattle.election_core.specs.declared.messages.Message.TheVariants.{Vote, Granted, Adopt, Ship, Ack, Durable, Ping, Pong}
use Rattle.election_core.specs.declared.votes.NodeVote.{NodeVote}
use Rattle.kept_log.specs.Kept.{OverStore}
use Rattle.phys_log.specs.declared.entries.Entry.{Entry}
use Rattle.node_state.specs.Calls.{Continues}
use Rattle.node_state.specs.Nodes.{IsNode}
use Rattle.node_state.specs.Packets.{shipped_in}
use Rattle.node_state.specs.Stores.{HasNumbers, IsKeptBy}

-- whose they are, whether it is up, its promise and its acceptance
pub record Keeps (v u : NodeVote) : Type 0 where
  pub node : u.node ≡ v.node
  pub up : u.up ≡ v.up
  pub promised : u.promised ≡ v.promised
  pub accepted : u.accepted ≡ v.accepted

keeps : (v : NodeVote) → Keeps v v
keeps v = record { node = refl; up = refl; promised = refl; accepted = refl }

-- what is counted changes none of it
pub counted_keeps : (v : NodeVote) (m : Message) → Keeps v (counted v m)
counted_keeps v (Granted f g to) = go (counts_vote v g to)
  where
    go : (b : Bool) → Keeps v (cond b (record v { granted = with_bit v.granted f }) v)
    go true = record { node = refl; up = refl; promised = refl; accepted = refl }
    go false = keeps v
counted_keeps v (Ack f g l) = go (counts_length v g)
  where
    go : (b : Bool) → Keeps v (cond b (record v { acked = with_length v.acked f l }) v)
    go true = record { node = refl; up = refl; promised = refl; accepted = refl }
    go false = keeps v
counted_keeps v (Vote f g a l) = keeps v
counted_keeps v (Adopt f g l) = keeps v
counted_keeps v (Ship f g l) = keeps v
counted_keeps v (Durable f g l) = keeps v
counted_keeps v (Ping f g t d) = keeps v
counted_keeps v (Pong f g t) = keeps v

same_kept : (v u : NodeVote) (o q : OverStore) → Keeps v u → q ≡ o → IsKeptBy v o → IsKeptBy u q
same_kept v u o q s e k = subst (λ t. IsKeptBy u t) (sym e) (record {
  node = k.node ∙ sym s.node;
  promised = k.promised ∙ sym s.promised;
  accepted = k.accepted ∙ sym s.accepted;
  is_open = k.is_open ∙ sym s.up;
})

-- after an action that a store need not keep
pub kept_nothing : (v u : NodeVote) (m : Message) (a : Action) (o : OverStore) → a ≡ action.Nothing → u ≡ acted (counted v m) a → IsKeptBy v o → IsKeptBy u o
kept_nothing v u m a o is q k =
    let c = counted_keeps v m in
    let e : u ≡ counted v m = q ∙ ap (λ t. acted (counted v m) t) is in
    subst (λ t. IsKeptBy t o) (sym e) (same_kept v (counted v m) o o c refl k)

pub kept_known : (v u w : NodeVote) (m : Message) (a : Action) (d : ℕ) (o q : OverStore) → a ≡ action.Know d → u ≡ acted (counted v m) a → w ≡ u → q ≡ o → IsKeptBy v o → IsKeptBy w q
kept_known v u w m a d o q is e same log k =
    let c = counted_keeps v m in
    let x : w ≡ acted (counted v m) (action.Know d) = same ∙ (e ∙ ap (λ t. acted (counted v m) t) is) in
    subst (λ t. IsKeptBy t q) (sym x) (same_kept v (acted (counted v m) (action.Know d)) o q (record { node = c.node; up = c.up; promised = c.promised; accepted = c.accepted }) log k)

pub kept_answered : (v u w : NodeVote) (m y : Message) (a : Action) (to : ℕ) (o q : OverStore) → a ≡ action.Answer y to → u ≡ acted (counted v m) a → w ≡ u → q ≡ o → IsKeptBy v o → IsKeptBy w q
kept_answered v u w m y a to o q is e same log k =
    let x : w ≡ counted v m = same ∙ (e ∙ ap (λ t. acted (counted v m) t) is) in
    subst (λ t. IsKeptBy t q) (sym x) (same_kept v (counted v m) o q (counted_keeps v m) log k)

pub kept_same : (v w : NodeVote) (o q : OverStore) → w ≡ v → q ≡ o → IsKeptBy v o → IsKeptBy w q
kept_same v w o q same log k = subst (λ t. IsKeptBy t q) (sym same) (subst (λ t. IsKeptBy v t) (sym log) k)

-- what it accepted it promised
pub below : (G : Setting) (v : NodeVote) (log : List Entry) (seen : List (ℕ × Event)) → IsNode G v log seen → v.accepted ≤ v.promised
below G v log seen is =
    let b = ((inv_of G seen is.legal).local v.node).below in
    let p : v.promised ≡ ((world G seen).nodes v.node).promised = is.part.promised in
    let a : v.accepted ≡ ((world G seen).nodes v.node).accepted = is.part.accepted in
    omega arith

-- the same length again
again_gen : (v : NodeVote) (g k l : ℕ) → Takes v g k l → (v.accepted < g → ⊥) → v.accepted ≡ g
again_gen v g k l (inl t) ge = absurd (ge t.0)
again_gen v g k l (inr (inl t)) ge = t.0
again_gen v g k l (inr (inr t)) ge = t.0

taken_gen : (v : NodeVote) (m : Message) (g l : ℕ) → Allows v m (action.Take g l) → (v.up ≡ true) × (v.promised ≤ g) × ((v.accepted < g → ⊥) → v.accepted ≡ g)
taken_gen v (Adopt f h k) g l may =
    let q : g ≡ h = may.1 in
    let le : v.promised ≤ h = may.0.1 in
    (may.0.0, omega arith, λ ge. again_gen v h k l may.0.2 (λ lt. ge (omega arith)) ∙ sym q)
taken_gen v (Ship f h k) g l may =
    let q : g ≡ h = may.1 in
    let le : v.promised ≤ h = may.0.1 in
    (may.0.0, omega arith, λ ge. again_gen v h k l may.0.2 (λ lt. ge (omega arith)) ∙ sym q)
taken_gen v (Vote f h a k) g l may = absurd may
taken_gen v (Granted f h to) g l may = absurd may
taken_gen v (Ack f h k) g l may = absurd may
taken_gen v (Durable f h k) g l may = absurd may
taken_gen v (Ping f h t d) g l may = absurd may
taken_gen v (Pong f h t) g l may = absurd may

pub take_up : (v : NodeVote) (m : Message) (g l : ℕ) → Allows v m (action.Take g l) → v.up ≡ true
take_up v m g l may = (taken_gen v m g l may).0

pub take_promised : (v : NodeVote) (m : Message) (g l : ℕ) → Allows v m (action.Take g l) → v.promised ≤ g
take_promised v m g l may = (taken_gen v m g l may).1

pub kept_again : (G : Setting) (v u w : NodeVote) (log : List Entry) (seen : List (ℕ × Event)) (m : Message) (g l : ℕ) (o q : OverStore) → IsNode G v log seen → Allows v m (action.Take g l) → (v.accepted < g → ⊥)
    → u ≡ acted (counted v m) (action.Take g l) → w ≡ u → q ≡ o → IsKeptBy v o → IsKeptBy w q
kept_again G v u w log seen m g l o q is may ge e same at k =
    let c = counted_keeps v m in
    let t = taken_gen v m g l may in
    let gen : v.accepted ≡ g = t.2 ge in
    let low : v.accepted ≤ v.promised = below G v log seen is in
    let top : v.promised ≤ g = t.1 in
    let all : g ≡ v.promised = omega arith in
    subst (λ x. IsKeptBy x q) (sym (same ∙ e)) (same_kept v (acted (counted v m) (action.Take g l)) o q (record { node = c.node; up = c.up; promised = all; accepted = sym gen }) at k)

-- after a promise
pub stand_numbers : (v u : NodeVote) (g : ℕ) → v.up ≡ true → u ≡ acted v (action.Promise g v.node) → HasNumbers v g v.accepted u
stand_numbers v u g up e = subst (λ t. HasNumbers v g v.accepted t) (sym e) (record { node = refl; up = up; promise = refl; acceptance = refl })

granted : (v : NodeVote) (m : Message) (g to : ℕ) → Allows v m (action.Promise g to) → (v.up ≡ true) × (v.promised < g)
granted v (Vote f h a l) g to may =
    let q : g ≡ h = may.1 in
    let lt : v.promised < h = may.0.1 in
    (may.0.0, omega arith)
granted v (Granted f h k) g to may = absurd may
granted v (Adopt f h l) g to may = absurd may
granted v (Ship f h l) g to may = absurd may
granted v (Ack f h l) g to may = absurd may
granted v (Durable f h l) g to may = absurd may
granted v (Ping f h t d) g to may = absurd may
granted v (Pong f h t) g to may = absurd may

pub grant_up : (v : NodeVote) (m : Message) (a : Action) (g to : ℕ) → a ≡ action.Promise g to → AllowsExactly v m a → v.up ≡ true
grant_up v m a g to is d = (granted v m g to (subst (λ t. AllowsExactly v m t) is d)).0

pub grant_above : (v : NodeVote) (m : Message) (a : Action) (g to : ℕ) → a ≡ action.Promise g to → AllowsExactly v m a → v.promised < g
grant_above v m a g to is d = (granted v m g to (subst (λ t. AllowsExactly v m t) is d)).1

pub grant_numbers : (v u : NodeVote) (m : Message) (a : Action) (g to : ℕ) → a ≡ action.Promise g to → AllowsExactly v m a → u ≡ acted (counted v m) a → HasNumbers v g v.accepted u
grant_numbers v u m a g to is d e =
    let c = counted_keeps v m in
    subst (λ t. HasNumbers v g v.accepted t) (sym (e ∙ ap (λ t. acted (counted v m) t) is))
    (record { node = c.node; up = c.up ∙ grant_up v m a g to is d; promise = refl; acceptance = c.accepted })

-- when it leads
led : (v : NodeVote) (m : Message) (g : ℕ) → Allows v m (action.Lead g) → (v.up ≡ true) × (v.accepted < v.promised) × (g ≡ v.promised)
led v (Granted f h to) g may =
    let c = counted_keeps v (Granted f h to) in
    let p : (counted v (Granted f h to)).promised ≡ v.promised = c.promised in
    let a : (counted v (Granted f h to)).accepted ≡ v.accepted = c.accepted in
    let lt : (counted v (Granted f h to)).accepted < (counted v (Granted f h to)).promised = may.0.3 in
    (sym c.up ∙ may.0.0, omega arith, may.1 ∙ (may.0.2 ∙ p))
led v (Vote f h a k) g may = absurd may
led v (Adopt f h l) g may = absurd may
led v (Ship f h l) g may = absurd may
led v (Ack f h l) g may = absurd may
led v (Durable f h l) g may = absurd may
led v (Ping f h t d) g may = absurd may
led v (Pong f h t) g may = absurd may

pub lead_up : (v : NodeVote) (m : Message) (a : Action) (g : ℕ) → a ≡ action.Lead g → AllowsExactly v m a → v.up ≡ true
lead_up v m a g is d = (led v m g (subst (λ t. AllowsExactly v m t) is d)).0

pub lead_above : (v : NodeVote) (m : Message) (a : Action) (g : ℕ) → a ≡ action.Lead g → AllowsExactly v m a → v.accepted < v.promised
lead_above v m a g is d = (led v m g (subst (λ t. AllowsExactly v m t) is d)).1

pub lead_numbers : (v u : NodeVote) (m : Message) (a : Action) (g : ℕ) → a ≡ action.Lead g → AllowsExactly v m a → u ≡ acted (counted v m) a → HasNumbers v v.promised v.promised u
lead_numbers v u m a g is d e =
    let c = counted_keeps v m in
    let l = led v m g (subst (λ t. AllowsExactly v m t) is d) in
    subst (λ t. HasNumbers v v.promised v.promised t) (sym (e ∙ ap (λ t. acted (counted v m) t) is))
    (record { node = c.node; up = c.up ∙ l.0; promise = c.promised; acceptance = l.2 })

-- when it takes a whole log, and one entry more
pub whole_numbers : (v u : NodeVote) (m : Message) (g l : ℕ) → Allows v m (action.Take g l) → u ≡ acted (counted v m) (action.Take g l) → HasNumbers v g g u
whole_numbers v u m g l may e =
    let c = counted_keeps v m in
    subst (λ t. HasNumbers v g g t) (sym e) (record { node = c.node; up = c.up ∙ take_up v m g l may; promise = refl; acceptance = refl })

pub one_numbers : (G : Setting) (v u : NodeVote) (log : List Entry) (seen : List (ℕ × Event)) (m : Message) (g l : ℕ) → IsNode G v log seen → Continues v m → g ≡ shipped_in m → u ≡ acted v (action.Take g l)
    → HasNumbers v v.promised v.accepted u
one_numbers G v u log seen m g l is c gen e =
    let low : v.accepted ≤ v.promised = below G v log seen is in
    let top : v.promised ≤ shipped_in m = c.promised in
    let acc : v.accepted ≡ shipped_in m = c.accepted in
    let p : g ≡ v.promised = omega arith in
    let a : g ≡ v.accepted = omega arith in
    subst (λ t. HasNumbers v v.promised v.accepted t) (sym e) (record { node = refl; up = c.up; promise = p; acceptance = a })

pub setup_numbers : (v u : NodeVote) → v.up ≡ true → u ≡ record v { length = 1 } → HasNumbers v v.promised v.accepted u
setup_numbers v u up e = subst (λ t. HasNumbers v v.promised v.accepted t) (sym e) (record { node = refl; up = up; promise = refl; acceptance = refl })

pub length_numbers : (v u : NodeVote) (l : ℕ) → v.up ≡ true → u ≡ record v { length = l } → HasNumbers v v.promised v.accepted u
length_numbers v u l up e = subst (λ t. HasNumbers v v.promised v.accepted t) (sym e) (record { node = refl; up = up; promise = refl; acceptance = refl })
