-- Deliveries among three nodes.
use Rattle.std.proofs.Common.{ℕ, ◌≡◌, ◌+◌, ◌*◌, ◌<◌, ◌≤◌, List, [], ◌∷◌, arith, refl, subst}
use Rattle.std.specs.Prelude.{zero, suc, Bool, true, false, cond}
use mathlib.Core.Logic.{◌⊎◌, inl, inr}
use Rattle.election_core.specs.Allowed.{Allows}
use Rattle.election_core.specs.Counts.{reaches, IsReached}
use Rattle.election_core.proofs.Greatest.{reached}
use Rattle.election_core.specs.declared.messages.Action.{Action}
use Rattle.election_core.specs.declared.messages.Action.TheVariants as action
use Rattle.election_core.specs.declared.messages.Message.{Message}
use Rattle.election_core.specs.declared.messages.Message.TheVariants.{Vote, Granted, Adopt, Ack, Durable}
use Rattle.election_core.specs.declared.votes.NodeVote.{NodeVote}
use Rattle.quiet_cluster.specs.Deliveries.{Outcome, OnlyAt, Delivered}
use Rattle.quiet_cluster.specs.Packets.{Packet, packet}
use Rattle.quiet_cluster.specs.ThreeNodes.{three, fresh, voter, leader, follower}
use Rattle.quiet_cluster.proofs.Answered.{none_joins}

pub only1 : (a x b c : NodeVote) → OnlyAt 1 (three a b c) (three x b c)
only1 a x b c zero ne = refl
only1 a x b c (suc zero) ne = absurd (ne refl)
only1 a x b c (suc (suc k)) ne = refl

only2 : (a b x c : NodeVote) → OnlyAt 2 (three a b c) (three a x c)
only2 a b x c zero ne = refl
only2 a b x c (suc zero) ne = refl
only2 a b x c (suc (suc zero)) ne = absurd (ne refl)
only2 a b x c (suc (suc (suc k))) ne = refl

pub only3 : (a b c x : NodeVote) → OnlyAt 3 (three a b c) (three a b x)
only3 a b c x zero ne = refl
only3 a b c x (suc zero) ne = refl
only3 a b c x (suc (suc zero)) ne = refl
only3 a b c x (suc (suc (suc zero))) ne = absurd (ne refl)
only3 a b c x (suc (suc (suc (suc k)))) ne = refl

pub to1 : (a x b c : NodeVote) (m : Message) (e : ℕ) (s : List Packet) → Outcome a (packet 1 m e) x s → Delivered (three a b c) (three x b c) (packet 1 m e) s
to1 a x b c m e s o = record { others = only1 a x b c; outcome = o }

pub to2 : (a b x c : NodeVote) (m : Message) (e : ℕ) (s : List Packet) → Outcome b (packet 2 m e) x s → Delivered (three a b c) (three a x c) (packet 2 m e) s
to2 a b x c m e s o = record { others = only2 a b x c; outcome = o }

pub to3 : (a b c x : NodeVote) (m : Message) (e : ℕ) (s : List Packet) → Outcome c (packet 3 m e) x s → Delivered (three a b c) (three a b x) (packet 3 m e) s
to3 a b c x m e s o = record { others = only3 a b c x; outcome = o }

-- node 2 is asked, and grants
pub grants : Outcome (fresh 2 2 true) (packet 2 (Vote 1 5 3 2) 0) (voter 2) (packet 1 (Granted 2 5 1) 0 ∷ [])
grants =
    let j = none_joins (fresh 2 2 true) 0 in
    inr (refl, record { action = action.Promise 5 1; judged = inl (record { reaches = j.0; whole = j.1 }, ((refl, omega arith, inr (refl, omega arith)), refl, refl)); most = tt; changes = refl; sends = refl })

-- node 1 with its own vote
abbrev pub own_vote : NodeVote
own_vote = record (voter 1) { granted = 2 }

-- it counts its own vote, and is not elected by it
pub counts_own : Outcome (voter 1) (packet 1 (Granted 1 5 1) 0) own_vote []
counts_own =
    let j = none_joins (voter 1) 0 in
    inr (refl, record { action = action.Nothing; judged = inl (record { reaches = j.0; whole = j.1 }, never); most = tt; changes = refl; sends = refl })
  where
    never : (a : Action) → Allows (voter 1) (Granted 1 5 1) a → ⊥
    never (action.Lead h) d = let x : 3 < 2 = d.0.4 in omega arith
    never action.Nothing d = d
    never (action.Promise h to) d = d
    never (action.Take h x) d = d
    never (action.Know n) d = d
    never (action.Answer m to) d = d

-- the vote of node 2 makes it a leader, which ships its log
pub is_elected : Outcome own_vote (packet 1 (Granted 2 5 1) 0) (leader 2 0 0 0 0) (packet 2 (Adopt 1 5 2) 2 ∷ packet 3 (Adopt 1 5 2) 2 ∷ packet 1 (Ack 1 5 2) 0 ∷ [])
is_elected =
    let j = none_joins own_vote 0 in
    inr (refl, record { action = action.Lead 5; judged = inl (record { reaches = j.0; whole = j.1 }, ((refl, refl, refl, omega arith, omega arith), refl)); most = tt; changes = refl; sends = refl })

-- node 2 takes the whole log
pub takes_log : Outcome (voter 2) (packet 2 (Adopt 1 5 2) 2) (follower 2 2 0 true) (packet 1 (Ack 2 5 2) 0 ∷ [])
takes_log = inr (refl, record { action = action.Take 5 2; judged = inl (record { reaches = omega arith; whole = λ lt. refl }, ((refl, omega arith, inl (omega arith, refl)), refl)); most = tt; changes = refl; sends = refl })

-- of three nodes two have to reach a length
reached_two : (x y z d : ℕ) → IsReached (x ∷ y ∷ z ∷ 0 ∷ 0 ∷ 0 ∷ 0 ∷ []) 3 d → ((d ≤ x) × (d ≤ y)) ⊎ ((d ≤ x) × (d ≤ z)) ⊎ ((d ≤ y) × (d ≤ z))
reached_two x y z d r = go (reaches acked d 1) (reaches acked d 2) (reaches acked d 3) refl refl refl
  where
    acked : List ℕ
    acked = x ∷ y ∷ z ∷ 0 ∷ 0 ∷ 0 ∷ 0 ∷ []

    few : (i j k : Bool) → reaches acked d 1 ≡ i → reaches acked d 2 ≡ j → reaches acked d 3 ≡ k → 3 < 2 * (cond k 1 0 + (cond j 1 0 + (cond i 1 0 + 0)))
    few i j k e f g = subst (λ b. 3 < 2 * (cond b 1 0 + (cond j 1 0 + (cond i 1 0 + 0)))) g (subst (λ b. 3 < 2 * (cond (reaches acked d 3) 1 0 + (cond b 1 0 + (cond i 1 0 + 0)))) f (subst (λ b. 3 < 2 * (cond (reaches acked d 3) 1 0 + (cond (reaches acked d 2) 1 0 + (cond b 1 0 + 0)))) e r))

    go : (i j k : Bool) → reaches acked d 1 ≡ i → reaches acked d 2 ≡ j → reaches acked d 3 ≡ k → ((d ≤ x) × (d ≤ y)) ⊎ ((d ≤ x) × (d ≤ z)) ⊎ ((d ≤ y) × (d ≤ z))
    go true true k e f g = inl (reached acked d 0 e, reached acked d 1 f)
    go true false true e f g = inr (inl (reached acked d 0 e, reached acked d 2 g))
    go false true true e f g = inr (inr (reached acked d 1 f, reached acked d 2 g))
    go true false false e f g = let h = few true false false e f g in absurd (omega arith)
    go false true false e f g = let h = few false true false e f g in absurd (omega arith)
    go false false true e f g = let h = few false false true e f g in absurd (omega arith)
    go false false false e f g = let h = few false false false e f g in absurd (omega arith)

-- its own acknowledgement is no majority
pub counts_log : Outcome (leader 2 0 0 0 0) (packet 1 (Ack 1 5 2) 0) (leader 2 0 2 0 0) []
counts_log =
    let j = none_joins (leader 2 0 0 0 0) 0 in
    inr (refl, record { action = action.Nothing; judged = inl (record { reaches = j.0; whole = j.1 }, never); most = tt; changes = refl; sends = refl })
  where
    none : (d : ℕ) → 1 ≤ d → ((d ≤ 2) × (d ≤ 0)) ⊎ ((d ≤ 2) × (d ≤ 0)) ⊎ ((d ≤ 0) × (d ≤ 0)) → ⊥
    none d low (inl h) = let x : d ≤ 0 = h.1 in omega arith
    none d low (inr (inl h)) = let x : d ≤ 0 = h.1 in omega arith
    none d low (inr (inr h)) = let x : d ≤ 0 = h.1 in omega arith

    never : (a : Action) → Allows (leader 2 0 0 0 0) (Ack 1 5 2) a → ⊥
    never (action.Know d) h = none d h.3 (reached_two 2 0 0 d h.5)
    never action.Nothing d = d
    never (action.Lead h) d = d
    never (action.Promise h to) d = d
    never (action.Take h x) d = d
    never (action.Answer m to) d = d

-- with that of node 2 it knows the log as durable, and tells it
pub knows_log : Outcome (leader 2 0 2 0 0) (packet 1 (Ack 2 5 2) 0) (leader 2 2 2 2 0) (packet 2 (Durable 1 5 2) 0 ∷ packet 3 (Durable 1 5 2) 0 ∷ [])
knows_log =
    let j = none_joins (leader 2 0 2 0 0) 0 in
    inr (refl, record { action = action.Know 2; judged = inl (record { reaches = j.0; whole = j.1 }, (refl, refl, refl, omega arith, omega arith, omega arith)); most = most; changes = refl; sends = refl })
  where
    top : (d : ℕ) → ((d ≤ 2) × (d ≤ 2)) ⊎ ((d ≤ 2) × (d ≤ 0)) ⊎ ((d ≤ 2) × (d ≤ 0)) → d ≤ 2
    top d (inl h) = h.0
    top d (inr (inl h)) = h.0
    top d (inr (inr h)) = h.0

    most : (d : ℕ) → Allows (leader 2 0 2 0 0) (Ack 2 5 2) (action.Know d) → d ≤ 2
    most d h = top d (reached_two 2 2 0 d h.5)

-- node 2 is told so
pub hears_log : Outcome (follower 2 2 0 true) (packet 2 (Durable 1 5 2) 0) (follower 2 2 2 true) []
hears_log =
    let j = none_joins (follower 2 2 0 true) 0 in
    inr (refl, record { action = action.Know 2; judged = inl (record { reaches = j.0; whole = j.1 }, (refl, refl, omega arith, omega arith, omega arith, omega arith)); most = λ d h. h.3; changes = refl; sends = refl })

-- a node is down, or falls
pub is_down : (v u : NodeVote) (p : Packet) → u.up ≡ false → Outcome v p u []
is_down v u p e = inl (e, refl)

-- of a longer log its own acknowledgement is no majority: it tells again what is durable
pub tells_again : Outcome (leader 3 2 2 2 0) (packet 1 (Ack 1 5 3) 0) (leader 3 2 3 2 0) (packet 2 (Durable 1 5 2) 0 ∷ packet 3 (Durable 1 5 2) 0 ∷ [])
tells_again =
    let j = none_joins (leader 3 2 2 2 0) 0 in
    inr (refl, record { action = action.Know 2; judged = inl (record { reaches = j.0; whole = j.1 }, (refl, refl, refl, omega arith, omega arith, omega arith)); most = most; changes = refl; sends = refl })
  where
    top : (d : ℕ) → ((d ≤ 3) × (d ≤ 2)) ⊎ ((d ≤ 3) × (d ≤ 0)) ⊎ ((d ≤ 2) × (d ≤ 0)) → d ≤ 2
    top d (inl h) = h.1
    top d (inr (inl h)) = let x : d ≤ 0 = h.1 in omega arith
    top d (inr (inr h)) = h.0

    most : (d : ℕ) → Allows (leader 3 2 2 2 0) (Ack 1 5 3) (action.Know d) → d ≤ 2
    most d h = top d (reached_two 3 2 0 d h.5)

-- node 3 takes the whole log in place of its own
pub takes_all_of_it : Outcome (fresh 3 1 true) (packet 3 (Adopt 1 5 3) 3) (follower 3 3 0 true) (packet 1 (Ack 3 5 3) 0 ∷ [])
takes_all_of_it = inr (refl, record { action = action.Take 5 3; judged = inl (record { reaches = omega arith; whole = λ lt. refl }, ((refl, omega arith, inl (omega arith, refl)), refl)); most = tt; changes = refl; sends = refl })

-- with that of node 3 all of it is durable
pub knows_all : Outcome (leader 3 2 3 2 0) (packet 1 (Ack 3 5 3) 0) (leader 3 3 3 2 3) (packet 2 (Durable 1 5 3) 0 ∷ packet 3 (Durable 1 5 3) 0 ∷ [])
knows_all =
    let j = none_joins (leader 3 2 3 2 0) 0 in
    inr (refl, record { action = action.Know 3; judged = inl (record { reaches = j.0; whole = j.1 }, (refl, refl, refl, omega arith, omega arith, omega arith)); most = most; changes = refl; sends = refl })
  where
    top : (d : ℕ) → ((d ≤ 3) × (d ≤ 2)) ⊎ ((d ≤ 3) × (d ≤ 3)) ⊎ ((d ≤ 2) × (d ≤ 3)) → d ≤ 3
    top d (inl h) = h.0
    top d (inr (inl h)) = h.0
    top d (inr (inr h)) = h.1

    most : (d : ℕ) → Allows (leader 3 2 3 2 0) (Ack 3 5 3) (action.Know d) → d ≤ 3
    most d h = top d (reached_two 3 2 3 d h.5)

pub hears_all : Outcome (follower 3 3 0 true) (packet 3 (Durable 1 5 3) 0) (follower 3 3 3 true) []
hears_all =
    let j = none_joins (follower 3 3 0 true) 0 in
    inr (refl, record { action = action.Know 3; judged = inl (record { reaches = j.0; whole = j.1 }, (refl, refl, omega arith, omega arith, omega arith, omega arith)); most = λ d h. h.3; changes = refl; sends = refl })
