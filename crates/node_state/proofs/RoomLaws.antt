-- How much room the calls of a node take: each event takes room for one.
use Rattle.std.proofs.Common.{ℕ, ◌≡◌, ◌+◌, ◌-◌, ◌≤◌, List, [], ◌∷◌, length, length-append, arith, zero, suc, refl, ◌∙◌}
use Rattle.std.specs.declared.alloc.Global.{Global}
use Rattle.std.specs.Prelude.{Bool, Vec, ltb, if◌then◌else◌, true, false}
use mathlib.Core.Logic.{inl, inr}
use Rattle.cdb_values.specs.declared.tables.TableDef.{TableDef}
use Rattle.cluster_steps.specs.declared.events.Event.{Event}
use Rattle.cluster_steps.specs.declared.events.Event.TheVariants as event
use Rattle.election_core.specs.declared.messages.Action.{Action}
use Rattle.election_core.specs.declared.messages.Action.TheVariants as action
use Rattle.election_core.specs.declared.messages.Message.{Message}
use Rattle.election_core.specs.declared.messages.Message.TheVariants.{Vote, Granted, Adopt, Ship, Ack, Durable, Ping, Pong}
use Rattle.election_core.specs.declared.votes.NodeVote.{NodeVote}
use Rattle.phys_log.specs.declared.entries.Entry.{Entry}
use Rattle.node_state.specs.declared.steps.BeginStep.{BeginStep}
use Rattle.node_state.specs.declared.steps.BeginStep.TheVariants as begun
use Rattle.node_state.specs.declared.steps.Step.{Step}
use Rattle.node_state.specs.declared.steps.Step.TheVariants as step
use Rattle.node_state.specs.Calls.{Did, Falls, IsAsBefore, IsBegun, IsDelivered, IsPartly, IsSetUp, IsStood, Judges, events_by, takes}
use Rattle.node_state.specs.Commits.{IsEntered}
use Rattle.node_state.specs.Nodes.{Held}
use Rattle.node_state.specs.Packets.{SentPacket, shipped_in, shipped_length}

takes_long : (g l k : ℕ) → length (takes g l k) ≡ k
takes_long g l zero = refl
takes_long g l (suc k) =
    let e : length (takes g l (suc k)) ≡ length (takes g l k) + 1 = length-append (takes g l k) (event.Take g (l + suc k) ∷ []) in
    let b : length (takes g l k) ≡ k = takes_long g l k in
    let c : length (takes g l k) + 1 ≡ suc k = omega arith in
    e ∙ c

-- of what is decided about a message
events_long : (v : NodeVote) (m : Message) (es : List Entry) (a : Action) → Judges v m es a → length (events_by v m a) ≤ length es + 1
events_long v m es action.Nothing j = let n : 0 ≤ length es + 1 = omega arith in n
events_long v m es (action.Promise g to) j = let n : 1 ≤ length es + 1 = omega arith in n
events_long v m es (action.Lead g) j = let n : 1 ≤ length es + 1 = omega arith in n
events_long v m es (action.Know d) j = let n : 1 ≤ length es + 1 = omega arith in n
events_long v m es (action.Answer (Pong f g t) to) j = let n : 1 ≤ length es + 1 = omega arith in n
events_long v m es (action.Answer (Vote f g k l) to) j = let n : 0 ≤ length es + 1 = omega arith in n
events_long v m es (action.Answer (Granted f g k) to) j = let n : 0 ≤ length es + 1 = omega arith in n
events_long v m es (action.Answer (Adopt f g l) to) j = let n : 0 ≤ length es + 1 = omega arith in n
events_long v m es (action.Answer (Ship f g l) to) j = let n : 0 ≤ length es + 1 = omega arith in n
events_long v m es (action.Answer (Ack f g l) to) j = let n : 0 ≤ length es + 1 = omega arith in n
events_long v m es (action.Answer (Durable f g l) to) j = let n : 0 ≤ length es + 1 = omega arith in n
events_long v m es (action.Answer (Ping f g t d) to) j = let n : 0 ≤ length es + 1 = omega arith in n
events_long v m es (action.Take g l) (inr x) = let f : action.Take g l ≡ action.Nothing = x.1 in absurd (cc)
events_long v m es (action.Take g l) (inl j) = go (ltb v.accepted g) (ltb v.length l)
  where
    go : (b c : Bool) → length (if b then event.Take g l ∷ [] else if c then takes g v.length (shipped_length m - v.length) else event.Take g l ∷ []) ≤ length es + 1
    go true c = let n : 1 ≤ length es + 1 = omega arith in n
    go false true =
        let k : length (takes g v.length (shipped_length m - v.length)) ≡ shipped_length m - v.length = takes_long g v.length (shipped_length m - v.length) in
        let r : shipped_length m ≤ v.length + length es = j.0.reaches in
        let n : length (takes g v.length (shipped_length m - v.length)) ≤ length es + 1 = omega arith in
        n
    go false false = let n : 1 ≤ length es + 1 = omega arith in n

one_room : (e : Event) (old new : Held) → Did (e ∷ []) old new → old.actor.room ≤ new.actor.room + 1
one_room e old new d = d.room

no_room : (old new : Held) → IsAsBefore old new → old.actor.room ≤ new.actor.room + 1
no_room old new a = let r : old.actor.room ≤ new.actor.room + 0 = a.did.room in omega arith

falls_room : (fault : Bool) (old new : Held) → Falls fault old new → old.actor.room ≤ new.actor.room + 1
falls_room fault old new f = one_room (event.Down fault) old new f.did

pub partly_room : (m : Message) (es : List Entry) (old new : Held) → IsPartly m es old new → old.actor.room ≤ new.actor.room + length es
partly_room m es old new p =
    let r : old.actor.room ≤ new.actor.room + length (takes (shipped_in m) old.vote.length p.taken) = p.did.room in
    let k : length (takes (shipped_in m) old.vote.length p.taken) ≡ p.taken = takes_long (shipped_in m) old.vote.length p.taken in
    let w : p.taken ≤ length es = p.within in
    omega arith

pub stood_room : (g : ℕ) (s : Step (Vec SentPacket Global)) (old new : Held) → IsStood g s old new → old.actor.room ≤ new.actor.room + 1
stood_room g step.Down old new h = no_room old new h.1
stood_room g step.Fault old new h = falls_room true old new h.2
stood_room g (step.Sent ps) old new (up, inl h) = no_room old new h.2
stood_room g (step.Sent ps) old new (up, inr h) = one_room (event.Stand g) old new h.1.did

pub delivered_room : (p : SentPacket) (s : Step (Vec SentPacket Global)) (old new : Held) → IsDelivered p s old new → old.actor.room ≤ new.actor.room + (length p.entries + 1)
delivered_room p step.Down old new h = let r : old.actor.room ≤ new.actor.room + 1 = no_room old new h.1 in omega arith
delivered_room p step.Fault old new h =
    let r : old.actor.room ≤ h.1.mid.actor.room + length p.entries = partly_room p.message p.entries old h.1.mid h.1.partly in
    let q : h.1.mid.actor.room ≤ new.actor.room + 1 = falls_room true h.1.mid new h.1.falls in
    omega arith
delivered_room p (step.Sent ps) old new h =
    let r : old.actor.room ≤ new.actor.room + length (events_by old.vote p.message h.1.action) = h.1.acts.did.room in
    let k : length (events_by old.vote p.message h.1.action) ≤ length p.entries + 1 = events_long old.vote p.message p.entries h.1.action h.1.judged in
    omega arith

pub begun_room : (ask : ℕ) (s : BeginStep (Vec SentPacket Global)) (old new : Held) → IsBegun ask s old new → old.actor.room ≤ new.actor.room + 1
begun_room ask begun.Down old new h = no_room old new h.1
begun_room ask (begun.NotMaster g) old new h = no_room old new h.3
begun_room ask (begun.NotYet d a) old new h = no_room old new h.5
begun_room ask (begun.Sent ps) old new h = one_room (event.Probe ask) old new h.2.did

pub set_up_room : (tables : List TableDef) (s : Step (Vec SentPacket Global)) (old new : Held) → IsSetUp tables s old new → old.actor.room ≤ new.actor.room + 1
set_up_room tables step.Down old new h = no_room old new h.1
set_up_room tables step.Fault old new h = falls_room true old new h.1
set_up_room tables (step.Sent ps) old new h = one_room h.1.event old new h.1.did

pub entered_room : (next : Entry) (s : Step (Vec SentPacket Global)) (old new : Held) → IsEntered next s old new → old.actor.room ≤ new.actor.room + 1
entered_room next step.Down old new h = absurd h
entered_room next step.Fault old new h = falls_room true old new h
entered_room next (step.Sent ps) old new h = one_room h.event old new h.did
