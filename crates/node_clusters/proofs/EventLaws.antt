-- By what nodes do while packets are delivered none comes up, and none falls but by a fault.
use Rattle.std.proofs.Common.{ℕ, ◌≡◌, ◌+◌, ◌-◌, List, [], ◌∷◌, ◌++◌, arith, refl}
use Rattle.std.specs.Prelude.{zero, suc, Bool, true, false, ltb, if◌then◌else◌}
use Rattle.cluster_steps.specs.declared.events.Event.{Event}
use Rattle.cluster_steps.specs.declared.events.Event.TheVariants as event
use Rattle.election_core.specs.declared.messages.Action.{Action}
use Rattle.election_core.specs.declared.messages.Action.TheVariants as action
use Rattle.election_core.specs.declared.messages.Message.{Message}
use Rattle.election_core.specs.declared.messages.Message.TheVariants.{Vote, Granted, Adopt, Ship, Ack, Durable, Ping, Pong}
use Rattle.election_core.specs.declared.votes.NodeVote.{NodeVote}
use Rattle.node_clusters.specs.Events.{AreCalm, AreNoUps, IsNoUp, fall_of, falls_in}
use Rattle.node_state.specs.Calls.{IsAppend, events_by, takes, takes_of}
use Rattle.node_state.specs.Packets.{shipped_length}
use Rattle.phys_log.specs.declared.entries.Entry.{Entry}

pub no_ups_join : (es fs : List Event) → AreNoUps es → AreNoUps fs → AreNoUps (es ++ fs)
no_ups_join [] fs a b = b
no_ups_join (e ∷ es) fs a b = (a.0, no_ups_join es fs a.1 b)

pub falls_join : (es fs : List Event) → falls_in (es ++ fs) ≡ falls_in es + falls_in fs
falls_join [] fs = let r : falls_in fs ≡ 0 + falls_in fs = omega arith in r
falls_join (e ∷ es) fs =
    let rest = falls_join es fs in
    let r : fall_of e + falls_in (es ++ fs) ≡ (fall_of e + falls_in es) + falls_in fs = omega arith in
    r

calm_one : (e : Event) → IsNoUp e → fall_of e ≡ 0 → AreCalm (e ∷ [])
calm_one e up falls = record { no_ups = (up, tt); no_falls = (let r : fall_of e + 0 ≡ 0 = omega arith in r) }

pub calm_none : AreCalm []
calm_none = record { no_ups = tt; no_falls = refl }

calm_join : (es fs : List Event) → AreCalm es → AreCalm fs → AreCalm (es ++ fs)
calm_join es fs a b = record {
  no_ups = no_ups_join es fs a.no_ups b.no_ups;
  no_falls = (let x = falls_join es fs in let y : falls_in es ≡ 0 = a.no_falls in let z : falls_in fs ≡ 0 = b.no_falls in omega arith);
}

-- it takes entries
pub calm_takes : (g l k : ℕ) → AreCalm (takes g l k)
calm_takes g l zero = calm_none
calm_takes g l (suc k) = calm_join (takes g l k) (event.Take g (l + suc k) ∷ []) (calm_takes g l k) (calm_one (event.Take g (l + suc k)) tt refl)

calm_takes_of : (v : NodeVote) (m : Message) (g l : ℕ) → AreCalm (takes_of v m g l)
calm_takes_of v m g l = go (ltb v.accepted g) (ltb v.length l)
  where
    go : (a b : Bool) → AreCalm (if a then event.Take g l ∷ [] else if b then takes g v.length (shipped_length m - v.length) else event.Take g l ∷ [])
    go true b = calm_one (event.Take g l) tt refl
    go false true = calm_takes g v.length (shipped_length m - v.length)
    go false false = calm_one (event.Take g l) tt refl

-- it does something about a message
pub calm_by : (v : NodeVote) (m : Message) (a : Action) → AreCalm (events_by v m a)
calm_by v m action.Nothing = calm_none
calm_by v m (action.Promise g to) = calm_one (event.Grant g to) tt refl
calm_by v m (action.Lead g) = calm_one (event.Lead g) tt refl
calm_by v m (action.Take g l) = calm_takes_of v m g l
calm_by v m (action.Know d) = calm_one (event.Learn d) tt refl
calm_by v m (action.Answer (Pong f g t) to) = calm_one (event.Confirm t g) tt refl
calm_by v m (action.Answer (Vote f g a l) to) = calm_none
calm_by v m (action.Answer (Granted f g t) to) = calm_none
calm_by v m (action.Answer (Adopt f g l) to) = calm_none
calm_by v m (action.Answer (Ship f g l) to) = calm_none
calm_by v m (action.Answer (Ack f g l) to) = calm_none
calm_by v m (action.Answer (Durable f g l) to) = calm_none
calm_by v m (action.Answer (Ping f g t d) to) = calm_none

pub calm_stand : (g : ℕ) → AreCalm (event.Stand g ∷ [])
calm_stand g = calm_one (event.Stand g) tt refl

pub calm_append : (e : Entry) (x : Event) → IsAppend e x → AreCalm (x ∷ [])
calm_append e (event.Append next) h = calm_one (event.Append next) tt refl
calm_append e _ h = absurd h

-- it falls by a fault, behind such events
pub falls_once : (es : List Event) → AreCalm es → AreNoUps (es ++ event.Down true ∷ []) × (falls_in (es ++ event.Down true ∷ []) ≡ 1)
falls_once es a = (
  no_ups_join es (event.Down true ∷ []) a.no_ups (tt, tt),
  (let x = falls_join es (event.Down true ∷ []) in let y : falls_in es ≡ 0 = a.no_falls in let z : falls_in (event.Down true ∷ []) ≡ 1 = refl in omega arith),
)
