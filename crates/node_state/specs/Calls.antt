-- What each call of a node does: the events that it adds, the node that it leaves, and the packets that it sends.
use Rattle.std.specs.declared.alloc.Global.{Global}
use Rattle.std.specs.declared.snapshot.Snapshot.{Snapshot}
use Rattle.std.specs.Prelude.{Bool, Vec, ℕ, zero, suc, ◌≡◌, ◌+◌, ◌-◌, ◌<◌, ◌≤◌, ◌⊎◌, ltb, if◌then◌else◌, true, false, List, [], ◌∷◌, ◌++◌, length, drop}
use Rattle.actor_trace.specs.Lists.{Begins}
use Rattle.actor_trace.specs.Steps.{Adds}
use Rattle.cdb_values.specs.declared.tables.TableDef.{TableDef}
use Rattle.cluster_events.specs.Settings.{Setting}
use Rattle.cluster_steps.specs.declared.events.Event.{Event}
use Rattle.cluster_steps.specs.declared.events.Event.TheVariants as event
use Rattle.election_core.specs.Allowed.{AllowsExactly, IsMost}
use Rattle.election_core.specs.Counted.{acted, counted}
use Rattle.election_core.specs.Senders.{sender_of}
use Rattle.election_core.specs.declared.messages.Action.{Action}
use Rattle.election_core.specs.declared.messages.Action.TheVariants as action
use Rattle.election_core.specs.declared.messages.Message.{Message}
use Rattle.election_core.specs.declared.messages.Message.TheVariants.{Adopt, Ship, Ack, Pong}
use Rattle.election_core.specs.declared.votes.NodeVote.{NodeVote}
use Rattle.log_rows.specs.Setups.{IsSetup}
use Rattle.phys_log.specs.declared.entries.Entry.{Entry}
use Rattle.node_state.specs.declared.steps.BeginStep.{BeginStep}
use Rattle.node_state.specs.declared.steps.BeginStep.TheVariants as begun
use Rattle.node_state.specs.declared.steps.Step.{Step}
use Rattle.node_state.specs.declared.steps.Step.TheVariants as step
use Rattle.node_state.specs.Nodes.{Held, events_of}
use Rattle.node_state.specs.Packets.{SentPacket, AreBehind, IsPacket, appending_packets, packets_of, standing_packets, probing_packets, shipped_length, shipped_in}

-- it did these events and no other, each of which takes room for one; it may know more
pub record Did (es : List Event) (old new : Held) : Type 0 where
  pub number : new.actor.number ≡ old.actor.number
  pub made : events_of new.actor.made ≡ events_of old.actor.made ++ es
  pub more : Begins old.actor.seen new.actor.seen
  pub room : old.actor.room ≤ new.actor.room + length es

pub record IsAsBefore (old new : Held) : Type 0 where
  pub did : Did [] old new
  pub vote : new.vote ≡ old.vote
  pub entries : new.entries ≡ old.entries

-- the entries of a message join the log of a node with these numbers: no entry is missing between them, and of a generation
-- that it did not accept it gets the whole log
pub record Joins (v : NodeVote) (m : Message) (es : List Entry) : Type 0 where
  pub reaches : shipped_length m ≤ v.length + length es
  pub whole : v.accepted < shipped_in m → length es ≡ shipped_length m

-- a message is dropped where its entries do not join, else by what the node decides about it, which is the most that it allows
abbrev pub Judges : NodeVote → Message → List Entry → Action → Type 0
Judges v m es a = (Joins v m es × AllowsExactly v m a × IsMost v m a) ⊎ ((Joins v m es → ⊥) × (a ≡ action.Nothing))

-- entries are taken one by one behind the first ones, so many
abbrev pub takes : ℕ → ℕ → ℕ → List Event
takes g l zero = []
takes g l (suc k) = takes g l k ++ event.Take g (l + suc k) ∷ []

-- a node takes all that a message ships, a log of a new generation at once, and in the generation that it accepted an entry
-- after the other, or the same length again
abbrev pub takes_of : NodeVote → Message → ℕ → ℕ → List Event
takes_of v m g l = if ltb v.accepted g then event.Take g l ∷ [] else if ltb v.length l then takes g v.length (shipped_length m - v.length) else event.Take g l ∷ []

-- the events of an action about a message
abbrev pub events_by : NodeVote → Message → Action → List Event
events_by v m action.Nothing = []
events_by v m (action.Promise g to) = event.Grant g to ∷ []
events_by v m (action.Lead g) = event.Lead g ∷ []
events_by v m (action.Take g l) = takes_of v m g l
events_by v m (action.Know d) = event.Learn d ∷ []
events_by v m (action.Answer (Pong f g t) to) = event.Confirm t g ∷ []
events_by v m (action.Answer x to) = []

-- the action that is done in the end
abbrev pub through : Message → Action → Action
through m (action.Take g l) = action.Take g (shipped_length m)
through m a = a

-- the log behind the taken entries
abbrev pub taken_log : NodeVote → Message → List Entry → ℕ → ℕ → List Entry → List Entry
taken_log v m es g l log = if ltb v.accepted g then es else if ltb v.length l then log ++ drop (v.length - (shipped_length m - length es)) es else log

abbrev pub log_by : NodeVote → Message → List Entry → Action → List Entry → List Entry
log_by v m es (action.Take g l) log = taken_log v m es g l log
log_by v m es a log = log

-- what an action about a message does
pub record Acts (v : NodeVote) (m : Message) (es : List Entry) (a : Action) (old new : Held) : Type 0 where
  pub did : Did (events_by v m a) old new
  pub vote : new.vote ≡ acted (counted v m) (through m a)
  pub entries : new.entries ≡ log_by v m es a old.entries

-- a node that is up takes a message in with its entries, and sends these packets about it
pub record Answers (m : Message) (es : List Entry) (ps : List SentPacket) (old new : Held) : Type 0 where
  pub action : Action
  pub judged : Judges old.vote m es action
  pub acts : Acts old.vote m es action old new
  pub sends : ps ≡ packets_of new.vote (through m action) new.entries (sender_of m)

-- it stands in a generation above its promise
pub record StandsAsCandidate (g : ℕ) (ps : List SentPacket) (old new : Held) : Type 0 where
  pub did : Did (event.Stand g ∷ []) old new
  pub vote : new.vote ≡ acted old.vote (action.Promise g old.vote.node)
  pub entries : new.entries ≡ old.entries
  pub sends : ps ≡ standing_packets new.vote g

-- as a leader that knows all that it adopted as durable it asks the others to confirm its generation
pub record Probes (ask : ℕ) (ps : List SentPacket) (old new : Held) : Type 0 where
  pub did : Did (event.Probe ask ∷ []) old new
  pub vote : new.vote ≡ old.vote
  pub entries : new.entries ≡ old.entries
  pub sends : ps ≡ probing_packets new.vote ask

-- it asks for nothing: it is no leader that knows all that it adopted as durable
abbrev pub MayProbe : NodeVote → Type 0
MayProbe v = (v.leading ≡ true) × (1 ≤ v.durable) × (v.adopted ≤ v.durable)

-- a message that ships a log
abbrev pub Ships : Message → Type 0
Ships (Adopt f g l) = Unit {0}
Ships (Ship f g l) = Unit {0}
Ships _ = ⊥

-- a node is about to take an entry more of what a message ships
pub record Continues (v : NodeVote) (m : Message) : Type 0 where
  pub ships : Ships m
  pub up : v.up ≡ true
  pub promised : v.promised ≤ shipped_in m
  pub accepted : v.accepted ≡ shipped_in m
  pub less : v.length < shipped_length m

-- the entries of a message behind the first ones of the log, so many
abbrev pub left_of : ℕ → Message → List Entry → List Entry
left_of l m es = drop (l - (shipped_length m - length es)) es

-- it took one entry, and acknowledged it
pub record TakesOne (G : Setting) (m : Message) (es : List Entry) (old new : Held) : Type 0 where
  pub did : Did (event.Take (shipped_in m) (old.vote.length + 1) ∷ []) old new
  pub vote : new.vote ≡ acted old.vote (action.Take (shipped_in m) (old.vote.length + 1))
  pub left : new.entries ++ left_of new.vote.length m es ≡ old.entries ++ left_of old.vote.length m es
  pub acked : IsPacket G (Ack new.vote.node (shipped_in m) new.vote.length) [] new.actor.seen
  pub room : new.actor.room + 1 ≡ old.actor.room

-- a node's numbers when it is down: only that it is not up is changed
abbrev pub down_vote : NodeVote → NodeVote
down_vote v = record v { up = false }

-- it goes down, by a fault or by a stop: it does this one event, and keeps its numbers and its log
pub record Falls (fault : Bool) (old new : Held) : Type 0 where
  pub did : Did (event.Down fault ∷ []) old new
  pub vote : new.vote ≡ down_vote old.vote
  pub entries : new.entries ≡ old.entries

-- its numbers when it took so many entries more in a generation
abbrev pub vote_taken : NodeVote → ℕ → ℕ → NodeVote
vote_taken v g zero = v
vote_taken v g (suc k) = acted v (action.Take g (v.length + suc k))

-- after want of memory it may have taken the first entries, so many
pub record IsPartly (m : Message) (es : List Entry) (old new : Held) : Type 0 where
  pub taken : ℕ
  pub within : taken ≤ length es
  pub did : Did (takes (shipped_in m) old.vote.length taken) old new
  pub vote : new.vote ≡ vote_taken old.vote (shipped_in m) taken
  pub left : new.entries ++ left_of new.vote.length m es ≡ old.entries ++ left_of old.vote.length m es

-- its store failed: it may have taken the first entries, and went down then
pub record FallsPartly (m : Message) (es : List Entry) (old new : Held) : Type 0 where
  pub mid : Held
  pub partly : IsPartly m es old mid
  pub falls : Falls true mid new

-- what comes of standing: nothing of a node that is down, and nothing where the generation is not above its promise
abbrev pub IsStood : ℕ → Step (Vec SentPacket Global) → Held → Held → Type 0
IsStood g step.Down old new = (old.vote.up ≡ false) × IsAsBefore old new
IsStood g step.Fault old new = (old.vote.up ≡ true) × (old.vote.promised < g) × Falls true old new
IsStood g (step.Sent ps) old new = (old.vote.up ≡ true) × (((g ≤ old.vote.promised) × (ps.items ≡ []) × IsAsBefore old new) ⊎ ((old.vote.promised < g) × StandsAsCandidate g ps.items old new))

-- what comes of a packet: nothing of a node that is down
abbrev pub IsDelivered : SentPacket → Step (Vec SentPacket Global) → Held → Held → Type 0
IsDelivered p step.Down old new = (old.vote.up ≡ false) × IsAsBefore old new
IsDelivered p step.Fault old new = (old.vote.up ≡ true) × FallsPartly p.message p.entries old new
IsDelivered p (step.Sent ps) old new = (old.vote.up ≡ true) × Answers p.message p.entries ps.items old new

-- what comes of a begin's question: each answer exactly where it is so
abbrev pub IsBegun : ℕ → BeginStep (Vec SentPacket Global) → Held → Held → Type 0
IsBegun ask begun.Down old new = (old.vote.up ≡ false) × IsAsBefore old new
IsBegun ask (begun.NotMaster g) old new = (old.vote.up ≡ true) × (old.vote.leading ≡ false) × (g ≡ old.vote.promised) × IsAsBefore old new
IsBegun ask (begun.NotYet d a) old new = (old.vote.up ≡ true) × (old.vote.leading ≡ true) × ((d ≡ 0) ⊎ (d < a)) × (d ≡ old.vote.durable) × (a ≡ old.vote.adopted) × IsAsBefore old new
IsBegun ask (begun.Sent ps) old new = (old.vote.up ≡ true) × MayProbe old.vote × Probes ask ps.items old new

-- what is sent about a packet
abbrev pub IsBehind : Message → Step (Vec SentPacket Global) → Type 0
IsBehind m step.Down = Unit {0}
IsBehind m (step.Sent ps) = AreBehind m ps.items
IsBehind m step.Fault = Unit {0}

-- an event appends this entry
abbrev pub IsAppend : Entry → Event → Type 0
IsAppend e (event.Append next) = next.value ≡ e
IsAppend e _ = ⊥

-- it appends this entry, by this event alone
pub record Appends (e : Entry) (old new : Held) : Type 0 where
  pub next : Snapshot Entry
  pub value : next.value ≡ e
  pub did : Did (event.Append next ∷ []) old new
  pub adds : Adds old.actor.number (event.Append next) old.actor.seen new.actor.seen

-- the setup of these tables is the log, and is shipped
pub record SetsUp (tables : List TableDef) (ps : List SentPacket) (old new : Held) : Type 0 where
  pub entry : Entry
  pub made : IsSetup old.vote.accepted tables entry
  pub event : Event
  pub appends : IsAppend entry event
  pub did : Did (event ∷ []) old new
  pub vote : new.vote ≡ record old.vote { length = 1 }
  pub entries : new.entries ≡ entry ∷ []
  pub sends : ps ≡ appending_packets new.vote (entry ∷ [])

-- what comes of a setup: nothing of a node that is down
abbrev pub IsSetUp : List TableDef → Step (Vec SentPacket Global) → Held → Held → Type 0
IsSetUp tables step.Down old new = (old.vote.up ≡ false) × IsAsBefore old new
IsSetUp tables step.Fault old new = (old.vote.up ≡ true) × Falls true old new
IsSetUp tables (step.Sent ps) old new = (old.vote.up ≡ true) × SetsUp tables ps.items old new
