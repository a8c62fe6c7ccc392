-- The log over the store is the node's. Where the store fails the node goes down, and what the store may hold then it may come up
-- with.
--
-- A store that failed holds the log of the node as it was, the same with another promise, or what the event that was under way
-- would have left. By the acceptance and the length of what it is found to hold the node knows which: as they were, it is the log
-- as it was; else it is what was under way.
use Rattle.std.specs.declared.snapshot.Snapshot.{Snapshot}
use Rattle.std.specs.Prelude.{ℕ, ◌≡◌, ◌≤◌, ◌==◌, ◌&&◌, true, false, cond, Option, None, Some, Result, Ok, Err, List, [], ◌∷◌, length}
use Rattle.actor_trace.specs.Actors.{Knows}
use Rattle.cdb_outside.specs.Faults.{Rose}
use Rattle.cdb_values.specs.Rows.{Rows}
use Rattle.cluster_events.specs.Parts.{field}
use Rattle.cluster_events.specs.Settings.{Setting}
use Rattle.cluster_requests.specs.Requests.{Field}
use Rattle.cluster_steps.specs.Named.{steps, world}
use Rattle.cluster_steps.specs.declared.events.Event.{Event}
use Rattle.cluster_steps.specs.declared.events.Woken.{Woken}
use Rattle.cluster_steps.specs.declared.events.Woken.TheVariants as woken
use Rattle.election_core.specs.declared.messages.Message.{Message}
use Rattle.election_core.specs.declared.votes.NodeVote.{NodeVote}
use Rattle.kept_log.specs.Kept.{HoldsAny, IsAny, OverStore, kept_by, stopped_from}
use Rattle.node_reading.specs.declared.readings.WhyUnread.{WhyUnread}
use Rattle.node_reading.specs.declared.readings.WhyUnread.TheVariants as why
use Rattle.phys_log.specs.declared.entries.Entry.{Entry}
use Rattle.node_state.specs.declared.faults.UnderWay.{UnderWay}
use Rattle.node_state.specs.declared.faults.UnderWay.TheVariants as way
use Rattle.node_state.specs.declared.steps.Started.{Started}
use Rattle.node_state.specs.declared.steps.Started.TheVariants as started
use Rattle.node_state.specs.declared.steps.Step.{Step}
use Rattle.node_state.specs.declared.steps.Step.TheVariants as step
use Rattle.node_state.specs.Calls.{FallsPartly, IsAsBefore, IsPartly}
use Rattle.node_state.specs.Nodes.{Held, IsOwn, held}
use Rattle.node_state.specs.Restarts.{Falls, IsStartTold, Kept, MayWake, Wakes, kept}

-- a node as contracts see it: its numbers, its log, what its actor did and knows, and its log over its store
pub record Stored : Type 0 where
  pub vote : NodeVote
  pub entries : List Entry
  pub actor : Knows Event
  pub over : OverStore

abbrev pub stored : NodeVote → Knows Event → OverStore → Stored
stored v a o = record { vote = v; entries = o.entries; actor = a; over = o }

-- without its store
abbrev pub held_of : Stored → Held
held_of n = held n.vote n.entries n.actor

-- it has the node's numbers, and is open exactly where the node is up
pub record IsKeptBy (v : NodeVote) (o : OverStore) : Type 0 where
  pub node : o.node ≡ v.node
  pub promised : o.promised ≡ v.promised
  pub accepted : o.accepted ≡ v.accepted
  pub is_open : o.is_open ≡ v.up

-- numbers of the same node, which is up, with this promise and this acceptance
pub record HasNumbers (v : NodeVote) (promised accepted : ℕ) (u : NodeVote) : Type 0 where
  pub node : u.node ≡ v.node
  pub up : u.up ≡ true
  pub promise : u.promised ≡ promised
  pub acceptance : u.accepted ≡ accepted

-- how a node comes up with what an event would have left that was under way
abbrev pub woken_of : UnderWay → Woken
woken_of way.Nothing = woken.AsLeft
woken_of way.Lead = woken.Led
woken_of way.Take = woken.Took
woken_of way.Append = woken.Appended

-- and how with an acceptance and a log of that length
abbrev pub how_of : NodeVote → UnderWay → ℕ → ℕ → Woken
how_of v u a l = cond (a == v.accepted && l == v.length) woken.AsLeft (woken_of u)

-- what the store may hold: the log as it was, the same with another promise, and what the event would have left
abbrev pub lasting : ℕ → ℕ → List Entry → ℕ → Option Kept → List Kept
lasting p a es q None = kept p a es ∷ kept q a es ∷ []
lasting p a es q (Some next) = kept p a es ∷ kept q a es ∷ next ∷ []

-- what the event would have left is of another acceptance or another length, and the node may come up with it
abbrev pub MayBeNext : Setting → Field → NodeVote → Woken → Option Kept → Type 0
MayBeNext G f v how None = Unit {0}
MayBeNext G f v how (Some k) = (k.accepted ≡ v.accepted → length k.entries ≡ v.length → ⊥) × MayWake G f v.node how k

-- a node that is down, and was up: what its store may hold, it may come up with
pub record MayReturn (G : Setting) (h : Held) (o : OverStore) (u : UnderWay) : Type 0 where
  pub was_up : ((world G h.actor.seen).nodes h.vote.node).was_up ≡ true
  pub promise : ℕ
  pub least : h.vote.promised ≤ promise
  pub next : Option Kept
  pub holds : HoldsAny o (lasting h.vote.promised h.vote.accepted h.entries promise next)
  pub may : MayBeNext G (field (steps G h.actor.seen)) h.vote (woken_of u) next

-- the history's node over its store
pub record IsStored (G : Setting) (h : Held) (o : OverStore) (u : UnderWay) : Type 0 where
  pub own : IsOwn G h
  pub over : IsKeptBy h.vote o
  pub down : h.vote.up ≡ false → ((world G h.actor.seen).nodes h.vote.node).was_up ≡ true → MayReturn G h o u

-- no call of the store failed, and it is of the same cluster
abbrev pub IsCalm : OverStore → OverStore → Type 0
IsCalm old new = (new.faults ≡ old.faults) × (new.cluster ≡ old.cluster)

-- a call of it failed, and it is of the same cluster
abbrev pub HasFailed : OverStore → OverStore → Type 0
HasFailed old new = Rose old.faults new.faults × (new.cluster ≡ old.cluster)

-- the store failed before an event: the node goes down by a fault and does no such event
pub record FallsOver (G : Setting) (old new : Held) (was now : OverStore) (u : UnderWay) : Type 0 where
  pub falls : Falls true old new
  pub failed : HasFailed was now
  pub returns : MayReturn G new now u

-- so where it may have taken the first entries of a message before
pub record FallsAfter (G : Setting) (m : Message) (es : List Entry) (old new : Held) (was now : OverStore) (u : UnderWay) : Type 0 where
  pub falls : FallsPartly m es old new
  pub failed : HasFailed was now
  pub returns : MayReturn G new now u

-- memory was wanted: it may have taken the first entries of a message, and no call of its store failed
pub record StopsShort (m : Message) (es : List Entry) (old new : Held) (was now : OverStore) : Type 0 where
  pub partly : IsPartly m es old new
  pub calm : IsCalm was now

-- what a call did to the store: no call of it failed where the node sends; it was not asked where the node is down; and where the
-- node tells a fault, its count of faults rose
abbrev pub AsksStore : {A : Type 0} → Step A → OverStore → OverStore → Type 0
AsksStore (step.Sent a) old new = IsCalm old new
AsksStore step.Down old new = new ≡ old
AsksStore step.Fault old new = HasFailed old new

-- whatever the store held it holds
abbrev pub HoldsStill : OverStore → OverStore → Type 0
HoldsStill old new = (ks : List Kept) → HoldsAny old ks → HoldsAny new ks

-- it has one of those that its store held
abbrev pub IsFoundIn : OverStore → OverStore → Type 0
IsFoundIn old new = (ks : List Kept) → HoldsAny old ks → ∥ IsAny (kept_by new) ks ∥₁

-- what a start did to the store: it was opened, and no call of it failed; or its count of faults rose
abbrev pub OpensStore : Started → OverStore → OverStore → Type 0
OpensStore started.Up old new = IsFoundIn old new × IsCalm old new
OpensStore started.Fault old new = HoldsStill old new × HasFailed old new

-- it was opened
pub record WasOpened (old new : OverStore) : Type 0 where
  pub is_open : new.is_open ≡ true
  pub node : new.node ≡ old.node
  pub found : IsFoundIn old new
  pub calm : IsCalm old new

-- it was not, and is stopped as before
pub record StaysShut (old new : OverStore) : Type 0 where
  pub same : new ≡ stopped_from old new.synced new.faults
  pub holds : HoldsStill old new

-- what came of opening it
abbrev pub IsTried : Started → OverStore → OverStore → Type 0
IsTried started.Up old new = WasOpened old new
IsTried started.Fault old new = StaysShut old new × Rose old.faults new.faults

-- memory was wanted at a start: all is as before, and no call of the store failed
pub record IsUnopened (old new : Held) (was now : OverStore) : Type 0 where
  pub same : IsAsBefore old new
  pub holds : HoldsStill was now
  pub calm : IsCalm was now

-- a node that was never up may come up with what its store holds, which stands for these rows
pub record MayBeFirst (G : Setting) (h : Held) (o : OverStore) (how : Woken) : Type 0 where
  pub found : Kept
  pub holds : HoldsAny o (found ∷ [])
  pub may : MayWake G (field (steps G h.actor.seen)) h.vote.node how found

-- how a node comes up with what it finds: for the first time with these rows, or by what was under way
abbrev pub how_by : Option (Snapshot Rows) → NodeVote → UnderWay → Kept → Woken
how_by (Some rows) v u k = woken.First rows
how_by None v u k = how_of v u k.accepted (length k.entries)

-- a start of a node is told, and whatever its store is found to hold it may come up with
pub record MayStart (G : Setting) (h : Held) (o : OverStore) (u : UnderWay) (first : Option (Snapshot Rows)) : Type 0 where
  pub some : List Kept
  pub holds : HoldsAny o some
  pub may : (q : OverStore) → IsFoundIn o q → MayWake G (field (steps G h.actor.seen)) h.vote.node (how_by first h.vote u (kept_by q)) (kept_by q)
  pub told : (k : Kept) → IsStartTold G h.actor.seen h.vote.node (how_by first h.vote u k)

-- what comes of it: it comes up so, with room for a stop; or its store failed, and it goes down once more
abbrev pub IsStartedSo : Started → Woken → Stored → Stored → Type 0
IsStartedSo started.Up how old new = Wakes how (kept_by new.over) (held_of old) (held_of new) × (1 ≤ new.actor.room)
IsStartedSo started.Fault how old new = Falls true (held_of old) (held_of new)

-- what comes of reading it: the node is as before; or its store failed, and it goes down once more
abbrev pub IsRead : {A : Type 0} → Result A WhyUnread → Held → Held → Type 0
IsRead (Ok a) old new = new ≡ old
IsRead (Err why.StoreFault) old new = Falls true old new
IsRead (Err (why.Corrupt at)) old new = new ≡ old
IsRead (Err why.Unsound) old new = new ≡ old
IsRead (Err why.NoMemory) old new = new ≡ old

-- what its store may hold, where it is down and was up before
abbrev pub IsLeft : Setting → Stored → Type 0
IsLeft G n = n.vote.up ≡ false → ((world G n.actor.seen).nodes n.vote.node).was_up ≡ true → (u : UnderWay) × MayReturn G (held_of n) n.over u
