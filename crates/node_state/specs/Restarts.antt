-- A node goes down, and comes up with what its store holds.
--
-- The store is asked before each event. Where it fails there the node goes down by a fault and does no such event, and its store
-- may hold what it held, the same with the promise of the event, or all that the event would have left. Of node 1 with two
-- entries, which promised generation 4 and accepted 3, as its promise, its acceptance and its log:
--
--   to stand in 6              4 3 [a, b]   6 3 [a, b]
--   to lead in 4               4 3 [a, b]                4 4 [a, b]
--   to take the log [c] of 5   4 3 [a, b]   5 3 [a, b]   5 5 [c]
--
-- It comes up with any of these, by an event that says which it is.
use Rattle.std.specs.Prelude.{ℕ, ◌≡◌, ◌⊎◌, ◌≤◌, true, false, List, [], ◌∷◌, length, replicate}
use Rattle.cluster_consensus.specs.Events.{NodeEvent, change}
use Rattle.cluster_events.specs.Arms.{IsStopArmed}
use Rattle.cluster_events.specs.Guards.{IsActedBy, MayStep}
use Rattle.cluster_events.specs.Operator.{IsStartOrdered, IsStopOrdered}
use Rattle.cluster_events.specs.Parts.{lines}
use Rattle.cluster_events.specs.Settings.{Setting, lines_to_do}
use Rattle.cluster_masters.specs.WholeLogs.{Leaves}
use Rattle.cluster_requests.specs.KeptEntries.{KeptEntry}
use Rattle.cluster_requests.specs.Requests.{FieldAct, Field, May}
use Rattle.cluster_steps.specs.Guards.{HasSchema, ComesUpWith, IsTakenLogFound, PagesStand}
use Rattle.cluster_steps.specs.Named.{named_up, steps}
use Rattle.cluster_steps.specs.declared.events.Event.{Event}
use Rattle.cluster_steps.specs.declared.events.Event.TheVariants as event
use Rattle.cluster_steps.specs.declared.events.Woken.{Woken}
use Rattle.cluster_steps.specs.declared.events.Woken.TheVariants as woken
use Rattle.election_core.specs.declared.votes.NodeVote.{NodeVote}
use Rattle.phys_log.specs.Logs.{IsLog}
use Rattle.report_laws.specs.Nodes.{is_up}
pub use Rattle.kept_log.specs.Kept.{Kept, kept}
pub use Rattle.node_state.specs.Calls.{Falls, down_vote}
use Rattle.node_state.specs.declared.steps.Started.{Started}
use Rattle.node_state.specs.declared.steps.Started.TheVariants as started
use Rattle.node_state.specs.Calls.{Did}
use Rattle.node_state.specs.Nodes.{Held}

-- and when it comes up with such a promise, such an acceptance and a log of that length: it knows nothing as durable, counts
-- nothing, and does not lead
abbrev pub woken_vote : NodeVote → ℕ → ℕ → ℕ → NodeVote
woken_vote v p a l = record v { promised = p; accepted = a; length = l; durable = 0; granted = 0; acked = replicate 7 0; leading = false; up = true }

-- the event of the core by which a node comes up so with it
abbrev pub woken_by : Setting → Field → ℕ → Woken → Kept → NodeEvent KeptEntry
woken_by G f i how k = named_up G.nodes f.core (f.core.nodes i) how k.promised k.accepted k.entries

-- an event of the core by which a node may come up, with exactly this; the pages of its log stand then
pub record MayRise (G : Setting) (f : Field) (i : ℕ) (c : NodeEvent KeptEntry) (k : Kept) : Type 0 where
  pub found : ComesUpWith (change i (f.core.nodes i) c) k.promised k.accepted k.entries
  pub may : May G.nodes f i (FieldAct.Core c)
  pub right : MayStep G f i c
  pub by : IsActedBy G.nodes i c
  pub pages : Leaves PagesStand (f.core.nodes i) c × HasSchema G.tables c

-- once its start is ordered, a node may come up so with what its store holds
pub record MayWake (G : Setting) (f : Field) (i : ℕ) (how : Woken) (k : Kept) : Type 0 where
  pub told : IsTakenLogFound G.nodes f.core how k.accepted k.entries
  pub rises : MayRise G f i (woken_by G f i how k) k
  pub logged : IsLog k.entries

-- it may come up so, in one way or another, with each of these
abbrev pub MayWakeAny : Setting → Field → ℕ → List Kept → Type 0
MayWakeAny G f i [] = Unit {0}
MayWakeAny G f i (k ∷ ks) = ((how : Woken) × MayWake G f i how k) × MayWakeAny G f i ks

-- a stop of the node is ordered, or an arm fired that stops it
abbrev pub IsStopTold : Setting → List (ℕ × Event) → ℕ → Type 0
IsStopTold G seen i = IsStopOrdered (lines_to_do G) (steps G seen) i ⊎ IsStopArmed (steps G seen) i

-- a start of it is ordered; or it comes up for the first time, and no line told that it is down
abbrev pub IsStartTold : Setting → List (ℕ × Event) → ℕ → Woken → Type 0
IsStartTold G seen i (woken.First rows) = (is_up i (lines G (steps G seen)) ≡ true) ⊎ IsStartOrdered (lines_to_do G) (steps G seen) i
IsStartTold G seen i _ = IsStartOrdered (lines_to_do G) (steps G seen) i

-- an event by which a node comes up so with it
abbrev pub IsUp : Woken → Kept → Event → Type 0
IsUp how k (event.Up by promised accepted entries) = (by ≡ how) × (promised ≡ k.promised) × (accepted ≡ k.accepted) × (entries.value ≡ k.entries)
IsUp how k _ = ⊥

-- it comes up so with it: it does this one event, and has these numbers and this log
pub record Wakes (how : Woken) (k : Kept) (old new : Held) : Type 0 where
  pub event : Event
  pub up : IsUp how k event
  pub did : Did (event ∷ []) old new
  pub vote : new.vote ≡ woken_vote old.vote k.promised k.accepted (length k.entries)
  pub entries : new.entries ≡ k.entries

-- what comes of a start: it comes up in one way, with room for a stop; or its store failed, and it goes down once more
abbrev pub IsStarted : Started → Held → Held → Type 0
IsStarted started.Up old new = ((how : Woken) × (k : Kept) × Wakes how k old new) × (1 ≤ new.actor.room)
IsStarted started.Fault old new = Falls true old new
