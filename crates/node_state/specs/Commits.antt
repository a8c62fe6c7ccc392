-- A leader answers a request: by the entry that it appends and ships, or by what it tells of it in place of an entry.
--
-- Node 1 leads in generation 3 with a setup and an entry, and knows the request (3, a, 1) that was sent to it in 3:
--
--   nothing stands against it       Append    its entry is the third; it is shipped, and acknowledged to itself
--   entry 2 touches what it used    Settle    a conflict at 2
--   entry 2 is its own              Settle    a repeat of 2
use Rattle.std.specs.declared.alloc.Global.{Global}
use Rattle.std.specs.Prelude.{Vec, true, ℕ, ◌≡◌, List, [], ◌∷◌, ◌++◌, length}
use Rattle.cluster_consensus.specs.Events.{NodeEvent}
use Rattle.cluster_events.specs.Guards.{MayDo as MayHappen}
use Rattle.cluster_events.specs.Parts.{ActorEvent}
use Rattle.cluster_events.specs.Settings.{Setting}
use Rattle.cluster_steps.specs.Guards.{LeavesPages}
use Rattle.cluster_steps.specs.Named.{kept_over, named_settled, steps, world}
use Rattle.cluster_steps.specs.declared.events.Event.{Event}
use Rattle.cluster_steps.specs.declared.events.Event.TheVariants as event
use Rattle.phys_log.specs.declared.entries.CommitId.{CommitId}
use Rattle.phys_log.specs.declared.entries.Entry.{Entry}
use Rattle.phys_log.specs.declared.requests.Decision.{Decision}
use Rattle.node_state.specs.declared.steps.Step.{Step}
use Rattle.node_state.specs.declared.steps.Step.TheVariants as step
use Rattle.node_state.specs.Calls.{Did, Falls, IsAppend}
use Rattle.node_state.specs.Nodes.{Held}
use Rattle.node_state.specs.Packets.{SentPacket, appending_packets}

-- the event of whole histories by which a node appends an entry, kept with what it makes of the rows before it
abbrev pub appends : Setting → List (ℕ × Event) → ℕ → Entry → ActorEvent
appends G seen i next = ActorEvent.Node (NodeEvent.Append (kept_over ((world G seen).nodes i).log next))

-- an entry may be appended by a node: the whole history allows it, and the pages of the log with it stand
pub record MayEnter (G : Setting) (seen : List (ℕ × Event)) (i : ℕ) (next : Entry) : Type 0 where
  pub may : MayHappen G (steps G seen) i (appends G seen i next)
  pub pages : LeavesPages G (steps G seen) i (appends G seen i next)

-- a node may tell what is decided of a request: the whole history allows it
pub record MaySettle (G : Setting) (seen : List (ℕ × Event)) (i : ℕ) (id : CommitId) (d : Decision) : Type 0 where
  pub may : MayHappen G (steps G seen) i (named_settled G.tables id d)

-- it appends an entry, which it ships
pub record Enters (next : Entry) (ps : List SentPacket) (old new : Held) : Type 0 where
  pub event : Event
  pub appends : IsAppend next event
  pub did : Did (event ∷ []) old new
  pub entries : new.entries ≡ old.entries ++ next ∷ []
  pub vote : new.vote ≡ record old.vote { length = length new.entries }
  pub sends : ps ≡ appending_packets new.vote (next ∷ [])

-- what comes of it, where the node is up
abbrev pub IsEntered : Entry → Step (Vec SentPacket Global) → Held → Held → Type 0
IsEntered next step.Down old new = ⊥
IsEntered next step.Fault old new = Falls true old new
IsEntered next (step.Sent ps) old new = Enters next ps.items old new

-- an event tells that of a request
abbrev pub IsSettle : CommitId → Decision → Event → Type 0
IsSettle id d (event.Settle request told) = (request.value ≡ id) × (told.value ≡ d)
IsSettle id d _ = ⊥

-- it tells that of a request, and keeps its numbers and its log
pub record Settles (id : CommitId) (d : Decision) (old new : Held) : Type 0 where
  pub event : Event
  pub settles : IsSettle id d event
  pub did : Did (event ∷ []) old new
  pub vote : new.vote ≡ old.vote
  pub entries : new.entries ≡ old.entries
