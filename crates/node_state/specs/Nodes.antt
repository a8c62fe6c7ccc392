-- When a node is the history's node: its numbers and its log are those of its part after what its actor saw.
use Rattle.std.specs.Prelude.{ℕ, ◌≡◌, ◌≤◌, List, [], ◌∷◌, None, map, replicate, false}
use Rattle.actor_trace.specs.Actors.{Knows}
use Rattle.cluster_consensus.specs.Events.{NodeEvent, change}
use Rattle.cluster_events.specs.Arms.{last_fired, fired_by}
use Rattle.cluster_events.specs.Parts.{ActorEvent}
use Rattle.cluster_events.specs.Settings.{Setting}
use Rattle.cluster_requests.specs.KeptEntries.{KeptEntry, plain}
use Rattle.cluster_steps.specs.Guards.{IsPlan, MayTakeStep, AreLegalSteps}
use Rattle.cluster_steps.specs.Named.{named, steps, world}
use Rattle.cluster_steps.specs.declared.events.Event.{Event}
use Rattle.election_core.specs.Told.{IsPart, IsCounted}
use Rattle.election_core.specs.declared.votes.NodeVote.{NodeVote}
use Rattle.phys_log.specs.Logs.{IsLog}
use Rattle.phys_log.specs.declared.entries.Entry.{Entry}

-- a node with these numbers and this log, which is the history's node after what was seen
pub record IsNode (G : Setting) (v : NodeVote) (log : List Entry) (seen : List (ℕ × Event)) : Type 0 where
  pub low : 1 ≤ v.node
  pub high : v.node ≤ G.nodes
  pub nodes_is : v.nodes ≡ G.nodes
  pub few : G.nodes ≤ 7
  pub plan : IsPlan G
  pub legal : AreLegalSteps G seen
  -- no arm is its own
  pub unarmed : last_fired v.node (steps G seen) ≡ None
  pub part : IsPart v ((world G seen).nodes v.node)
  pub log_is : log ≡ map plain ((world G seen).nodes v.node).log
  pub logged : IsLog log
  pub counted : IsCounted (world G seen) v

-- a node as contracts see it: its numbers, its log, and what its actor did and knows
pub record Held : Type 0 where
  pub vote : NodeVote
  pub entries : List Entry
  pub actor : Knows Event

abbrev pub held : NodeVote → List Entry → Knows Event → Held
held v es a = record { vote = v; entries = es; actor = a }

-- it is the history's node, by an actor of its number
pub record IsOwn (G : Setting) (h : Held) : Type 0 where
  pub node : IsNode G h.vote h.entries h.actor.seen
  pub number_is : h.vote.node ≡ h.actor.number

-- the numbers of a node that did nothing yet
abbrev pub blank_vote : ℕ → ℕ → NodeVote
blank_vote node nodes = record { node = node; nodes = nodes; promised = 0; accepted = 0; length = 0; adopted = 0; durable = 0; granted = 0; acked = replicate 7 0; leading = false; up = false }

-- the events of an actor's steps, the oldest first
abbrev pub events_of : List (ℕ × Event) → List Event
events_of [] = []
events_of (x ∷ xs) = x.1 ∷ events_of xs

-- a node's event may happen after what was seen, and these numbers and this log are what it makes of the node's part
pub record Follows (G : Setting) (i : ℕ) (e : Event) (u : NodeVote) (log : List Entry) (seen : List (ℕ × Event)) : Type 0 where
  pub low : 1 ≤ i
  pub high : i ≤ G.nodes
  pub few : G.nodes ≤ 7
  pub may : MayTakeStep G seen i e
  -- it lets no arm fire
  pub silent : (g : List (ℕ × ActorEvent)) → fired_by g i (named G g i e) ≡ None
  pub core : NodeEvent KeptEntry
  pub name : named G (steps G seen) i e ≡ ActorEvent.Node core
  pub part : IsPart u (change i ((world G seen).nodes i) core)
  pub log_is : log ≡ map plain (change i ((world G seen).nodes i) core).log
  pub logged : IsLog log
  pub counted : IsCounted (world G seen) u
  pub same : u.node ≡ i
  pub nodes : u.nodes ≡ G.nodes
