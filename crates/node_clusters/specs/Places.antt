-- The nodes of a run in a list, the first one's number 1; whoever has no place there is down, and did nothing.
use Rattle.std.specs.Prelude.{ℕ, zero, suc, false, List, [], get_or}
use Rattle.actor_trace.specs.Actors.{Knows}
use Rattle.cluster_steps.specs.declared.events.Event.{Event}
use Rattle.election_core.specs.declared.votes.NodeVote.{NodeVote}
use Rattle.kept_log.specs.Kept.{OverStore}
use Rattle.node_state.specs.Stores.{Stored, stored}
use Rattle.quiet_cluster.specs.Places.{nobody}

abbrev pub no_actor : Knows Event
no_actor = record { number = 0; made = []; seen = []; room = 0 }

abbrev pub no_store : OverStore
no_store = record { node = 0; cluster = 0; promised = 0; accepted = 0; entries = []; is_open = false; synced = []; faults = 0 }

abbrev pub no_node : Stored
no_node = stored nobody no_actor no_store

abbrev pub node_at : List Stored → ℕ → Stored
node_at vs zero = no_node
node_at vs (suc j) = get_or vs j no_node

-- the nodes as their numbers
abbrev pub votes : List Stored → ℕ → NodeVote
votes vs k = (node_at vs k).vote
