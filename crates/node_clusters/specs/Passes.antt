-- What a node does while packets are delivered: these events and no other, by none of which it comes up. Who is down does nothing,
-- and stays down. No call of its store failed; or one did, and by that the node went down once.
use Rattle.std.specs.Prelude.{ℕ, ◌≡◌, ◌⊎◌, false, List, [], length}
use Rattle.cdb_outside.specs.Faults.{Rose}
use Rattle.cluster_steps.specs.declared.events.Event.{Event}
use Rattle.node_clusters.specs.Events.{AreNoUps, falls_in}
use Rattle.node_clusters.specs.Places.{node_at}
use Rattle.node_state.specs.Calls.{Did, IsAsBefore}
use Rattle.node_state.specs.Stores.{Stored, held_of}

-- it does nothing, and may know more
pub record Sleeps (es : List Event) (old new : Stored) : Type 0 where
  pub none : es ≡ []
  pub same : IsAsBefore (held_of old) (held_of new)
  pub over : new.over ≡ old.over

-- its count of faults rose just where it fell by one, and it is down then
abbrev pub CountsFaults : List Event → Stored → Stored → Type 0
CountsFaults es old new = ((falls_in es ≡ 0) × (new.over.faults ≡ old.over.faults)) ⊎ ((falls_in es ≡ 1) × (new.vote.up ≡ false) × Rose old.over.faults new.over.faults)

pub record Passes (old new : Stored) : Type 0 where
  pub events : List Event
  pub did : Did events (held_of old) (held_of new)
  pub no_up : AreNoUps events
  pub node : new.vote.node ≡ old.vote.node
  pub cluster : new.over.cluster ≡ old.over.cluster
  pub sleeps : old.vote.up ≡ false → Sleeps events old new
  pub counts : CountsFaults events old new

-- each node
pub record PassAll (vs us : List Stored) : Type 0 where
  pub size : length us ≡ length vs
  pub each : (k : ℕ) → Passes (node_at vs k) (node_at us k)
