-- A node of a case, and what is known of all three.
use Rattle.std.specs.Prelude.{ℕ, ◌≡◌, Bool, true, false, List, []}
use Rattle.std.specs.declared.snapshot.Snapshot.{Snapshot}
use Rattle.cdb_values.specs.Rows.{Rows}
use Rattle.cluster_events.specs.Settings.{Setting}
use Rattle.cluster_steps.specs.Named.{world}
use Rattle.cluster_steps.specs.declared.events.Event.{Event}
use Rattle.election_core.specs.declared.votes.NodeVote.{NodeVote}
use Rattle.kept_log.specs.Kept.{OverStore}
use Rattle.node_reading.specs.Reading.{WasRead}
use Rattle.node_state.specs.Nodes.{blank_vote}
use Rattle.node_state.specs.Stores.{IsKeptBy}
use Rattle.node_state.specs.declared.steps.Started.{Started}
use Rattle.node_state.specs.declared.steps.Started.TheVariants as started

-- a node was up once, by what is known
abbrev pub WasUp : Setting → ℕ → List (ℕ × Event) → Type 0
WasUp G i seen = ((world G seen).nodes i).was_up ≡ true

-- and is up there exactly where these numbers say so
abbrev pub IsUpBy : Setting → NodeVote → List (ℕ × Event) → Type 0
IsUpBy G v seen = ((world G seen).nodes v.node).up ≡ v.up

abbrev pub is_up : Started → Bool
is_up started.Up = true
is_up started.Fault = false

-- the log of a node that did nothing, over an empty store that was read, and the rows for which it stands
pub record IsBlank (node : ℕ) (rows : Snapshot Rows) (o : OverStore) : Type 0 where
  pub log : IsKeptBy (blank_vote node 3) o
  pub empty : o.entries ≡ []
  pub was : OverStore
  pub read : WasRead was o 0 0 rows.value

-- each of the three nodes was up, by what is known
pub record WereUp (G : Setting) (seen : List (ℕ × Event)) : Type 0 where
  pub one : WasUp G 1 seen
  pub two : WasUp G 2 seen
  pub three : WasUp G 3 seen
