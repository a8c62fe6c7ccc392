-- Elections follow one another, until one of the nodes leads.
use Rattle.std.specs.Prelude.{ℕ, ◌≡◌, Option, List, []}
use Rattle.cluster_events.specs.Settings.{Setting}
use Rattle.cluster_steps.specs.declared.events.Event.{Event}
use Rattle.node_commits.specs.Ledgers.{Book}
use Rattle.node_clusters.specs.Clusters.{HasMajority, IsCluster, IsQuiet}
use Rattle.node_clusters.specs.Passes.{PassAll}
use Rattle.node_clusters.specs.Reigns.{IsMastersBook}
use Rattle.node_clusters.specs.Turns.{TakeTurns}
use Rattle.node_state.specs.Packets.{SentPacket}
use Rattle.node_state.specs.Stores.{Stored}

-- between two of them
pub record IsChoosing (G : Setting) (vs : List Stored) (last : Option (List (ℕ × Event))) (us : List Stored) (q : List SentPacket) (master : Option ℕ) (ledger : Book) (next : Option (List (ℕ × Event))) : Type 0 where
  pub cluster : IsCluster G us q master
  pub none : q ≡ []
  pub book : IsMastersBook us master ledger
  pub passed : PassAll vs us
  pub turns : TakeTurns vs us last next

-- the choice is made
pub record HasChosen (G : Setting) (vs : List Stored) (last : Option (List (ℕ × Event))) (us : List Stored) (q : List SentPacket) (master : Option ℕ) (ledger : Book) (next : Option (List (ℕ × Event))) : Type 0 where
  pub none : q ≡ []
  pub turns : TakeTurns vs us last next
  pub book : IsMastersBook us master ledger
  pub quiet : HasMajority G us → IsQuiet G us master
