-- How each run with a leader begins: three empty stores are read, node 1 leads by the vote of node 2, as in the stories, and
-- sets up the schema of these runs.
use Rattle.std.specs.Prelude.{ℕ, List, [], ◌∷◌}
use Rattle.cdb_values.specs.Rows.{no_rows}
use Rattle.cluster_consensus.specs.Events.NodeEvent.{Grow, Append, LearnLead}
use Rattle.cluster_consensus.specs.Facts.{Claim}
use Rattle.cluster_events.specs.Parts.{ActorEvent}
use Rattle.cluster_events.specs.Parts.ActorEvent.{Node}
use Rattle.cluster_requests.specs.KeptEntries.{KeptEntry}
use Rattle.cluster_requests.specs.KeptEntries.KeptEntry.{SetupKept}
use Rattle.cluster_stories.specs.Story.{led}
use Rattle.cluster_worked.specs.Words.{its_table}

abbrev pub setup : KeptEntry
setup = SetupKept 1 (its_table ∷ []) [] (no_rows (its_table ∷ []))

abbrev pub set_up : List (ℕ × ActorEvent)
set_up = (1, Node (LearnLead 1)) ∷ (2, Node (Grow (setup ∷ []))) ∷ (1, Node (Append setup)) ∷ led

-- what the first master adopted
abbrev pub adopted : Claim KeptEntry
adopted = record { gen = 1; log = [] }
