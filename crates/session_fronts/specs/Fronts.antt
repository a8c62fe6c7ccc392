-- What a session knows of the log: the entries up to a position, by the generation that shipped them.
--
--   begun at 2 in generation 3         the first two entries of what the leader of 3 shipped
--   committed at 5 in generation 4     the first five entries of what the leader of 4 shipped, its own at their end
--
-- Each of them begins a durable log, so it is the same wherever it is read, and stays so.
use Rattle.std.specs.Prelude.{ℕ, ◌≡◌, List}
use Rattle.cluster_begins.specs.Begins.{IsPositionAnswered}
use Rattle.cluster_consensus.specs.Durable.{DurableIn}
use Rattle.cluster_consensus.specs.Facts.{World}
use Rattle.cluster_events.specs.Parts.{Opened}
use Rattle.cluster_events.specs.Settings.{Setting}
use Rattle.cluster_requests.specs.KeptEntries.{KeptEntry}
use Rattle.cluster_steps.specs.Guards.{IsLogFound}
use Rattle.cluster_steps.specs.Named.{log_named}
use Rattle.core_lists.specs.Fronts.{Front}
use Rattle.core_lists.specs.Lists.{Has}

-- the entries up to a position, by the generation that shipped them
abbrev pub front_of : Setting → World KeptEntry → Opened → List KeptEntry
front_of G w o = log_named G.nodes w o.gen o.begin

-- they were shipped, they begin a durable log, and their position was answered
pub record IsKnown (G : Setting) (w : World KeptEntry) (o : Opened) : Type 0 where
  pub found : IsLogFound G.nodes w o.gen o.begin
  pub gen : ℕ
  pub log : List KeptEntry
  pub durable : DurableIn G.nodes w gen log
  pub begins : Front (front_of G w o) log
  pub by : ℕ
  pub answered : IsPositionAnswered w o.begin by

-- a leader answered a begin so, in its generation
pub record IsAnswered (w : World KeptEntry) (o : Opened) : Type 0 where
  pub node : ℕ
  pub ping : Has (λ x. (x.gen ≡ o.gen) × (x.durable ≡ o.begin)) (w.nodes node).pings
