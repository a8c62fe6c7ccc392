-- Two runs in which no majority is up when a session begins. The newest event comes first.
--
--     stop 1
--     stop 2
--     a: w        is told that one node of three is up
use Rattle.std.specs.Prelude.{ℕ, List, [], ◌∷◌, None, Bool}
use Rattle.cdb_values.specs.declared.replies.Reply.TheVariants as reply
use Rattle.cluster_consensus.specs.Events.NodeEvent.{Down}
use Rattle.cluster_events.specs.Parts.{ActorEvent}
use Rattle.cluster_events.specs.Parts.ActorEvent.{Node, Stop, Ask, Finish, Order, Obeyed, FedAgain}
use Rattle.cluster_events.specs.Settings.{Setting}
use Rattle.cluster_stories.specs.Story.{opened}
use Rattle.cluster_worked.specs.Words.{setting_of}
use Rattle.report_text.specs.declared.reports.Line.TheVariants as line
use Rattle.report_text.specs.declared.reports.Report.{Report}
use Rattle.script_form.specs.declared.scripts.Act.TheVariants as act
use Rattle.script_form.specs.declared.scripts.BodyLine.{BodyLine}

abbrev pub body : List BodyLine
body = record { line = 6; act = act.Stop 1 } ∷ record { line = 7; act = act.Stop 2 } ∷ record { line = 8; act = act.Say (97 ∷ []) (119 ∷ []) } ∷ []

abbrev pub setting : Setting
setting = setting_of body

-- two of the three nodes that are up are stopped
abbrev pub stopped_one : List (ℕ × ActorEvent)
stopped_one = (0, Obeyed) ∷ (1, Stop) ∷ (0, Order) ∷ opened

abbrev pub stopped : List (ℕ × ActorEvent)
stopped = (0, Obeyed) ∷ (2, Stop) ∷ (0, Order) ∷ stopped_one

abbrev pub stopped_ask : List (ℕ × ActorEvent)
stopped_ask = (0, Ask 13) ∷ (97, Finish (reply.NoMajority 1 3)) ∷ stopped

abbrev pub without_master : List (ℕ × ActorEvent)
without_master = (0, FedAgain 0) ∷ stopped_ask

-- the stores of two nodes are refused at the opening, so the operator finds them down; and the third is not read
abbrev pub refused_one : List (ℕ × ActorEvent)
refused_one = (1, Node Down) ∷ []

abbrev pub refused : List (ℕ × ActorEvent)
refused = (2, Node Down) ∷ refused_one

abbrev pub refused_obeyed : List (ℕ × ActorEvent)
refused_obeyed = (0, Obeyed) ∷ (0, Order) ∷ (0, Obeyed) ∷ (0, Order) ∷ refused

abbrev pub refused_ask : List (ℕ × ActorEvent)
refused_ask = (0, Ask 7) ∷ (97, Finish (reply.NoMajority 1 3)) ∷ refused_obeyed

abbrev pub without_nodes : List (ℕ × ActorEvent)
without_nodes = (0, FedAgain 0) ∷ refused_ask

-- the report of either run: whether the nodes went down by a fault is told
abbrev pub report_by : Bool → Report
report_by fault = record {
  lines = line.Down 1 1 fault ∷ line.Down 2 2 fault ∷ line.Session (97 ∷ []) 1 (reply.NoMajority 1 3) ∷ line.Fed 0 ∷ [];
  base = None;
  entries = [];
  feeds = record { place = 1; table = 116 ∷ []; taken = 0; dropped = 0 } ∷ [];
  end = 0;
}
