-- The run that a case is of: three nodes without tables, one session, and the starts and stops that the case orders.
use Rattle.std.specs.Prelude.{ℕ, Bool, true, false, List, [], ◌∷◌, map, replicate}
use Rattle.cluster_events.specs.Settings.{Setting}
use Rattle.script_form.specs.declared.scripts.Act.{Act}
use Rattle.script_form.specs.declared.scripts.Act.TheVariants as act
use Rattle.script_form.specs.declared.scripts.BodyLine.{BodyLine}
use Rattle.session_language.specs.Language.{OtherText}
use Rattle.node_cases.specs.declared.orders.Order.{Order}

-- the one line of the session, which is actor 4
abbrev pub session_line : BodyLine
session_line = record { line = 0; act = act.Say (replicate 4 0) [] }

-- what is ordered
abbrev pub act_in : Bool → ℕ → Act
act_in true node = act.Start node
act_in false node = act.Stop node

abbrev pub act_of : Order → Act
act_of o = act_in o.starts o.node

abbrev pub order_line : Order → BodyLine
order_line o = record { line = 0; act = act_of o }

abbrev pub body_of : List Order → List BodyLine
body_of orders = session_line ∷ map order_line orders

-- actors are called by as many zeros as their number, and nothing waits for a barrier
abbrev pub setting_of : List Order → Setting
setting_of orders = record {
  nodes = 3;
  language = record { kind = λ text. OtherText; answer = λ tables versions done text. record { replies = []; ops = []; uses = []; ranges = []; failed = false } };
  script = record { nodes = 3; cluster = []; workers = 1; sessions = []; tables = []; watches = []; body = body_of orders };
  tables = [];
  names = λ i. replicate i 0;
  phase = λ s told. 0;
  armed = λ s told place. false;
}
