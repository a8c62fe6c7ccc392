-- The nodes of a cluster of one: it leads, with a log, in the generation that it stood in.
use Rattle.std.specs.Prelude.{ℕ, ◌∷◌, [], List, true, Some}
use Rattle.report_text.specs.declared.reports.EntryLine.{EntryLine}
use Rattle.report_text.specs.declared.reports.EntryLine.TheVariants.{Setup}
use Rattle.play_order.specs.Peers.{Holding, Peers}

-- it promised and accepted a generation
abbrev pub led_log : ℕ → List EntryLine → Holding
led_log generation log = record { promised = generation; accepted = generation; log = log }

-- the one node leads, with this log, behind one of that length which it adopted
abbrev pub one_leading : ℕ → ℕ → List ℕ → List EntryLine → Peers
one_leading generation adopted accepts log = record {
  all = record { up = true; came = true; has = led_log generation log; keeps = led_log generation log; accepts = accepts; late = [] } ∷ [];
  master = Some 1;
  reigns = record { generation = generation; adopted = adopted } ∷ [];
  falls = [];
  told = [];
}

-- a log that is empty gets the setup; and how often the node accepted by then
abbrev pub set_up_log : List EntryLine → List EntryLine
set_up_log [] = Setup 1 ∷ []
set_up_log (e ∷ es) = e ∷ es

abbrev pub accepted_by : ℕ → List EntryLine → List ℕ
accepted_by generation [] = generation ∷ generation ∷ []
accepted_by generation (e ∷ es) = generation ∷ []
