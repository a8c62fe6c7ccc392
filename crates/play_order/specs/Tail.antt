-- The tail of a report: whose log is the history, behind which base.
--
-- The reported node is, of those that came up in the run, the one with the greatest pair of accepted generation and length of its
-- log, of such the lowest. The first master is the one of the least generation in which a majority accepted: its own adopted log
-- became durable then. The base is how long that log was. Without one it is the whole history, and without a node that came up there
-- is none.
use Rattle.std.specs.Prelude.{◌≡◌, ℕ, ◌==◌, ◌∷◌, [], List, length, drop, Bool, Option, Some, None, if◌then◌else◌, ltb}
use Rattle.std.specs.List.{list_any}
use Rattle.report_laws.specs.Lawful.{base_line}
use Rattle.report_text.specs.declared.reports.EntryLine.{EntryLine}
use Rattle.report_text.specs.declared.reports.Report.{Report}
use Rattle.play_order.specs.Elections.{Ranked, best_of}
use Rattle.play_order.specs.Peers.{Peers, Reign, are_most}

-- the node whose log is reported
abbrev pub reported : Peers → Option Ranked
reported p = best_of (λ v. v.came) p

abbrev pub log_found : Option Ranked → List EntryLine
log_found None = []
log_found (Some r) = r.has.log

abbrev pub reported_log : Peers → List EntryLine
reported_log p = log_found (reported p)

-- a majority accepted in a generation
abbrev pub is_accepted : ℕ → ℕ → Peers → Bool
is_accepted n generation p = are_most n (λ v. list_any (λ g. g == generation) v.accepts) p

-- of reigns in which a majority accepted the one of the least generation
abbrev pub earlier : Reign → Option Reign → Option Reign
earlier r None = Some r
earlier r (Some first) = if ltb r.generation first.generation then Some r else Some first

abbrev pub first_accepted : ℕ → Peers → Option Reign → List Reign → Option Reign
first_accepted n p first [] = first
first_accepted n p first (r ∷ rs) = first_accepted n p (if is_accepted n r.generation p then earlier r first else first) rs

abbrev pub first_master : ℕ → Peers → Option Reign
first_master n p = first_accepted n p None p.reigns

abbrev pub base_by : Option Reign → List EntryLine → ℕ
base_by None history = length history
base_by (Some r) history = r.adopted

abbrev pub base_in : ℕ → Peers → ℕ
base_in n p = base_by (first_master n p) (reported_log p)

-- a report ends so
pub record HasTail (n : ℕ) (p : Peers) (report : Report) : Type 0 where
  pub base : report.base ≡ base_line (base_in n p)
  pub entries : report.entries ≡ drop (base_in n p) (reported_log p)
  pub end : report.end ≡ length (reported_log p)
