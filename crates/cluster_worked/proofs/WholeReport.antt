-- The report of the whole run, by the law of finished runs.
use Rattle.std.proofs.Common.{◌≡◌, ℕ, ◌<◌, ◌≤◌, List, [], ◌∷◌, length, arith, refl, ap, sym, subst}
use mathlib.Core.Logic.{inl, inr}
use Rattle.cdb_values.specs.Rows.{no_rows}
use Rattle.cluster_consensus.proofs.Generations.{led_above}
use Rattle.cluster_consensus.proofs.ThreeNodes.{first_has, one_and_two}
use Rattle.cluster_consensus.specs.Durable.{DurableIn}
use Rattle.cluster_consensus.specs.Enabled.{Below}
use Rattle.cluster_consensus.specs.Facts.{Claim}
use Rattle.cluster_events.proofs.HistoryLaws.{good_of}
use Rattle.cluster_events.specs.Parts.{field}
use Rattle.cluster_events.specs.Settings.{basis_from}
use Rattle.cluster_masters.specs.FirstMaster.{IsFirstMaster}
use Rattle.cluster_masters.specs.Reported.{IsReported}
use Rattle.cluster_reports.proofs.LawfulRuns.{begins', report}
use Rattle.cluster_reports.proofs.NodesRuns.{with_master}
use Rattle.cluster_reports.specs.Runs.{lines_from}
use Rattle.cluster_requests.specs.KeptEntries.{KeptEntry}
use Rattle.cluster_worked.proofs.Nodes.{of_three}
use Rattle.cluster_worked.proofs.WholeLegal.{finished_legal}
use Rattle.cluster_worked.proofs.WholeScript.{finished_done, setting_fits, setting_follows}
use Rattle.cluster_worked.specs.SetUp.{adopted, setup}
use Rattle.cluster_worked.specs.Whole.{setting, commit, finished, its_lines, its_feeds, its_report}
use Rattle.core_lists.specs.Fronts.Front.{front_nil}
use Rattle.core_lists.specs.Lists.{In}
use Rattle.core_lists.specs.Lists.In.{here}
use Rattle.core_lists.proofs.Fronts.{front_rest}
use Rattle.node_reports.specs.Fed.{AreFeeds}
use Rattle.node_reports.specs.Lawful.{LawfulOfNodes}
use Rattle.report_laws.specs.History.{view_of}
use Rattle.report_text.specs.declared.reports.EntryLine.{EntryLine}
use Rattle.std.specs.Prelude.{None}

-- node 1 has the longest log of the greatest generation
pub its_node : IsReported 3 (field finished).core 1
its_node = of_three (λ k. Below ((field finished).core.nodes k).accepted (length ((field finished).core.nodes k).log) 1 2) (inr (refl, omega arith)) (inr (refl, omega arith)) (inl (omega arith))

-- and leads first: a generation that is led is above what the stores accepted
least : (k : ℕ) (l : Claim KeptEntry) → In l ((field finished).core.nodes k).leads → DurableIn 3 (field finished).core l.gen l.log → 1 ≤ l.gen
least k l m d = let low : 0 < l.gen = led_above (good_of setting finished finished_legal).inv k l (record { node = 3; promised = 0; accepted = 0 }) m here in omega arith

pub its_master : IsFirstMaster 3 (field finished).core 1 adopted
its_master = record { mem = here; durable = one_and_two (first_has (refl, front_nil)) (first_has (refl, front_nil)); least = least }

-- the entries of its report are those of node 1
abbrev the_entries : List EntryLine
the_entries = lines_from 1 (setup ∷ commit ∷ [])

entries_are : (report setting setting_fits finished finished_legal finished_done.sessions 1 its_node 1 adopted its_master).entries ≡ the_entries
entries_are = ap (λ z. lines_from 1 z) (front_rest (begins' setting setting_fits finished finished_legal finished_done.sessions 1 its_node 1 adopted its_master)).1

feeds_fit : AreFeeds (basis_from setting 0 (no_rows [])) (view_of (basis_from setting 0 (no_rows [])) the_entries) 2 1 (0 ∷ []) its_feeds
feeds_fit = (record { is_place = refl; is_table = refl; most = omega arith; whole = λ e. refl }, refl)

any_feeds_fit : (es : List EntryLine) → es ≡ the_entries → AreFeeds (basis_from setting 0 (no_rows [])) (view_of (basis_from setting 0 (no_rows [])) es) 2 1 (0 ∷ []) its_feeds
any_feeds_fit es e = subst (λ z. AreFeeds (basis_from setting 0 (no_rows [])) (view_of (basis_from setting 0 (no_rows [])) z) 2 1 (0 ∷ []) its_feeds) (sym e) feeds_fit

pub its_report_is_lawful : LawfulOfNodes (basis_from setting 0 (no_rows [])) its_report
its_report_is_lawful =
    let by_law = with_master setting setting_fits setting_follows finished finished_legal finished_done 1 1 adopted its_node its_master its_feeds (any_feeds_fit _ entries_are) in
    subst (λ z. LawfulOfNodes (basis_from setting 0 (no_rows [])) (record { lines = its_lines; base = None; entries = z; feeds = its_feeds; end = 2 })) entries_are by_law
