-- A report as `play` writes it is in the order of play.
use Rattle.std.proofs.Common.{List, [], ◌∷◌, ◌++◌}
use Rattle.script_form.specs.declared.scripts.BodyLine.{BodyLine}
use Rattle.session_language.specs.Answers.{Answers}
use Rattle.report_laws.specs.History.{Basis, view_of}
use Rattle.report_laws.specs.Lawful.{Lawful}
use Rattle.report_laws.specs.Play.{InPlayOrder}
use Rattle.report_laws.specs.View.{View}
use Rattle.report_text.specs.declared.reports.EntryLine.{EntryLine}
use Rattle.report_text.specs.declared.reports.Line.{Line}
use Rattle.report_text.specs.declared.reports.Report.{Report}
use Rattle.node_reports.proofs.OneBack.{lawful_back}
use Rattle.node_reports.proofs.OneOrder.{one_order}
use Rattle.node_reports.specs.Lawful.{LawfulOfNodes}
use Rattle.node_reports.specs.OneNode.{IsOfOneNode}
use Rattle.node_reports.specs.Order.{InNodesOrder, InTurnsOfNodes}
use Rattle.play_order.specs.Openings.{Finding}
use Rattle.play_order.specs.Peers.{Peers}
use Rattle.play_order.specs.Played.{InLedTurns, IsPlayedOver, behind_deeds}

in_turns : (basis : Basis) (view : View) (fs : List Finding) (report : Report) (done : List BodyLine) (before : List Line) (history : List EntryLine) (p : Peers) (body : List BodyLine) (lines : List Line) (entries : List EntryLine) →
    InLedTurns basis view fs report done before history p body lines entries → InTurnsOfNodes basis view done before history body lines entries
in_turns basis view fs report done before history p [] lines entries (lines_are, entries_are, ends) = (lines_are, entries_are)
in_turns basis view fs report done before history p (b ∷ bs) lines entries (mine, others, added, later, lines_are, entries_are, turn, deeds, falls, are, tell, rest) =
    (mine, others, added, later, lines_are, entries_are, turn, in_turns basis view fs report (done ++ b ∷ []) (before ++ mine) (history ++ added) (behind_deeds basis.script.nodes deeds falls p) bs others later rest)

pub in_order : (basis : Basis) (stores : List Finding) (report : Report) → IsPlayedOver basis stores report → InNodesOrder basis report
in_order basis stores report played = record {
  first = played.first;
  go_down = played.go_down;
  opening = played.opening;
  opened = played.is_opened;
  rest = played.rest;
  lines_are = played.lines_are;
  later = played.later;
  entries_are = played.entries_are;
  order = in_turns basis (view_of basis report.entries) stores report [] played.first played.opening _ basis.script.body played.rest played.later played.order;
}

pub of_one_node : (basis : Basis) (stores : List Finding) (report : Report) → IsOfOneNode basis.script → Answers basis.language → LawfulOfNodes basis report → IsPlayedOver basis stores report → Lawful basis report × InPlayOrder basis report
of_one_node basis stores report of answers lawful played =
    (lawful_back basis report of answers lawful (in_order basis stores report played), one_order basis report of (in_order basis stores report played))
