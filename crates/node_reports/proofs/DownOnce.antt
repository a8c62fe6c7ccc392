-- On one node a report in this order of play has one line at most that the node went down.
use Rattle.std.proofs.Common.{◌≡◌, ℕ, ◌+◌, length, List, [], ◌∷◌, ◌++◌, sym, subst, ap, ◌∙◌, append_assoc, Bool, true}
use Rattle.std.proofs.lemmas.Bool.{both_ways}
use Rattle.std.proofs.lemmas.List.{append-nil}
use Rattle.std.specs.List.{AllByRecursion}
use Rattle.script_form.specs.declared.scripts.BodyLine.{BodyLine}
use Rattle.script_form.specs.declared.scripts.Act.{Act}
use Rattle.script_form.specs.declared.scripts.Act.TheVariants as act
use Rattle.script_form.specs.declared.scripts.Script.{Script}
use Rattle.session_language.specs.Each.{EachAfter}
use Rattle.session_language.proofs.AllLaws.{all_behind}
use Rattle.session_language.proofs.EachLaws.{all_append, all_front, each_append}
use Rattle.report_laws.specs.History.{Basis, view_of}
use Rattle.report_laws.specs.Nodes.{is_up}
use Rattle.report_laws.specs.View.{View}
use Rattle.report_laws.proofs.LawLemmas.{each_at}
use Rattle.report_laws.proofs.NodesLaws.{is_down_behind}
use Rattle.report_text.specs.declared.reports.Report.{Report}
use Rattle.report_text.specs.declared.reports.EntryLine.{EntryLine}
use Rattle.report_text.specs.declared.reports.Line.{Line}
use Rattle.report_text.specs.declared.reports.Line.TheVariants as line
use Rattle.node_reports.specs.OneNode.{IsForOneNode, AreForOneNode, IsOfOneNode}
use Rattle.node_reports.specs.Order as new
use Rattle.node_reports.specs.Piece.{Saying, IsDue}
use Rattle.node_reports.proofs.OneNode.{IsOnes, WasUp}
use Rattle.node_reports.proofs.OneOrder.{fault_ones, no_ups, turns_ones}

piece_up : (s : Saying) (now after : ℕ) (front ls : List Line) → EachAfter (IsDue s now after) front ls → EachAfter WasUp (s.before ++ front) ls
piece_up s now after front [] each = tt
piece_up s now after front (l ∷ ls) each = (here l each.0, subst (λ (xs : List Line). EachAfter WasUp xs ls) (sym (append_assoc s.before front (l ∷ []))) (piece_up s now after (front ++ l ∷ []) ls each.1))
  where
    here : (x : Line) → IsDue s now after front x → WasUp (s.before ++ front) x
    here (line.Session name txn r) is = tt
    here (line.Down count node fault) is = is.was_up
    here (line.Up node) is = tt
    here line.Barrier is = tt
    here (line.Fed position) is = tt

fault_up : (script : Script) (before ls : List Line) → EachAfter (new.IsFault script) before ls → EachAfter WasUp before ls
fault_up script before [] each = tt
fault_up script before (l ∷ ls) each = (here l each.0, fault_up script (before ++ l ∷ []) ls each.1)
  where
    here : (x : Line) → new.IsFault script before x → WasUp before x
    here (line.Session name txn r) is = tt
    here (line.Down count node fault) is = is.was_up
    here (line.Up node) is = tt
    here line.Barrier is = tt
    here (line.Fed position) is = tt

turn_up : (basis : Basis) (view : View) (done : List BodyLine) (before : List Line) (history : List EntryLine) (a : Act) (mine others : List Line) (added : List EntryLine) → IsForOneNode basis.script a →
    new.IsTurnOfNodes basis view done before history a mine others added → EachAfter WasUp (before ++ []) mine
turn_up basis view done before history (act.Say session text) mine others added plain is = piece_up (new.saying basis view done before session text) (view_of basis history).last ((view_of basis history).last + length added) [] mine is.each
turn_up basis view done before history (act.Stop node) mine others added plain is = absurd plain
turn_up basis view done before history (act.Start node) mine others added plain is = absurd plain
turn_up basis view done before history (act.Arm session when) mine others added plain is = absurd plain
turn_up basis view done before history act.Barrier mine others added plain is = absurd plain
turn_up basis view done before history act.Feed mine others added plain is = absurd plain

turns_up : (basis : Basis) (view : View) (done : List BodyLine) (before : List Line) (history : List EntryLine) (bs : List BodyLine) (lines : List Line) (entries : List EntryLine) → basis.script.watches ≡ [] → AreForOneNode basis.script bs →
    new.InTurnsOfNodes basis view done before history bs lines entries → EachAfter WasUp before lines
turns_up basis view done before history [] lines entries unwatched plain is = subst (EachAfter WasUp before) (sym (is.0 ∙ ap (new.fed_of _) unwatched)) tt
turns_up basis view done before history (b ∷ bs) lines entries unwatched plain (mine, others, added, later, lines_are, entries_are, turn, rest) =
    subst (EachAfter WasUp before) (sym lines_are) (each_append WasUp before mine others
    (subst (λ (xs : List Line). EachAfter WasUp xs mine) (append-nil before) (turn_up basis view done before history b.act mine others added plain.0 turn))
    (turns_up basis view (done ++ b ∷ []) (before ++ mine) (history ++ added) bs others later unwatched plain.1 rest))

-- all lines are of node 1, and a node that goes down was up
module _ (basis : Basis) (report : Report) (of : IsOfOneNode basis.script) (order : new.InNodesOrder basis report) where
  pub ones : AllByRecursion IsOnes report.lines
  ones = subst (AllByRecursion IsOnes) (sym order.lines_are) (all_append IsOnes order.first order.rest (fault_ones basis.script [] order.first of.one order.go_down)
      (turns_ones basis (view_of basis report.entries) [] order.first order.opening basis.script.body order.rest order.later of.one of.unwatched of.plain order.order))

  pub ups : EachAfter WasUp [] report.lines
  ups = subst (EachAfter WasUp []) (sym order.lines_are) (each_append WasUp [] order.first order.rest (fault_up basis.script [] order.first order.go_down)
      (turns_up basis (view_of basis report.entries) [] order.first order.opening basis.script.body order.rest order.later of.unwatched of.plain order.order))

pub down_once : (basis : Basis) (report : Report) (first second third : List Line) (count other node again : ℕ) (fault repeated : Bool) → IsOfOneNode basis.script → new.InNodesOrder basis report →
    report.lines ≡ first ++ line.Down count node fault ∷ (second ++ line.Down other again repeated ∷ third) → ⊥
down_once basis report first second third count other node again fault repeated of order is =
    both_ways (is_up 1 (first ++ line.Down count 1 fault ∷ second)) (is_down_behind count 1 fault first second (no_ups second (all_front IsOnes second (line.Down other again repeated ∷ third) behind.1)))
    (ap (λ (k : ℕ). is_up k (first ++ line.Down count 1 fault ∷ second)) (sym (all_behind IsOnes second (line.Down other again repeated ∷ third) behind.1).0) ∙ ap (λ (k : ℕ). is_up again (first ++ line.Down count k fault ∷ second)) (sym behind.0) ∙ up)
  where
    behind : AllByRecursion IsOnes (line.Down count node fault ∷ (second ++ line.Down other again repeated ∷ third))
    behind = all_behind IsOnes first (line.Down count node fault ∷ (second ++ line.Down other again repeated ∷ third)) (subst (AllByRecursion IsOnes) is (ones basis report of order))

    split : report.lines ≡ (first ++ line.Down count node fault ∷ second) ++ line.Down other again repeated ∷ third
    split = is ∙ sym (append_assoc first (line.Down count node fault ∷ second) (line.Down other again repeated ∷ third))

    up : is_up again (first ++ line.Down count node fault ∷ second) ≡ true
    up = each_at WasUp [] (first ++ line.Down count node fault ∷ second) (line.Down other again repeated) third (subst (EachAfter WasUp []) split (ups basis report of order))
