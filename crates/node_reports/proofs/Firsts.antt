-- In a lawful report each begin is the first line of its transaction; so on one node a lawful report is in this order of
-- play exactly where it is in that of one node.
use Rattle.std.proofs.Common.{◌≡◌, ℕ, ◌==◌, ◌&&◌, ◌||◌, List, [], ◌∷◌, ◌++◌, refl, sym, ap, ◌∙◌, append_assoc, Bool, true, false, if◌then◌else◌}
use Rattle.std.specs.List.{list_any}
use Rattle.std.specs.Str.{bytes_eq}
use Rattle.session_language.specs.Answers.{Answers}
use Rattle.session_language.specs.Each.{EachAfter}
use Rattle.report_laws.specs.History.{Basis}
use Rattle.report_laws.specs.Lawful.{Lawful}
use Rattle.report_laws.specs.Play as today
use Rattle.report_laws.proofs.BeginLaws.{begin_is_first}
use Rattle.report_laws.proofs.AlongLaws.{of_number}
use Rattle.report_laws.proofs.PieceLaws.{under}
use Rattle.report_laws.specs.Told.{told}
use Rattle.report_text.specs.declared.reports.Report.{Report}
use Rattle.report_text.specs.declared.reports.Line.{Line}
use Rattle.report_text.specs.declared.reports.Line.TheVariants as line
use Rattle.cdb_values.specs.declared.replies.Reply.{Reply}
use Rattle.cdb_values.specs.declared.replies.Reply.TheVariants as reply
use Rattle.node_reports.specs.Site.{is_line_of}
use Rattle.node_reports.specs.OneNode.{IsOfOneNode}
use Rattle.node_reports.proofs.OneNode.{IsFirstIfBegin}
use Rattle.node_reports.specs.Order as new
use Rattle.node_reports.proofs.PieceLines.{begin_is}
use Rattle.node_reports.proofs.OneOrder.{back_order}

under_none : (name : List ℕ) (n : ℕ) (xs : List Line) → under name n xs ≡ [] → list_any (is_line_of name n) xs ≡ false
under_none name n [] none = refl
under_none name n (line.Session session txn r ∷ xs) none = go (bytes_eq session name) none (λ e. under_none name n xs e)
  where
    two : (b : Bool) → (if b then r ∷ under name n xs else under name n xs) ≡ [] → (under name n xs ≡ [] → list_any (is_line_of name n) xs ≡ false) → (b || list_any (is_line_of name n) xs) ≡ false
    two true e more = absurd (let no_such : r ∷ under name n xs ≡ [] = e in cc)
    two false e more = more e

    go : (a : Bool) → of_number n ((if a then (txn, r) ∷ [] else []) ++ told name xs) ≡ [] → (under name n xs ≡ [] → list_any (is_line_of name n) xs ≡ false) → ((a && (txn == n)) || list_any (is_line_of name n) xs) ≡ false
    go true e more = two (txn == n) e more
    go false e more = more e
under_none name n (line.Down count node fault ∷ xs) none = under_none name n xs none
under_none name n (line.Up node ∷ xs) none = under_none name n xs none
under_none name n (line.Barrier ∷ xs) none = under_none name n xs none
under_none name n (line.Fed position ∷ xs) none = under_none name n xs none

firsts_from : (lines before ls : List Line) → lines ≡ before ++ ls → ((front back : List Line) (name : List ℕ) (n begin : ℕ) → lines ≡ front ++ line.Session name n (reply.Begin begin) ∷ back → under name n front ≡ []) → EachAfter IsFirstIfBegin before ls
firsts_from lines before [] is first = tt
firsts_from lines before (l ∷ ls) is first = (here l is, firsts_from lines (before ++ l ∷ []) ls (is ∙ sym (append_assoc before (l ∷ []) ls)) first)
  where
    here : (x : Line) → lines ≡ before ++ x ∷ ls → IsFirstIfBegin before x
    here (line.Session name txn r) at = λ e. under_none name txn before (first before ls name txn (begin_is r e).0 (at ∙ ap (λ (q : Reply). before ++ line.Session name txn q ∷ ls) (begin_is r e).1))
    here (line.Down count node fault) at = tt
    here (line.Up node) at = tt
    here line.Barrier at = tt
    here (line.Fed position) at = tt

pub nodes_order : (basis : Basis) (report : Report) → IsOfOneNode basis.script → Answers basis.language → Lawful basis report → today.InPlayOrder basis report → new.InNodesOrder basis report
nodes_order basis report of answers lawful order =
    back_order basis report of lawful.places (firsts_from report.lines [] report.lines refl (λ front back name n begin at. (begin_is_first basis report answers lawful front back name n begin at).1)) order
