-- Reports of several nodes that are not lawful: what was told or done again, and a majority that was not missing.
use Rattle.std.proofs.Common.{◌≡◌, ℕ, List, [], ◌∷◌, ◌++◌, refl, sym, subst, ap, arith, ◌∙◌, true, false, inl, inr, codes, take, drop}
use Rattle.std.proofs.lemmas.Bool.{both_ways, true≢false}
use Rattle.std.proofs.lemmas.List.{append-nil}
use Rattle.cdb_values.specs.declared.replies.Reply.{Reply}
use Rattle.cdb_values.specs.declared.replies.Reply.TheVariants as reply
use Rattle.cdb_values.specs.declared.rows.Level.TheVariants.{Snapshot}
use Rattle.session_language.proofs.UpToLaws.{same_head, same_tail}
use Rattle.session_language.specs.Language.{Answered}
use Rattle.report_laws.specs.Cut.{cuts}
use Rattle.report_laws.specs.History.{view_of}
use Rattle.report_laws.specs.Told.{alone_at, numbered, Along, Numbered}
use Rattle.report_laws.specs.Work.{transaction, Does, WorkItem, Transaction, WithItsLine}
use Rattle.report_laws.proofs.AlongLaws.{of_number, of_its}
use Rattle.report_laws.proofs.GrowLaws.{first_begin, first_rest, same_last}
use Rattle.report_laws.proofs.NodesLaws.{short_needs_down}
use Rattle.report_worked.specs.Small.{from_nothing}
use Rattle.report_worked.specs.Worked.{row, of_a}
use Rattle.node_reports.proofs.NodesLaws.{lost_once}
use Rattle.node_reports.specs.Lawful.{LawfulOfNodes}
use Rattle.node_reports.specs.Told.{IsToldAlong}
use Rattle.node_stories.specs.StoriesWrong.{insert_at, insert_and_select, two_selects_at_two, short_while_all_up, lost_again, told_again, entered_again}

pub short_is_refused : LawfulOfNodes (from_nothing (insert_at 3 1)) short_while_all_up → ⊥
short_is_refused is = short_needs_down (insert_at 3 1) (take 2 short_while_all_up.lines) (codes "a") 3 3 refl is.places.1.1.0

pub lost_again_is_refused : LawfulOfNodes (from_nothing two_selects_at_two) lost_again → ⊥
lost_again_is_refused is = lost_once (from_nothing two_selects_at_two) lost_again (codes "a") (take 3 lost_again.lines) (take 1 (drop 4 lost_again.lines)) [] 1 2 2 2 1 is refl

pub entered_again_is_refused : LawfulOfNodes (from_nothing (insert_at 3 1)) entered_again → ⊥
entered_again_is_refused is = true≢false (is.history.1.1.0.once 2 (of_a 2 1 1) (omega arith) refl)

abbrev selected : Transaction
selected = transaction 1 (codes "select * from t" ∷ []) Snapshot WithItsLine

abbrev again : List Reply
again = reply.Begin 2 ∷ row 1 10 ∷ row 1 10 ∷ reply.Done 1 ∷ reply.Committed 2 ∷ []

not_again : IsToldAlong (from_nothing insert_and_select) (view_of (from_nothing insert_and_select) told_again.entries) (codes "b") (Does selected) again → ⊥
not_again (inl w) =
    let at : 2 ≡ w.begin = first_begin 2 w.begin _ _ w.says in
    let says : row 1 10 ∷ row 1 10 ∷ reply.Done 1 ∷ reply.Committed 2 ∷ [] ≡ row 1 10 ∷ reply.Done 1 ∷ w.last =
    first_rest 2 w.begin _ _ w.says ∙ ap (λ (a : Answered). a.replies ++ w.last) w.is_ran
    ∙ ap (λ (b : ℕ). (alone_at (from_nothing insert_and_select) (view_of (from_nothing insert_and_select) told_again.entries) selected b).replies ++ w.last) (sym at) in
    let second : row 1 10 ≡ reply.Done 1 = same_head (row 1 10) (reply.Done 1) (reply.Done 1 ∷ reply.Committed 2 ∷ []) w.last (same_tail (row 1 10) (row 1 10) (row 1 10 ∷ reply.Done 1 ∷ reply.Committed 2 ∷ []) (reply.Done 1 ∷ w.last) says) in cc
not_again (inr c) =
    let last : reply.Committed 2 ≡ c.cause = same_last (reply.Begin 2 ∷ row 1 10 ∷ row 1 10 ∷ reply.Done 1 ∷ []) c.front (reply.Committed 2) c.cause c.says in
    both_ways (cuts c.cause) (ap cuts (sym last)) c.is_cause

its_again : (mine : List Reply) (others : List Numbered) → numbered 1 again ≡ numbered 1 mine ++ others → others ≡ [] → again ≡ mine
its_again mine others splits none = ap (of_number 1) splits ∙ of_its 1 mine others ∙ ap (λ (ls : List Numbered). mine ++ of_number 1 ls) none ∙ append-nil mine

one_item : (P : WorkItem → List Reply → Type 0) → Along P (Does selected ∷ []) (numbered 1 again) → P (Does selected) again
one_item P (mine, others, splits, p, rest) = subst (λ (rs : List Reply). P (Does selected) rs) (sym (its_again mine others splits rest)) p

pub told_again_is_refused : LawfulOfNodes (from_nothing insert_and_select) told_again → ⊥
told_again_is_refused is = not_again (one_item (IsToldAlong (from_nothing insert_and_select) (view_of (from_nothing insert_and_select) told_again.entries) (codes "b")) (is.replies (codes "b")))
