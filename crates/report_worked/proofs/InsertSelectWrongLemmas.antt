-- Reports of an insert and a select that are wrong in one place, refuted.
use Rattle.std.proofs.Common.{◌≡◌, ◌≤◌, ℕ, List, [], ◌∷◌, ◌++◌, Some, None, true, refl, sym, subst, arith, codes, inl, take, drop, ap, length, false, ◌∙◌}
use Rattle.std.specs.List.{AllByRecursion}
use Rattle.report_laws.specs.Lawful.{Lawful, IsFresh, NameUpTo, positions}
use Rattle.report_laws.specs.Play.{InPlayOrder}
use Rattle.report_laws.specs.Told.{told, Along, IsTold, alone_at}
use Rattle.report_laws.specs.Work.{WorkItem, Does, work}
use Rattle.report_worked.specs.Worked.{insert_select, insert_select_report, worked_table, two_selects, report_with, inserted_lines, inserted_entries, row, to_a, of_a}
use Rattle.report_worked.specs.WorkedWrong.{IsRefusedBy, RepliesAreRight, BeginsAreFresh, HistoryIsRight, LinesHavePlaces, wrong_value, missing_row, out_of_order, early_row, late, wrong_position, entry_twice, node_line, lost_line, begin_too_old}
use Rattle.report_text.specs.declared.reports.Line.{Line}
use Rattle.cdb_values.specs.declared.replies.Reply.{Reply}
use Rattle.cdb_values.specs.declared.replies.Reply.TheVariants as reply
use Rattle.report_worked.proofs.InsertSelectLemmas.{inserting, selecting, items_of_a, work_of_a, good_insert, insert_select_is_lawful, insert_select_is_in_order}
use Rattle.report_laws.proofs.NodesLaws.{lost_needs_down}
use Rattle.report_laws.proofs.OneLaws.{one_report}
use Rattle.report_text.specs.declared.reports.Report.{Report}
use Rattle.report_laws.proofs.LineLaws.{fresh_begin}
use Rattle.report_worked.proofs.WorkedLemmas.{along_each, along_parts, EachPart, whole, entry_told, ToldAt, told_at}
use Rattle.report_worked.specs.Small.{from_nothing, small_language}
use Rattle.report_laws.specs.Cut.{cuts}
use Rattle.report_laws.specs.History.{nothing_before, view_of}
use Rattle.session_language.specs.Touched.{used_at}
use Rattle.cdb_values.specs.declared.rows.Level.TheVariants.{Snapshot}
use Rattle.report_laws.specs.Outcome.{IsRight}
use Rattle.report_laws.specs.Work.{Transaction}
use Rattle.report_laws.proofs.AlongLaws.{AllOther, along_its, of_number}
use Rattle.report_worked.proofs.SmallLaws.{statements_answer}

-- what a transaction was told, where the law on replies holds: the replies at its begin, and a right outcome
its_told : (t : Transaction) (before after : List WorkItem) (lines : List Line) (begin : ℕ) (back front : List Reply) (outcome : Reply) → before ++ Does t ∷ after ≡ items_of_a → AllOther t.number before → AllOther t.number after →
    of_number t.number (told (codes "a") lines) ≡ reply.Begin begin ∷ back →
    reply.Begin begin ∷ back ≡ front ++ outcome ∷ [] → cuts outcome ≡ false → RepliesAreRight insert_select (report_with lines inserted_entries) →
    ToldAt (from_nothing insert_select) inserted_entries (codes "a") t begin back
its_told t before after lines begin back front outcome among none all is ends uncut law =
    told_at (from_nothing insert_select) inserted_entries (codes "a") t begin back front outcome ends uncut
    (subst (λ (mine : List Reply). IsTold (from_nothing insert_select) (view_of (from_nothing insert_select) inserted_entries) (codes "a") (Does t) mine) is
    (along_its (IsTold (from_nothing insert_select) (view_of (from_nothing insert_select) inserted_entries) (codes "a")) before after (Does t) (told (codes "a") lines) none all
    (subst (λ (items : List WorkItem). Along (IsTold (from_nothing insert_select) (view_of (from_nothing insert_select) inserted_entries) (codes "a")) items (told (codes "a") lines)) (work_of_a ∙ sym among) (law (codes "a")))))

pub select_told : (lines : List Line) (begin : ℕ) (back front : List Reply) (outcome : Reply) → of_number 2 (told (codes "a") lines) ≡ reply.Begin begin ∷ back →
    reply.Begin begin ∷ back ≡ front ++ outcome ∷ [] → cuts outcome ≡ false → RepliesAreRight insert_select (report_with lines inserted_entries) →
    ToldAt (from_nothing insert_select) inserted_entries (codes "a") selecting begin back
select_told lines begin back front outcome is ends uncut law = its_told selecting (Does inserting ∷ []) [] lines begin back front outcome refl (refl, tt) tt is ends uncut law

-- a row with another value
other_value : (last : List Reply) → row 1 11 ∷ reply.Done 1 ∷ reply.Committed 2 ∷ [] ≡ row 1 10 ∷ reply.Done 1 ∷ last → ⊥
other_value last is = cc

value_told : RepliesAreRight insert_select wrong_value → ⊥
value_told law =
    let at = select_told wrong_value.lines 2 (row 1 11 ∷ reply.Done 1 ∷ reply.Committed 2 ∷ []) (reply.Begin 2 ∷ row 1 11 ∷ reply.Done 1 ∷ []) (reply.Committed 2) refl refl refl law in
    let said : row 1 11 ∷ reply.Done 1 ∷ reply.Committed 2 ∷ [] ≡ row 1 10 ∷ reply.Done 1 ∷ at.last = at.says in
    other_value at.last said

pub wrong_value_is_refused : IsRefusedBy (RepliesAreRight insert_select wrong_value) insert_select wrong_value
wrong_value_is_refused = (value_told, λ is. value_told is.replies)

-- no row
row_missed : RepliesAreRight insert_select missing_row → ⊥
row_missed law =
    let at = select_told missing_row.lines 2 (reply.Done 1 ∷ reply.Committed 2 ∷ []) (reply.Begin 2 ∷ reply.Done 1 ∷ []) (reply.Committed 2) refl refl refl law in
    let said : reply.Done 1 ∷ reply.Committed 2 ∷ [] ≡ row 1 10 ∷ reply.Done 1 ∷ at.last = at.says in
    cc

pub missing_row_is_refused : IsRefusedBy (RepliesAreRight insert_select missing_row) insert_select missing_row
missing_row_is_refused = (row_missed, λ is. row_missed is.replies)

-- the number of rows before the row
row_last : RepliesAreRight insert_select out_of_order → ⊥
row_last law =
    let at = select_told out_of_order.lines 2 (reply.Done 1 ∷ row 1 10 ∷ reply.Committed 2 ∷ []) (reply.Begin 2 ∷ reply.Done 1 ∷ row 1 10 ∷ []) (reply.Committed 2) refl refl refl law in
    let said : reply.Done 1 ∷ row 1 10 ∷ reply.Committed 2 ∷ [] ≡ row 1 10 ∷ reply.Done 1 ∷ at.last = at.says in
    cc

pub out_of_order_is_refused : IsRefusedBy (RepliesAreRight insert_select out_of_order) insert_select out_of_order
out_of_order_is_refused = (row_last, λ is. row_last is.replies)

-- a row that did not stand yet
row_early : RepliesAreRight insert_select early_row → ⊥
row_early law =
    let at = select_told early_row.lines 1 (row 1 10 ∷ reply.Done 1 ∷ reply.Committed 1 ∷ []) (reply.Begin 1 ∷ row 1 10 ∷ reply.Done 1 ∷ []) (reply.Committed 1) refl refl refl law in
    let said : row 1 10 ∷ reply.Done 1 ∷ reply.Committed 1 ∷ [] ≡ reply.Done 0 ∷ at.last = at.says in
    cc

pub early_row_is_refused : IsRefusedBy (RepliesAreRight insert_select early_row) insert_select early_row
early_row_is_refused = (row_early, λ is. row_early is.replies)

-- a commit at a position at which no entry stands
committed_behind : RepliesAreRight insert_select wrong_position → ⊥
committed_behind law =
    let at = its_told inserting [] (Does selecting ∷ []) wrong_position.lines 1 (reply.Changed 1 ∷ reply.Committed 3 ∷ []) (reply.Begin 1 ∷ reply.Changed 1 ∷ []) (reply.Committed 3) refl tt (refl, tt) refl refl refl law in
    let said : reply.Changed 1 ∷ reply.Committed 3 ∷ [] ≡ reply.Changed 1 ∷ at.last = at.says in
    let last : reply.Committed 3 ∷ [] ≡ at.last = cc in
    let right : AllByRecursion (IsRight (from_nothing insert_select) (view_of (from_nothing insert_select) inserted_entries) (codes "a") inserting 1 (used_at Snapshot (alone_at (from_nothing insert_select) (view_of (from_nothing insert_select) inserted_entries) inserting 1)) (alone_at (from_nothing insert_select) (view_of (from_nothing insert_select) inserted_entries) inserting 1).ops) (reply.Committed 3 ∷ []) =
    subst (λ (os : List Reply). AllByRecursion (IsRight (from_nothing insert_select) (view_of (from_nothing insert_select) inserted_entries) (codes "a") inserting 1 (used_at Snapshot (alone_at (from_nothing insert_select) (view_of (from_nothing insert_select) inserted_entries) inserting 1)) (alone_at (from_nothing insert_select) (view_of (from_nothing insert_select) inserted_entries) inserting 1).ops) os) (sym last) at.right in
    let stands : None ≡ Some (of_a 3 1 1) = right.0.stands in
    cc

pub wrong_position_is_refused : IsRefusedBy (RepliesAreRight insert_select wrong_position) insert_select wrong_position
wrong_position_is_refused = (committed_behind, λ is. committed_behind is.replies)

-- an entry of a transaction that has one
entered_twice : HistoryIsRight insert_select entry_twice → ⊥
entered_twice law = let once : true ≡ false = law.1.1.0.once 2 (of_a 2 1 1) (omega arith) refl in cc

pub entry_twice_is_refused : IsRefusedBy (HistoryIsRight insert_select entry_twice) insert_select entry_twice
entry_twice_is_refused = (entered_twice, λ is. entered_twice is.history)

-- a line of a node that comes up, and a loss behind no down line
pub node_line_is_refused : IsRefusedBy (LinesHavePlaces insert_select node_line) insert_select node_line
node_line_is_refused = (λ law. law.0, λ is. is.places.0)

not_lost : LinesHavePlaces insert_select lost_line → ⊥
not_lost law = lost_needs_down (take 4 lost_line.lines) (codes "a") 2 1 1 refl law.1.1.1.1.0.1

pub lost_line_is_refused : IsRefusedBy (LinesHavePlaces insert_select lost_line) insert_select lost_line
lost_line_is_refused = (not_lost, λ is. not_lost is.places)

-- a begin below a position that was named before a line of the session
begun_before : BeginsAreFresh begin_too_old → ⊥
begun_before law =
    let fresh : IsFresh (nothing_before (worked_table ∷ [])) (take 7 begin_too_old.lines) (codes "a") 1 = law.1.1.1.1.1.1.1.0 in
    let named : NameUpTo 1 (take 4 begin_too_old.lines) = fresh.heard (take 4 begin_too_old.lines) (to_a 2 (row 1 10)) (to_a 2 (reply.Done 1) ∷ to_a 2 (reply.Committed 2) ∷ []) refl refl in
    let second : 2 ≤ 1 = named.1.1.0.0 in
    omega (arith, second)

pub begin_too_old_is_refused : IsRefusedBy (BeginsAreFresh begin_too_old) two_selects begin_too_old
begin_too_old_is_refused = (begun_before, λ is. begun_before is.begins)

-- what stands before another member of a list stands before its last one
all_before : {A : Type 0} (P : A → Type 0) (xs front back : List A) (y mark : A) → xs ++ y ∷ [] ≡ front ++ mark ∷ back → AllByRecursion P xs → AllByRecursion P front
all_before P xs [] back y mark is all = tt
all_before P [] (f ∷ []) back y mark is all = cc
all_before P [] (f ∷ g ∷ front) back y mark is all = cc
all_before {A} P (x ∷ xs) (f ∷ front) back y mark is all =
    let head : x ≡ f = cc in
    let rest : xs ++ y ∷ [] ≡ front ++ mark ∷ back = cc in
    (subst P head all.0, all_before P xs front back y mark rest all.1)

-- the replies to the select that begins before the insert
abbrev late_replies : List (List Reply)
late_replies = (reply.Begin 1 ∷ reply.Changed 1 ∷ reply.Committed 2 ∷ []) ∷ (reply.Begin 1 ∷ reply.Done 0 ∷ reply.Committed 1 ∷ []) ∷ []

along_late : (P : List ℕ → WorkItem → List Reply → Type 0) → EachPart (P (codes "a")) items_of_a late_replies → (name : List ℕ) → Along (P name) (work small_language name insert_select.body) (told name late.lines)
along_late P is =
    along_each P insert_select.body late.lines
    (inl refl, (inl refl, tt)) (inl refl, (inl refl, (inl refl, (inl refl, (inl refl, (inl refl, tt))))))
    (subst (λ (items : List WorkItem). Along (P (codes "a")) items (told (codes "a") late.lines)) (sym work_of_a) (along_parts (P (codes "a")) items_of_a late_replies is))
    refl

-- a begin that does not reach the position that the session's own last line named is lawful
pub late_is_lawful : Lawful (from_nothing insert_select) late
late_is_lawful = record {
  replies = along_late (IsTold (from_nothing insert_select) (view_of (from_nothing insert_select) inserted_entries)) (
    whole 1 (reply.Committed 2) (omega arith) (omega arith) tt (record { later = omega arith; stands = refl; untouched = λ j after before. absurd (omega (arith, after, before)); is_good = good_insert }) refl,
    (whole 1 (reply.Committed 1) (omega arith) (omega arith) tt refl refl, tt),
  );
  begins = (
    fresh_begin (nothing_before (worked_table ∷ [])) _ (codes "a") 1 (omega arith) (omega arith) tt,
    (
      tt,
      (
        tt,
        (
          record {
            first = omega arith;
            base = omega arith;
            heard = λ front mark back is _. all_before (λ l. AllByRecursion (λ p. p ≤ 1) (positions l)) (take 2 inserted_lines) front back _ mark is ((omega arith, tt), (tt, tt));
          },
          (tt, (tt, tt)),
        ),
      ),
    ),
  );
  history = insert_select_is_lawful.history;
  answered = (tt, (entry_told inserting [] (drop 3 (told (codes "a") late.lines)) refl (omega arith) refl, tt));
  places = (tt, (tt, (tt, (tt, (tt, (tt, tt))))));
  feeds = refl;
  base = refl;
  end = refl;
}

-- a begin below the greatest position is not in the order of play: the script has one report, which is another
pub late_is_not_in_order : InPlayOrder (from_nothing insert_select) late → ⊥
late_is_not_in_order order =
    let same : insert_select_report ≡ late =
    one_report (from_nothing insert_select) insert_select_report late statements_answer
    insert_select_is_lawful insert_select_is_in_order (refl, (refl, (refl, (refl, (refl, (refl, (refl, tt))))))) late_is_lawful order (refl, (refl, (refl, (refl, (refl, (refl, tt)))))) in
    let counts : length insert_select_report.lines ≡ length late.lines = ap (λ (r : Report). length r.lines) same in
    omega (arith, counts)
