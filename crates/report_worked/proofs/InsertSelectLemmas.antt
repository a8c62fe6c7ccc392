-- The report of an insert and a select, computed.
use Rattle.std.proofs.Common.{◌≡◌, ℕ, List, [], ◌∷◌, refl, sym, subst, arith, codes, inl, drop}
use Rattle.std.specs.Fmt.{digits}
use Rattle.cdb_values.specs.Good.{IsGood}
use Rattle.cdb_values.specs.declared.rows.Level.TheVariants.{Snapshot}
use Rattle.report_text.specs.Text.{report_text}
use Rattle.report_laws.specs.History.{nothing_before, rows_at, view_of}
use Rattle.report_laws.specs.Lawful.{Lawful}
use Rattle.report_laws.specs.Play.{InPlayOrder}
use Rattle.report_text.specs.declared.reports.EntryLine.TheVariants.{Setup}
use Rattle.report_laws.specs.Told.{told, Along, IsTold}
use Rattle.report_laws.specs.Work.{Transaction, WorkItem, Does, transaction, WithItsLine, work}
use Rattle.script_form.specs.CanRun.{script_tables}
use Rattle.report_laws.proofs.DownLaws.{none_go_down}
use Rattle.report_worked.specs.Worked.{worked_table, insert_select, insert_select_report, insert_select_text, insert_text, select_text, inserted_entries, row, of_a}
use Rattle.cdb_values.specs.declared.replies.Reply.{Reply}
use Rattle.cdb_values.specs.declared.replies.Reply.TheVariants as reply
use Rattle.report_laws.proofs.HistoryLaws.{none_stands}
use Rattle.report_laws.proofs.LineLaws.{fresh_begin}
use Rattle.report_worked.proofs.WorkedLemmas.{along_each, along_parts, EachPart, whole, in_turns, is_turn, entry_told}
use Rattle.report_worked.specs.Small.{from_nothing, small_language}

-- the report's text
pub says_its_lines : report_text insert_select_report ≡ insert_select_text
unfolding report_text digits
says_its_lines = refl

-- the transactions of the session a
abbrev pub inserting : Transaction
inserting = transaction 1 (insert_text ∷ []) Snapshot WithItsLine

abbrev pub selecting : Transaction
selecting = transaction 2 (select_text ∷ []) Snapshot WithItsLine

abbrev pub items_of_a : List WorkItem
items_of_a = Does inserting ∷ Does selecting ∷ []

pub work_of_a : work small_language (codes "a") insert_select.body ≡ items_of_a
work_of_a = refl

-- the rows at the entry of the insert are good
pub good_insert : IsGood (script_tables insert_select) (rows_at (from_nothing insert_select) inserted_entries 2).tables
good_insert = record {
  rows_fit = ((record { columns = (refl, (refl, tt)); size = omega arith; keys = (omega arith, tt) }, tt), tt);
  keys_kept = refl;
}

-- the replies to each of them
abbrev pub replies_of_a : List (List Reply)
replies_of_a = (reply.Begin 1 ∷ reply.Changed 1 ∷ reply.Committed 2 ∷ []) ∷ (reply.Begin 2 ∷ row 1 10 ∷ reply.Done 1 ∷ reply.Committed 2 ∷ []) ∷ []

-- the laws along each session's work hold where they hold of these
along_its_work : (P : List ℕ → WorkItem → List Reply → Type 0) → EachPart (P (codes "a")) items_of_a replies_of_a →
    (name : List ℕ) → Along (P name) (work small_language name insert_select.body) (told name insert_select_report.lines)
along_its_work P is =
    along_each P insert_select.body insert_select_report.lines
    (inl refl, (inl refl, tt)) (inl refl, (inl refl, (inl refl, (inl refl, (inl refl, (inl refl, (inl refl, tt)))))))
    (subst (λ (items : List WorkItem). Along (P (codes "a")) items (told (codes "a") insert_select_report.lines)) (sym work_of_a) (along_parts (P (codes "a")) items_of_a replies_of_a is))
    refl

pub insert_select_is_lawful : Lawful (from_nothing insert_select) insert_select_report
insert_select_is_lawful = record {
  replies = along_its_work (IsTold (from_nothing insert_select) (view_of (from_nothing insert_select) inserted_entries)) (
    whole 1 (reply.Committed 2) (omega arith) (omega arith) tt (record { later = omega arith; stands = refl; untouched = λ j after before. absurd (omega (arith, after, before)); is_good = good_insert }) refl,
    (whole 2 (reply.Committed 2) (omega arith) (omega arith) tt refl refl, tt),
  );
  begins = (
    fresh_begin (nothing_before (worked_table ∷ [])) _ (codes "a") 1 (omega arith) (omega arith) tt,
    (tt, (tt, (fresh_begin (nothing_before (worked_table ∷ [])) _ (codes "a") 2 (omega arith) (omega arith) ((omega arith, tt), (tt, ((omega arith, tt), tt))), (tt, (tt, (tt, tt)))))),
  );
  history = (
    (refl, refl, refl),
    (
      record {
        placed = refl;
        once = none_stands (from_nothing insert_select).origin (Setup 1 ∷ []) (codes "a") 1 (refl, tt);
        begun = (omega arith, omega arith, omega arith);
        transaction = inserting;
        is_its = refl;
        is_level = refl;
        ran = _;
        is_ran = refl;
        has_ops = λ is. cc;
        untouched = λ j after before. absurd (omega (arith, after, before));
        is_good = good_insert;
      },
      tt,
    ),
  );
  answered = (tt, (entry_told inserting [] (drop 3 (told (codes "a") insert_select_report.lines)) refl (omega arith) refl, tt));
  places = (tt, (tt, (tt, (tt, (tt, (tt, (tt, tt)))))));
  feeds = refl;
  base = refl;
  end = refl;
}

pub insert_select_is_in_order : InPlayOrder (from_nothing insert_select) insert_select_report
insert_select_is_in_order = record {
  first = [];
  go_down = tt;
  rest = insert_select_report.lines;
  lines_are = refl;
  later = of_a 2 1 1 ∷ [];
  opened = refl;
  order = in_turns (from_nothing insert_select) [] (Setup 1 ∷ []) insert_select.body (
      ((reply.Begin 1) ∷ (reply.Changed 1) ∷ (reply.Committed 2) ∷ [], of_a 2 1 1 ∷ [])
      ∷ ((reply.Begin 2) ∷ row 1 10 ∷ (reply.Done 1) ∷ (reply.Committed 2) ∷ [], [])
      ∷ []
      ) (
        is_turn refl (refl, (tt, (omega arith, tt))) (refl, 1, Snapshot, refl, ((reply.Begin 1) ∷ (reply.Changed 1) ∷ [], [], refl)),
        (
          is_turn refl (refl, (tt, (tt, (omega arith, tt)))) tt,
          tt,
        ),
      );
  changes = none_go_down (from_nothing insert_select) (view_of (from_nothing insert_select) insert_select_report.entries) [] insert_select_report.lines refl;
}
