-- The report of two updates of one row, computed.
use Rattle.std.proofs.Common.{◌≡◌, ℕ, List, [], ◌∷◌, refl, sym, subst, arith, codes, inl, inr, take, drop}
use Rattle.cdb_values.specs.Good.{IsGood}
use Rattle.cdb_values.specs.declared.rows.Level.TheVariants.{Snapshot}
use Rattle.report_laws.specs.History.{nothing_before, rows_at, view_of}
use Rattle.report_laws.specs.Lawful.{Lawful}
use Rattle.report_laws.specs.Play.{InPlayOrder}
use Rattle.report_text.specs.declared.reports.EntryLine.TheVariants.{Setup}
use Rattle.report_laws.specs.Told.{told, Along, IsTold}
use Rattle.report_laws.specs.Work.{Transaction, WorkItem, Does, transaction, ByCommit, WithItsLine, work}
use Rattle.script_form.specs.CanRun.{script_tables}
use Rattle.report_laws.proofs.DownLaws.{none_go_down}
use Rattle.report_worked.specs.Worked.{worked_table, two_updates, two_updates_report, two_updates_entries, inserted_entries, insert_text, conflict, of_a, of_b}
use Rattle.cdb_values.specs.declared.replies.Reply.{Reply}
use Rattle.cdb_values.specs.declared.replies.Reply.TheVariants as reply
use Rattle.report_laws.proofs.HistoryLaws.{none_stands}
use Rattle.report_laws.proofs.LineLaws.{fresh_begin}
use Rattle.report_worked.proofs.WorkedLemmas.{along_each, along_parts, EachPart, whole, in_turns, is_turn, entry_told}
use Rattle.report_worked.specs.Small.{from_nothing, small_language}
use Rattle.cdb_values.specs.Changes.{genid_item}
use Rattle.session_language.specs.Touched.{TheVersion}

-- the transactions of the sessions
abbrev pub inserting : Transaction
inserting = transaction 1 (insert_text ∷ []) Snapshot WithItsLine

abbrev pub first_update : Transaction
first_update = transaction 2 ((codes "update t set v = 11 where id = 1") ∷ []) Snapshot ByCommit

abbrev pub second_update : Transaction
second_update = transaction 1 ((codes "update t set v = 12 where id = 1") ∷ []) Snapshot ByCommit

abbrev pub items_of_a : List WorkItem
items_of_a = Does inserting ∷ Does first_update ∷ []

pub work_of_a : work small_language (codes "a") two_updates.body ≡ items_of_a
work_of_a = refl

-- and the replies to each of them
abbrev pub replies_of_a : List (List Reply)
replies_of_a = ((reply.Begin 1) ∷ (reply.Changed 1) ∷ (reply.Committed 2) ∷ []) ∷ ((reply.Begin 2) ∷ (reply.Changed 1) ∷ (reply.Committed 3) ∷ []) ∷ []

abbrev pub items_of_b : List WorkItem
items_of_b = Does second_update ∷ []

pub work_of_b : work small_language (codes "b") two_updates.body ≡ items_of_b
work_of_b = refl

-- and the replies to each of them
abbrev pub replies_of_b : List (List Reply)
replies_of_b = ((reply.Begin 2) ∷ (reply.Changed 1) ∷ conflict ∷ []) ∷ []

-- the laws along each session's work hold where they hold of these
along_their_work : (P : List ℕ → WorkItem → List Reply → Type 0) → EachPart (P (codes "a")) items_of_a replies_of_a → EachPart (P (codes "b")) items_of_b replies_of_b →
    (name : List ℕ) → Along (P name) (work small_language name two_updates.body) (told name two_updates_report.lines)
along_their_work P of_a of_b =
    along_each P two_updates.body two_updates_report.lines
    (inl refl, (inl refl, (inr refl, (inl refl, (inr refl, (inl refl, (inr refl, tt)))))))
    (inl refl, (inl refl, (inl refl, (inl refl, (inr refl, (inl refl, (inr refl, (inl refl, (inr refl, tt)))))))))
    (subst (λ (items : List WorkItem). Along (P (codes "a")) items (told (codes "a") two_updates_report.lines)) (sym work_of_a) (along_parts (P (codes "a")) items_of_a replies_of_a of_a))
    (subst (λ (items : List WorkItem). Along (P (codes "b")) items (told (codes "b") two_updates_report.lines)) (sym work_of_b) (along_parts (P (codes "b")) items_of_b replies_of_b of_b))

-- the rows at the entries are good
pub good_at_2 : IsGood (script_tables two_updates) (rows_at (from_nothing two_updates) two_updates_entries 2).tables
good_at_2 = record {
  rows_fit = ((record { columns = (refl, (refl, tt)); size = omega arith; keys = (omega arith, tt) }, tt), tt);
  keys_kept = refl;
}

pub good_at_3 : IsGood (script_tables two_updates) (rows_at (from_nothing two_updates) two_updates_entries 3).tables
good_at_3 = record {
  rows_fit = ((record { columns = (refl, (refl, tt)); size = omega arith; keys = (omega arith, tt) }, tt), tt);
  keys_kept = refl;
}

pub two_updates_is_lawful : Lawful (from_nothing two_updates) two_updates_report
two_updates_is_lawful = record {
  replies = along_their_work (IsTold (from_nothing two_updates) (view_of (from_nothing two_updates) two_updates_entries)) (
    whole 1 (reply.Committed 2) (omega arith) (omega arith) tt (record { later = omega arith; stands = refl; untouched = λ j after before. absurd (omega (arith, after, before)); is_good = good_at_2 }) refl,
    (whole 2 (reply.Committed 3) (omega arith) (omega arith) tt (record { later = omega arith; stands = refl; untouched = λ j after before. absurd (omega (arith, after, before)); is_good = good_at_3 }) refl, tt),
  ) (whole 2 conflict (omega arith) (omega arith) tt (record { has_ops = λ is. cc; later = omega arith; within = omega arith; item = TheVersion (genid_item 0 1); touched = refl; untouched = λ j after before. absurd (omega (arith, after, before)); is_told = refl }) refl, tt);
  begins = (fresh_begin (nothing_before (worked_table ∷ [])) _ (codes "a") 1 (omega arith) (omega arith) tt, (tt, (tt, (fresh_begin (nothing_before (worked_table ∷ [])) _ (codes "a") 2 (omega arith) (omega arith) ((omega arith, tt), (tt, ((omega arith, tt), tt))), (fresh_begin (nothing_before (worked_table ∷ [])) _ (codes "b") 2 (omega arith) (omega arith) ((omega arith, tt), (tt, ((omega arith, tt), ((omega arith, tt), tt)))), (tt, (tt, (tt, (tt, tt)))))))));
  history = (
    (refl, refl, refl),
    (
      record {
        placed = refl;
        once = none_stands (from_nothing two_updates).origin (Setup 1 ∷ []) (codes "a") 1 (refl, tt);
        begun = (omega arith, omega arith, omega arith);
        transaction = inserting;
        is_its = refl;
        is_level = refl;
        ran = _;
        is_ran = refl;
        has_ops = λ is. cc;
        untouched = λ j after before. absurd (omega (arith, after, before));
        is_good = good_at_2;
      },
      (
        record {
          placed = refl;
          once = none_stands (from_nothing two_updates).origin (inserted_entries) (codes "a") 2 (refl, (refl, tt));
          begun = (omega arith, omega arith, omega arith);
          transaction = first_update;
          is_its = refl;
          is_level = refl;
          ran = _;
          is_ran = refl;
          has_ops = λ is. cc;
          untouched = λ j after before. absurd (omega (arith, after, before));
          is_good = good_at_3;
        },
        tt,
      ),
    ),
  );
  answered = (tt, (entry_told inserting [] (drop 3 (told (codes "a") two_updates_report.lines)) refl (omega arith) refl, (entry_told first_update (take 3 (told (codes "a") two_updates_report.lines)) [] refl (omega arith) refl, tt)));
  places = (tt, (tt, (tt, (tt, (tt, (tt, (tt, (tt, (tt, tt)))))))));
  feeds = refl;
  base = refl;
  end = refl;
}

pub two_updates_is_in_order : InPlayOrder (from_nothing two_updates) two_updates_report
two_updates_is_in_order = record {
  first = [];
  go_down = tt;
  rest = two_updates_report.lines;
  lines_are = refl;
  later = of_a 2 1 1 ∷ of_a 3 2 2 ∷ [];
  opened = refl;
  order = in_turns (from_nothing two_updates) [] (Setup 1 ∷ []) two_updates.body (
      ((reply.Begin 1) ∷ (reply.Changed 1) ∷ (reply.Committed 2) ∷ [], of_a 2 1 1 ∷ [])
      ∷ ((reply.Begin 2) ∷ [], [])
      ∷ ((reply.Begin 2) ∷ [], [])
      ∷ ((reply.Changed 1) ∷ [], [])
      ∷ ((reply.Changed 1) ∷ [], [])
      ∷ ((reply.Committed 3) ∷ [], of_a 3 2 2 ∷ [])
      ∷ (conflict ∷ [], [])
      ∷ []
      ) (
        is_turn refl (refl, (tt, (omega arith, tt))) (refl, 1, Snapshot, refl, ((reply.Begin 1) ∷ (reply.Changed 1) ∷ [], [], refl)),
        (
          is_turn refl (refl, tt) tt,
          (
            is_turn refl (refl, tt) tt,
            (
              is_turn refl (tt, tt) tt,
              (
                is_turn refl (tt, tt) tt,
                (
                  is_turn refl (omega arith, tt) (refl, 2, Snapshot, refl, ([], [], refl)),
                  (
                    is_turn refl (omega arith, tt) tt,
                    tt,
                  ),
                ),
              ),
            ),
          ),
        ),
      );
  changes = none_go_down (from_nothing two_updates) (view_of (from_nothing two_updates) two_updates_report.entries) [] two_updates_report.lines refl;
}
