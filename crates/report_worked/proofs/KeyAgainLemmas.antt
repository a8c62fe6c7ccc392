-- The report of a key that is taken, freed and taken again, computed.
use Rattle.std.proofs.Common.{◌≡◌, ℕ, List, [], ◌∷◌, refl, sym, subst, arith, codes, inl, inr, take}
use Rattle.cdb_values.specs.Good.{IsGood}
use Rattle.cdb_values.specs.declared.rows.Level.TheVariants.{Snapshot}
use Rattle.report_laws.specs.History.{nothing_before, rows_at, view_of}
use Rattle.report_laws.specs.Lawful.{Lawful}
use Rattle.report_laws.specs.Play.{InPlayOrder}
use Rattle.report_text.specs.declared.reports.EntryLine.TheVariants.{Setup}
use Rattle.report_laws.specs.Told.{told, Along, IsTold}
use Rattle.report_laws.specs.Work.{Transaction, WorkItem, Does, transaction, ByCommit, WithItsLine, work}
use Rattle.script_form.specs.CanRun.{script_tables}
use Rattle.report_laws.proofs.DownLaws.{none_go_down}
use Rattle.report_worked.specs.Worked.{worked_table, key_again, key_again_report, of_a, of_b}
use Rattle.cdb_values.specs.declared.replies.Reply.{Reply}
use Rattle.cdb_values.specs.declared.replies.Reply.TheVariants as reply
use Rattle.report_laws.proofs.HistoryLaws.{none_stands}
use Rattle.report_laws.proofs.LineLaws.{fresh_begin}
use Rattle.report_worked.proofs.WorkedLemmas.{along_each, along_parts, EachPart, whole, in_turns, is_turn, entry_told}
use Rattle.report_worked.specs.Small.{from_nothing, small_language}

-- the transactions of the sessions
abbrev pub first_insert : Transaction
first_insert = transaction 1 ((codes "insert into t values(1, 1)") ∷ []) Snapshot ByCommit

abbrev pub taking_again : Transaction
taking_again = transaction 2 ((codes "delete from t where id = 1") ∷ (codes "insert into t values(1, 3)") ∷ []) Snapshot ByCommit

abbrev pub second_insert : Transaction
second_insert = transaction 1 ((codes "insert into t values(1, 2)") ∷ []) Snapshot WithItsLine

abbrev pub items_of_a : List WorkItem
items_of_a = Does first_insert ∷ Does taking_again ∷ []

pub work_of_a : work small_language (codes "a") key_again.body ≡ items_of_a
work_of_a = refl

-- and the replies to each of them
abbrev pub replies_of_a : List (List Reply)
replies_of_a = ((reply.Begin 1) ∷ (reply.Changed 1) ∷ (reply.Duplicate 2 (codes "t") (codes "pk")) ∷ []) ∷ ((reply.Begin 2) ∷ (reply.Changed 1) ∷ (reply.Changed 1) ∷ (reply.Committed 3) ∷ []) ∷ []

abbrev pub items_of_b : List WorkItem
items_of_b = Does second_insert ∷ []

pub work_of_b : work small_language (codes "b") key_again.body ≡ items_of_b
work_of_b = refl

-- and the replies to each of them
abbrev pub replies_of_b : List (List Reply)
replies_of_b = ((reply.Begin 1) ∷ (reply.Changed 1) ∷ (reply.Committed 2) ∷ []) ∷ []

-- the laws along each session's work hold where they hold of these
along_their_work : (P : List ℕ → WorkItem → List Reply → Type 0) → EachPart (P (codes "a")) items_of_a replies_of_a → EachPart (P (codes "b")) items_of_b replies_of_b →
    (name : List ℕ) → Along (P name) (work small_language name key_again.body) (told name key_again_report.lines)
along_their_work P of_a of_b =
    along_each P key_again.body key_again_report.lines
    (inl refl, (inl refl, (inr refl, (inl refl, (inl refl, (inl refl, (inl refl, (inl refl, tt))))))))
    (inl refl, (inl refl, (inr refl, (inr refl, (inr refl, (inl refl, (inl refl, (inl refl, (inl refl, (inl refl, tt))))))))))
    (subst (λ (items : List WorkItem). Along (P (codes "a")) items (told (codes "a") key_again_report.lines)) (sym work_of_a) (along_parts (P (codes "a")) items_of_a replies_of_a of_a))
    (subst (λ (items : List WorkItem). Along (P (codes "b")) items (told (codes "b") key_again_report.lines)) (sym work_of_b) (along_parts (P (codes "b")) items_of_b replies_of_b of_b))

-- the rows at the entries are good
pub good_at_2 : IsGood (script_tables key_again) (rows_at (from_nothing key_again) key_again_report.entries 2).tables
good_at_2 = record {
  rows_fit = ((record { columns = (refl, (refl, tt)); size = omega arith; keys = (omega arith, tt) }, tt), tt);
  keys_kept = refl;
}

pub good_at_3 : IsGood (script_tables key_again) (rows_at (from_nothing key_again) key_again_report.entries 3).tables
good_at_3 = record {
  rows_fit = ((record { columns = (refl, (refl, tt)); size = omega arith; keys = (omega arith, tt) }, tt), tt);
  keys_kept = refl;
}

pub key_again_is_lawful : Lawful (from_nothing key_again) key_again_report
key_again_is_lawful = record {
  replies = along_their_work (IsTold (from_nothing key_again) (view_of (from_nothing key_again) key_again_report.entries)) (
    whole 1 (reply.Duplicate 2 (codes "t") (codes "pk")) (omega arith) (omega arith) tt (record { has_ops = λ is. cc; begun = omega arith; within = omega arith; untouched = λ j after before. refl; breaks = refl }) refl,
    (whole 2 (reply.Committed 3) (omega arith) (omega arith) tt (record { later = omega arith; stands = refl; untouched = λ j after before. absurd (omega (arith, after, before)); is_good = good_at_3 }) refl, tt),
  ) (whole 1 (reply.Committed 2) (omega arith) (omega arith) tt (record { later = omega arith; stands = refl; untouched = λ j after before. absurd (omega (arith, after, before)); is_good = good_at_2 }) refl, tt);
  begins = (fresh_begin (nothing_before (worked_table ∷ [])) _ (codes "a") 1 (omega arith) (omega arith) tt, (tt, (fresh_begin (nothing_before (worked_table ∷ [])) _ (codes "b") 1 (omega arith) (omega arith) ((omega arith, tt), (tt, tt)), (tt, (tt, (tt, (fresh_begin (nothing_before (worked_table ∷ [])) _ (codes "a") 2 (omega arith) (omega arith) ((omega arith, tt), (tt, ((omega arith, tt), (tt, ((omega arith, tt), ((omega arith, tt), tt)))))), (tt, (tt, (tt, tt))))))))));
  history = (
    (refl, refl, refl),
    (
      record {
        placed = refl;
        once = none_stands (from_nothing key_again).origin (Setup 1 ∷ []) (codes "b") 1 (refl, tt);
        begun = (omega arith, omega arith, omega arith);
        transaction = second_insert;
        is_its = refl;
        is_level = refl;
        ran = _;
        is_ran = refl;
        has_ops = λ is. cc;
        untouched = λ j after before. absurd (omega (arith, after, before));
        is_good = good_at_2;
      },
      (
        record {
          placed = refl;
          once = none_stands (from_nothing key_again).origin (Setup 1 ∷ of_b 2 1 1 ∷ []) (codes "a") 2 (refl, (refl, tt));
          begun = (omega arith, omega arith, omega arith);
          transaction = taking_again;
          is_its = refl;
          is_level = refl;
          ran = _;
          is_ran = refl;
          has_ops = λ is. cc;
          untouched = λ j after before. absurd (omega (arith, after, before));
          is_good = good_at_3;
        },
        tt,
      ),
    ),
  );
  answered = (tt, (entry_told second_insert [] [] refl (omega arith) refl, (entry_told taking_again (take 3 (told (codes "a") key_again_report.lines)) [] refl (omega arith) refl, tt)));
  places = (tt, (tt, (tt, (tt, (tt, (tt, (tt, (tt, (tt, (tt, tt))))))))));
  feeds = refl;
  base = refl;
  end = refl;
}

pub key_again_is_in_order : InPlayOrder (from_nothing key_again) key_again_report
key_again_is_in_order = record {
  first = [];
  go_down = tt;
  rest = key_again_report.lines;
  lines_are = refl;
  later = of_b 2 1 1 ∷ of_a 3 2 2 ∷ [];
  opened = refl;
  order = in_turns (from_nothing key_again) [] (Setup 1 ∷ []) key_again.body (
      ((reply.Begin 1) ∷ [], [])
      ∷ ((reply.Changed 1) ∷ [], [])
      ∷ ((reply.Begin 1) ∷ (reply.Changed 1) ∷ (reply.Committed 2) ∷ [], of_b 2 1 1 ∷ [])
      ∷ ((reply.Duplicate 2 (codes "t") (codes "pk")) ∷ [], [])
      ∷ ((reply.Begin 2) ∷ [], [])
      ∷ ((reply.Changed 1) ∷ [], [])
      ∷ ((reply.Changed 1) ∷ [], [])
      ∷ ((reply.Committed 3) ∷ [], of_a 3 2 2 ∷ [])
      ∷ []
      ) (
        is_turn refl (refl, tt) tt,
        (
          is_turn refl (tt, tt) tt,
          (
            is_turn refl (refl, (tt, (omega arith, tt))) (refl, 1, Snapshot, refl, ((reply.Begin 1) ∷ (reply.Changed 1) ∷ [], [], refl)),
            (
              is_turn refl (refl, tt) tt,
              (
                is_turn refl (refl, tt) tt,
                (
                  is_turn refl (tt, tt) tt,
                  (
                    is_turn refl (tt, tt) tt,
                    (
                      is_turn refl (omega arith, tt) (refl, 2, Snapshot, refl, ([], [], refl)),
                      tt,
                    ),
                  ),
                ),
              ),
            ),
          ),
        ),
      );
  changes = none_go_down (from_nothing key_again) (view_of (from_nothing key_again) key_again_report.entries) [] key_again_report.lines refl;
}
