-- The reports of write skew, computed: at level snapshot it is committed, at level serializable it conflicts.
use Rattle.std.proofs.Common.{◌≡◌, ℕ, ◌<◌, List, [], ◌∷◌, refl, sym, subst, arith, codes, inl, inr, take, drop, None, Some}
use Rattle.cdb_values.specs.Good.{IsGood}
use Rattle.cdb_values.specs.declared.rows.Level.TheVariants.{Snapshot, Serializable}
use Rattle.report_laws.specs.History.{nothing_before, alone_on, changes_at, rows_at, view_of, IsCommitAfter}
use Rattle.report_laws.specs.Lawful.{Lawful}
use Rattle.report_laws.specs.Play.{InPlayOrder}
use Rattle.report_laws.specs.Told.{told, alone_at, Along, IsTold}
use Rattle.report_laws.specs.View.{touched_in}
use Rattle.report_laws.specs.Work.{Transaction, WorkItem, Does, Lone, transaction, ByCommit, WithItsLine, work}
use Rattle.script_form.specs.CanRun.{script_tables}
use Rattle.report_laws.proofs.DownLaws.{none_go_down}
use Rattle.report_worked.specs.Small.{from_nothing, small_language, range_of, has_id}
use Rattle.report_worked.specs.Worked.{worked_table, row, skew, skew_entries, skew_report, strict_skew, strict_entries, strict_skew_report, range_conflict}
use Rattle.report_worked.specs.WorkedWrong.{IsRefusedBy, HistoryIsRight, strict_committed}
use Rattle.report_text.specs.declared.reports.EntryLine.TheVariants.{Setup, Commit}
use Rattle.cdb_values.specs.declared.replies.Reply.{Reply}
use Rattle.cdb_values.specs.declared.replies.Reply.TheVariants as reply
use Rattle.session_language.specs.Language.{Answered}
use Rattle.session_language.specs.Touched.{Used, TheRange, first_used, used_at}
use Rattle.report_laws.proofs.HistoryLaws.{none_stands}
use Rattle.report_laws.proofs.LineLaws.{fresh_begin}
use Rattle.report_worked.proofs.TwoUpdatesLemmas.{inserting}
use Rattle.report_worked.proofs.WorkedLemmas.{along_each, along_parts, EachPart, whole, in_turns, is_turn, entry_told}

-- the position between 3 and 5
only_four : (P : ℕ → Type 0) → P 4 → (j : ℕ) → 3 < j → j < 5 → P j
only_four P is j after before = let same : 4 ≡ j = omega (arith, after, before) in subst P same is

abbrev pub inserting_second : Transaction
inserting_second = transaction 2 (codes "insert into t values(2, 20)" ∷ []) Snapshot WithItsLine

abbrev pub skew_of_a : Transaction
skew_of_a = transaction 3 (codes "select * from t where id = 2" ∷ codes "update t set v = 11 where id = 1" ∷ []) Snapshot ByCommit

abbrev pub skew_of_b : Transaction
skew_of_b = transaction 1 (codes "select * from t where id = 1" ∷ codes "update t set v = 21 where id = 2" ∷ []) Snapshot ByCommit

abbrev pub items_of_a : List WorkItem
items_of_a = Does inserting ∷ Does inserting_second ∷ Does skew_of_a ∷ []

pub work_of_a : work small_language (codes "a") skew.body ≡ items_of_a
work_of_a = refl

abbrev pub items_of_b : List WorkItem
items_of_b = Does skew_of_b ∷ []

pub work_of_b : work small_language (codes "b") skew.body ≡ items_of_b
work_of_b = refl

-- the replies to each of them
abbrev pub replies_of_a : List (List Reply)
replies_of_a = ((reply.Begin 1) ∷ (reply.Changed 1) ∷ (reply.Committed 2) ∷ []) ∷ ((reply.Begin 2) ∷ (reply.Changed 1) ∷ (reply.Committed 3) ∷ []) ∷ ((reply.Begin 3) ∷ (row 2 20) ∷ (reply.Done 1) ∷ (reply.Changed 1) ∷ (reply.Committed 4) ∷ []) ∷ []

abbrev pub replies_of_b : List (List Reply)
replies_of_b = ((reply.Begin 3) ∷ (row 1 10) ∷ (reply.Done 1) ∷ (reply.Changed 1) ∷ (reply.Committed 5) ∷ []) ∷ []

along_skew : (P : List ℕ → WorkItem → List Reply → Type 0) → EachPart (P (codes "a")) items_of_a replies_of_a → EachPart (P (codes "b")) items_of_b replies_of_b →
    (name : List ℕ) → Along (P name) (work small_language name skew.body) (told name skew_report.lines)
along_skew P of_a of_b =
    along_each P skew.body skew_report.lines
    (inl refl, (inl refl, (inl refl, (inr refl, (inl refl, (inr refl, (inl refl, (inr refl, (inl refl, (inr refl, tt))))))))))
    (inl refl, (inl refl, (inl refl, (inl refl, (inl refl, (inl refl, (inl refl, (inr refl, (inl refl, (inl refl, (inr refl, (inr refl, (inl refl, (inr refl, (inl refl, (inr refl, tt))))))))))))))))
    (subst (λ (items : List WorkItem). Along (P (codes "a")) items (told (codes "a") skew_report.lines)) (sym work_of_a) (along_parts (P (codes "a")) items_of_a replies_of_a of_a))
    (subst (λ (items : List WorkItem). Along (P (codes "b")) items (told (codes "b") skew_report.lines)) (sym work_of_b) (along_parts (P (codes "b")) items_of_b replies_of_b of_b))

good_at_2 : IsGood (script_tables skew) (rows_at (from_nothing skew) skew_entries 2).tables
good_at_2 = record {
  rows_fit = ((record { columns = (refl, (refl, tt)); size = omega arith; keys = (omega arith, tt) }, tt), tt);
  keys_kept = refl;
}

good_at_3 : IsGood (script_tables skew) (rows_at (from_nothing skew) skew_entries 3).tables
good_at_3 = record {
  rows_fit = ((record { columns = (refl, (refl, tt)); size = omega arith; keys = (omega arith, tt) }, (record { columns = (refl, (refl, tt)); size = omega arith; keys = (omega arith, tt) }, tt)), tt);
  keys_kept = refl;
}

good_at_4 : IsGood (script_tables skew) (rows_at (from_nothing skew) skew_entries 4).tables
good_at_4 = record {
  rows_fit = ((record { columns = (refl, (refl, tt)); size = omega arith; keys = (omega arith, tt) }, (record { columns = (refl, (refl, tt)); size = omega arith; keys = (omega arith, tt) }, tt)), tt);
  keys_kept = refl;
}

good_at_5 : IsGood (script_tables skew) (rows_at (from_nothing skew) skew_entries 5).tables
good_at_5 = record {
  rows_fit = ((record { columns = (refl, (refl, tt)); size = omega arith; keys = (omega arith, tt) }, (record { columns = (refl, (refl, tt)); size = omega arith; keys = (omega arith, tt) }, tt)), tt);
  keys_kept = refl;
}

pub skew_is_lawful : Lawful (from_nothing skew) skew_report
skew_is_lawful = record {
  replies = along_skew (IsTold (from_nothing skew) (view_of (from_nothing skew) skew_entries)) (whole 1 (reply.Committed 2) (omega arith) (omega arith) tt (record { later = omega arith; stands = refl; untouched = λ j after before. absurd (omega (arith, after, before)); is_good = good_at_2 }) refl, (whole 2 (reply.Committed 3) (omega arith) (omega arith) tt (record { later = omega arith; stands = refl; untouched = λ j after before. absurd (omega (arith, after, before)); is_good = good_at_3 }) refl, (whole 3 (reply.Committed 4) (omega arith) (omega arith) tt (record { later = omega arith; stands = refl; untouched = λ j after before. absurd (omega (arith, after, before)); is_good = good_at_4 }) refl, tt))) (whole 3 (reply.Committed 5) (omega arith) (omega arith) tt (record { later = omega arith; stands = refl; untouched = only_four (λ k. touched_in (view_of (from_nothing skew) skew_entries) k (used_at Snapshot (alone_at (from_nothing skew) (view_of (from_nothing skew) skew_entries) skew_of_b 3)) ≡ None) refl; is_good = good_at_5 }) refl, tt);
  begins = (fresh_begin (nothing_before (worked_table ∷ [])) _ (codes "a") 1 (omega arith) (omega arith) tt, (tt, (tt, (fresh_begin (nothing_before (worked_table ∷ [])) _ (codes "a") 2 (omega arith) (omega arith) ((omega arith, tt), (tt, ((omega arith, tt), tt))), (tt, (tt, (fresh_begin (nothing_before (worked_table ∷ [])) _ (codes "a") 3 (omega arith) (omega arith) ((omega arith, tt), (tt, ((omega arith, tt), ((omega arith, tt), (tt, ((omega arith, tt), tt)))))), (fresh_begin (nothing_before (worked_table ∷ [])) _ (codes "b") 3 (omega arith) (omega arith) ((omega arith, tt), (tt, ((omega arith, tt), ((omega arith, tt), (tt, ((omega arith, tt), ((omega arith, tt), tt))))))), (tt, (tt, (tt, (tt, (tt, (tt, (tt, (tt, tt))))))))))))))));
  history = (
    (refl, refl, refl),
    (
      record {
        placed = refl;
        once = none_stands (from_nothing skew).origin (Setup 1 ∷ []) (codes "a") 1 (refl, tt);
        begun = (omega arith, omega arith, omega arith);
        transaction = inserting;
        is_its = refl;
        is_level = refl;
        ran = _;
        is_ran = refl;
        has_ops = λ is. cc;
        untouched = λ j after before. absurd (omega (arith, after, before));
        is_good = good_at_2;
      },
      (
        record {
          placed = refl;
          once = none_stands (from_nothing skew).origin (Setup 1 ∷ Commit 2 (codes "a") 1 1 Snapshot ∷ []) (codes "a") 2 (refl, (refl, tt));
          begun = (omega arith, omega arith, omega arith);
          transaction = inserting_second;
          is_its = refl;
          is_level = refl;
          ran = _;
          is_ran = refl;
          has_ops = λ is. cc;
          untouched = λ j after before. absurd (omega (arith, after, before));
          is_good = good_at_3;
        },
        (
          record {
            placed = refl;
            once = none_stands (from_nothing skew).origin (Setup 1 ∷ Commit 2 (codes "a") 1 1 Snapshot ∷ Commit 3 (codes "a") 2 2 Snapshot ∷ []) (codes "a") 3 (refl, (refl, (refl, tt)));
            begun = (omega arith, omega arith, omega arith);
            transaction = skew_of_a;
            is_its = refl;
            is_level = refl;
            ran = _;
            is_ran = refl;
            has_ops = λ is. cc;
            untouched = λ j after before. absurd (omega (arith, after, before));
            is_good = good_at_4;
          },
          (
            record {
              placed = refl;
              once = none_stands (from_nothing skew).origin (Setup 1 ∷ Commit 2 (codes "a") 1 1 Snapshot ∷ Commit 3 (codes "a") 2 2 Snapshot ∷ Commit 4 (codes "a") 3 3 Snapshot ∷ []) (codes "b") 1 (refl, (refl, (refl, (refl, tt))));
              begun = (omega arith, omega arith, omega arith);
              transaction = skew_of_b;
              is_its = refl;
              is_level = refl;
              ran = _;
              is_ran = refl;
              has_ops = λ is. cc;
              untouched = only_four (λ k. touched_in (view_of (from_nothing skew) (Setup 1 ∷ Commit 2 (codes "a") 1 1 Snapshot ∷ Commit 3 (codes "a") 2 2 Snapshot ∷ Commit 4 (codes "a") 3 3 Snapshot ∷ [])) k (used_at Snapshot (alone_on (from_nothing skew) (rows_at (from_nothing skew) (Setup 1 ∷ Commit 2 (codes "a") 1 1 Snapshot ∷ Commit 3 (codes "a") 2 2 Snapshot ∷ Commit 4 (codes "a") 3 3 Snapshot ∷ []) 3) skew_of_b.texts)) ≡ None) refl;
              is_good = good_at_5;
            },
            tt,
          ),
        ),
      ),
    ),
  );
  answered = (tt, (entry_told inserting [] (drop 3 (told (codes "a") skew_report.lines)) refl (omega arith) refl, (entry_told inserting_second (take 3 (told (codes "a") skew_report.lines)) (drop 6 (told (codes "a") skew_report.lines)) refl (omega arith) refl, (entry_told skew_of_a (take 6 (told (codes "a") skew_report.lines)) [] refl (omega arith) refl, (entry_told skew_of_b [] [] refl (omega arith) refl, tt)))));
  places = (tt, (tt, (tt, (tt, (tt, (tt, (tt, (tt, (tt, (tt, (tt, (tt, (tt, (tt, (tt, (tt, tt))))))))))))))));
  feeds = refl;
  base = refl;
  end = refl;
}

pub skew_is_in_order : InPlayOrder (from_nothing skew) skew_report
skew_is_in_order = record {
  first = [];
  go_down = tt;
  rest = skew_report.lines;
  lines_are = refl;
  later = Commit 2 (codes "a") 1 1 Snapshot ∷ Commit 3 (codes "a") 2 2 Snapshot ∷ Commit 4 (codes "a") 3 3 Snapshot ∷ Commit 5 (codes "b") 1 3 Snapshot ∷ [];
  opened = refl;
  order = in_turns (from_nothing skew) [] (Setup 1 ∷ []) skew.body (
      ((reply.Begin 1) ∷ (reply.Changed 1) ∷ (reply.Committed 2) ∷ [], Commit 2 (codes "a") 1 1 Snapshot ∷ []) ∷ ((reply.Begin 2) ∷ (reply.Changed 1) ∷ (reply.Committed 3) ∷ [], Commit 3 (codes "a") 2 2 Snapshot ∷ []) ∷ ((reply.Begin 3) ∷ [], []) ∷ ((reply.Begin 3) ∷ [], []) ∷ ((row 2 20) ∷ (reply.Done 1) ∷ [], []) ∷ ((row 1 10) ∷ (reply.Done 1) ∷ [], []) ∷ ((reply.Changed 1) ∷ [], []) ∷ ((reply.Changed 1) ∷ [], []) ∷ ((reply.Committed 4) ∷ [], Commit 4 (codes "a") 3 3 Snapshot ∷ []) ∷ ((reply.Committed 5) ∷ [], Commit 5 (codes "b") 1 3 Snapshot ∷ []) ∷ []
      ) (is_turn refl (refl, (tt, (omega arith, tt))) (refl, 1, Snapshot, refl, ((reply.Begin 1) ∷ (reply.Changed 1) ∷ [], [], refl)), (is_turn refl (refl, (tt, (omega arith, tt))) (refl, 2, Snapshot, refl, ((reply.Begin 2) ∷ (reply.Changed 1) ∷ [], [], refl)), (is_turn refl (refl, tt) tt, (is_turn refl (refl, tt) tt, (is_turn refl (tt, (tt, tt)) tt, (is_turn refl (tt, (tt, tt)) tt, (is_turn refl (tt, tt) tt, (is_turn refl (tt, tt) tt, (is_turn refl (omega arith, tt) (refl, 3, Snapshot, refl, ([], [], refl)), (is_turn refl (omega arith, tt) (refl, 3, Snapshot, refl, ([], [], refl)), tt))))))))));
  changes = none_go_down (from_nothing skew) (view_of (from_nothing skew) skew_report.entries) [] skew_report.lines refl;
}

abbrev pub strict_skew_of_a : Transaction
strict_skew_of_a = transaction 3 (codes "select * from t where id = 2" ∷ codes "update t set v = 11 where id = 1" ∷ []) Serializable ByCommit

abbrev pub strict_skew_of_b : Transaction
strict_skew_of_b = transaction 1 (codes "select * from t where id = 1" ∷ codes "update t set v = 21 where id = 2" ∷ []) Serializable ByCommit

abbrev pub strict_items_of_a : List WorkItem
strict_items_of_a = Does inserting ∷ Does inserting_second ∷ Lone (reply.Level Serializable) ∷ Does strict_skew_of_a ∷ []

pub strict_work_of_a : work small_language (codes "a") strict_skew.body ≡ strict_items_of_a
strict_work_of_a = refl

abbrev pub strict_items_of_b : List WorkItem
strict_items_of_b = Lone (reply.Level Serializable) ∷ Does strict_skew_of_b ∷ []

pub strict_work_of_b : work small_language (codes "b") strict_skew.body ≡ strict_items_of_b
strict_work_of_b = refl

-- the replies to each of them
abbrev pub strict_replies_of_a : List (List Reply)
strict_replies_of_a = ((reply.Begin 1) ∷ (reply.Changed 1) ∷ (reply.Committed 2) ∷ []) ∷ ((reply.Begin 2) ∷ (reply.Changed 1) ∷ (reply.Committed 3) ∷ []) ∷ ((reply.Level Serializable) ∷ []) ∷ ((reply.Begin 3) ∷ (row 2 20) ∷ (reply.Done 1) ∷ (reply.Changed 1) ∷ (reply.Committed 4) ∷ []) ∷ []

abbrev pub strict_replies_of_b : List (List Reply)
strict_replies_of_b = ((reply.Level Serializable) ∷ []) ∷ ((reply.Begin 3) ∷ (row 1 10) ∷ (reply.Done 1) ∷ (reply.Changed 1) ∷ (range_conflict) ∷ []) ∷ []

along_strict_skew : (P : List ℕ → WorkItem → List Reply → Type 0) → EachPart (P (codes "a")) strict_items_of_a strict_replies_of_a → EachPart (P (codes "b")) strict_items_of_b strict_replies_of_b →
    (name : List ℕ) → Along (P name) (work small_language name strict_skew.body) (told name strict_skew_report.lines)
along_strict_skew P of_a of_b =
    along_each P strict_skew.body strict_skew_report.lines
    (inl refl, (inl refl, (inl refl, (inr refl, (inl refl, (inr refl, (inl refl, (inr refl, (inl refl, (inr refl, (inl refl, (inr refl, tt))))))))))))
    (inl refl, (inl refl, (inl refl, (inl refl, (inl refl, (inl refl, (inl refl, (inr refl, (inl refl, (inr refl, (inl refl, (inl refl, (inr refl, (inr refl, (inl refl, (inr refl, (inl refl, (inr refl, tt))))))))))))))))))
    (subst (λ (items : List WorkItem). Along (P (codes "a")) items (told (codes "a") strict_skew_report.lines)) (sym strict_work_of_a) (along_parts (P (codes "a")) strict_items_of_a strict_replies_of_a of_a))
    (subst (λ (items : List WorkItem). Along (P (codes "b")) items (told (codes "b") strict_skew_report.lines)) (sym strict_work_of_b) (along_parts (P (codes "b")) strict_items_of_b strict_replies_of_b of_b))

strict_good_at_2 : IsGood (script_tables strict_skew) (rows_at (from_nothing strict_skew) strict_entries 2).tables
strict_good_at_2 = record {
  rows_fit = ((record { columns = (refl, (refl, tt)); size = omega arith; keys = (omega arith, tt) }, tt), tt);
  keys_kept = refl;
}

strict_good_at_3 : IsGood (script_tables strict_skew) (rows_at (from_nothing strict_skew) strict_entries 3).tables
strict_good_at_3 = record {
  rows_fit = ((record { columns = (refl, (refl, tt)); size = omega arith; keys = (omega arith, tt) }, (record { columns = (refl, (refl, tt)); size = omega arith; keys = (omega arith, tt) }, tt)), tt);
  keys_kept = refl;
}

strict_good_at_4 : IsGood (script_tables strict_skew) (rows_at (from_nothing strict_skew) strict_entries 4).tables
strict_good_at_4 = record {
  rows_fit = ((record { columns = (refl, (refl, tt)); size = omega arith; keys = (omega arith, tt) }, (record { columns = (refl, (refl, tt)); size = omega arith; keys = (omega arith, tt) }, tt)), tt);
  keys_kept = refl;
}

pub strict_skew_is_lawful : Lawful (from_nothing strict_skew) strict_skew_report
strict_skew_is_lawful = record {
  replies = along_strict_skew (IsTold (from_nothing strict_skew) (view_of (from_nothing strict_skew) strict_entries)) (whole 1 (reply.Committed 2) (omega arith) (omega arith) tt (record { later = omega arith; stands = refl; untouched = λ j after before. absurd (omega (arith, after, before)); is_good = strict_good_at_2 }) refl, (whole 2 (reply.Committed 3) (omega arith) (omega arith) tt (record { later = omega arith; stands = refl; untouched = λ j after before. absurd (omega (arith, after, before)); is_good = strict_good_at_3 }) refl, (refl, (whole 3 (reply.Committed 4) (omega arith) (omega arith) tt (record { later = omega arith; stands = refl; untouched = λ j after before. absurd (omega (arith, after, before)); is_good = strict_good_at_4 }) refl, tt)))) (refl, (whole 3 range_conflict (omega arith) (omega arith) tt (record { has_ops = λ is. cc; later = omega arith; within = omega arith; item = TheRange (range_of 0 (has_id 1)); touched = refl; untouched = λ j after before. absurd (omega (arith, after, before)); is_told = refl }) refl, tt));
  begins = (fresh_begin (nothing_before (worked_table ∷ [])) _ (codes "a") 1 (omega arith) (omega arith) tt, (tt, (tt, (fresh_begin (nothing_before (worked_table ∷ [])) _ (codes "a") 2 (omega arith) (omega arith) ((omega arith, tt), (tt, ((omega arith, tt), tt))), (tt, (tt, (tt, (tt, (fresh_begin (nothing_before (worked_table ∷ [])) _ (codes "a") 3 (omega arith) (omega arith) ((omega arith, tt), (tt, ((omega arith, tt), ((omega arith, tt), (tt, ((omega arith, tt), (tt, (tt, tt)))))))), (fresh_begin (nothing_before (worked_table ∷ [])) _ (codes "b") 3 (omega arith) (omega arith) ((omega arith, tt), (tt, ((omega arith, tt), ((omega arith, tt), (tt, ((omega arith, tt), (tt, (tt, ((omega arith, tt), tt))))))))), (tt, (tt, (tt, (tt, (tt, (tt, (tt, (tt, tt))))))))))))))))));
  history = (
    (refl, refl, refl),
    (
      record {
        placed = refl;
        once = none_stands (from_nothing strict_skew).origin (Setup 1 ∷ []) (codes "a") 1 (refl, tt);
        begun = (omega arith, omega arith, omega arith);
        transaction = inserting;
        is_its = refl;
        is_level = refl;
        ran = _;
        is_ran = refl;
        has_ops = λ is. cc;
        untouched = λ j after before. absurd (omega (arith, after, before));
        is_good = strict_good_at_2;
      },
      (
        record {
          placed = refl;
          once = none_stands (from_nothing strict_skew).origin (Setup 1 ∷ Commit 2 (codes "a") 1 1 Snapshot ∷ []) (codes "a") 2 (refl, (refl, tt));
          begun = (omega arith, omega arith, omega arith);
          transaction = inserting_second;
          is_its = refl;
          is_level = refl;
          ran = _;
          is_ran = refl;
          has_ops = λ is. cc;
          untouched = λ j after before. absurd (omega (arith, after, before));
          is_good = strict_good_at_3;
        },
        (
          record {
            placed = refl;
            once = none_stands (from_nothing strict_skew).origin (Setup 1 ∷ Commit 2 (codes "a") 1 1 Snapshot ∷ Commit 3 (codes "a") 2 2 Snapshot ∷ []) (codes "a") 3 (refl, (refl, (refl, tt)));
            begun = (omega arith, omega arith, omega arith);
            transaction = strict_skew_of_a;
            is_its = refl;
            is_level = refl;
            ran = _;
            is_ran = refl;
            has_ops = λ is. cc;
            untouched = λ j after before. absurd (omega (arith, after, before));
            is_good = strict_good_at_4;
          },
          tt,
        ),
      ),
    ),
  );
  answered = (tt, (entry_told inserting [] (drop 3 (told (codes "a") strict_skew_report.lines)) refl (omega arith) refl, (entry_told inserting_second (take 3 (told (codes "a") strict_skew_report.lines)) (drop 6 (told (codes "a") strict_skew_report.lines)) refl (omega arith) refl, (entry_told strict_skew_of_a (take 7 (told (codes "a") strict_skew_report.lines)) [] refl (omega arith) refl, tt))));
  places = (tt, (tt, (tt, (tt, (tt, (tt, (tt, (tt, (tt, (tt, (tt, (tt, (tt, (tt, (tt, (tt, (tt, (tt, tt))))))))))))))))));
  feeds = refl;
  base = refl;
  end = refl;
}

pub strict_skew_is_in_order : InPlayOrder (from_nothing strict_skew) strict_skew_report
strict_skew_is_in_order = record {
  first = [];
  go_down = tt;
  rest = strict_skew_report.lines;
  lines_are = refl;
  later = Commit 2 (codes "a") 1 1 Snapshot ∷ Commit 3 (codes "a") 2 2 Snapshot ∷ Commit 4 (codes "a") 3 3 Serializable ∷ [];
  opened = refl;
  order = in_turns (from_nothing strict_skew) [] (Setup 1 ∷ []) strict_skew.body (
      ((reply.Begin 1) ∷ (reply.Changed 1) ∷ (reply.Committed 2) ∷ [], Commit 2 (codes "a") 1 1 Snapshot ∷ []) ∷ ((reply.Begin 2) ∷ (reply.Changed 1) ∷ (reply.Committed 3) ∷ [], Commit 3 (codes "a") 2 2 Snapshot ∷ []) ∷ ((reply.Level Serializable) ∷ [], []) ∷ ((reply.Level Serializable) ∷ [], []) ∷ ((reply.Begin 3) ∷ [], []) ∷ ((reply.Begin 3) ∷ [], []) ∷ ((row 2 20) ∷ (reply.Done 1) ∷ [], []) ∷ ((row 1 10) ∷ (reply.Done 1) ∷ [], []) ∷ ((reply.Changed 1) ∷ [], []) ∷ ((reply.Changed 1) ∷ [], []) ∷ ((reply.Committed 4) ∷ [], Commit 4 (codes "a") 3 3 Serializable ∷ []) ∷ ((range_conflict) ∷ [], []) ∷ []
      ) (is_turn refl (refl, (tt, (omega arith, tt))) (refl, 1, Snapshot, refl, ((reply.Begin 1) ∷ (reply.Changed 1) ∷ [], [], refl)), (is_turn refl (refl, (tt, (omega arith, tt))) (refl, 2, Snapshot, refl, ((reply.Begin 2) ∷ (reply.Changed 1) ∷ [], [], refl)), (is_turn refl (tt, tt) tt, (is_turn refl (tt, tt) tt, (is_turn refl (refl, tt) tt, (is_turn refl (refl, tt) tt, (is_turn refl (tt, (tt, tt)) tt, (is_turn refl (tt, (tt, tt)) tt, (is_turn refl (tt, tt) tt, (is_turn refl (tt, tt) tt, (is_turn refl (omega arith, tt) (refl, 3, Serializable, refl, ([], [], refl)), (is_turn refl (omega arith, tt) tt, tt))))))))))));
  changes = none_go_down (from_nothing strict_skew) (view_of (from_nothing strict_skew) strict_skew_report.entries) [] strict_skew_report.lines refl;
}

-- the entry of a transaction that read a row which an entry since its begin changed
same_transaction : (t s : Transaction) → Some t ≡ Some s → t ≡ s
same_transaction t s is = cc

some_or_none : (item : Used) → Some item ≡ None → ⊥
some_or_none item is = cc

read_before : (before : IsCommitAfter (from_nothing strict_skew) (view_of (from_nothing strict_skew) strict_entries) 5 (codes "b") 1 3 Serializable) → ⊥
read_before is =
    let its : Some strict_skew_of_b ≡ Some is.transaction = is.is_its in
    some_or_none (TheRange (range_of 0 (has_id 1)))
    (subst (λ (t : Transaction). first_used (script_tables strict_skew) (changes_at (from_nothing strict_skew) strict_entries 4) (used_at Serializable (alone_on (from_nothing strict_skew) (rows_at (from_nothing strict_skew) strict_entries 3) t.texts)) ≡ None)
    (sym (same_transaction strict_skew_of_b is.transaction its))
    (subst (λ (a : Answered). first_used (script_tables strict_skew) (changes_at (from_nothing strict_skew) strict_entries 4) (used_at Serializable a) ≡ None) is.is_ran (is.untouched 4 (omega arith) (omega arith))))

pub strict_committed_is_refused : IsRefusedBy (HistoryIsRight strict_skew strict_committed) strict_skew strict_committed
strict_committed_is_refused = (λ law. read_before law.1.1.1.1.0, λ is. read_before is.history.1.1.1.1.0)
