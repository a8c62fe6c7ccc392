-- Two histories that differ in the begin of the last entry alone are both right.
use Rattle.std.proofs.Common.{[], ◌∷◌, refl, arith, codes}
use Rattle.cdb_values.specs.Good.{IsGood}
use Rattle.cdb_values.specs.declared.rows.Level.TheVariants.{Snapshot}
use Rattle.report_laws.specs.History.{IsEntryAfter, rows_at}
use Rattle.report_laws.specs.Work.{Transaction, transaction, WithItsLine}
use Rattle.report_text.specs.declared.reports.EntryLine.TheVariants.{Setup}
use Rattle.script_form.specs.CanRun.{script_tables}
use Rattle.session_language.specs.Each.{EachAfter}
use Rattle.report_laws.proofs.HistoryLaws.{none_stands}
use Rattle.report_worked.specs.Worked.{two_inserts, two_inserts_with, insert_text, of_a}
use Rattle.report_worked.specs.Small.{from_nothing}

abbrev first_one : Transaction
first_one = transaction 1 (insert_text ∷ []) Snapshot WithItsLine

abbrev second_one : Transaction
second_one = transaction 2 (codes "insert into t values(2, 20)" ∷ []) Snapshot WithItsLine

good_at_2 : IsGood (script_tables two_inserts) (rows_at (from_nothing two_inserts) (two_inserts_with 2) 2).tables
good_at_2 = record {
  rows_fit = ((record { columns = (refl, (refl, tt)); size = omega arith; keys = (omega arith, tt) }, tt), tt);
  keys_kept = refl;
}

good_at_3 : IsGood (script_tables two_inserts) (rows_at (from_nothing two_inserts) (two_inserts_with 2) 3).tables
good_at_3 = record {
  rows_fit = ((record { columns = (refl, (refl, tt)); size = omega arith; keys = (omega arith, tt) }, (record { columns = (refl, (refl, tt)); size = omega arith; keys = (omega arith, tt) }, tt)), tt);
  keys_kept = refl;
}

good_earlier : IsGood (script_tables two_inserts) (rows_at (from_nothing two_inserts) (two_inserts_with 1) 3).tables
good_earlier = record {
  rows_fit = ((record { columns = (refl, (refl, tt)); size = omega arith; keys = (omega arith, tt) }, (record { columns = (refl, (refl, tt)); size = omega arith; keys = (omega arith, tt) }, tt)), tt);
  keys_kept = refl;
}

first_is : IsEntryAfter (from_nothing two_inserts) (Setup 1 ∷ []) (of_a 2 1 1)
first_is = record {
  placed = refl;
  once = none_stands (from_nothing two_inserts).origin (Setup 1 ∷ []) (codes "a") 1 (refl, tt);
  begun = (omega arith, omega arith, omega arith);
  transaction = first_one;
  is_its = refl;
  is_level = refl;
  ran = _;
  is_ran = refl;
  has_ops = λ is. cc;
  untouched = λ j after before. absurd (omega (arith, after, before));
  is_good = good_at_2;
}

pub begun_there : EachAfter (IsEntryAfter (from_nothing two_inserts)) [] (two_inserts_with 2)
begun_there = (
  (refl, refl, refl),
  (
    first_is,
    (
      record {
        placed = refl;
        once = none_stands (from_nothing two_inserts).origin (Setup 1 ∷ of_a 2 1 1 ∷ []) (codes "a") 2 (refl, (refl, tt));
        begun = (omega arith, omega arith, omega arith);
        transaction = second_one;
        is_its = refl;
        is_level = refl;
        ran = _;
        is_ran = refl;
        has_ops = λ is. cc;
        untouched = λ j after before. refl;
        is_good = good_at_3;
      },
      tt,
    ),
  ),
)

pub begun_earlier : EachAfter (IsEntryAfter (from_nothing two_inserts)) [] (two_inserts_with 1)
begun_earlier = (
  (refl, refl, refl),
  (
    first_is,
    (
      record {
        placed = refl;
        once = none_stands (from_nothing two_inserts).origin (Setup 1 ∷ of_a 2 1 1 ∷ []) (codes "a") 2 (refl, (refl, tt));
        begun = (omega arith, omega arith, omega arith);
        transaction = second_one;
        is_its = refl;
        is_level = refl;
        ran = _;
        is_ran = refl;
        has_ops = λ is. cc;
        untouched = λ j after before. refl;
        is_good = good_earlier;
      },
      tt,
    ),
  ),
)
