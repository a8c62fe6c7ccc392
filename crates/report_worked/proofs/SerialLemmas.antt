-- A report in which transactions that were open at once are told one after the other is lawful, but
-- not in the order of play.
use Rattle.std.proofs.Common.{◌≡◌, ℕ, List, [], ◌∷◌, refl, sym, subst, arith, codes, inl, inr, take, drop, ap, length}
use Rattle.cdb_values.specs.Good.{IsGood}
use Rattle.report_laws.specs.History.{nothing_before, rows_at, view_of}
use Rattle.report_laws.specs.Lawful.{Lawful}
use Rattle.report_laws.specs.One.{IsUncut}
use Rattle.report_laws.specs.Play.{InPlayOrder}
use Rattle.report_laws.proofs.OneLaws.{one_report}
use Rattle.report_worked.specs.WorkedWrong.{serial}
use Rattle.report_laws.specs.Told.{told, Along, IsTold}
use Rattle.report_laws.specs.Work.{WorkItem, work}
use Rattle.script_form.specs.CanRun.{script_tables}
use Rattle.report_worked.specs.Worked.{two_updates, two_updates_report, two_updates_entries, worked_table, of_b}
use Rattle.report_text.specs.declared.reports.Report.{Report}
use Rattle.cdb_values.specs.declared.replies.Reply.{Reply}
use Rattle.cdb_values.specs.declared.replies.Reply.TheVariants as reply
use Rattle.report_laws.proofs.HistoryLaws.{none_stands}
use Rattle.report_laws.proofs.LineLaws.{fresh_begin}
use Rattle.report_worked.proofs.TwoUpdatesLemmas.{inserting, first_update, second_update, items_of_a, work_of_a, items_of_b, work_of_b, two_updates_is_lawful, two_updates_is_in_order}
use Rattle.report_worked.proofs.WorkedLemmas.{along_each, along_parts, EachPart, whole, entry_told}
use Rattle.report_worked.specs.Small.{from_nothing, small_language}
use Rattle.report_worked.proofs.SmallLaws.{statements_answer}

abbrev pub serial_of_a : List (List Reply)
serial_of_a = ((reply.Begin 1) ∷ (reply.Changed 1) ∷ (reply.Committed 2) ∷ []) ∷ ((reply.Begin 2) ∷ (reply.Changed 1) ∷ (reply.Committed 3) ∷ []) ∷ []

abbrev pub serial_of_b : List (List Reply)
serial_of_b = ((reply.Begin 3) ∷ (reply.Changed 1) ∷ (reply.Committed 4) ∷ []) ∷ []

along_serial : (P : List ℕ → WorkItem → List Reply → Type 0) → EachPart (P (codes "a")) items_of_a serial_of_a → EachPart (P (codes "b")) items_of_b serial_of_b →
    (name : List ℕ) → Along (P name) (work small_language name two_updates.body) (told name serial.lines)
along_serial P of_a of_b =
    along_each P two_updates.body serial.lines
    (inl refl, (inl refl, (inr refl, (inl refl, (inr refl, (inl refl, (inr refl, tt)))))))
    (inl refl, (inl refl, (inl refl, (inl refl, (inl refl, (inl refl, (inr refl, (inr refl, (inr refl, tt)))))))))
    (subst (λ (items : List WorkItem). Along (P (codes "a")) items (told (codes "a") serial.lines)) (sym work_of_a) (along_parts (P (codes "a")) items_of_a serial_of_a of_a))
    (subst (λ (items : List WorkItem). Along (P (codes "b")) items (told (codes "b") serial.lines)) (sym work_of_b) (along_parts (P (codes "b")) items_of_b serial_of_b of_b))

pub serial_at_2 : IsGood (script_tables two_updates) (rows_at (from_nothing two_updates) serial.entries 2).tables
serial_at_2 = record {
  rows_fit = ((record { columns = (refl, (refl, tt)); size = omega arith; keys = (omega arith, tt) }, tt), tt);
  keys_kept = refl;
}

pub serial_at_3 : IsGood (script_tables two_updates) (rows_at (from_nothing two_updates) serial.entries 3).tables
serial_at_3 = record {
  rows_fit = ((record { columns = (refl, (refl, tt)); size = omega arith; keys = (omega arith, tt) }, tt), tt);
  keys_kept = refl;
}

pub serial_at_4 : IsGood (script_tables two_updates) (rows_at (from_nothing two_updates) serial.entries 4).tables
serial_at_4 = record {
  rows_fit = ((record { columns = (refl, (refl, tt)); size = omega arith; keys = (omega arith, tt) }, tt), tt);
  keys_kept = refl;
}

pub serial_is_lawful : Lawful (from_nothing two_updates) serial
serial_is_lawful = record {
  replies = along_serial (IsTold (from_nothing two_updates) (view_of (from_nothing two_updates) serial.entries)) (
    whole 1 (reply.Committed 2) (omega arith) (omega arith) tt (record { later = omega arith; stands = refl; untouched = λ j after before. absurd (omega (arith, after, before)); is_good = serial_at_2 }) refl,
    (whole 2 (reply.Committed 3) (omega arith) (omega arith) tt (record { later = omega arith; stands = refl; untouched = λ j after before. absurd (omega (arith, after, before)); is_good = serial_at_3 }) refl, tt),
  ) (whole 3 (reply.Committed 4) (omega arith) (omega arith) tt (record { later = omega arith; stands = refl; untouched = λ j after before. absurd (omega (arith, after, before)); is_good = serial_at_4 }) refl, tt);
  begins = (fresh_begin (nothing_before (worked_table ∷ [])) _ (codes "a") 1 (omega arith) (omega arith) tt, (tt, (tt, (fresh_begin (nothing_before (worked_table ∷ [])) _ (codes "a") 2 (omega arith) (omega arith) ((omega arith, tt), (tt, ((omega arith, tt), tt))), (tt, (tt, (fresh_begin (nothing_before (worked_table ∷ [])) _ (codes "b") 3 (omega arith) (omega arith) ((omega arith, tt), (tt, ((omega arith, tt), ((omega arith, tt), (tt, ((omega arith, tt), tt)))))), (tt, (tt, tt)))))))));
  history = (
    two_updates_is_lawful.history.0,
    (
      two_updates_is_lawful.history.1.0,
      (
        two_updates_is_lawful.history.1.1.0,
        (
          record {
            placed = refl;
            once = none_stands (from_nothing two_updates).origin (two_updates_entries) (codes "b") 1 (refl, (refl, (refl, tt)));
            begun = (omega arith, omega arith, omega arith);
            transaction = second_update;
            is_its = refl;
            is_level = refl;
            ran = _;
            is_ran = refl;
            has_ops = λ is. cc;
            untouched = λ j after before. absurd (omega (arith, after, before));
            is_good = serial_at_4;
          },
          tt,
        ),
      ),
    ),
  );
  answered = (tt, (entry_told inserting [] (drop 3 (told (codes "a") serial.lines)) refl (omega arith) refl, (entry_told first_update (take 3 (told (codes "a") serial.lines)) [] refl (omega arith) refl, (entry_told second_update [] [] refl (omega arith) refl, tt))));
  places = (tt, (tt, (tt, (tt, (tt, (tt, (tt, (tt, (tt, tt)))))))));
  feeds = refl;
  base = refl;
  end = refl;
}

two_updates_uncut : IsUncut two_updates_report
two_updates_uncut = (refl, (refl, (refl, (refl, (refl, (refl, (refl, (refl, (refl, tt)))))))))

serial_uncut : IsUncut serial
serial_uncut = (refl, (refl, (refl, (refl, (refl, (refl, (refl, (refl, (refl, tt)))))))))

-- the script has one report, which is another
pub serial_is_not_in_order : InPlayOrder (from_nothing two_updates) serial → ⊥
serial_is_not_in_order order =
    let same : two_updates_report ≡ serial =
    one_report (from_nothing two_updates) two_updates_report serial statements_answer
    two_updates_is_lawful two_updates_is_in_order two_updates_uncut serial_is_lawful order serial_uncut in
    let counts : length two_updates_report.entries ≡ length serial.entries = ap (λ (r : Report). length r.entries) same in
    omega (arith, counts)
