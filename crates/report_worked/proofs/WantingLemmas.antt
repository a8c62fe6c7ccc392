-- A report in which memory is wanting where a loss or a missing majority is due, computed.
use Rattle.std.proofs.Common.{ℕ, List, [], ◌∷◌, refl, sym, subst, arith, codes, inl, inr, take, drop, true}
use Rattle.cdb_values.specs.declared.rows.Level.TheVariants.{Snapshot}
use Rattle.report_laws.specs.History.{nothing_before, view_of}
use Rattle.report_laws.specs.Lawful.{Lawful}
use Rattle.report_laws.specs.Play.{InPlayOrder}
use Rattle.report_laws.specs.Told.{told, Along, IsTold}
use Rattle.report_laws.specs.Work.{WorkItem, transaction, WithItsLine, work}
use Rattle.report_laws.proofs.DownLaws.{one_goes_down}
use Rattle.report_laws.proofs.LineLaws.{fresh_begin}
use Rattle.report_text.specs.declared.reports.Line.{Line}
use Rattle.cdb_values.specs.declared.replies.Reply.{Reply}
use Rattle.cdb_values.specs.declared.replies.Reply.TheVariants as reply
use Rattle.report_worked.specs.Small.{from_nothing, small_language}
use Rattle.report_worked.specs.Worked.{open_insert, wanting_report, worked_table, to_b}
use Rattle.report_worked.proofs.FaultLemmas.{answered, open_items_of_a, open_items_of_b, open_work_of_a, open_work_of_b}
use Rattle.report_worked.proofs.WorkedLemmas.{along_each, along_parts, EachPart, cut, is_turn}

abbrev wanting_of_a : List (List Reply)
wanting_of_a = (reply.Begin 1 ∷ reply.Changed 1 ∷ reply.NoMemory ∷ []) ∷ (reply.NoMemory ∷ []) ∷ []

abbrev wanting_of_b : List (List Reply)
wanting_of_b = (reply.Begin 1 ∷ reply.Changed 1 ∷ reply.NoMemory ∷ []) ∷ []

along_wanting : (P : List ℕ → WorkItem → List Reply → Type 0) → EachPart (P (codes "a")) open_items_of_a wanting_of_a → EachPart (P (codes "b")) open_items_of_b wanting_of_b →
    (name : List ℕ) → Along (P name) (work small_language name open_insert.body) (told name wanting_report.lines)
along_wanting P of_a of_b =
    along_each P open_insert.body wanting_report.lines
    (inl refl, (inl refl, (inr refl, (inl refl, (inl refl, tt))))) (inl refl, (inl refl, (inr refl, (inr refl, (tt, (inr refl, (inl refl, (inl refl, tt))))))))
    (subst (λ (items : List WorkItem). Along (P (codes "a")) items (told (codes "a") wanting_report.lines)) (sym open_work_of_a) (along_parts (P (codes "a")) open_items_of_a wanting_of_a of_a))
    (subst (λ (items : List WorkItem). Along (P (codes "b")) items (told (codes "b") wanting_report.lines)) (sym open_work_of_b) (along_parts (P (codes "b")) open_items_of_b wanting_of_b of_b))

pub wanting_is_lawful : Lawful (from_nothing open_insert) wanting_report
wanting_is_lawful = record {
  replies = along_wanting (IsTold (from_nothing open_insert) (view_of (from_nothing open_insert) wanting_report.entries)) (
    cut 1 (reply.Begin 1 ∷ reply.Changed 1 ∷ []) [] reply.NoMemory (omega arith) (omega arith) refl refl tt refl,
    (cut 1 [] (reply.Begin 1 ∷ reply.Done 0 ∷ []) reply.NoMemory (omega arith) (omega arith) refl refl tt refl, tt),
  ) (cut 1 (reply.Begin 1 ∷ reply.Changed 1 ∷ []) [] reply.NoMemory (omega arith) (omega arith) refl refl tt refl, tt);
  begins = (
    fresh_begin (nothing_before (worked_table ∷ [])) _ (codes "a") 1 (omega arith) (omega arith) tt,
    (tt, (fresh_begin (nothing_before (worked_table ∷ [])) _ (codes "b") 1 (omega arith) (omega arith) ((omega arith, tt), (tt, tt)), (tt, (tt, (tt, (tt, (tt, tt))))))),
  );
  history = ((refl, refl, refl), tt);
  answered = (tt, tt);
  places = (tt, (tt, (tt, (tt, (record { counted = refl; of_script = (omega arith, omega arith); was_up = refl; by_fault = refl }, (tt, (tt, (tt, tt))))))));
  feeds = refl;
  base = refl;
  end = refl;
}

pub wanting_is_in_order : InPlayOrder (from_nothing open_insert) wanting_report
wanting_is_in_order = record {
  first = [];
  go_down = tt;
  rest = wanting_report.lines;
  lines_are = refl;
  later = [];
  opened = refl;
  order = (
    take 1 wanting_report.lines,
    drop 1 wanting_report.lines,
    [],
    [],
    refl,
    refl,
    answered (reply.Begin 1 ∷ []) (is_turn refl (refl, tt) tt) refl refl,
    (
      take 1 (drop 1 wanting_report.lines),
      drop 2 wanting_report.lines,
      [],
      [],
      refl,
      refl,
      answered (reply.Changed 1 ∷ []) (is_turn refl (tt, tt) tt) refl refl,
      (
        take 4 (drop 2 wanting_report.lines),
        drop 6 wanting_report.lines,
        [],
        [],
        refl,
        refl,
        inr (inr (inr (record {
          at_commit = refl;
          uncut = refl;
          kept = refl;
          majority = refl;
          front = reply.Begin 1 ∷ reply.Changed 1 ∷ [];
          first = (reply.Changed 1 ∷ [], refl, refl, refl);
          node = 1;
          of_script = (omega arith, omega arith);
          was_up = refl;
          told = reply.NoMemory;
          is_told = inr refl;
          says = refl;
          none = refl;
        }))),
        (
          take 1 (drop 6 wanting_report.lines),
          drop 7 wanting_report.lines,
          [],
          [],
          refl,
          refl,
          inr (inl (record { down = 1; is_lost = refl; told = reply.NoMemory; is_told = inr refl; says = refl; none = refl })),
          (drop 7 wanting_report.lines, [], [], [], refl, refl, inr (inr (inl (record { lacks = refl; told = reply.NoMemory; is_told = inr refl; says = refl; none = refl }))), (refl, refl)),
        ),
      ),
    ),
  );
  changes = one_goes_down (from_nothing open_insert) (view_of (from_nothing open_insert) wanting_report.entries) [] (take 4 wanting_report.lines) (drop 6 wanting_report.lines) 1 1 true (codes "b") 1 reply.NoMemory refl
      (record {
        transaction = transaction 1 (codes "insert into t values(2, 20)" ∷ []) Snapshot WithItsLine;
        is_its = refl;
        begin = 1;
        begun = (take 2 wanting_report.lines, to_b 1 (reply.Changed 1) ∷ [], refl);
        has_ops = λ is. cc;
      });
}
