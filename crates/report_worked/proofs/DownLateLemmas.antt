-- A report of a node that goes down late, behind a log of two entries: right where its store fails at a commit, and wrong where it failed
-- at the opening.
use Rattle.std.proofs.Common.{◌≡◌, ℕ, List, [], ◌∷◌, refl, sym, subst, ap, arith, codes, inl, inr, true, take, drop, ◌∙◌}
use Rattle.cdb_values.specs.Rows.{Rows}
use Rattle.cdb_values.specs.declared.rows.Level.TheVariants.{Snapshot}
use Rattle.report_laws.specs.History.{view_of}
use Rattle.report_laws.specs.Lawful.{Lawful}
use Rattle.report_laws.specs.Nodes.{BeginsDown}
use Rattle.report_laws.specs.Play.{InPlayOrder}
use Rattle.report_laws.specs.Told.{told, Along, IsTold}
use Rattle.report_laws.specs.Work.{WorkItem, Does, transaction, ByCommit, WithItsLine, work}
use Rattle.report_text.specs.declared.reports.Line.{Line}
use Rattle.report_text.specs.declared.reports.Line.TheVariants as line
use Rattle.cdb_values.specs.declared.replies.Reply.{Reply}
use Rattle.cdb_values.specs.declared.replies.Reply.TheVariants as reply
use Rattle.report_laws.proofs.LineLaws.{fresh_begin}
use Rattle.session_language.proofs.UpToLaws.{same_head}
use Rattle.report_laws.proofs.DownLaws.{one_goes_down}
use Rattle.report_worked.specs.Worked.{nothing_then_insert, down_late_report, to_a, to_b}
use Rattle.report_worked.specs.Small.{from_log, small_language}
use Rattle.report_worked.proofs.WorkedLemmas.{along_each, along_parts, EachPart, cut, whole, is_turn}
use Rattle.report_worked.proofs.FaultLemmas.{answered}

abbrev items_of_a : List WorkItem
items_of_a = Does (transaction 1 [] Snapshot ByCommit) ∷ []

abbrev items_of_b : List WorkItem
items_of_b = Does (transaction 1 (codes "insert into t values(2, 20)" ∷ []) Snapshot WithItsLine) ∷ []

work_of_a : work small_language (codes "a") nothing_then_insert.body ≡ items_of_a
work_of_a = refl

work_of_b : work small_language (codes "b") nothing_then_insert.body ≡ items_of_b
work_of_b = refl

abbrev told_a : List (List Reply)
told_a = (reply.Begin 2 ∷ reply.Committed 2 ∷ []) ∷ []

abbrev told_b : List (List Reply)
told_b = (reply.Begin 2 ∷ reply.Changed 1 ∷ reply.Lost 1 1 ∷ []) ∷ []

along_late : (P : List ℕ → WorkItem → List Reply → Type 0) → EachPart (P (codes "a")) items_of_a told_a → EachPart (P (codes "b")) items_of_b told_b →
    (name : List ℕ) → Along (P name) (work small_language name nothing_then_insert.body) (told name down_late_report.lines)
along_late P of_a of_b =
    along_each P nothing_then_insert.body down_late_report.lines
    (inl refl, (inl refl, (inr refl, tt))) (inl refl, (inl refl, (inr refl, (inr refl, (tt, (inr refl, tt))))))
    (subst (λ (items : List WorkItem). Along (P (codes "a")) items (told (codes "a") down_late_report.lines)) (sym work_of_a) (along_parts (P (codes "a")) items_of_a told_a of_a))
    (subst (λ (items : List WorkItem). Along (P (codes "b")) items (told (codes "b") down_late_report.lines)) (sym work_of_b) (along_parts (P (codes "b")) items_of_b told_b of_b))

pub down_late_is_lawful : (rows : Rows) → Lawful (from_log nothing_then_insert 2 rows) down_late_report
down_late_is_lawful rows = record {
  replies = along_late (IsTold (from_log nothing_then_insert 2 rows) (view_of (from_log nothing_then_insert 2 rows) []))
      (whole 2 (reply.Committed 2) (omega arith) (omega arith) tt refl refl, tt)
      (cut 2 (reply.Begin 2 ∷ reply.Changed 1 ∷ []) [] (reply.Lost 1 1) (omega arith) (omega arith) refl refl (λ is. cc) refl, tt);
  begins = (
    fresh_begin (from_log nothing_then_insert 2 rows).origin _ (codes "a") 2 (omega arith) (omega arith) tt,
    (tt, (fresh_begin (from_log nothing_then_insert 2 rows).origin _ (codes "b") 2 (omega arith) (omega arith) ((omega arith, tt), ((omega arith, tt), tt)), (tt, (tt, (tt, tt))))),
  );
  history = tt;
  answered = tt;
  places = (
    tt,
    (
      tt,
      (
        tt,
        (
          tt,
          (
            record { counted = refl; of_script = (omega arith, omega arith); was_up = refl; by_fault = refl },
            (
              (refl, record { fault = true; front = take 4 down_late_report.lines; back = []; stands = refl; since = tt; begin = 2; begun = (take 2 down_late_report.lines, to_b 1 (reply.Changed 1) ∷ line.Down 1 1 true ∷ [], refl); once = (refl, (refl, tt)) }),
              tt,
            ),
          ),
        ),
      ),
    ),
  );
  feeds = refl;
  base = refl;
  end = refl;
}

pub down_late_is_in_order : (rows : Rows) → InPlayOrder (from_log nothing_then_insert 2 rows) down_late_report
down_late_is_in_order rows = record {
  first = [];
  go_down = tt;
  rest = down_late_report.lines;
  lines_are = refl;
  later = [];
  opened = refl;
  order = (
    to_a 1 (reply.Begin 2) ∷ [],
    drop 1 down_late_report.lines,
    [],
    [],
    refl,
    refl,
    answered (reply.Begin 2 ∷ []) (is_turn refl (refl, tt) tt) refl refl,
    (
      to_a 1 (reply.Committed 2) ∷ [],
      drop 2 down_late_report.lines,
      [],
      [],
      refl,
      refl,
      answered (reply.Committed 2 ∷ []) (is_turn refl (omega arith, tt) tt) refl refl,
      (
        drop 2 down_late_report.lines,
        [],
        [],
        [],
        refl,
        refl,
        inr (inr (inr (record {
          at_commit = refl;
          uncut = refl;
          kept = refl;
          majority = refl;
          front = reply.Begin 2 ∷ reply.Changed 1 ∷ [];
          first = (reply.Changed 1 ∷ [], refl, refl, refl);
          node = 1;
          of_script = (omega arith, omega arith);
          was_up = refl;
          told = reply.Lost 1 1;
          is_told = inl refl;
          says = refl;
          none = refl;
        }))),
        (refl, refl),
      ),
    ),
  );
  changes = one_goes_down (from_log nothing_then_insert 2 rows) (view_of (from_log nothing_then_insert 2 rows) []) [] (take 4 down_late_report.lines) [] 1 1 true (codes "b") 1 (reply.Lost 1 1) refl
      (record {
        transaction = transaction 1 (codes "insert into t values(2, 20)" ∷ []) Snapshot WithItsLine;
        is_its = refl;
        begin = 2;
        begun = (take 2 down_late_report.lines, to_b 1 (reply.Changed 1) ∷ [], refl);
        has_ops = λ is. cc;
      });
}

-- its first line does not tell that the node went down
pub down_late_begins_up : BeginsDown down_late_report.lines → ⊥
down_late_begins_up (rest, is) = not_down (codes "a") 1 (reply.Begin 2) (line.Down 1 1 true) (same_head (to_a 1 (reply.Begin 2)) (line.Down 1 1 true) (drop 1 down_late_report.lines) rest is) refl
  where
    not_down : (name : List ℕ) (number : ℕ) (answer : Reply) (other : Line) → line.Session name number answer ≡ other → other ≡ line.Down 1 1 true → ⊥
    not_down name number answer other is down = let both : line.Session name number answer ≡ line.Down 1 1 true = is ∙ down in cc
