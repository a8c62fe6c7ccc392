-- Reports in which the node goes down, computed.
use Rattle.std.proofs.Common.{◌≡◌, ℕ, List, [], ◌∷◌, refl, sym, subst, arith, codes, inl, inr, true, false, Option, None, take, drop}
use Rattle.std.specs.Fmt.{digits}
use Rattle.cdb_values.specs.declared.rows.Level.TheVariants.{Snapshot}
use Rattle.report_text.specs.Text.{report_text}
use Rattle.report_laws.specs.History.{nothing_before, view_of}
use Rattle.report_laws.specs.Lawful.{Lawful}
use Rattle.report_laws.specs.Play.{InPlayOrder, IsSaid, IsTurn, is_own_by, loss_of, lacks_majority}
use Rattle.script_form.specs.declared.scripts.Script.{Script}
use Rattle.session_language.specs.Language.{Kind}
use Rattle.report_laws.specs.Told.{told, Along, IsTold, lines_of}
use Rattle.report_laws.specs.Work.{Transaction, WorkItem, Does, transaction, ByCommit, WithItsLine, work}
use Rattle.report_text.specs.declared.reports.EntryLine.{EntryLine}
use Rattle.report_text.specs.declared.reports.EntryLine.TheVariants.{Setup}
use Rattle.report_text.specs.declared.reports.Line.{Line}
use Rattle.report_text.specs.declared.reports.Line.TheVariants as line
use Rattle.cdb_values.specs.declared.replies.Reply.{Reply}
use Rattle.cdb_values.specs.declared.replies.Reply.TheVariants as reply
use Rattle.report_laws.proofs.LineLaws.{fresh_begin}
use Rattle.report_laws.proofs.DownLaws.{none_go_down, one_goes_down}
use Rattle.report_worked.specs.Worked.{worked_table, insert_select, insert_text, select_text, lost_insert_report, lost_insert_text, open_insert, open_insert_report, nothing_said, down_at_first_report, to_a, to_b}
use Rattle.report_worked.specs.Small.{from_nothing, small_language}
use Rattle.report_worked.proofs.InsertSelectLemmas.{inserting, items_of_a, work_of_a}
use Rattle.report_worked.proofs.WorkedLemmas.{along_each, along_parts, EachPart, cut, is_turn}

-- the report's text
pub lost_says_its_lines : report_text lost_insert_report ≡ lost_insert_text
unfolding report_text digits
lost_says_its_lines = refl

-- what the session a is told of its two transactions
abbrev lost_of_a : List (List Reply)
lost_of_a = (reply.Begin 1 ∷ reply.Changed 1 ∷ reply.Lost 1 1 ∷ []) ∷ (reply.NoMajority 0 1 ∷ []) ∷ []

along_lost : (P : List ℕ → WorkItem → List Reply → Type 0) → EachPart (P (codes "a")) items_of_a lost_of_a → (name : List ℕ) → Along (P name) (work small_language name insert_select.body) (told name lost_insert_report.lines)
along_lost P is =
    along_each P insert_select.body lost_insert_report.lines
    (inl refl, (inl refl, tt)) (inl refl, (inl refl, (tt, (inl refl, (inl refl, tt)))))
    (subst (λ (items : List WorkItem). Along (P (codes "a")) items (told (codes "a") lost_insert_report.lines)) (sym work_of_a) (along_parts (P (codes "a")) items_of_a lost_of_a is))
    refl

pub lost_insert_is_lawful : Lawful (from_nothing insert_select) lost_insert_report
lost_insert_is_lawful = record {
  replies = along_lost (IsTold (from_nothing insert_select) (view_of (from_nothing insert_select) (Setup 1 ∷ []))) (
    cut 1 (reply.Begin 1 ∷ reply.Changed 1 ∷ []) [] (reply.Lost 1 1) (omega arith) (omega arith) refl refl (λ is. cc) refl,
    (cut 1 [] (reply.Begin 1 ∷ reply.Done 0 ∷ []) (reply.NoMajority 0 1) (omega arith) (omega arith) refl refl (inl refl) refl, tt),
  );
  begins = (fresh_begin (nothing_before (worked_table ∷ [])) _ (codes "a") 1 (omega arith) (omega arith) tt, (tt, (tt, (tt, (tt, tt)))));
  history = ((refl, refl, refl), tt);
  answered = (tt, tt);
  places = (
    tt,
    (
      tt,
      (
        record { counted = refl; of_script = (omega arith, omega arith); was_up = refl; by_fault = refl },
        (
          (refl, record { fault = true; front = to_a 1 (reply.Begin 1) ∷ to_a 1 (reply.Changed 1) ∷ []; back = []; stands = refl; since = tt; begin = 1; begun = ([], to_a 1 (reply.Changed 1) ∷ line.Down 1 1 true ∷ [], refl); once = (refl, (refl, tt)) }),
          (record { are_all = refl; front = to_a 1 (reply.Begin 1) ∷ to_a 1 (reply.Changed 1) ∷ line.Down 1 1 true ∷ to_a 1 (reply.Lost 1 1) ∷ []; back = []; stands = refl; since = refl; are_up = refl; few = refl }, tt),
        ),
      ),
    ),
  );
  feeds = refl;
  base = refl;
  end = refl;
}

pub lost_insert_is_in_order : InPlayOrder (from_nothing insert_select) lost_insert_report
lost_insert_is_in_order = record {
  first = [];
  go_down = tt;
  rest = lost_insert_report.lines;
  lines_are = refl;
  later = [];
  opened = refl;
  order = (
    to_a 1 (reply.Begin 1) ∷ to_a 1 (reply.Changed 1) ∷ line.Down 1 1 true ∷ to_a 1 (reply.Lost 1 1) ∷ [],
    to_a 2 (reply.NoMajority 0 1) ∷ [],
    [],
    [],
    refl,
    refl,
    inr (inr (inr (record {
      at_commit = refl;
      uncut = refl;
      kept = refl;
      majority = refl;
      front = reply.Begin 1 ∷ reply.Changed 1 ∷ [];
      first = (reply.Changed 1 ∷ [], refl, refl, refl);
      node = 1;
      of_script = (omega arith, omega arith);
      was_up = refl;
      told = reply.Lost 1 1;
      is_told = inl refl;
      says = refl;
      none = refl;
    }))),
    (to_a 2 (reply.NoMajority 0 1) ∷ [], [], [], [], refl, refl, inr (inr (inl (record { lacks = refl; told = reply.NoMajority 0 1; is_told = inl refl; says = refl; none = refl }))), (refl, refl)),
  );
  changes = one_goes_down (from_nothing insert_select) (view_of (from_nothing insert_select) lost_insert_report.entries) [] (take 2 lost_insert_report.lines) (drop 4 lost_insert_report.lines) 1 1 true (codes "a") 1 (reply.Lost 1 1) refl
      (record { transaction = inserting; is_its = refl; begin = 1; begun = ([], to_a 1 (reply.Changed 1) ∷ [], refl); has_ops = λ is. cc });
}

-- the transactions of the sessions, where one is open as the other's commit fails
abbrev opened_insert : Transaction
opened_insert = transaction 1 (insert_text ∷ []) Snapshot ByCommit

abbrev then_select : Transaction
then_select = transaction 2 (select_text ∷ []) Snapshot WithItsLine

abbrev pub open_items_of_a : List WorkItem
open_items_of_a = Does opened_insert ∷ Does then_select ∷ []

abbrev pub open_items_of_b : List WorkItem
open_items_of_b = Does (transaction 1 (codes "insert into t values(2, 20)" ∷ []) Snapshot WithItsLine) ∷ []

pub open_work_of_a : work small_language (codes "a") open_insert.body ≡ open_items_of_a
open_work_of_a = refl

pub open_work_of_b : work small_language (codes "b") open_insert.body ≡ open_items_of_b
open_work_of_b = refl

abbrev open_of_b : List (List Reply)
open_of_b = (reply.Begin 1 ∷ reply.Changed 1 ∷ reply.Lost 1 1 ∷ []) ∷ []

along_open : (P : List ℕ → WorkItem → List Reply → Type 0) → EachPart (P (codes "a")) open_items_of_a lost_of_a → EachPart (P (codes "b")) open_items_of_b open_of_b →
    (name : List ℕ) → Along (P name) (work small_language name open_insert.body) (told name open_insert_report.lines)
along_open P of_a of_b =
    along_each P open_insert.body open_insert_report.lines
    (inl refl, (inl refl, (inr refl, (inl refl, (inl refl, tt))))) (inl refl, (inl refl, (inr refl, (inr refl, (tt, (inr refl, (inl refl, (inl refl, tt))))))))
    (subst (λ (items : List WorkItem). Along (P (codes "a")) items (told (codes "a") open_insert_report.lines)) (sym open_work_of_a) (along_parts (P (codes "a")) open_items_of_a lost_of_a of_a))
    (subst (λ (items : List WorkItem). Along (P (codes "b")) items (told (codes "b") open_insert_report.lines)) (sym open_work_of_b) (along_parts (P (codes "b")) open_items_of_b open_of_b of_b))

pub open_insert_is_lawful : Lawful (from_nothing open_insert) open_insert_report
open_insert_is_lawful = record {
  replies = along_open (IsTold (from_nothing open_insert) (view_of (from_nothing open_insert) (Setup 1 ∷ []))) (
    cut 1 (reply.Begin 1 ∷ reply.Changed 1 ∷ []) [] (reply.Lost 1 1) (omega arith) (omega arith) refl refl (λ is. cc) refl,
    (cut 1 [] (reply.Begin 1 ∷ reply.Done 0 ∷ []) (reply.NoMajority 0 1) (omega arith) (omega arith) refl refl (inl refl) refl, tt),
  ) (cut 1 (reply.Begin 1 ∷ reply.Changed 1 ∷ []) [] (reply.Lost 1 1) (omega arith) (omega arith) refl refl (λ is. cc) refl, tt);
  begins = (
    fresh_begin (nothing_before (worked_table ∷ [])) _ (codes "a") 1 (omega arith) (omega arith) tt,
    (tt, (fresh_begin (nothing_before (worked_table ∷ [])) _ (codes "b") 1 (omega arith) (omega arith) ((omega arith, tt), (tt, tt)), (tt, (tt, (tt, (tt, (tt, tt))))))),
  );
  history = ((refl, refl, refl), tt);
  answered = (tt, tt);
  places = (
    tt,
    (
      tt,
      (
        tt,
        (
          tt,
          (
            record { counted = refl; of_script = (omega arith, omega arith); was_up = refl; by_fault = refl },
            (
              (refl, record { fault = true; front = take 4 open_insert_report.lines; back = []; stands = refl; since = tt; begin = 1; begun = (take 2 open_insert_report.lines, to_b 1 (reply.Changed 1) ∷ line.Down 1 1 true ∷ [], refl); once = (refl, (refl, tt)) }),
              (
                (
                  refl,
                  record { fault = true; front = take 4 open_insert_report.lines; back = to_b 1 (reply.Lost 1 1) ∷ []; stands = refl; since = tt; begin = 1; begun = ([], drop 1 (take 6 open_insert_report.lines), refl); once = (refl, (refl, tt)) },
                ),
                (record { are_all = refl; front = take 7 open_insert_report.lines; back = []; stands = refl; since = refl; are_up = refl; few = refl }, tt),
              ),
            ),
          ),
        ),
      ),
    ),
  );
  feeds = refl;
  base = refl;
  end = refl;
}

-- a line that is answered by these replies behind lines that keep it from nothing
pub answered : {script : Script} {now : ℕ} {before : List Line} {session : List ℕ} {number : ℕ} {kind : Kind} {pending : Option (List (List ℕ))} {added : List EntryLine} (replies : List Reply) →
    IsTurn now before session number (is_own_by kind pending) replies added → loss_of script before session number pending ≡ None → lacks_majority script before kind pending ≡ false →
    IsSaid script now before session number kind pending (lines_of session number replies) added
answered replies turn kept majority = inl (record { replies = replies; says = refl; turn = turn; kept = kept; majority = majority })

pub open_insert_is_in_order : InPlayOrder (from_nothing open_insert) open_insert_report
open_insert_is_in_order = record {
  first = [];
  go_down = tt;
  rest = open_insert_report.lines;
  lines_are = refl;
  later = [];
  opened = refl;
  order = (
    to_a 1 (reply.Begin 1) ∷ [],
    drop 1 open_insert_report.lines,
    [],
    [],
    refl,
    refl,
    answered (reply.Begin 1 ∷ []) (is_turn refl (refl, tt) tt) refl refl,
    (
      to_a 1 (reply.Changed 1) ∷ [],
      drop 2 open_insert_report.lines,
      [],
      [],
      refl,
      refl,
      answered (reply.Changed 1 ∷ []) (is_turn refl (tt, tt) tt) refl refl,
      (
        to_b 1 (reply.Begin 1) ∷ to_b 1 (reply.Changed 1) ∷ line.Down 1 1 true ∷ to_b 1 (reply.Lost 1 1) ∷ [],
        drop 6 open_insert_report.lines,
        [],
        [],
        refl,
        refl,
        inr (inr (inr (record {
          at_commit = refl;
          uncut = refl;
          kept = refl;
          majority = refl;
          front = reply.Begin 1 ∷ reply.Changed 1 ∷ [];
          first = (reply.Changed 1 ∷ [], refl, refl, refl);
          node = 1;
          of_script = (omega arith, omega arith);
          was_up = refl;
          told = reply.Lost 1 1;
          is_told = inl refl;
          says = refl;
          none = refl;
        }))),
        (
          to_a 1 (reply.Lost 1 1) ∷ [],
          drop 7 open_insert_report.lines,
          [],
          [],
          refl,
          refl,
          inr (inl (record { down = 1; is_lost = refl; told = reply.Lost 1 1; is_told = inl refl; says = refl; none = refl })),
          (to_a 2 (reply.NoMajority 0 1) ∷ [], [], [], [], refl, refl, inr (inr (inl (record { lacks = refl; told = reply.NoMajority 0 1; is_told = inl refl; says = refl; none = refl }))), (refl, refl)),
        ),
      ),
    ),
  );
  changes = one_goes_down (from_nothing open_insert) (view_of (from_nothing open_insert) open_insert_report.entries) [] (take 4 open_insert_report.lines) (drop 6 open_insert_report.lines) 1 1 true (codes "b") 1 (reply.Lost 1 1) refl
      (record { transaction = transaction 1 (codes "insert into t values(2, 20)" ∷ []) Snapshot WithItsLine; is_its = refl; begin = 1; begun = (take 2 open_insert_report.lines, to_b 1 (reply.Changed 1) ∷ [], refl); has_ops = λ is. cc });
}

-- a node that goes down at the opening
along_none : (P : WorkItem → List Reply → Type 0) (name : List ℕ) → Along P (work small_language name nothing_said.body) (told name (line.Down 1 1 true ∷ []))
along_none P name = refl

pub down_at_first_is_lawful : Lawful (from_nothing nothing_said) down_at_first_report
down_at_first_is_lawful = record {
  replies = λ name. along_none (IsTold (from_nothing nothing_said) (view_of (from_nothing nothing_said) []) name) name;
  begins = (tt, tt);
  history = tt;
  answered = tt;
  places = (record { counted = refl; of_script = (omega arith, omega arith); was_up = refl; by_fault = refl }, tt);
  feeds = refl;
  base = refl;
  end = refl;
}

pub down_at_first_is_in_order : InPlayOrder (from_nothing nothing_said) down_at_first_report
down_at_first_is_in_order = record {
  first = line.Down 1 1 true ∷ [];
  go_down = (tt, tt);
  rest = [];
  lines_are = refl;
  later = [];
  opened = refl;
  order = (refl, refl);
  changes = none_go_down (from_nothing nothing_said) (view_of (from_nothing nothing_said) []) (line.Down 1 1 true ∷ []) [] refl;
}
