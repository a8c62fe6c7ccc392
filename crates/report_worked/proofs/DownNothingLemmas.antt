-- A report whose node goes down at the commit of a transaction that changes nothing.
use Rattle.std.proofs.Common.{◌≡◌, ℕ, List, [], ◌∷◌, ◌++◌, refl, sym, subst, ap, arith, codes, inl, true, Some, take, drop}
use Rattle.std.specs.List.{AllByRecursion}
use Rattle.cdb_values.specs.Rows.{Rows}
use Rattle.session_language.proofs.UpToLaws.{same_head}
use Rattle.cdb_values.specs.declared.rows.Level.TheVariants.{Snapshot}
use Rattle.report_laws.specs.History.{nothing_before, alone_on, rows_at, view_of}
use Rattle.report_laws.specs.Lawful.{Lawful}
use Rattle.report_laws.specs.Play.{GoDownAtChanges, HasChanges, InPlayOrder, IsDownLine}
use Rattle.report_laws.specs.Told.{told, Along, IsTold}
use Rattle.report_laws.specs.Work.{Transaction, WorkItem, Does, transaction, ByCommit, work}
use Rattle.report_laws.proofs.LineLaws.{fresh_begin}
use Rattle.report_text.specs.declared.reports.Line.{Line}
use Rattle.report_text.specs.declared.reports.Line.TheVariants as line
use Rattle.cdb_values.specs.declared.replies.Reply.{Reply}
use Rattle.cdb_values.specs.declared.replies.Reply.TheVariants as reply
use Rattle.report_worked.specs.Small.{from_nothing, small_language}
use Rattle.report_worked.specs.Worked.{nothing_done, to_a, worked_table}
use Rattle.report_worked.specs.WorkedWrong.{down_at_nothing}
use Rattle.report_worked.proofs.TwoUpdatesWrongLemmas.{same_transaction}
use Rattle.report_worked.proofs.WorkedLemmas.{along_each, along_parts, EachPart, cut}

abbrev nothing_at_all : Transaction
nothing_at_all = transaction 1 [] Snapshot ByCommit

work_of_a : work small_language (codes "a") nothing_done.body ≡ Does nothing_at_all ∷ []
work_of_a = refl

abbrev told_a : List (List Reply)
told_a = (reply.Begin 1 ∷ reply.Lost 1 1 ∷ []) ∷ []

along_nothing : (P : List ℕ → WorkItem → List Reply → Type 0) → EachPart (P (codes "a")) (Does nothing_at_all ∷ []) told_a → (name : List ℕ) → Along (P name) (work small_language name nothing_done.body) (told name down_at_nothing.lines)
along_nothing P is =
    along_each P nothing_done.body down_at_nothing.lines
    (inl refl, (inl refl, tt)) (inl refl, (tt, (inl refl, tt)))
    (subst (λ (items : List WorkItem). Along (P (codes "a")) items (told (codes "a") down_at_nothing.lines)) (sym work_of_a) (along_parts (P (codes "a")) (Does nothing_at_all ∷ []) told_a is))
    refl

pub down_at_nothing_is_lawful : Lawful (from_nothing nothing_done) down_at_nothing
down_at_nothing_is_lawful = record {
  replies = along_nothing (IsTold (from_nothing nothing_done) (view_of (from_nothing nothing_done) (down_at_nothing.entries)))
      (cut 1 (reply.Begin 1 ∷ []) [] (reply.Lost 1 1) (omega arith) (omega arith) refl refl (λ is. cc) refl, tt);
  begins = (fresh_begin (nothing_before (worked_table ∷ [])) _ (codes "a") 1 (omega arith) (omega arith) tt, (tt, (tt, tt)));
  history = ((refl, refl, refl), tt);
  answered = (tt, tt);
  places = (
    tt,
    (
      record { counted = refl; of_script = (omega arith, omega arith); was_up = refl; by_fault = refl },
      (
        (refl, record { fault = true; front = take 1 down_at_nothing.lines; back = []; stands = refl; since = tt; begin = 1; begun = ([], line.Down 1 1 true ∷ [], refl); once = (refl, tt) }),
        tt,
      ),
    ),
  );
  feeds = refl;
  base = refl;
  end = refl;
}

-- a transaction without a text has no operations
no_ops : (t : Transaction) (rows : Rows) → Some nothing_at_all ≡ Some t → (alone_on (from_nothing nothing_done) rows t.texts).ops ≡ []
no_ops t rows is = ap (λ (s : Transaction). (alone_on (from_nothing nothing_done) rows s.texts).ops) (sym (same_transaction nothing_at_all t is))

change_of : (first rest : List Line) → down_at_nothing.lines ≡ first ++ rest → AllByRecursion IsDownLine first →
    GoDownAtChanges (from_nothing nothing_done) (view_of (from_nothing nothing_done) down_at_nothing.entries) first rest →
    HasChanges (from_nothing nothing_done) (view_of (from_nothing nothing_done) down_at_nothing.entries) (take 1 down_at_nothing.lines) (codes "a") 1
change_of [] rest are down changes = changes (take 1 down_at_nothing.lines) [] 1 1 true (codes "a") 1 (reply.Lost 1 1) (sym are)
change_of (line.Session name txn answer ∷ first) rest are down changes = absurd down.0
change_of (line.Down count node fault ∷ first) rest are down changes = let head : to_a 1 (reply.Begin 1) ≡ line.Down count node fault = same_head (to_a 1 (reply.Begin 1)) (line.Down count node fault) (drop 1 down_at_nothing.lines) (first ++ rest) are in absurd cc
change_of (line.Up node ∷ first) rest are down changes = absurd down.0
change_of (line.Barrier ∷ first) rest are down changes = absurd down.0
change_of (line.Fed position ∷ first) rest are down changes = absurd down.0

pub down_at_nothing_is_not_in_order : InPlayOrder (from_nothing nothing_done) down_at_nothing → ⊥
down_at_nothing_is_not_in_order order =
    let has = change_of order.first order.rest order.lines_are order.go_down order.changes in
    has.has_ops (no_ops has.transaction (rows_at (from_nothing nothing_done) down_at_nothing.entries has.begin) has.is_its)
