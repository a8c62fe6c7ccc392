-- Two more stories that are lawful, computed: a session with hasql that finds no majority as it would move, and a base without a
-- master.
use Rattle.std.proofs.Common.{[], ◌∷◌, refl, arith, codes, inl, inr, true, false, take}
use Rattle.cdb_values.specs.Rows.{no_rows}
use Rattle.cdb_values.specs.declared.replies.Reply.TheVariants as reply
use Rattle.cdb_values.specs.declared.rows.Level.TheVariants.{Snapshot}
use Rattle.report_laws.proofs.LineLaws.{fresh_begin}
use Rattle.report_laws.specs.History.{nothing_before, view_of, Basis}
use Rattle.report_laws.specs.Work.{transaction, ByRollback, Does, Transaction, WithItsLine}
use Rattle.report_text.specs.declared.reports.Line.TheVariants as line
use Rattle.report_worked.specs.Small.{from_log, from_nothing}
use Rattle.report_worked.specs.Worked.{worked_table}
use Rattle.report_worked.proofs.WorkedLemmas.{along_parts}
use Rattle.node_reports.specs.Lawful.{LawfulOfNodes}
use Rattle.node_reports.specs.Told.{IsToldAlong}
use Rattle.node_stories.specs.Stories.{few_opened, based_on_none_report, moves_at_rollback, moves_at_rollback_report}
use Rattle.node_stories.proofs.HeardLemmas.{along_them, never_armed, no_arms}

abbrev rolled : Transaction
rolled = transaction 1 (codes "insert into t values(1, 1)" ∷ []) Snapshot ByRollback

pub moves_at_rollback_is_lawful : LawfulOfNodes (from_nothing moves_at_rollback) moves_at_rollback_report
moves_at_rollback_is_lawful = record {
  replies = along_them (IsToldAlong (from_nothing moves_at_rollback) (view_of (from_nothing moves_at_rollback) moves_at_rollback_report.entries)) moves_at_rollback.body moves_at_rollback_report.lines
      (inr refl, (inr refl, (tt, (tt, (inr refl, tt))))) (inr refl, (inr refl, (tt, (tt, (inr refl, tt)))))
      refl
      (along_parts (IsToldAlong (from_nothing moves_at_rollback) (view_of (from_nothing moves_at_rollback) moves_at_rollback_report.entries) (codes "b")) (Does rolled ∷ []) ((reply.Begin 1 ∷ reply.Changed 1 ∷ reply.NoMajority 1 3 ∷ []) ∷ [])
      (inr (record { begin = 1; base = omega arith; within = omega arith; ran = _; is_ran = refl; front = reply.Begin 1 ∷ reply.Changed 1 ∷ []; rest = []; fits = refl; cause = reply.NoMajority 1 3; is_cause = refl; may = inr (refl, refl); says = refl }), tt));
  begins = (fresh_begin (nothing_before (worked_table ∷ [])) _ (codes "b") 1 (omega arith) (omega arith) tt, (tt, (tt, (tt, (tt, tt)))));
  history = ((refl, refl, refl), tt);
  answered = (tt, tt);
  places = (
    tt,
    (
      tt,
      (
        record { counted = refl; of_script = (omega arith, omega arith); was_up = λ stop. refl },
        (
          record { counted = refl; of_script = (omega arith, omega arith); was_up = λ stop. refl },
          (record { are_all = refl; front = take 4 moves_at_rollback_report.lines; back = []; stands = refl; since = refl; are_up = refl; few = refl }, tt),
        ),
      ),
    ),
  );
  operator = record {
    arms = no_arms;
    armed = λ before after count node place stands arm. never_armed place arm;
    apart = λ count other place arm again. never_armed place arm;
    heeded = (
      [],
      moves_at_rollback_report.lines,
      refl,
      refl,
      (
        [],
        moves_at_rollback_report.lines,
        refl,
        refl,
        (
          take 3 moves_at_rollback_report.lines,
          line.Down 2 1 false ∷ line.Session (codes "b") 1 (reply.NoMajority 1 3) ∷ [],
          refl,
          record { told = inr (1, refl); is_down = refl },
          (
            line.Down 2 1 false ∷ [],
            line.Session (codes "b") 1 (reply.NoMajority 1 3) ∷ [],
            refl,
            record { told = inr (2, refl); is_down = refl },
            ([], line.Session (codes "b") 1 (reply.NoMajority 1 3) ∷ [], refl, refl, refl),
          ),
        ),
      ),
    );
  };
  feeds = refl;
  base = refl;
  end = refl;
}

abbrev based : Basis
based = from_log few_opened 1 (no_rows (worked_table ∷ []))

abbrev selected : Transaction
selected = transaction 1 (codes "select * from t" ∷ []) Snapshot WithItsLine

pub based_on_none_is_lawful : LawfulOfNodes (from_log few_opened 1 (no_rows (worked_table ∷ []))) based_on_none_report
based_on_none_is_lawful = record {
  replies = along_them (IsToldAlong based (view_of based [])) few_opened.body based_on_none_report.lines (inl refl, tt) (tt, (tt, (inl refl, tt)))
      (along_parts (IsToldAlong based (view_of based []) (codes "a")) (Does selected ∷ []) ((reply.NoMajority 1 3 ∷ []) ∷ [])
      (inr (record { begin = 1; base = omega arith; within = omega arith; ran = _; is_ran = refl; front = []; rest = reply.Begin 1 ∷ reply.Done 0 ∷ []; fits = refl; cause = reply.NoMajority 1 3; is_cause = refl; may = inl (inl refl); says = refl }), tt))
      refl;
  begins = (tt, (tt, (tt, tt)));
  history = tt;
  answered = tt;
  places = (
    record { counted = refl; of_script = (omega arith, omega arith); was_up = λ stop. refl },
    (
      record { counted = refl; of_script = (omega arith, omega arith); was_up = λ stop. refl },
      (record { are_all = refl; front = line.Down 1 2 true ∷ line.Down 2 3 true ∷ []; back = []; stands = refl; since = refl; are_up = refl; few = refl }, tt),
    ),
  );
  operator = record {
    arms = no_arms;
    armed = λ before after count node place stands arm. never_armed place arm;
    apart = λ count other place arm again. never_armed place arm;
    heeded = ([], based_on_none_report.lines, refl, refl, refl);
  };
  feeds = refl;
  base = refl;
  end = refl;
}
