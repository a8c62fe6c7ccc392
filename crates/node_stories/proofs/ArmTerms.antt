-- Stories of arms are in the order of play, computed.
use Rattle.std.proofs.Common.{◌≡◌, [], ◌∷◌, refl, arith, codes, inl, inr, true, false}
use Rattle.cdb_values.specs.declared.replies.Reply.TheVariants as reply
use Rattle.cdb_values.specs.declared.rows.Level.TheVariants.{Snapshot}
use Rattle.report_laws.specs.Work.{transaction, WithItsLine}
use Rattle.report_text.specs.declared.reports.EntryLine.TheVariants.{Setup}
use Rattle.report_text.specs.declared.reports.Line.TheVariants as line
use Rattle.report_worked.specs.Small.{from_nothing}
use Rattle.report_worked.specs.Worked.{row, of_a, of_b}
use Rattle.node_reports.specs.Order.{InNodesOrder}
use Rattle.node_stories.specs.Stories.{armed_row, armed_row_report, armed_row_survives, armed_row_survives_report, armed_append, armed_append_report, shipped, shipped_report, lost_stands, lost_stands_report, falls_and_stops, falls_and_stops_report, sent_again, sent_again_report}
use Rattle.node_stories.proofs.StoryLemmas.{answers, armed, comes_up, never_alone, no_fault, no_true, plain, some_entry}

pub armed_row_is_in_order : InNodesOrder (from_nothing armed_row) armed_row_report
armed_row_is_in_order = record {
  first = [];
  go_down = tt;
  opening = Setup 1 ∷ [];
  opened = (refl, refl, refl, refl, inl refl);
  rest = line.Session (codes "a") 1 (reply.Begin 1) ∷ line.Session (codes "a") 1 (reply.Changed 1) ∷ line.Session (codes "a") 1 (reply.Committed 2) ∷ line.Session (codes "a") 2 (reply.Begin 2) ∷ line.Session (codes "a") 2 (row 1 10) ∷ line.Down 1 2 false ∷ line.Session (codes "a") 2 (reply.Lost 2 1) ∷ [];
  lines_are = refl;
  later = of_a 2 1 1 ∷ [];
  entries_are = refl;
  order = (
    line.Session (codes "a") 1 (reply.Begin 1) ∷ line.Session (codes "a") 1 (reply.Changed 1) ∷ line.Session (codes "a") 1 (reply.Committed 2) ∷ [],
    line.Session (codes "a") 2 (reply.Begin 2) ∷ line.Session (codes "a") 2 (row 1 10) ∷ line.Down 1 2 false ∷ line.Session (codes "a") 2 (reply.Lost 2 1) ∷ [],
    of_a 2 1 1 ∷ [],
    [],
    refl,
    refl,
    plain refl (answers refl (inr refl) refl refl refl refl refl, (answers refl (inr refl) refl refl tt refl refl, (answers refl (inr refl) refl refl (omega arith) refl refl, tt))) (refl, 1, Snapshot, refl, inl (reply.Begin 1 ∷ reply.Changed 1 ∷ [], [], refl)) refl,
    (
      [],
      line.Session (codes "a") 2 (reply.Begin 2) ∷ line.Session (codes "a") 2 (row 1 10) ∷ line.Down 1 2 false ∷ line.Session (codes "a") 2 (reply.Lost 2 1) ∷ [],
      [],
      [],
      refl,
      refl,
      (refl, refl),
      (
        line.Session (codes "a") 2 (reply.Begin 2) ∷ line.Session (codes "a") 2 (row 1 10) ∷ line.Down 1 2 false ∷ line.Session (codes "a") 2 (reply.Lost 2 1) ∷ [],
        [],
        [],
        [],
        refl,
        refl,
        plain refl (answers refl (inr refl) refl refl refl refl refl, (answers refl (inr refl) refl refl tt refl refl, (record { counted = refl; of_script = (omega arith, omega arith); was_up = refl; cause = inr (inl (record { due = refl; its = refl; stopped = refl })) }, ((refl, refl, refl, inl (record { down = 1; is_lost = refl; says = inl refl })), tt)))) tt refl,
        (refl, refl),
      ),
    ),
  );
}

pub armed_row_survives_is_in_order : InNodesOrder (from_nothing armed_row_survives) armed_row_survives_report
armed_row_survives_is_in_order = record {
  first = [];
  go_down = tt;
  opening = Setup 1 ∷ [];
  opened = (refl, refl, refl, refl, inl refl);
  rest = line.Session (codes "a") 1 (reply.Begin 1) ∷ line.Session (codes "a") 1 (reply.Changed 1) ∷ line.Session (codes "a") 1 (reply.Committed 2) ∷ line.Session (codes "b") 1 (reply.Begin 2) ∷ line.Session (codes "b") 1 (row 1 10) ∷ line.Down 1 3 false ∷ line.Session (codes "b") 1 (reply.Done 1) ∷ line.Session (codes "b") 1 (reply.Committed 2) ∷ line.Session (codes "b") 2 (reply.Begin 2) ∷ line.Session (codes "b") 2 (row 1 10) ∷ line.Session (codes "b") 2 (reply.Done 1) ∷ line.Session (codes "b") 2 (reply.Committed 2) ∷ [];
  lines_are = refl;
  later = of_a 2 1 1 ∷ [];
  entries_are = refl;
  order = (
    line.Session (codes "a") 1 (reply.Begin 1) ∷ line.Session (codes "a") 1 (reply.Changed 1) ∷ line.Session (codes "a") 1 (reply.Committed 2) ∷ [],
    line.Session (codes "b") 1 (reply.Begin 2) ∷ line.Session (codes "b") 1 (row 1 10) ∷ line.Down 1 3 false ∷ line.Session (codes "b") 1 (reply.Done 1) ∷ line.Session (codes "b") 1 (reply.Committed 2) ∷ line.Session (codes "b") 2 (reply.Begin 2) ∷ line.Session (codes "b") 2 (row 1 10) ∷ line.Session (codes "b") 2 (reply.Done 1) ∷ line.Session (codes "b") 2 (reply.Committed 2) ∷ [],
    of_a 2 1 1 ∷ [],
    [],
    refl,
    refl,
    plain refl (answers refl (inr refl) refl refl refl refl refl, (answers refl (inr refl) refl refl tt refl refl, (answers refl (inr refl) refl refl (omega arith) refl refl, tt))) (refl, 1, Snapshot, refl, inl (reply.Begin 1 ∷ reply.Changed 1 ∷ [], [], refl)) refl,
    (
      [],
      line.Session (codes "b") 1 (reply.Begin 2) ∷ line.Session (codes "b") 1 (row 1 10) ∷ line.Down 1 3 false ∷ line.Session (codes "b") 1 (reply.Done 1) ∷ line.Session (codes "b") 1 (reply.Committed 2) ∷ line.Session (codes "b") 2 (reply.Begin 2) ∷ line.Session (codes "b") 2 (row 1 10) ∷ line.Session (codes "b") 2 (reply.Done 1) ∷ line.Session (codes "b") 2 (reply.Committed 2) ∷ [],
      [],
      [],
      refl,
      refl,
      (refl, refl),
      (
        line.Session (codes "b") 1 (reply.Begin 2) ∷ line.Session (codes "b") 1 (row 1 10) ∷ line.Down 1 3 false ∷ line.Session (codes "b") 1 (reply.Done 1) ∷ line.Session (codes "b") 1 (reply.Committed 2) ∷ [],
        line.Session (codes "b") 2 (reply.Begin 2) ∷ line.Session (codes "b") 2 (row 1 10) ∷ line.Session (codes "b") 2 (reply.Done 1) ∷ line.Session (codes "b") 2 (reply.Committed 2) ∷ [],
        [],
        [],
        refl,
        refl,
        plain refl (answers refl (inr refl) refl refl refl refl refl, (answers refl (inr refl) refl refl tt refl refl, (record { counted = refl; of_script = (omega arith, omega arith); was_up = refl; cause = inr (inl (record { due = refl; its = refl; stopped = refl })) }, (answers refl (inl refl) refl refl tt refl refl, (answers refl (inl refl) refl refl (omega arith) refl refl, tt))))) tt refl,
        (
          line.Session (codes "b") 2 (reply.Begin 2) ∷ line.Session (codes "b") 2 (row 1 10) ∷ line.Session (codes "b") 2 (reply.Done 1) ∷ line.Session (codes "b") 2 (reply.Committed 2) ∷ [],
          [],
          [],
          [],
          refl,
          refl,
          plain refl (answers refl (inr refl) refl refl refl refl refl, (answers refl (inr refl) refl refl tt refl refl, (answers refl (inr refl) refl refl tt refl refl, (answers refl (inr refl) refl refl (omega arith) refl refl, tt)))) tt refl,
          (refl, refl),
        ),
      ),
    ),
  );
}

pub armed_append_is_in_order : InNodesOrder (from_nothing armed_append) armed_append_report
armed_append_is_in_order = record {
  first = [];
  go_down = tt;
  opening = Setup 1 ∷ [];
  opened = (refl, refl, refl, refl, inl refl);
  rest = line.Session (codes "a") 1 (reply.Begin 1) ∷ line.Session (codes "a") 1 (reply.Changed 1) ∷ line.Down 1 1 false ∷ line.Session (codes "a") 1 (reply.Lost 1 1) ∷ line.Session (codes "a") 2 (reply.NoMajority 0 1) ∷ [];
  lines_are = refl;
  later = of_a 2 1 1 ∷ [];
  entries_are = refl;
  order = (
    [],
    line.Session (codes "a") 1 (reply.Begin 1) ∷ line.Session (codes "a") 1 (reply.Changed 1) ∷ line.Down 1 1 false ∷ line.Session (codes "a") 1 (reply.Lost 1 1) ∷ line.Session (codes "a") 2 (reply.NoMajority 0 1) ∷ [],
    [],
    of_a 2 1 1 ∷ [],
    refl,
    refl,
    (refl, refl),
    (
      line.Session (codes "a") 1 (reply.Begin 1) ∷ line.Session (codes "a") 1 (reply.Changed 1) ∷ line.Down 1 1 false ∷ line.Session (codes "a") 1 (reply.Lost 1 1) ∷ [],
      line.Session (codes "a") 2 (reply.NoMajority 0 1) ∷ [],
      of_a 2 1 1 ∷ [],
      [],
      refl,
      refl,
      armed refl (answers refl (inr refl) refl refl refl refl refl, (answers refl (inr refl) refl refl tt refl refl, (record { counted = refl; of_script = (omega arith, omega arith); was_up = refl; cause = inl (record { at_commit = refl; uncut = refl; kept = inl refl; majority = refl; changes = record { transaction = transaction 1 (codes "insert into t values(1, 10)" ∷ []) Snapshot WithItsLine; is_its = refl; begin = 1; begun = ([], (line.Session (codes "a") 1 (reply.Changed 1) ∷ []), refl); has_ops = λ is. cc }; by = inr (omega arith) }) }, ((refl, refl, refl, inl (record { down = 1; is_lost = refl; says = inl refl })), tt)))) (refl, 1, Snapshot, refl, inr (record { at_commit = refl; fell = (_ ∷ _ ∷ [], _, _, _, _, refl, refl); cut = refl; comes_up = λ front back count node is none. absurd (no_fault _ front back count node refl is) })) (record { transaction = transaction 1 (codes "insert into t values(1, 10)" ∷ []) Snapshot WithItsLine; is_its = refl; begin = 1; begun = ([], (line.Session (codes "a") 1 (reply.Changed 1) ∷ line.Down 1 1 false ∷ line.Session (codes "a") 1 (reply.Lost 1 1) ∷ []), refl); ran = _; is_ran = refl; untouched = λ j after before. absurd (omega (arith, after, before)); unbroken = refl }) (λ none. absurd (let no_such : 1 ≡ 0 = none in omega (arith, no_such))) (omega arith) (omega arith),
      (
        line.Session (codes "a") 2 (reply.NoMajority 0 1) ∷ [],
        [],
        [],
        [],
        refl,
        refl,
        plain refl ((refl, refl, refl, inr (inr (inl (record { kept = record { kept = refl; unstopped = inr refl }; lacks = inl refl; says = inl refl })))), tt) tt refl,
        (refl, refl),
      ),
    ),
  );
}

pub shipped_is_in_order : InNodesOrder (from_nothing shipped) shipped_report
shipped_is_in_order = record {
  first = [];
  go_down = tt;
  opening = Setup 1 ∷ [];
  opened = (refl, refl, refl, refl, inl refl);
  rest = line.Down 1 2 false ∷ line.Session (codes "b") 1 (reply.Begin 1) ∷ line.Session (codes "b") 1 (reply.Changed 1) ∷ line.Down 2 1 false ∷ line.Session (codes "b") 1 (reply.NoMajority 1 3) ∷ line.Session (codes "b") 2 (reply.NoMajority 1 3) ∷ line.Up 2 ∷ line.Session (codes "b") 3 (reply.Begin 2) ∷ line.Session (codes "b") 3 (row 1 10) ∷ line.Session (codes "b") 3 (reply.Done 1) ∷ line.Session (codes "b") 3 (reply.Committed 2) ∷ [];
  lines_are = refl;
  later = of_b 2 1 1 ∷ [];
  entries_are = refl;
  order = (
    line.Down 1 2 false ∷ [],
    line.Session (codes "b") 1 (reply.Begin 1) ∷ line.Session (codes "b") 1 (reply.Changed 1) ∷ line.Down 2 1 false ∷ line.Session (codes "b") 1 (reply.NoMajority 1 3) ∷ line.Session (codes "b") 2 (reply.NoMajority 1 3) ∷ line.Up 2 ∷ line.Session (codes "b") 3 (reply.Begin 2) ∷ line.Session (codes "b") 3 (row 1 10) ∷ line.Session (codes "b") 3 (reply.Done 1) ∷ line.Session (codes "b") 3 (reply.Committed 2) ∷ [],
    [],
    of_b 2 1 1 ∷ [],
    refl,
    refl,
    (inr (record { was = refl; faults = []; says = refl; each = tt }), λ base empty. some_entry _ _ empty),
    (
      [],
      line.Session (codes "b") 1 (reply.Begin 1) ∷ line.Session (codes "b") 1 (reply.Changed 1) ∷ line.Down 2 1 false ∷ line.Session (codes "b") 1 (reply.NoMajority 1 3) ∷ line.Session (codes "b") 2 (reply.NoMajority 1 3) ∷ line.Up 2 ∷ line.Session (codes "b") 3 (reply.Begin 2) ∷ line.Session (codes "b") 3 (row 1 10) ∷ line.Session (codes "b") 3 (reply.Done 1) ∷ line.Session (codes "b") 3 (reply.Committed 2) ∷ [],
      [],
      of_b 2 1 1 ∷ [],
      refl,
      refl,
      (refl, refl),
      (
        line.Session (codes "b") 1 (reply.Begin 1) ∷ line.Session (codes "b") 1 (reply.Changed 1) ∷ line.Down 2 1 false ∷ line.Session (codes "b") 1 (reply.NoMajority 1 3) ∷ [],
        line.Session (codes "b") 2 (reply.NoMajority 1 3) ∷ line.Up 2 ∷ line.Session (codes "b") 3 (reply.Begin 2) ∷ line.Session (codes "b") 3 (row 1 10) ∷ line.Session (codes "b") 3 (reply.Done 1) ∷ line.Session (codes "b") 3 (reply.Committed 2) ∷ [],
        of_b 2 1 1 ∷ [],
        [],
        refl,
        refl,
        armed refl (answers refl (inr refl) refl refl refl refl refl, (answers refl (inr refl) refl refl tt refl refl, (record { counted = refl; of_script = (omega arith, omega arith); was_up = refl; cause = inl (record { at_commit = refl; uncut = refl; kept = inl refl; majority = refl; changes = record { transaction = transaction 1 (codes "insert into t values(1, 10)" ∷ []) Snapshot WithItsLine; is_its = refl; begin = 1; begun = ((line.Down 1 2 false ∷ []), (line.Session (codes "b") 1 (reply.Changed 1) ∷ []), refl); has_ops = λ is. cc }; by = inr (omega arith) }) }, ((refl, refl, refl, inr (inr (inl (record { kept = record { kept = refl; unstopped = inl refl }; lacks = inr (refl, record { transaction = transaction 1 (codes "insert into t values(1, 10)" ∷ []) Snapshot WithItsLine; is_its = refl; begin = 1; begun = ((line.Down 1 2 false ∷ []), (line.Session (codes "b") 1 (reply.Changed 1) ∷ line.Down 2 1 false ∷ []), refl); has_ops = λ is. cc }); says = inl refl })))), tt)))) (refl, 1, Snapshot, refl, inr (record { at_commit = refl; fell = (_ ∷ _ ∷ [], _, _, _, _, refl, refl); cut = refl; comes_up = λ front back count node is none. absurd (no_fault _ front back count node refl is) })) (record { transaction = transaction 1 (codes "insert into t values(1, 10)" ∷ []) Snapshot WithItsLine; is_its = refl; begin = 1; begun = ((line.Down 1 2 false ∷ []), (line.Session (codes "b") 1 (reply.Changed 1) ∷ line.Down 2 1 false ∷ line.Session (codes "b") 1 (reply.NoMajority 1 3) ∷ []), refl); ran = _; is_ran = refl; untouched = λ j after before. absurd (omega (arith, after, before)); unbroken = refl }) (λ none. some_entry _ _) (omega arith) (omega arith),
        (
          line.Session (codes "b") 2 (reply.NoMajority 1 3) ∷ [],
          line.Up 2 ∷ line.Session (codes "b") 3 (reply.Begin 2) ∷ line.Session (codes "b") 3 (row 1 10) ∷ line.Session (codes "b") 3 (reply.Done 1) ∷ line.Session (codes "b") 3 (reply.Committed 2) ∷ [],
          [],
          [],
          refl,
          refl,
          plain refl ((refl, refl, refl, inr (inr (inl (record { kept = record { kept = refl; unstopped = inr refl }; lacks = inl refl; says = inl refl })))), tt) tt refl,
          (
            line.Up 2 ∷ [],
            line.Session (codes "b") 3 (reply.Begin 2) ∷ line.Session (codes "b") 3 (row 1 10) ∷ line.Session (codes "b") 3 (reply.Done 1) ∷ line.Session (codes "b") 3 (reply.Committed 2) ∷ [],
            [],
            [],
            refl,
            refl,
            (inr (inl (record { was = refl; faults = []; says = refl; each = tt })), λ base empty. some_entry _ _ empty),
            (
              line.Session (codes "b") 3 (reply.Begin 2) ∷ line.Session (codes "b") 3 (row 1 10) ∷ line.Session (codes "b") 3 (reply.Done 1) ∷ line.Session (codes "b") 3 (reply.Committed 2) ∷ [],
              [],
              [],
              [],
              refl,
              refl,
              plain refl (answers refl (inr refl) refl refl refl refl refl, (answers refl (inr refl) refl refl tt refl refl, (answers refl (inr refl) refl refl tt refl refl, (answers refl (inr refl) refl refl (omega arith) refl refl, tt)))) tt refl,
              (refl, refl),
            ),
          ),
        ),
      ),
    ),
  );
}

pub lost_stands_is_in_order : InNodesOrder (from_nothing lost_stands) lost_stands_report
lost_stands_is_in_order = record {
  first = [];
  go_down = tt;
  opening = Setup 1 ∷ [];
  opened = (refl, refl, refl, refl, inl refl);
  rest = line.Session (codes "a") 1 (reply.Begin 1) ∷ line.Session (codes "a") 1 (reply.Changed 1) ∷ line.Session (codes "a") 1 (reply.Committed 2) ∷ line.Down 1 3 false ∷ line.Session (codes "a") 2 (reply.Begin 2) ∷ line.Session (codes "a") 2 (reply.Changed 1) ∷ line.Down 2 1 false ∷ line.Session (codes "a") 2 (reply.Lost 1 2) ∷ line.Up 1 ∷ line.Session (codes "a") 3 (reply.Begin 3) ∷ line.Session (codes "a") 3 (row 1 10) ∷ line.Session (codes "a") 3 (row 2 20) ∷ line.Session (codes "a") 3 (reply.Done 2) ∷ line.Session (codes "a") 3 (reply.Committed 3) ∷ [];
  lines_are = refl;
  later = of_a 2 1 1 ∷ of_a 3 2 2 ∷ [];
  entries_are = refl;
  order = (
    line.Session (codes "a") 1 (reply.Begin 1) ∷ line.Session (codes "a") 1 (reply.Changed 1) ∷ line.Session (codes "a") 1 (reply.Committed 2) ∷ [],
    line.Down 1 3 false ∷ line.Session (codes "a") 2 (reply.Begin 2) ∷ line.Session (codes "a") 2 (reply.Changed 1) ∷ line.Down 2 1 false ∷ line.Session (codes "a") 2 (reply.Lost 1 2) ∷ line.Up 1 ∷ line.Session (codes "a") 3 (reply.Begin 3) ∷ line.Session (codes "a") 3 (row 1 10) ∷ line.Session (codes "a") 3 (row 2 20) ∷ line.Session (codes "a") 3 (reply.Done 2) ∷ line.Session (codes "a") 3 (reply.Committed 3) ∷ [],
    of_a 2 1 1 ∷ [],
    of_a 3 2 2 ∷ [],
    refl,
    refl,
    plain refl (answers refl (inr refl) refl refl refl refl refl, (answers refl (inr refl) refl refl tt refl refl, (answers refl (inr refl) refl refl (omega arith) refl refl, tt))) (refl, 1, Snapshot, refl, inl (reply.Begin 1 ∷ reply.Changed 1 ∷ [], [], refl)) refl,
    (
      line.Down 1 3 false ∷ [],
      line.Session (codes "a") 2 (reply.Begin 2) ∷ line.Session (codes "a") 2 (reply.Changed 1) ∷ line.Down 2 1 false ∷ line.Session (codes "a") 2 (reply.Lost 1 2) ∷ line.Up 1 ∷ line.Session (codes "a") 3 (reply.Begin 3) ∷ line.Session (codes "a") 3 (row 1 10) ∷ line.Session (codes "a") 3 (row 2 20) ∷ line.Session (codes "a") 3 (reply.Done 2) ∷ line.Session (codes "a") 3 (reply.Committed 3) ∷ [],
      [],
      of_a 3 2 2 ∷ [],
      refl,
      refl,
      (inr (record { was = refl; faults = []; says = refl; each = tt }), λ base empty. some_entry _ _ empty),
      (
        [],
        line.Session (codes "a") 2 (reply.Begin 2) ∷ line.Session (codes "a") 2 (reply.Changed 1) ∷ line.Down 2 1 false ∷ line.Session (codes "a") 2 (reply.Lost 1 2) ∷ line.Up 1 ∷ line.Session (codes "a") 3 (reply.Begin 3) ∷ line.Session (codes "a") 3 (row 1 10) ∷ line.Session (codes "a") 3 (row 2 20) ∷ line.Session (codes "a") 3 (reply.Done 2) ∷ line.Session (codes "a") 3 (reply.Committed 3) ∷ [],
        [],
        of_a 3 2 2 ∷ [],
        refl,
        refl,
        (refl, refl),
        (
          line.Session (codes "a") 2 (reply.Begin 2) ∷ line.Session (codes "a") 2 (reply.Changed 1) ∷ line.Down 2 1 false ∷ line.Session (codes "a") 2 (reply.Lost 1 2) ∷ [],
          line.Up 1 ∷ line.Session (codes "a") 3 (reply.Begin 3) ∷ line.Session (codes "a") 3 (row 1 10) ∷ line.Session (codes "a") 3 (row 2 20) ∷ line.Session (codes "a") 3 (reply.Done 2) ∷ line.Session (codes "a") 3 (reply.Committed 3) ∷ [],
          of_a 3 2 2 ∷ [],
          [],
          refl,
          refl,
          armed refl (answers refl (inr refl) refl refl refl refl refl, (answers refl (inr refl) refl refl tt refl refl, (record { counted = refl; of_script = (omega arith, omega arith); was_up = refl; cause = inl (record { at_commit = refl; uncut = refl; kept = inl refl; majority = refl; changes = record { transaction = transaction 2 (codes "insert into t values(2, 20)" ∷ []) Snapshot WithItsLine; is_its = refl; begin = 2; begun = ((line.Session (codes "a") 1 (reply.Begin 1) ∷ line.Session (codes "a") 1 (reply.Changed 1) ∷ line.Session (codes "a") 1 (reply.Committed 2) ∷ line.Down 1 3 false ∷ []), (line.Session (codes "a") 2 (reply.Changed 1) ∷ []), refl); has_ops = λ is. cc }; by = inr (omega arith) }) }, ((refl, refl, refl, inr (inl (record { kept = refl; stays = refl; at_commit = refl; node = 1; down = 2; fault = false; fell = (line.Session (codes "a") 2 (reply.Begin 2) ∷ line.Session (codes "a") 2 (reply.Changed 1) ∷ [], [], refl); says = inl refl }))), tt)))) (refl, 2, Snapshot, refl, inr (record { at_commit = refl; fell = (_ ∷ _ ∷ [], _, _, _, _, refl, refl); cut = refl; comes_up = λ front back count node is none. absurd (no_fault _ front back count node refl is) })) (record { transaction = transaction 2 (codes "insert into t values(2, 20)" ∷ []) Snapshot WithItsLine; is_its = refl; begin = 2; begun = ((line.Session (codes "a") 1 (reply.Begin 1) ∷ line.Session (codes "a") 1 (reply.Changed 1) ∷ line.Session (codes "a") 1 (reply.Committed 2) ∷ line.Down 1 3 false ∷ []), (line.Session (codes "a") 2 (reply.Changed 1) ∷ line.Down 2 1 false ∷ line.Session (codes "a") 2 (reply.Lost 1 2) ∷ []), refl); ran = _; is_ran = refl; untouched = λ j after before. absurd (omega (arith, after, before)); unbroken = refl }) (λ none. absurd (let no_such : 1 ≡ 0 = none in omega (arith, no_such))) (omega arith) (omega arith),
          (
            line.Up 1 ∷ [],
            line.Session (codes "a") 3 (reply.Begin 3) ∷ line.Session (codes "a") 3 (row 1 10) ∷ line.Session (codes "a") 3 (row 2 20) ∷ line.Session (codes "a") 3 (reply.Done 2) ∷ line.Session (codes "a") 3 (reply.Committed 3) ∷ [],
            [],
            [],
            refl,
            refl,
            (inr (inl (record { was = refl; faults = []; says = refl; each = tt })), λ base empty. some_entry _ _ empty),
            (
              line.Session (codes "a") 3 (reply.Begin 3) ∷ line.Session (codes "a") 3 (row 1 10) ∷ line.Session (codes "a") 3 (row 2 20) ∷ line.Session (codes "a") 3 (reply.Done 2) ∷ line.Session (codes "a") 3 (reply.Committed 3) ∷ [],
              [],
              [],
              [],
              refl,
              refl,
              plain refl (answers refl (inr refl) refl refl refl refl refl, (answers refl (inr refl) refl refl tt refl refl, (answers refl (inr refl) refl refl tt refl refl, (answers refl (inr refl) refl refl tt refl refl, (answers refl (inr refl) refl refl (omega arith) refl refl, tt))))) tt refl,
              (refl, refl),
            ),
          ),
        ),
      ),
    ),
  );
}

pub falls_and_stops_is_in_order : InNodesOrder (from_nothing falls_and_stops) falls_and_stops_report
falls_and_stops_is_in_order = record {
  first = [];
  go_down = tt;
  opening = Setup 1 ∷ [];
  opened = (refl, refl, refl, refl, inl refl);
  rest = line.Session (codes "a") 1 (reply.Begin 1) ∷ line.Session (codes "a") 1 (reply.Changed 1) ∷ line.Down 1 3 true ∷ line.Down 2 1 false ∷ line.Session (codes "a") 1 (reply.Lost 3 1) ∷ [];
  lines_are = refl;
  later = of_a 2 1 1 ∷ [];
  entries_are = refl;
  order = (
    [],
    line.Session (codes "a") 1 (reply.Begin 1) ∷ line.Session (codes "a") 1 (reply.Changed 1) ∷ line.Down 1 3 true ∷ line.Down 2 1 false ∷ line.Session (codes "a") 1 (reply.Lost 3 1) ∷ [],
    [],
    of_a 2 1 1 ∷ [],
    refl,
    refl,
    (refl, refl),
    (
      line.Session (codes "a") 1 (reply.Begin 1) ∷ line.Session (codes "a") 1 (reply.Changed 1) ∷ line.Down 1 3 true ∷ line.Down 2 1 false ∷ line.Session (codes "a") 1 (reply.Lost 3 1) ∷ [],
      [],
      of_a 2 1 1 ∷ [],
      [],
      refl,
      refl,
      armed refl (answers refl (inr refl) refl refl refl refl refl, (answers refl (inr refl) refl refl tt refl refl, (record { counted = refl; of_script = (omega arith, omega arith); was_up = refl; cause = inl (record { at_commit = refl; uncut = refl; kept = inl refl; majority = refl; changes = record { transaction = transaction 1 (codes "insert into t values(1, 10)" ∷ []) Snapshot WithItsLine; is_its = refl; begin = 1; begun = ([], (line.Session (codes "a") 1 (reply.Changed 1) ∷ []), refl); has_ops = λ is. cc }; by = inl refl }) }, (record { counted = refl; of_script = (omega arith, omega arith); was_up = refl; cause = inl (record { at_commit = refl; uncut = refl; kept = inr refl; majority = refl; changes = record { transaction = transaction 1 (codes "insert into t values(1, 10)" ∷ []) Snapshot WithItsLine; is_its = refl; begin = 1; begun = ([], (line.Session (codes "a") 1 (reply.Changed 1) ∷ line.Down 1 3 true ∷ []), refl); has_ops = λ is. cc }; by = inr (omega arith) }) }, ((refl, refl, refl, inl (record { down = 1; is_lost = refl; says = inl refl })), tt))))) (refl, 1, Snapshot, refl, inr (record { at_commit = refl; fell = (_ ∷ _ ∷ [], _, _, _, _, refl, refl); cut = refl; comes_up = λ front back count node is none. never_alone 5 2 ([]) (line.Session (codes "a") 1 (reply.Begin 1) ∷ line.Session (codes "a") 1 (reply.Changed 1) ∷ line.Down 1 3 true ∷ line.Down 2 1 false ∷ line.Session (codes "a") 1 (reply.Lost 3 1) ∷ []) front back count node (omega arith) (omega arith) refl is none })) (record { transaction = transaction 1 (codes "insert into t values(1, 10)" ∷ []) Snapshot WithItsLine; is_its = refl; begin = 1; begun = ([], (line.Session (codes "a") 1 (reply.Changed 1) ∷ line.Down 1 3 true ∷ line.Down 2 1 false ∷ line.Session (codes "a") 1 (reply.Lost 3 1) ∷ []), refl); ran = _; is_ran = refl; untouched = λ j after before. absurd (omega (arith, after, before)); unbroken = refl }) (λ none. some_entry _ _) (omega arith) (omega arith),
      (refl, refl),
    ),
  );
}

pub sent_again_is_in_order : InNodesOrder (from_nothing sent_again) sent_again_report
sent_again_is_in_order = record {
  first = [];
  go_down = tt;
  opening = Setup 1 ∷ [];
  opened = (refl, refl, refl, refl, inl refl);
  rest = line.Session (codes "b") 1 (reply.Begin 1) ∷ line.Session (codes "b") 1 (reply.Changed 1) ∷ line.Down 1 1 false ∷ line.Session (codes "b") 1 (reply.Committed 2) ∷ line.Up 1 ∷ line.Session (codes "b") 2 (reply.Begin 2) ∷ line.Session (codes "b") 2 (row 1 10) ∷ line.Session (codes "b") 2 (reply.Done 1) ∷ line.Session (codes "b") 2 (reply.Committed 2) ∷ [];
  lines_are = refl;
  later = of_b 2 1 1 ∷ [];
  entries_are = refl;
  order = (
    [],
    line.Session (codes "b") 1 (reply.Begin 1) ∷ line.Session (codes "b") 1 (reply.Changed 1) ∷ line.Down 1 1 false ∷ line.Session (codes "b") 1 (reply.Committed 2) ∷ line.Up 1 ∷ line.Session (codes "b") 2 (reply.Begin 2) ∷ line.Session (codes "b") 2 (row 1 10) ∷ line.Session (codes "b") 2 (reply.Done 1) ∷ line.Session (codes "b") 2 (reply.Committed 2) ∷ [],
    [],
    of_b 2 1 1 ∷ [],
    refl,
    refl,
    (refl, refl),
    (
      line.Session (codes "b") 1 (reply.Begin 1) ∷ line.Session (codes "b") 1 (reply.Changed 1) ∷ line.Down 1 1 false ∷ line.Session (codes "b") 1 (reply.Committed 2) ∷ [],
      line.Up 1 ∷ line.Session (codes "b") 2 (reply.Begin 2) ∷ line.Session (codes "b") 2 (row 1 10) ∷ line.Session (codes "b") 2 (reply.Done 1) ∷ line.Session (codes "b") 2 (reply.Committed 2) ∷ [],
      of_b 2 1 1 ∷ [],
      [],
      refl,
      refl,
      armed refl (answers refl (inr refl) refl refl refl refl refl, (answers refl (inr refl) refl refl tt refl refl, (record { counted = refl; of_script = (omega arith, omega arith); was_up = refl; cause = inl (record { at_commit = refl; uncut = refl; kept = inl refl; majority = refl; changes = record { transaction = transaction 1 (codes "insert into t values(1, 10)" ∷ []) Snapshot WithItsLine; is_its = refl; begin = 1; begun = ([], (line.Session (codes "b") 1 (reply.Changed 1) ∷ []), refl); has_ops = λ is. cc }; by = inr (omega arith) }) }, ((refl, refl, refl, inr (inr (inr (record { kept = record { kept = refl; unstopped = inl refl }; majority = refl; unsent = λ e. no_true false refl e; sent = λ e. refl; timely = (omega arith) })))), tt)))) (refl, 1, Snapshot, refl, inl (reply.Begin 1 ∷ reply.Changed 1 ∷ [], [], refl)) (record { transaction = transaction 1 (codes "insert into t values(1, 10)" ∷ []) Snapshot WithItsLine; is_its = refl; begin = 1; begun = ([], (line.Session (codes "b") 1 (reply.Changed 1) ∷ line.Down 1 1 false ∷ line.Session (codes "b") 1 (reply.Committed 2) ∷ []), refl); ran = _; is_ran = refl; untouched = λ j after before. absurd (omega (arith, after, before)); unbroken = refl }) (λ none. absurd (let no_such : 1 ≡ 0 = none in omega (arith, no_such))) (omega arith) (omega arith),
      (
        line.Up 1 ∷ [],
        line.Session (codes "b") 2 (reply.Begin 2) ∷ line.Session (codes "b") 2 (row 1 10) ∷ line.Session (codes "b") 2 (reply.Done 1) ∷ line.Session (codes "b") 2 (reply.Committed 2) ∷ [],
        [],
        [],
        refl,
        refl,
        (inr (inl (record { was = refl; faults = []; says = refl; each = tt })), λ base empty. some_entry _ _ empty),
        (
          line.Session (codes "b") 2 (reply.Begin 2) ∷ line.Session (codes "b") 2 (row 1 10) ∷ line.Session (codes "b") 2 (reply.Done 1) ∷ line.Session (codes "b") 2 (reply.Committed 2) ∷ [],
          [],
          [],
          [],
          refl,
          refl,
          plain refl (answers refl (inr refl) refl refl refl refl refl, (answers refl (inr refl) refl refl tt refl refl, (answers refl (inr refl) refl refl tt refl refl, (answers refl (inr refl) refl refl (omega arith) refl refl, tt)))) tt refl,
          (refl, refl),
        ),
      ),
    ),
  );
}
