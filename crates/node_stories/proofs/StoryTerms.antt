-- Stories of nodes that fall, are stopped and come back are in the order of play, computed.
use Rattle.std.proofs.Common.{[], ◌∷◌, refl, arith, codes, inl, inr, true, false}
use Rattle.cdb_values.specs.declared.replies.Reply.TheVariants as reply
use Rattle.cdb_values.specs.declared.rows.Level.TheVariants.{Snapshot}
use Rattle.report_laws.specs.Work.{transaction, WithItsLine}
use Rattle.report_text.specs.declared.reports.EntryLine.TheVariants.{Setup}
use Rattle.report_text.specs.declared.reports.Line.TheVariants as line
use Rattle.report_worked.specs.Small.{from_nothing}
use Rattle.report_worked.specs.Worked.{row, of_a, of_b}
use Rattle.node_reports.specs.Order.{InNodesOrder}
use Rattle.node_stories.specs.Stories.{replica_falls, replica_falls_report, master_falls, master_falls_report, came_back, came_back_report, kept_by_start, kept_by_start_report, few_at_commit, few_at_commit_report, few_but_read, few_but_read_report, read_while_few, read_while_few_report, fed_twice, fed_twice_report, falls_while_down, falls_while_down_report, taken_and_fallen, taken_and_fallen_report, moves_on_one, moves_on_one_report, moves_at_rollback, moves_at_rollback_report, wanting, wanting_report, tail_stands, tail_stands_report}
use Rattle.node_stories.proofs.StoryLemmas.{answers, armed, comes_up, never_alone, no_true, plain, some_entry}

pub replica_falls_is_in_order : InNodesOrder (from_nothing replica_falls) replica_falls_report
replica_falls_is_in_order = record {
  first = [];
  go_down = tt;
  opening = Setup 1 ∷ [];
  opened = (refl, refl, refl, refl, inl refl);
  rest = line.Session (codes "a") 1 (reply.Begin 1) ∷ line.Session (codes "a") 1 (reply.Changed 1) ∷ line.Down 1 2 true ∷ line.Session (codes "a") 1 (reply.Lost 2 1) ∷ line.Session (codes "a") 2 (reply.Begin 2) ∷ line.Session (codes "a") 2 (row 1 10) ∷ line.Session (codes "a") 2 (reply.Done 1) ∷ line.Session (codes "a") 2 (reply.Committed 2) ∷ [];
  lines_are = refl;
  later = of_a 2 1 1 ∷ [];
  entries_are = refl;
  order = (
    line.Session (codes "a") 1 (reply.Begin 1) ∷ line.Session (codes "a") 1 (reply.Changed 1) ∷ line.Down 1 2 true ∷ line.Session (codes "a") 1 (reply.Lost 2 1) ∷ [],
    line.Session (codes "a") 2 (reply.Begin 2) ∷ line.Session (codes "a") 2 (row 1 10) ∷ line.Session (codes "a") 2 (reply.Done 1) ∷ line.Session (codes "a") 2 (reply.Committed 2) ∷ [],
    of_a 2 1 1 ∷ [],
    [],
    refl,
    refl,
    plain refl (answers refl (inr refl) refl refl refl refl refl, (answers refl (inr refl) refl refl tt refl refl, (record { counted = refl; of_script = (omega arith, omega arith); was_up = refl; cause = inl (record { at_commit = refl; uncut = refl; kept = inl refl; majority = refl; changes = record { transaction = transaction 1 (codes "insert into t values(1, 10)" ∷ []) Snapshot WithItsLine; is_its = refl; begin = 1; begun = ([], (line.Session (codes "a") 1 (reply.Changed 1) ∷ []), refl); has_ops = λ is. cc }; by = inl refl }) }, ((refl, refl, refl, inl (record { down = 1; is_lost = refl; says = inl refl })), tt)))) (refl, 1, Snapshot, refl, inr (record { at_commit = refl; fell = (_ ∷ _ ∷ [], _, _, _, _, refl, refl); cut = refl; comes_up = λ front back count node is none. never_alone 3 1 ([]) (line.Session (codes "a") 1 (reply.Begin 1) ∷ line.Session (codes "a") 1 (reply.Changed 1) ∷ line.Down 1 2 true ∷ line.Session (codes "a") 1 (reply.Lost 2 1) ∷ []) front back count node (omega arith) (omega arith) refl is none })) refl,
    (
      line.Session (codes "a") 2 (reply.Begin 2) ∷ line.Session (codes "a") 2 (row 1 10) ∷ line.Session (codes "a") 2 (reply.Done 1) ∷ line.Session (codes "a") 2 (reply.Committed 2) ∷ [],
      [],
      [],
      [],
      refl,
      refl,
      plain refl (answers refl (inr refl) refl refl refl refl refl, (answers refl (inr refl) refl refl tt refl refl, (answers refl (inr refl) refl refl tt refl refl, (answers refl (inr refl) refl refl (omega arith) refl refl, tt)))) tt refl,
      (refl, refl),
    ),
  );
}

pub master_falls_is_in_order : InNodesOrder (from_nothing master_falls) master_falls_report
master_falls_is_in_order = record {
  first = [];
  go_down = tt;
  opening = Setup 1 ∷ [];
  opened = (refl, refl, refl, refl, inl refl);
  rest = line.Session (codes "a") 1 (reply.Begin 1) ∷ line.Session (codes "a") 1 (reply.Changed 1) ∷ line.Down 1 1 true ∷ line.Session (codes "a") 1 (reply.Lost 1 1) ∷ line.Session (codes "a") 2 (reply.Begin 1) ∷ line.Session (codes "a") 2 (reply.Done 0) ∷ line.Session (codes "a") 2 (reply.Committed 1) ∷ line.Up 1 ∷ [];
  lines_are = refl;
  later = [];
  entries_are = refl;
  order = (
    line.Session (codes "a") 1 (reply.Begin 1) ∷ line.Session (codes "a") 1 (reply.Changed 1) ∷ line.Down 1 1 true ∷ line.Session (codes "a") 1 (reply.Lost 1 1) ∷ [],
    line.Session (codes "a") 2 (reply.Begin 1) ∷ line.Session (codes "a") 2 (reply.Done 0) ∷ line.Session (codes "a") 2 (reply.Committed 1) ∷ line.Up 1 ∷ [],
    [],
    [],
    refl,
    refl,
    plain refl (answers refl (inr refl) refl refl refl refl refl, (answers refl (inr refl) refl refl tt refl refl, (record { counted = refl; of_script = (omega arith, omega arith); was_up = refl; cause = inl (record { at_commit = refl; uncut = refl; kept = inl refl; majority = refl; changes = record { transaction = transaction 1 (codes "insert into t values(1, 10)" ∷ []) Snapshot WithItsLine; is_its = refl; begin = 1; begun = ([], (line.Session (codes "a") 1 (reply.Changed 1) ∷ []), refl); has_ops = λ is. cc }; by = inl refl }) }, ((refl, refl, refl, inr (inl (record { kept = refl; stays = refl; at_commit = refl; node = 1; down = 1; fault = true; fell = (line.Session (codes "a") 1 (reply.Begin 1) ∷ line.Session (codes "a") 1 (reply.Changed 1) ∷ [], [], refl); says = inl refl }))), tt)))) tt refl,
    (
      line.Session (codes "a") 2 (reply.Begin 1) ∷ line.Session (codes "a") 2 (reply.Done 0) ∷ line.Session (codes "a") 2 (reply.Committed 1) ∷ [],
      line.Up 1 ∷ [],
      [],
      [],
      refl,
      refl,
      plain refl (answers refl (inr refl) refl refl refl refl refl, (answers refl (inr refl) refl refl tt refl refl, (answers refl (inr refl) refl refl (omega arith) refl refl, tt))) tt refl,
      (
        line.Up 1 ∷ [],
        [],
        [],
        [],
        refl,
        refl,
        (inr (inl (record { was = refl; faults = []; says = refl; each = tt })), λ base empty. some_entry _ _ empty),
        (refl, refl),
      ),
    ),
  );
}

pub came_back_is_in_order : InNodesOrder (from_nothing came_back) came_back_report
came_back_is_in_order = record {
  first = [];
  go_down = tt;
  opening = Setup 1 ∷ [];
  opened = (refl, refl, refl, refl, inl refl);
  rest = line.Session (codes "a") 1 (reply.Begin 1) ∷ line.Down 1 2 false ∷ line.Up 2 ∷ line.Session (codes "a") 1 (reply.Lost 2 1) ∷ [];
  lines_are = refl;
  later = [];
  entries_are = refl;
  order = (
    line.Session (codes "a") 1 (reply.Begin 1) ∷ [],
    line.Down 1 2 false ∷ line.Up 2 ∷ line.Session (codes "a") 1 (reply.Lost 2 1) ∷ [],
    [],
    [],
    refl,
    refl,
    plain refl (answers refl (inr refl) refl refl refl refl refl, tt) tt refl,
    (
      line.Down 1 2 false ∷ [],
      line.Up 2 ∷ line.Session (codes "a") 1 (reply.Lost 2 1) ∷ [],
      [],
      [],
      refl,
      refl,
      (inr (record { was = refl; faults = []; says = refl; each = tt }), λ base empty. some_entry _ _ empty),
      (
        line.Up 2 ∷ [],
        line.Session (codes "a") 1 (reply.Lost 2 1) ∷ [],
        [],
        [],
        refl,
        refl,
        (inr (inl (record { was = refl; faults = []; says = refl; each = tt })), λ base empty. some_entry _ _ empty),
        (
          line.Session (codes "a") 1 (reply.Lost 2 1) ∷ [],
          [],
          [],
          [],
          refl,
          refl,
          plain refl ((refl, refl, refl, inl (record { down = 1; is_lost = refl; says = inl refl })), tt) tt refl,
          (refl, refl),
        ),
      ),
    ),
  );
}

pub kept_by_start_is_in_order : InNodesOrder (from_nothing kept_by_start) kept_by_start_report
kept_by_start_is_in_order = record {
  first = [];
  go_down = tt;
  opening = Setup 1 ∷ [];
  opened = (refl, refl, refl, refl, inl refl);
  rest = line.Session (codes "a") 1 (reply.Begin 1) ∷ line.Session (codes "a") 1 (reply.Changed 1) ∷ line.Down 1 1 true ∷ line.Session (codes "a") 1 (reply.Lost 1 1) ∷ line.Up 1 ∷ line.Session (codes "a") 2 (reply.Begin 2) ∷ line.Session (codes "a") 2 (row 1 10) ∷ line.Session (codes "a") 2 (reply.Done 1) ∷ line.Session (codes "a") 2 (reply.Committed 2) ∷ [];
  lines_are = refl;
  later = of_a 2 1 1 ∷ [];
  entries_are = refl;
  order = (
    line.Session (codes "a") 1 (reply.Begin 1) ∷ line.Session (codes "a") 1 (reply.Changed 1) ∷ line.Down 1 1 true ∷ line.Session (codes "a") 1 (reply.Lost 1 1) ∷ [],
    line.Up 1 ∷ line.Session (codes "a") 2 (reply.Begin 2) ∷ line.Session (codes "a") 2 (row 1 10) ∷ line.Session (codes "a") 2 (reply.Done 1) ∷ line.Session (codes "a") 2 (reply.Committed 2) ∷ [],
    of_a 2 1 1 ∷ [],
    [],
    refl,
    refl,
    plain refl (answers refl (inr refl) refl refl refl refl refl, (answers refl (inr refl) refl refl tt refl refl, (record { counted = refl; of_script = (omega arith, omega arith); was_up = refl; cause = inl (record { at_commit = refl; uncut = refl; kept = inl refl; majority = refl; changes = record { transaction = transaction 1 (codes "insert into t values(1, 10)" ∷ []) Snapshot WithItsLine; is_its = refl; begin = 1; begun = ([], (line.Session (codes "a") 1 (reply.Changed 1) ∷ []), refl); has_ops = λ is. cc }; by = inl refl }) }, ((refl, refl, refl, inl (record { down = 1; is_lost = refl; says = inl refl })), tt)))) (refl, 1, Snapshot, refl, inr (record { at_commit = refl; fell = (_ ∷ _ ∷ [], _, _, _, _, refl, refl); cut = refl; comes_up = λ front back count node is none. comes_up 1 _ front back _ count node (tt, (tt, (refl, (tt, tt)))) is ([], _, refl) })) refl,
    (
      line.Up 1 ∷ [],
      line.Session (codes "a") 2 (reply.Begin 2) ∷ line.Session (codes "a") 2 (row 1 10) ∷ line.Session (codes "a") 2 (reply.Done 1) ∷ line.Session (codes "a") 2 (reply.Committed 2) ∷ [],
      [],
      [],
      refl,
      refl,
      (inr (inl (record { was = refl; faults = []; says = refl; each = tt })), λ base empty. some_entry _ _ empty),
      (
        line.Session (codes "a") 2 (reply.Begin 2) ∷ line.Session (codes "a") 2 (row 1 10) ∷ line.Session (codes "a") 2 (reply.Done 1) ∷ line.Session (codes "a") 2 (reply.Committed 2) ∷ [],
        [],
        [],
        [],
        refl,
        refl,
        plain refl (answers refl (inr refl) refl refl refl refl refl, (answers refl (inr refl) refl refl tt refl refl, (answers refl (inr refl) refl refl tt refl refl, (answers refl (inr refl) refl refl (omega arith) refl refl, tt)))) tt refl,
        (refl, refl),
      ),
    ),
  );
}

pub few_at_commit_is_in_order : InNodesOrder (from_nothing few_at_commit) few_at_commit_report
few_at_commit_is_in_order = record {
  first = [];
  go_down = tt;
  opening = Setup 1 ∷ [];
  opened = (refl, refl, refl, refl, inl refl);
  rest = line.Session (codes "a") 1 (reply.Begin 1) ∷ line.Session (codes "a") 1 (reply.Changed 1) ∷ line.Down 1 2 true ∷ line.Down 2 3 true ∷ line.Session (codes "a") 1 (reply.NoMajority 1 3) ∷ line.Up 2 ∷ line.Session (codes "a") 2 (reply.Begin 2) ∷ line.Session (codes "a") 2 (row 1 10) ∷ line.Session (codes "a") 2 (reply.Done 1) ∷ line.Session (codes "a") 2 (reply.Committed 2) ∷ [];
  lines_are = refl;
  later = of_a 2 1 1 ∷ [];
  entries_are = refl;
  order = (
    line.Session (codes "a") 1 (reply.Begin 1) ∷ line.Session (codes "a") 1 (reply.Changed 1) ∷ line.Down 1 2 true ∷ line.Down 2 3 true ∷ line.Session (codes "a") 1 (reply.NoMajority 1 3) ∷ [],
    line.Up 2 ∷ line.Session (codes "a") 2 (reply.Begin 2) ∷ line.Session (codes "a") 2 (row 1 10) ∷ line.Session (codes "a") 2 (reply.Done 1) ∷ line.Session (codes "a") 2 (reply.Committed 2) ∷ [],
    of_a 2 1 1 ∷ [],
    [],
    refl,
    refl,
    plain refl (answers refl (inr refl) refl refl refl refl refl, (answers refl (inr refl) refl refl tt refl refl, (record { counted = refl; of_script = (omega arith, omega arith); was_up = refl; cause = inl (record { at_commit = refl; uncut = refl; kept = inl refl; majority = refl; changes = record { transaction = transaction 1 (codes "insert into t values(1, 10)" ∷ []) Snapshot WithItsLine; is_its = refl; begin = 1; begun = ([], (line.Session (codes "a") 1 (reply.Changed 1) ∷ []), refl); has_ops = λ is. cc }; by = inl refl }) }, (record { counted = refl; of_script = (omega arith, omega arith); was_up = refl; cause = inr (inr (refl, refl)) }, ((refl, refl, refl, inr (inr (inl (record { kept = record { kept = refl; unstopped = inr refl }; lacks = inr (refl, record { transaction = transaction 1 (codes "insert into t values(1, 10)" ∷ []) Snapshot WithItsLine; is_its = refl; begin = 1; begun = ([], (line.Session (codes "a") 1 (reply.Changed 1) ∷ line.Down 1 2 true ∷ line.Down 2 3 true ∷ []), refl); has_ops = λ is. cc }); says = inl refl })))), tt))))) (refl, 1, Snapshot, refl, inr (record { at_commit = refl; fell = (_ ∷ _ ∷ [], _, _, _, _, refl, refl); cut = refl; comes_up = λ front back count node is none. never_alone 3 1 ([]) (line.Session (codes "a") 1 (reply.Begin 1) ∷ line.Session (codes "a") 1 (reply.Changed 1) ∷ line.Down 1 2 true ∷ line.Down 2 3 true ∷ line.Session (codes "a") 1 (reply.NoMajority 1 3) ∷ []) front back count node (omega arith) (omega arith) refl is none })) refl,
    (
      line.Up 2 ∷ [],
      line.Session (codes "a") 2 (reply.Begin 2) ∷ line.Session (codes "a") 2 (row 1 10) ∷ line.Session (codes "a") 2 (reply.Done 1) ∷ line.Session (codes "a") 2 (reply.Committed 2) ∷ [],
      [],
      [],
      refl,
      refl,
      (inr (inl (record { was = refl; faults = []; says = refl; each = tt })), λ base empty. some_entry _ _ empty),
      (
        line.Session (codes "a") 2 (reply.Begin 2) ∷ line.Session (codes "a") 2 (row 1 10) ∷ line.Session (codes "a") 2 (reply.Done 1) ∷ line.Session (codes "a") 2 (reply.Committed 2) ∷ [],
        [],
        [],
        [],
        refl,
        refl,
        plain refl (answers refl (inr refl) refl refl refl refl refl, (answers refl (inr refl) refl refl tt refl refl, (answers refl (inr refl) refl refl tt refl refl, (answers refl (inr refl) refl refl (omega arith) refl refl, tt)))) tt refl,
        (refl, refl),
      ),
    ),
  );
}

pub few_but_read_is_in_order : InNodesOrder (from_nothing few_but_read) few_but_read_report
few_but_read_is_in_order = record {
  first = [];
  go_down = tt;
  opening = Setup 1 ∷ [];
  opened = (refl, refl, refl, refl, inl refl);
  rest = line.Session (codes "a") 1 (reply.Begin 1) ∷ line.Down 1 2 false ∷ line.Down 2 3 false ∷ line.Session (codes "a") 1 (reply.Committed 1) ∷ [];
  lines_are = refl;
  later = [];
  entries_are = refl;
  order = (
    line.Session (codes "a") 1 (reply.Begin 1) ∷ [],
    line.Down 1 2 false ∷ line.Down 2 3 false ∷ line.Session (codes "a") 1 (reply.Committed 1) ∷ [],
    [],
    [],
    refl,
    refl,
    plain refl (answers refl (inr refl) refl refl refl refl refl, tt) tt refl,
    (
      line.Down 1 2 false ∷ [],
      line.Down 2 3 false ∷ line.Session (codes "a") 1 (reply.Committed 1) ∷ [],
      [],
      [],
      refl,
      refl,
      (inr (record { was = refl; faults = []; says = refl; each = tt }), λ base empty. some_entry _ _ empty),
      (
        line.Down 2 3 false ∷ [],
        line.Session (codes "a") 1 (reply.Committed 1) ∷ [],
        [],
        [],
        refl,
        refl,
        (inr (record { was = refl; faults = []; says = refl; each = tt }), λ base empty. some_entry _ _ empty),
        (
          line.Session (codes "a") 1 (reply.Committed 1) ∷ [],
          [],
          [],
          [],
          refl,
          refl,
          plain refl ((refl, refl, refl, inr (inr (inr (record { kept = record { kept = refl; unstopped = inr refl }; majority = refl; unsent = λ e. (refl, tt); sent = λ e. no_true false refl e; timely = (omega arith) })))), tt) tt refl,
          (refl, refl),
        ),
      ),
    ),
  );
}

pub read_while_few_is_in_order : InNodesOrder (from_nothing read_while_few) read_while_few_report
read_while_few_is_in_order = record {
  first = [];
  go_down = tt;
  opening = Setup 1 ∷ [];
  opened = (refl, refl, refl, refl, inl refl);
  rest = line.Session (codes "b") 1 (reply.Begin 1) ∷ line.Down 1 1 false ∷ line.Down 2 2 false ∷ line.Session (codes "b") 1 (reply.Committed 1) ∷ [];
  lines_are = refl;
  later = [];
  entries_are = refl;
  order = (
    line.Session (codes "b") 1 (reply.Begin 1) ∷ [],
    line.Down 1 1 false ∷ line.Down 2 2 false ∷ line.Session (codes "b") 1 (reply.Committed 1) ∷ [],
    [],
    [],
    refl,
    refl,
    plain refl (answers refl (inr refl) refl refl refl refl refl, tt) tt refl,
    (
      line.Down 1 1 false ∷ [],
      line.Down 2 2 false ∷ line.Session (codes "b") 1 (reply.Committed 1) ∷ [],
      [],
      [],
      refl,
      refl,
      (inr (record { was = refl; faults = []; says = refl; each = tt }), λ base empty. some_entry _ _ empty),
      (
        line.Down 2 2 false ∷ [],
        line.Session (codes "b") 1 (reply.Committed 1) ∷ [],
        [],
        [],
        refl,
        refl,
        (inr (record { was = refl; faults = []; says = refl; each = tt }), λ base empty. some_entry _ _ empty),
        (
          line.Session (codes "b") 1 (reply.Committed 1) ∷ [],
          [],
          [],
          [],
          refl,
          refl,
          plain refl ((refl, refl, refl, inr (inr (inr (record { kept = record { kept = refl; unstopped = inl refl }; majority = refl; unsent = λ e. (refl, tt); sent = λ e. no_true false refl e; timely = (omega arith) })))), tt) tt refl,
          (refl, refl),
        ),
      ),
    ),
  );
}

pub fed_twice_is_in_order : InNodesOrder (from_nothing fed_twice) fed_twice_report
fed_twice_is_in_order = record {
  first = [];
  go_down = tt;
  opening = Setup 1 ∷ [];
  opened = (refl, refl, refl, refl, inl refl);
  rest = line.Session (codes "a") 1 (reply.Begin 1) ∷ line.Session (codes "a") 1 (reply.Changed 1) ∷ line.Session (codes "a") 1 (reply.Committed 2) ∷ line.Barrier ∷ line.Fed 2 ∷ line.Down 1 2 false ∷ line.Down 2 3 false ∷ line.Fed 2 ∷ [];
  lines_are = refl;
  later = of_a 2 1 1 ∷ [];
  entries_are = refl;
  order = (
    line.Session (codes "a") 1 (reply.Begin 1) ∷ line.Session (codes "a") 1 (reply.Changed 1) ∷ line.Session (codes "a") 1 (reply.Committed 2) ∷ [],
    line.Barrier ∷ line.Fed 2 ∷ line.Down 1 2 false ∷ line.Down 2 3 false ∷ line.Fed 2 ∷ [],
    of_a 2 1 1 ∷ [],
    [],
    refl,
    refl,
    plain refl (answers refl (inr refl) refl refl refl refl refl, (answers refl (inr refl) refl refl tt refl refl, (answers refl (inr refl) refl refl (omega arith) refl refl, tt))) (refl, 1, Snapshot, refl, inl (reply.Begin 1 ∷ reply.Changed 1 ∷ [], [], refl)) refl,
    (
      line.Barrier ∷ [],
      line.Fed 2 ∷ line.Down 1 2 false ∷ line.Down 2 3 false ∷ line.Fed 2 ∷ [],
      [],
      [],
      refl,
      refl,
      (refl, refl),
      (
        line.Fed 2 ∷ [],
        line.Down 1 2 false ∷ line.Down 2 3 false ∷ line.Fed 2 ∷ [],
        [],
        [],
        refl,
        refl,
        (refl, refl),
        (
          line.Down 1 2 false ∷ [],
          line.Down 2 3 false ∷ line.Fed 2 ∷ [],
          [],
          [],
          refl,
          refl,
          (inr (record { was = refl; faults = []; says = refl; each = tt }), λ base empty. some_entry _ _ empty),
          (
            line.Down 2 3 false ∷ [],
            line.Fed 2 ∷ [],
            [],
            [],
            refl,
            refl,
            (inr (record { was = refl; faults = []; says = refl; each = tt }), λ base empty. some_entry _ _ empty),
            (
              line.Fed 2 ∷ [],
              [],
              [],
              [],
              refl,
              refl,
              (refl, refl),
              (refl, refl),
            ),
          ),
        ),
      ),
    ),
  );
}

pub falls_while_down_is_in_order : InNodesOrder (from_nothing falls_while_down) falls_while_down_report
falls_while_down_is_in_order = record {
  first = line.Down 1 2 true ∷ [];
  go_down = (record { counted = refl; of_script = (omega arith, omega arith); was_up = refl; by_fault = refl }, tt);
  opening = Setup 1 ∷ [];
  opened = (refl, refl, refl, refl, inl refl);
  rest = line.Down 2 2 true ∷ line.Session (codes "a") 1 (reply.Begin 1) ∷ line.Session (codes "a") 1 (reply.Done 0) ∷ line.Session (codes "a") 1 (reply.Committed 1) ∷ line.Up 2 ∷ [];
  lines_are = refl;
  later = [];
  entries_are = refl;
  order = (
    line.Down 2 2 true ∷ [],
    line.Session (codes "a") 1 (reply.Begin 1) ∷ line.Session (codes "a") 1 (reply.Done 0) ∷ line.Session (codes "a") 1 (reply.Committed 1) ∷ line.Up 2 ∷ [],
    [],
    [],
    refl,
    refl,
    (inr (inr (record { was = refl; says = refl })), λ base empty. some_entry _ _ empty),
    (
      line.Session (codes "a") 1 (reply.Begin 1) ∷ line.Session (codes "a") 1 (reply.Done 0) ∷ line.Session (codes "a") 1 (reply.Committed 1) ∷ [],
      line.Up 2 ∷ [],
      [],
      [],
      refl,
      refl,
      plain refl (answers refl (inr refl) refl refl refl refl refl, (answers refl (inr refl) refl refl tt refl refl, (answers refl (inr refl) refl refl (omega arith) refl refl, tt))) tt refl,
      (
        line.Up 2 ∷ [],
        [],
        [],
        [],
        refl,
        refl,
        (inr (inl (record { was = refl; faults = []; says = refl; each = tt })), λ base empty. some_entry _ _ empty),
        (refl, refl),
      ),
    ),
  );
}

pub taken_and_fallen_is_in_order : InNodesOrder (from_nothing taken_and_fallen) taken_and_fallen_report
taken_and_fallen_is_in_order = record {
  first = line.Down 1 1 true ∷ [];
  go_down = (record { counted = refl; of_script = (omega arith, omega arith); was_up = refl; by_fault = refl }, tt);
  opening = [];
  opened = λ base empty. refl;
  rest = line.Up 1 ∷ line.Down 2 1 true ∷ line.Session (codes "a") 1 (reply.NoMajority 0 1) ∷ [];
  lines_are = refl;
  later = Setup 1 ∷ [];
  entries_are = refl;
  order = (
    line.Up 1 ∷ line.Down 2 1 true ∷ [],
    line.Session (codes "a") 1 (reply.NoMajority 0 1) ∷ [],
    Setup 1 ∷ [],
    [],
    refl,
    refl,
    (inr (inl (record { was = refl; faults = line.Down 2 1 true ∷ []; says = refl; each = (record { counted = refl; of_script = (omega arith, omega arith); was_up = refl; by_fault = refl }, tt) })), (refl, refl, refl, refl, inr (refl, inr refl))),
    (
      line.Session (codes "a") 1 (reply.NoMajority 0 1) ∷ [],
      [],
      [],
      [],
      refl,
      refl,
      plain refl ((refl, refl, refl, inr (inr (inl (record { kept = record { kept = refl; unstopped = inr refl }; lacks = inl refl; says = inl refl })))), tt) tt refl,
      (refl, refl),
    ),
  );
}

pub moves_on_one_is_in_order : InNodesOrder (from_nothing moves_on_one) moves_on_one_report
moves_on_one_is_in_order = record {
  first = [];
  go_down = tt;
  opening = Setup 1 ∷ [];
  opened = (refl, refl, refl, refl, inl refl);
  rest = line.Session (codes "b") 1 (reply.Begin 1) ∷ line.Session (codes "b") 1 (reply.Changed 1) ∷ line.Down 1 1 false ∷ line.Up 1 ∷ line.Session (codes "b") 1 (reply.Committed 2) ∷ line.Session (codes "b") 2 (reply.Begin 2) ∷ line.Down 2 1 false ∷ line.Session (codes "b") 2 (reply.NoMajority 0 1) ∷ [];
  lines_are = refl;
  later = of_b 2 1 1 ∷ [];
  entries_are = refl;
  order = (
    line.Session (codes "b") 1 (reply.Begin 1) ∷ [],
    line.Session (codes "b") 1 (reply.Changed 1) ∷ line.Down 1 1 false ∷ line.Up 1 ∷ line.Session (codes "b") 1 (reply.Committed 2) ∷ line.Session (codes "b") 2 (reply.Begin 2) ∷ line.Down 2 1 false ∷ line.Session (codes "b") 2 (reply.NoMajority 0 1) ∷ [],
    [],
    of_b 2 1 1 ∷ [],
    refl,
    refl,
    plain refl (answers refl (inr refl) refl refl refl refl refl, tt) tt refl,
    (
      line.Session (codes "b") 1 (reply.Changed 1) ∷ [],
      line.Down 1 1 false ∷ line.Up 1 ∷ line.Session (codes "b") 1 (reply.Committed 2) ∷ line.Session (codes "b") 2 (reply.Begin 2) ∷ line.Down 2 1 false ∷ line.Session (codes "b") 2 (reply.NoMajority 0 1) ∷ [],
      [],
      of_b 2 1 1 ∷ [],
      refl,
      refl,
      plain refl (answers refl (inr refl) refl refl tt refl refl, tt) tt refl,
      (
        line.Down 1 1 false ∷ [],
        line.Up 1 ∷ line.Session (codes "b") 1 (reply.Committed 2) ∷ line.Session (codes "b") 2 (reply.Begin 2) ∷ line.Down 2 1 false ∷ line.Session (codes "b") 2 (reply.NoMajority 0 1) ∷ [],
        [],
        of_b 2 1 1 ∷ [],
        refl,
        refl,
        (inr (record { was = refl; faults = []; says = refl; each = tt }), λ base empty. some_entry _ _ empty),
        (
          line.Up 1 ∷ [],
          line.Session (codes "b") 1 (reply.Committed 2) ∷ line.Session (codes "b") 2 (reply.Begin 2) ∷ line.Down 2 1 false ∷ line.Session (codes "b") 2 (reply.NoMajority 0 1) ∷ [],
          [],
          of_b 2 1 1 ∷ [],
          refl,
          refl,
          (inr (inl (record { was = refl; faults = []; says = refl; each = tt })), λ base empty. some_entry _ _ empty),
          (
            line.Session (codes "b") 1 (reply.Committed 2) ∷ [],
            line.Session (codes "b") 2 (reply.Begin 2) ∷ line.Down 2 1 false ∷ line.Session (codes "b") 2 (reply.NoMajority 0 1) ∷ [],
            of_b 2 1 1 ∷ [],
            [],
            refl,
            refl,
            plain refl (answers refl (inr refl) refl refl (omega arith) refl refl, tt) (refl, 1, Snapshot, refl, inl ([], [], refl)) refl,
            (
              line.Session (codes "b") 2 (reply.Begin 2) ∷ [],
              line.Down 2 1 false ∷ line.Session (codes "b") 2 (reply.NoMajority 0 1) ∷ [],
              [],
              [],
              refl,
              refl,
              plain refl (answers refl (inr refl) refl refl refl refl refl, tt) tt refl,
              (
                line.Down 2 1 false ∷ [],
                line.Session (codes "b") 2 (reply.NoMajority 0 1) ∷ [],
                [],
                [],
                refl,
                refl,
                (inr (record { was = refl; faults = []; says = refl; each = tt }), λ base empty. some_entry _ _ empty),
                (
                  line.Session (codes "b") 2 (reply.NoMajority 0 1) ∷ [],
                  [],
                  [],
                  [],
                  refl,
                  refl,
                  plain refl ((refl, refl, refl, inr (inr (inl (record { kept = record { kept = refl; unstopped = inr refl }; lacks = inl refl; says = inl refl })))), tt) tt refl,
                  (
                    [],
                    [],
                    [],
                    [],
                    refl,
                    refl,
                    record { up_to = inr (record { none = refl; cut = refl; majority = refl }); each = tt; appended = tt; fires = inl refl; fired = λ told. inl refl; moment = λ armed. absurd (omega (arith, armed)) },
                    (refl, refl),
                  ),
                ),
              ),
            ),
          ),
        ),
      ),
    ),
  );
}

pub moves_at_rollback_is_in_order : InNodesOrder (from_nothing moves_at_rollback) moves_at_rollback_report
moves_at_rollback_is_in_order = record {
  first = [];
  go_down = tt;
  opening = Setup 1 ∷ [];
  opened = (refl, refl, refl, refl, inl refl);
  rest = line.Session (codes "b") 1 (reply.Begin 1) ∷ line.Session (codes "b") 1 (reply.Changed 1) ∷ line.Down 1 3 false ∷ line.Down 2 1 false ∷ line.Session (codes "b") 1 (reply.NoMajority 1 3) ∷ [];
  lines_are = refl;
  later = [];
  entries_are = refl;
  order = (
    line.Session (codes "b") 1 (reply.Begin 1) ∷ [],
    line.Session (codes "b") 1 (reply.Changed 1) ∷ line.Down 1 3 false ∷ line.Down 2 1 false ∷ line.Session (codes "b") 1 (reply.NoMajority 1 3) ∷ [],
    [],
    [],
    refl,
    refl,
    plain refl (answers refl (inr refl) refl refl refl refl refl, tt) tt refl,
    (
      line.Session (codes "b") 1 (reply.Changed 1) ∷ [],
      line.Down 1 3 false ∷ line.Down 2 1 false ∷ line.Session (codes "b") 1 (reply.NoMajority 1 3) ∷ [],
      [],
      [],
      refl,
      refl,
      plain refl (answers refl (inr refl) refl refl tt refl refl, tt) tt refl,
      (
        line.Down 1 3 false ∷ [],
        line.Down 2 1 false ∷ line.Session (codes "b") 1 (reply.NoMajority 1 3) ∷ [],
        [],
        [],
        refl,
        refl,
        (inr (record { was = refl; faults = []; says = refl; each = tt }), λ base empty. some_entry _ _ empty),
        (
          line.Down 2 1 false ∷ [],
          line.Session (codes "b") 1 (reply.NoMajority 1 3) ∷ [],
          [],
          [],
          refl,
          refl,
          (inr (record { was = refl; faults = []; says = refl; each = tt }), λ base empty. some_entry _ _ empty),
          (
            line.Session (codes "b") 1 (reply.NoMajority 1 3) ∷ [],
            [],
            [],
            [],
            refl,
            refl,
            plain refl ((refl, refl, refl, inr (inr (inl (record { kept = record { kept = refl; unstopped = inl refl }; lacks = inl refl; says = inl refl })))), tt) tt refl,
            (refl, refl),
          ),
        ),
      ),
    ),
  );
}

pub wanting_is_in_order : InNodesOrder (from_nothing wanting) wanting_report
wanting_is_in_order = record {
  first = line.Down 1 2 true ∷ line.Down 2 3 true ∷ [];
  go_down = (record { counted = refl; of_script = (omega arith, omega arith); was_up = refl; by_fault = refl }, (record { counted = refl; of_script = (omega arith, omega arith); was_up = refl; by_fault = refl }, tt));
  opening = Setup 1 ∷ [];
  opened = (refl, refl, refl, refl, inr (refl, inl (omega arith)));
  rest = line.Session (codes "a") 1 reply.NoMemory ∷ [];
  lines_are = refl;
  later = [];
  entries_are = refl;
  order = (
    line.Session (codes "a") 1 reply.NoMemory ∷ [],
    [],
    [],
    [],
    refl,
    refl,
    plain refl ((refl, refl, refl, inr (inr (inl (record { kept = record { kept = refl; unstopped = inr refl }; lacks = inl refl; says = inr refl })))), tt) tt refl,
    (refl, refl),
  );
}

pub tail_stands_is_in_order : InNodesOrder (from_nothing tail_stands) tail_stands_report
tail_stands_is_in_order = record {
  first = [];
  go_down = tt;
  opening = Setup 1 ∷ [];
  opened = (refl, refl, refl, refl, inl refl);
  rest = line.Down 1 3 false ∷ line.Session (codes "a") 1 (reply.Begin 1) ∷ line.Session (codes "a") 1 (reply.Changed 1) ∷ line.Down 2 1 true ∷ line.Session (codes "a") 1 (reply.Lost 1 2) ∷ line.Up 1 ∷ line.Session (codes "a") 2 (reply.Begin 2) ∷ line.Session (codes "a") 2 (row 1 10) ∷ line.Session (codes "a") 2 (reply.Done 1) ∷ line.Session (codes "a") 2 (reply.Committed 2) ∷ [];
  lines_are = refl;
  later = of_a 2 1 1 ∷ [];
  entries_are = refl;
  order = (
    line.Down 1 3 false ∷ [],
    line.Session (codes "a") 1 (reply.Begin 1) ∷ line.Session (codes "a") 1 (reply.Changed 1) ∷ line.Down 2 1 true ∷ line.Session (codes "a") 1 (reply.Lost 1 2) ∷ line.Up 1 ∷ line.Session (codes "a") 2 (reply.Begin 2) ∷ line.Session (codes "a") 2 (row 1 10) ∷ line.Session (codes "a") 2 (reply.Done 1) ∷ line.Session (codes "a") 2 (reply.Committed 2) ∷ [],
    [],
    of_a 2 1 1 ∷ [],
    refl,
    refl,
    (inr (record { was = refl; faults = []; says = refl; each = tt }), λ base empty. some_entry _ _ empty),
    (
      line.Session (codes "a") 1 (reply.Begin 1) ∷ line.Session (codes "a") 1 (reply.Changed 1) ∷ line.Down 2 1 true ∷ line.Session (codes "a") 1 (reply.Lost 1 2) ∷ [],
      line.Up 1 ∷ line.Session (codes "a") 2 (reply.Begin 2) ∷ line.Session (codes "a") 2 (row 1 10) ∷ line.Session (codes "a") 2 (reply.Done 1) ∷ line.Session (codes "a") 2 (reply.Committed 2) ∷ [],
      of_a 2 1 1 ∷ [],
      [],
      refl,
      refl,
      plain refl (answers refl (inr refl) refl refl refl refl refl, (answers refl (inr refl) refl refl tt refl refl, (record { counted = refl; of_script = (omega arith, omega arith); was_up = refl; cause = inl (record { at_commit = refl; uncut = refl; kept = inl refl; majority = refl; changes = record { transaction = transaction 1 (codes "insert into t values(1, 10)" ∷ []) Snapshot WithItsLine; is_its = refl; begin = 1; begun = ((line.Down 1 3 false ∷ []), (line.Session (codes "a") 1 (reply.Changed 1) ∷ []), refl); has_ops = λ is. cc }; by = inl refl }) }, ((refl, refl, refl, inr (inl (record { kept = refl; stays = refl; at_commit = refl; node = 1; down = 2; fault = true; fell = (line.Session (codes "a") 1 (reply.Begin 1) ∷ line.Session (codes "a") 1 (reply.Changed 1) ∷ [], [], refl); says = inl refl }))), tt)))) (refl, 1, Snapshot, refl, inr (record { at_commit = refl; fell = (_ ∷ _ ∷ [], _, _, _, _, refl, refl); cut = refl; comes_up = λ front back count node is none. never_alone 3 2 (line.Down 1 3 false ∷ []) (line.Session (codes "a") 1 (reply.Begin 1) ∷ line.Session (codes "a") 1 (reply.Changed 1) ∷ line.Down 2 1 true ∷ line.Session (codes "a") 1 (reply.Lost 1 2) ∷ []) front back count node (omega arith) (omega arith) refl is none })) refl,
      (
        line.Up 1 ∷ [],
        line.Session (codes "a") 2 (reply.Begin 2) ∷ line.Session (codes "a") 2 (row 1 10) ∷ line.Session (codes "a") 2 (reply.Done 1) ∷ line.Session (codes "a") 2 (reply.Committed 2) ∷ [],
        [],
        [],
        refl,
        refl,
        (inr (inl (record { was = refl; faults = []; says = refl; each = tt })), λ base empty. some_entry _ _ empty),
        (
          line.Session (codes "a") 2 (reply.Begin 2) ∷ line.Session (codes "a") 2 (row 1 10) ∷ line.Session (codes "a") 2 (reply.Done 1) ∷ line.Session (codes "a") 2 (reply.Committed 2) ∷ [],
          [],
          [],
          [],
          refl,
          refl,
          plain refl (answers refl (inr refl) refl refl refl refl refl, (answers refl (inr refl) refl refl tt refl refl, (answers refl (inr refl) refl refl tt refl refl, (answers refl (inr refl) refl refl (omega arith) refl refl, tt)))) tt refl,
          (refl, refl),
        ),
      ),
    ),
  );
}
