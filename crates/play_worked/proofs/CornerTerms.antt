-- Stories of openings, elections and faults, computed: each a report in the order of play, with the deeds of its lines beside it, and the falls.
use Rattle.std.proofs.Common.{◌≡◌, [], ◌∷◌, refl, arith, codes, inl, inr, true, false}
use Rattle.cdb_values.specs.Rows.{no_rows}
use Rattle.cdb_values.specs.declared.replies.Reply.TheVariants as reply
use Rattle.cdb_values.specs.declared.rows.Level.TheVariants.{Snapshot}
use Rattle.script_form.specs.declared.scripts.Moment.TheVariants as moment
use Rattle.report_laws.specs.Work.{transaction, WithItsLine}
use Rattle.report_text.specs.declared.reports.EntryLine.TheVariants.{Setup}
use Rattle.report_text.specs.declared.reports.Line.TheVariants as line
use Rattle.report_worked.specs.Small.{from_log, from_nothing}
use Rattle.report_worked.specs.Worked.{worked_table, row, of_a, of_b}
use Rattle.node_stories.specs.Stories.{late_majority, late_majority_report, few_opened, few_opened_report, based_on_none_report, opened_later, opened_later_report, led_later, led_later_report, falls_at_election, falls_at_election_report, few_at_commit, few_at_commit_report, tail_stands, tail_stands_report, kept_by_start, kept_by_start_report, shipped, shipped_report, followed_later, followed_later_report}
use Rattle.node_stories.proofs.StoryLemmas.{answers, armed, comes_up, never_alone, no_fault, plain, some_entry}
use Rattle.play_order.specs.Deeds.Deed.{Stops, Starts, Sends}
use Rattle.play_order.specs.Openings.Finding.{FailedRead, WholeLog}
use Rattle.play_order.specs.Peers.Remains.{AsBefore, WithAll}
use Rattle.play_order.specs.Played.{IsPlayedOver}
use Rattle.play_worked.specs.Stores.{earlier_log, fails, empty_stores, holding, commit_of, unread, with_log}
use Rattle.play_worked.proofs.StoreLemmas.{empty_may, same_may}

pub late_majority_is_played : IsPlayedOver (from_nothing late_majority) (WholeLog (holding 0 0 []) [] ∷ unread ∷ unread ∷ []) late_majority_report
late_majority_is_played = record {
  may = empty_may _ _ (record { node = 1; has = holding 0 0 [] }) refl ((refl, refl), refl) refl refl;
  first = line.Down 1 2 true ∷ line.Down 2 3 true ∷ [];
  go_down = (record { counted = refl; of_script = (omega arith, omega arith); was_up = refl; by_fault = refl }, (record { counted = refl; of_script = (omega arith, omega arith); was_up = refl; by_fault = refl }, tt));
  opening = Setup 1 ∷ [];
  is_opened = (refl, refl, refl, refl, inr (refl, inl (omega arith)));
  rest = line.Up 2 ∷ line.Session (codes "a") 1 (reply.Begin 1) ∷ line.Session (codes "a") 1 (reply.Done 0) ∷ line.Session (codes "a") 1 (reply.Committed 1) ∷ [];
  lines_are = refl;
  later = [];
  entries_are = refl;
  falls = [];
  tell = record { as_many = refl; all_come = refl; told = refl };
  order = (
    line.Up 2 ∷ [],
    line.Session (codes "a") 1 (reply.Begin 1) ∷ line.Session (codes "a") 1 (reply.Done 0) ∷ line.Session (codes "a") 1 (reply.Committed 1) ∷ [],
    [],
    [],
    refl,
    refl,
    (inr (inl (record { was = refl; faults = []; says = refl; each = tt })), λ base empty. some_entry _ _ empty),
    Starts 2 ∷ [],
    [],
    refl,
    record { as_many = refl; all_come = refl; told = refl },
    (
      line.Session (codes "a") 1 (reply.Begin 1) ∷ line.Session (codes "a") 1 (reply.Done 0) ∷ line.Session (codes "a") 1 (reply.Committed 1) ∷ [],
      [],
      [],
      [],
      refl,
      refl,
      plain refl (answers refl (inr refl) refl refl refl refl refl, (answers refl (inr refl) refl refl tt refl refl, (answers refl (inr refl) refl refl (omega arith) refl refl, tt))) tt refl,
      [],
      [],
      inl (record { rows = refl; is = refl }),
      record { as_many = refl; all_come = refl; told = refl },
      (refl, refl, record { tail = record { base = refl; entries = refl; end = refl }; late = ((refl, refl), refl) }),
    ),
  );
}

pub few_opened_is_played : IsPlayedOver (from_nothing few_opened) (empty_stores 3) few_opened_report
few_opened_is_played = record {
  may = empty_may _ _ (record { node = 1; has = holding 0 0 [] }) refl ((refl, refl), refl) refl refl;
  first = line.Down 1 2 true ∷ line.Down 2 3 true ∷ [];
  go_down = (record { counted = refl; of_script = (omega arith, omega arith); was_up = refl; by_fault = refl }, (record { counted = refl; of_script = (omega arith, omega arith); was_up = refl; by_fault = refl }, tt));
  opening = Setup 1 ∷ [];
  is_opened = (refl, refl, refl, refl, inr (refl, inl (omega arith)));
  rest = line.Session (codes "a") 1 (reply.NoMajority 1 3) ∷ [];
  lines_are = refl;
  later = [];
  entries_are = refl;
  falls = fails 2 2 AsBefore ∷ fails 3 0 AsBefore ∷ [];
  tell = record { as_many = refl; all_come = refl; told = refl };
  order = (
    line.Session (codes "a") 1 (reply.NoMajority 1 3) ∷ [],
    [],
    [],
    [],
    refl,
    refl,
    plain refl ((refl, refl, refl, inr (inr (inl (record { kept = record { kept = refl; unstopped = inr refl }; lacks = inl refl; says = inl refl })))), tt) tt refl,
    [],
    [],
    inl (record { rows = refl; is = refl }),
    record { as_many = refl; all_come = refl; told = refl },
    (refl, refl, record { tail = record { base = refl; entries = refl; end = refl }; late = ((refl, refl), refl) }),
  );
}

pub based_on_none_is_played : IsPlayedOver (from_log few_opened 1 (no_rows (worked_table ∷ []))) (empty_stores 3) based_on_none_report
based_on_none_is_played = record {
  may = empty_may _ _ (record { node = 1; has = holding 0 0 [] }) refl ((refl, refl), refl) refl refl;
  first = line.Down 1 2 true ∷ line.Down 2 3 true ∷ [];
  go_down = (record { counted = refl; of_script = (omega arith, omega arith); was_up = refl; by_fault = refl }, (record { counted = refl; of_script = (omega arith, omega arith); was_up = refl; by_fault = refl }, tt));
  opening = [];
  is_opened = λ base empty. refl;
  rest = line.Session (codes "a") 1 (reply.NoMajority 1 3) ∷ [];
  lines_are = refl;
  later = [];
  entries_are = refl;
  falls = fails 2 1 AsBefore ∷ fails 3 0 AsBefore ∷ [];
  tell = record { as_many = refl; all_come = refl; told = refl };
  order = (
    line.Session (codes "a") 1 (reply.NoMajority 1 3) ∷ [],
    [],
    [],
    [],
    refl,
    refl,
    plain refl ((refl, refl, refl, inr (inr (inl (record { kept = record { kept = refl; unstopped = inr refl }; lacks = inl refl; says = inl refl })))), tt) tt refl,
    [],
    [],
    inl (record { rows = refl; is = refl }),
    record { as_many = refl; all_come = refl; told = refl },
    (refl, refl, record { tail = record { base = refl; entries = refl; end = refl }; late = ((refl, refl), refl) }),
  );
}

pub opened_later_is_played : IsPlayedOver (from_nothing opened_later) (empty_stores 3) opened_later_report
opened_later_is_played = record {
  may = empty_may _ _ (record { node = 1; has = holding 0 0 [] }) refl ((refl, refl), refl) refl refl;
  first = line.Down 1 2 true ∷ line.Down 2 3 true ∷ [];
  go_down = (record { counted = refl; of_script = (omega arith, omega arith); was_up = refl; by_fault = refl }, (record { counted = refl; of_script = (omega arith, omega arith); was_up = refl; by_fault = refl }, tt));
  opening = [];
  is_opened = λ base empty. refl;
  rest = line.Down 3 1 false ∷ line.Up 2 ∷ line.Up 3 ∷ line.Session (codes "a") 1 (reply.Begin 1) ∷ line.Session (codes "a") 1 (reply.Done 0) ∷ line.Session (codes "a") 1 (reply.Committed 1) ∷ [];
  lines_are = refl;
  later = Setup 1 ∷ [];
  entries_are = refl;
  falls = fails 2 1 AsBefore ∷ fails 3 0 AsBefore ∷ [];
  tell = record { as_many = refl; all_come = refl; told = refl };
  order = (
    line.Down 3 1 false ∷ [],
    line.Up 2 ∷ line.Up 3 ∷ line.Session (codes "a") 1 (reply.Begin 1) ∷ line.Session (codes "a") 1 (reply.Done 0) ∷ line.Session (codes "a") 1 (reply.Committed 1) ∷ [],
    [],
    Setup 1 ∷ [],
    refl,
    refl,
    (inr (record { was = refl; faults = []; says = refl; each = tt }), λ base empty. refl),
    Stops 1 ∷ [],
    [],
    refl,
    record { as_many = refl; all_come = refl; told = refl },
    (
      line.Up 2 ∷ [],
      line.Up 3 ∷ line.Session (codes "a") 1 (reply.Begin 1) ∷ line.Session (codes "a") 1 (reply.Done 0) ∷ line.Session (codes "a") 1 (reply.Committed 1) ∷ [],
      [],
      Setup 1 ∷ [],
      refl,
      refl,
      (inr (inl (record { was = refl; faults = []; says = refl; each = tt })), λ base empty. refl),
      Starts 2 ∷ [],
      [],
      refl,
      record { as_many = refl; all_come = refl; told = refl },
      (
        line.Up 3 ∷ [],
        line.Session (codes "a") 1 (reply.Begin 1) ∷ line.Session (codes "a") 1 (reply.Done 0) ∷ line.Session (codes "a") 1 (reply.Committed 1) ∷ [],
        Setup 1 ∷ [],
        [],
        refl,
        refl,
        (inr (inl (record { was = refl; faults = []; says = refl; each = tt })), (refl, refl, refl, refl, inl refl)),
        Starts 3 ∷ [],
        [],
        refl,
        record { as_many = refl; all_come = refl; told = refl },
        (
          line.Session (codes "a") 1 (reply.Begin 1) ∷ line.Session (codes "a") 1 (reply.Done 0) ∷ line.Session (codes "a") 1 (reply.Committed 1) ∷ [],
          [],
          [],
          [],
          refl,
          refl,
          plain refl (answers refl (inr refl) refl refl refl refl refl, (answers refl (inr refl) refl refl tt refl refl, (answers refl (inr refl) refl refl (omega arith) refl refl, tt))) tt refl,
          [],
          [],
          inl (record { rows = refl; is = refl }),
          record { as_many = refl; all_come = refl; told = refl },
          (refl, refl, record { tail = record { base = refl; entries = refl; end = refl }; late = ((refl, refl), refl) }),
        ),
      ),
    ),
  );
}

pub led_later_is_played : IsPlayedOver (from_log led_later 1 (no_rows (worked_table ∷ []))) (empty_stores 3) led_later_report
led_later_is_played = record {
  may = empty_may _ _ (record { node = 1; has = holding 0 0 [] }) refl ((refl, refl), refl) refl refl;
  first = line.Down 1 2 true ∷ line.Down 2 3 true ∷ [];
  go_down = (record { counted = refl; of_script = (omega arith, omega arith); was_up = refl; by_fault = refl }, (record { counted = refl; of_script = (omega arith, omega arith); was_up = refl; by_fault = refl }, tt));
  opening = [];
  is_opened = λ base empty. let no_such : 1 ≡ 0 = base in absurd (omega (arith, no_such));
  rest = line.Down 3 1 false ∷ line.Up 1 ∷ line.Up 2 ∷ line.Session (codes "a") 1 (reply.Begin 1) ∷ line.Session (codes "a") 1 (reply.Changed 1) ∷ line.Session (codes "a") 1 (reply.Committed 2) ∷ [];
  lines_are = refl;
  later = of_a 2 1 1 ∷ [];
  entries_are = refl;
  falls = fails 2 1 AsBefore ∷ fails 3 0 AsBefore ∷ [];
  tell = record { as_many = refl; all_come = refl; told = refl };
  order = (
    line.Down 3 1 false ∷ [],
    line.Up 1 ∷ line.Up 2 ∷ line.Session (codes "a") 1 (reply.Begin 1) ∷ line.Session (codes "a") 1 (reply.Changed 1) ∷ line.Session (codes "a") 1 (reply.Committed 2) ∷ [],
    [],
    of_a 2 1 1 ∷ [],
    refl,
    refl,
    (inr (record { was = refl; faults = []; says = refl; each = tt }), λ base empty. let no_such : 1 ≡ 0 = base in absurd (omega (arith, no_such))),
    Stops 1 ∷ [],
    [],
    refl,
    record { as_many = refl; all_come = refl; told = refl },
    (
      line.Up 1 ∷ [],
      line.Up 2 ∷ line.Session (codes "a") 1 (reply.Begin 1) ∷ line.Session (codes "a") 1 (reply.Changed 1) ∷ line.Session (codes "a") 1 (reply.Committed 2) ∷ [],
      [],
      of_a 2 1 1 ∷ [],
      refl,
      refl,
      (inr (inl (record { was = refl; faults = []; says = refl; each = tt })), λ base empty. let no_such : 1 ≡ 0 = base in absurd (omega (arith, no_such))),
      Starts 1 ∷ [],
      [],
      refl,
      record { as_many = refl; all_come = refl; told = refl },
      (
        line.Up 2 ∷ [],
        line.Session (codes "a") 1 (reply.Begin 1) ∷ line.Session (codes "a") 1 (reply.Changed 1) ∷ line.Session (codes "a") 1 (reply.Committed 2) ∷ [],
        [],
        of_a 2 1 1 ∷ [],
        refl,
        refl,
        (inr (inl (record { was = refl; faults = []; says = refl; each = tt })), λ base empty. let no_such : 1 ≡ 0 = base in absurd (omega (arith, no_such))),
        Starts 2 ∷ [],
        [],
        refl,
        record { as_many = refl; all_come = refl; told = refl },
        (
          line.Session (codes "a") 1 (reply.Begin 1) ∷ line.Session (codes "a") 1 (reply.Changed 1) ∷ line.Session (codes "a") 1 (reply.Committed 2) ∷ [],
          [],
          of_a 2 1 1 ∷ [],
          [],
          refl,
          refl,
          plain refl (answers refl (inr refl) refl refl refl refl refl, (answers refl (inr refl) refl refl tt refl refl, (answers refl (inr refl) refl refl (omega arith) refl refl, tt))) (refl, 1, Snapshot, refl, inl (reply.Begin 1 ∷ reply.Changed 1 ∷ [], [], refl)) refl,
          Sends (commit_of (codes "a") 1 1) 1 [] ∷ [],
          [],
          inr (record { at_commit = refl; begin = 1; level = Snapshot; often = 1; as_often = inl refl; is = refl }),
          record { as_many = refl; all_come = refl; told = refl },
          (refl, refl, record { tail = record { base = refl; entries = refl; end = refl }; late = ((refl, refl), refl) }),
        ),
      ),
    ),
  );
}

pub falls_at_election_is_played : IsPlayedOver (from_nothing falls_at_election) (empty_stores 5) falls_at_election_report
falls_at_election_is_played = record {
  may = empty_may _ _ (record { node = 1; has = holding 0 0 [] }) refl ((refl, refl), refl) refl refl;
  first = [];
  go_down = tt;
  opening = Setup 1 ∷ [];
  is_opened = (refl, refl, refl, refl, inl refl);
  rest = line.Down 1 1 false ∷ line.Down 2 2 true ∷ line.Down 3 3 true ∷ line.Session (codes "a") 1 (reply.NoMajority 2 5) ∷ [];
  lines_are = refl;
  later = [];
  entries_are = refl;
  falls = [];
  tell = record { as_many = refl; all_come = refl; told = refl };
  order = (
    line.Down 1 1 false ∷ line.Down 2 2 true ∷ line.Down 3 3 true ∷ [],
    line.Session (codes "a") 1 (reply.NoMajority 2 5) ∷ [],
    [],
    [],
    refl,
    refl,
    (inr (record { was = refl; faults = line.Down 2 2 true ∷ line.Down 3 3 true ∷ []; says = refl; each = (record { counted = refl; of_script = (omega arith, omega arith); was_up = refl; by_fault = refl }, (record { counted = refl; of_script = (omega arith, omega arith); was_up = refl; by_fault = refl }, tt)) }), λ base empty. some_entry _ _ empty),
    Stops 1 ∷ [],
    fails 2 0 AsBefore ∷ fails 3 0 AsBefore ∷ [],
    refl,
    record { as_many = refl; all_come = refl; told = refl },
    (
      line.Session (codes "a") 1 (reply.NoMajority 2 5) ∷ [],
      [],
      [],
      [],
      refl,
      refl,
      plain refl ((refl, refl, refl, inr (inr (inl (record { kept = record { kept = refl; unstopped = inr refl }; lacks = inl refl; says = inl refl })))), tt) tt refl,
      [],
      [],
      inl (record { rows = refl; is = refl }),
      record { as_many = refl; all_come = refl; told = refl },
      (refl, refl, record { tail = record { base = refl; entries = refl; end = refl }; late = ((refl, refl), refl) }),
    ),
  );
}

pub few_at_commit_is_played : IsPlayedOver (from_nothing few_at_commit) (empty_stores 3) few_at_commit_report
few_at_commit_is_played = record {
  may = empty_may _ _ (record { node = 1; has = holding 0 0 [] }) refl ((refl, refl), refl) refl refl;
  first = [];
  go_down = tt;
  opening = Setup 1 ∷ [];
  is_opened = (refl, refl, refl, refl, inl refl);
  rest = line.Session (codes "a") 1 (reply.Begin 1) ∷ line.Session (codes "a") 1 (reply.Changed 1) ∷ line.Down 1 2 true ∷ line.Down 2 3 true ∷ line.Session (codes "a") 1 (reply.NoMajority 1 3) ∷ line.Up 2 ∷ line.Session (codes "a") 2 (reply.Begin 2) ∷ line.Session (codes "a") 2 (row 1 10) ∷ line.Session (codes "a") 2 (reply.Done 1) ∷ line.Session (codes "a") 2 (reply.Committed 2) ∷ [];
  lines_are = refl;
  later = of_a 2 1 1 ∷ [];
  entries_are = refl;
  falls = [];
  tell = record { as_many = refl; all_come = refl; told = refl };
  order = (
    line.Session (codes "a") 1 (reply.Begin 1) ∷ line.Session (codes "a") 1 (reply.Changed 1) ∷ line.Down 1 2 true ∷ line.Down 2 3 true ∷ line.Session (codes "a") 1 (reply.NoMajority 1 3) ∷ [],
    line.Up 2 ∷ line.Session (codes "a") 2 (reply.Begin 2) ∷ line.Session (codes "a") 2 (row 1 10) ∷ line.Session (codes "a") 2 (reply.Done 1) ∷ line.Session (codes "a") 2 (reply.Committed 2) ∷ [],
    of_a 2 1 1 ∷ [],
    [],
    refl,
    refl,
    plain refl (answers refl (inr refl) refl refl refl refl refl, (answers refl (inr refl) refl refl tt refl refl, (record { counted = refl; of_script = (omega arith, omega arith); was_up = refl; cause = inl (record { at_commit = refl; uncut = refl; kept = inl refl; majority = refl; changes = record { transaction = transaction 1 (codes "insert into t values(1, 10)" ∷ []) Snapshot WithItsLine; is_its = refl; begin = 1; begun = ([], (line.Session (codes "a") 1 (reply.Changed 1) ∷ []), refl); has_ops = λ is. cc }; by = inl refl }) }, (record { counted = refl; of_script = (omega arith, omega arith); was_up = refl; cause = inr (inr (refl, refl)) }, ((refl, refl, refl, inr (inr (inl (record { kept = record { kept = refl; unstopped = inr refl }; lacks = inr (refl, record { transaction = transaction 1 (codes "insert into t values(1, 10)" ∷ []) Snapshot WithItsLine; is_its = refl; begin = 1; begun = ([], (line.Session (codes "a") 1 (reply.Changed 1) ∷ line.Down 1 2 true ∷ line.Down 2 3 true ∷ []), refl); has_ops = λ is. cc }); says = inl refl })))), tt))))) (refl, 1, Snapshot, refl, inr (record { at_commit = refl; fell = (_ ∷ _ ∷ [], _, _, _, _, refl, refl); cut = refl; comes_up = λ front back count node is none. never_alone 3 1 ([]) (line.Session (codes "a") 1 (reply.Begin 1) ∷ line.Session (codes "a") 1 (reply.Changed 1) ∷ line.Down 1 2 true ∷ line.Down 2 3 true ∷ line.Session (codes "a") 1 (reply.NoMajority 1 3) ∷ []) front back count node (omega arith) (omega arith) refl is none })) refl,
    Sends (commit_of (codes "a") 1 1) 1 [] ∷ [],
    fails 2 0 AsBefore ∷ fails 3 0 AsBefore ∷ [],
    inr (record { at_commit = refl; begin = 1; level = Snapshot; often = 1; as_often = inl refl; is = refl }),
    record { as_many = refl; all_come = refl; told = refl },
    (
      line.Up 2 ∷ [],
      line.Session (codes "a") 2 (reply.Begin 2) ∷ line.Session (codes "a") 2 (row 1 10) ∷ line.Session (codes "a") 2 (reply.Done 1) ∷ line.Session (codes "a") 2 (reply.Committed 2) ∷ [],
      [],
      [],
      refl,
      refl,
      (inr (inl (record { was = refl; faults = []; says = refl; each = tt })), λ base empty. some_entry _ _ empty),
      Starts 2 ∷ [],
      [],
      refl,
      record { as_many = refl; all_come = refl; told = refl },
      (
        line.Session (codes "a") 2 (reply.Begin 2) ∷ line.Session (codes "a") 2 (row 1 10) ∷ line.Session (codes "a") 2 (reply.Done 1) ∷ line.Session (codes "a") 2 (reply.Committed 2) ∷ [],
        [],
        [],
        [],
        refl,
        refl,
        plain refl (answers refl (inr refl) refl refl refl refl refl, (answers refl (inr refl) refl refl tt refl refl, (answers refl (inr refl) refl refl tt refl refl, (answers refl (inr refl) refl refl (omega arith) refl refl, tt)))) tt refl,
        [],
        [],
        inl (record { rows = refl; is = refl }),
        record { as_many = refl; all_come = refl; told = refl },
        (refl, refl, record { tail = record { base = refl; entries = refl; end = refl }; late = ((refl, refl), refl) }),
      ),
    ),
  );
}

pub tail_stands_is_played : IsPlayedOver (from_nothing tail_stands) (empty_stores 3) tail_stands_report
tail_stands_is_played = record {
  may = empty_may _ _ (record { node = 1; has = holding 0 0 [] }) refl ((refl, refl), refl) refl refl;
  first = [];
  go_down = tt;
  opening = Setup 1 ∷ [];
  is_opened = (refl, refl, refl, refl, inl refl);
  rest = line.Down 1 3 false ∷ line.Session (codes "a") 1 (reply.Begin 1) ∷ line.Session (codes "a") 1 (reply.Changed 1) ∷ line.Down 2 1 true ∷ line.Session (codes "a") 1 (reply.Lost 1 2) ∷ line.Up 1 ∷ line.Session (codes "a") 2 (reply.Begin 2) ∷ line.Session (codes "a") 2 (row 1 10) ∷ line.Session (codes "a") 2 (reply.Done 1) ∷ line.Session (codes "a") 2 (reply.Committed 2) ∷ [];
  lines_are = refl;
  later = of_a 2 1 1 ∷ [];
  entries_are = refl;
  falls = [];
  tell = record { as_many = refl; all_come = refl; told = refl };
  order = (
    line.Down 1 3 false ∷ [],
    line.Session (codes "a") 1 (reply.Begin 1) ∷ line.Session (codes "a") 1 (reply.Changed 1) ∷ line.Down 2 1 true ∷ line.Session (codes "a") 1 (reply.Lost 1 2) ∷ line.Up 1 ∷ line.Session (codes "a") 2 (reply.Begin 2) ∷ line.Session (codes "a") 2 (row 1 10) ∷ line.Session (codes "a") 2 (reply.Done 1) ∷ line.Session (codes "a") 2 (reply.Committed 2) ∷ [],
    [],
    of_a 2 1 1 ∷ [],
    refl,
    refl,
    (inr (record { was = refl; faults = []; says = refl; each = tt }), λ base empty. some_entry _ _ empty),
    Stops 3 ∷ [],
    [],
    refl,
    record { as_many = refl; all_come = refl; told = refl },
    (
      line.Session (codes "a") 1 (reply.Begin 1) ∷ line.Session (codes "a") 1 (reply.Changed 1) ∷ line.Down 2 1 true ∷ line.Session (codes "a") 1 (reply.Lost 1 2) ∷ [],
      line.Up 1 ∷ line.Session (codes "a") 2 (reply.Begin 2) ∷ line.Session (codes "a") 2 (row 1 10) ∷ line.Session (codes "a") 2 (reply.Done 1) ∷ line.Session (codes "a") 2 (reply.Committed 2) ∷ [],
      of_a 2 1 1 ∷ [],
      [],
      refl,
      refl,
      plain refl (answers refl (inr refl) refl refl refl refl refl, (answers refl (inr refl) refl refl tt refl refl, (record { counted = refl; of_script = (omega arith, omega arith); was_up = refl; cause = inl (record { at_commit = refl; uncut = refl; kept = inl refl; majority = refl; changes = record { transaction = transaction 1 (codes "insert into t values(1, 10)" ∷ []) Snapshot WithItsLine; is_its = refl; begin = 1; begun = ((line.Down 1 3 false ∷ []), (line.Session (codes "a") 1 (reply.Changed 1) ∷ []), refl); has_ops = λ is. cc }; by = inl refl }) }, ((refl, refl, refl, inr (inl (record { kept = refl; stays = refl; at_commit = refl; node = 1; down = 2; fault = true; fell = (line.Session (codes "a") 1 (reply.Begin 1) ∷ line.Session (codes "a") 1 (reply.Changed 1) ∷ [], [], refl); says = inl refl }))), tt)))) (refl, 1, Snapshot, refl, inr (record { at_commit = refl; fell = (_ ∷ _ ∷ [], _, _, _, _, refl, refl); cut = refl; comes_up = λ front back count node is none. never_alone 3 2 (line.Down 1 3 false ∷ []) (line.Session (codes "a") 1 (reply.Begin 1) ∷ line.Session (codes "a") 1 (reply.Changed 1) ∷ line.Down 2 1 true ∷ line.Session (codes "a") 1 (reply.Lost 1 2) ∷ []) front back count node (omega arith) (omega arith) refl is none })) refl,
      Sends (commit_of (codes "a") 1 1) 1 [] ∷ [],
      fails 1 0 WithAll ∷ [],
      inr (record { at_commit = refl; begin = 1; level = Snapshot; often = 1; as_often = inl refl; is = refl }),
      record { as_many = refl; all_come = refl; told = refl },
      (
        line.Up 1 ∷ [],
        line.Session (codes "a") 2 (reply.Begin 2) ∷ line.Session (codes "a") 2 (row 1 10) ∷ line.Session (codes "a") 2 (reply.Done 1) ∷ line.Session (codes "a") 2 (reply.Committed 2) ∷ [],
        [],
        [],
        refl,
        refl,
        (inr (inl (record { was = refl; faults = []; says = refl; each = tt })), λ base empty. some_entry _ _ empty),
        Starts 1 ∷ [],
        [],
        refl,
        record { as_many = refl; all_come = refl; told = refl },
        (
          line.Session (codes "a") 2 (reply.Begin 2) ∷ line.Session (codes "a") 2 (row 1 10) ∷ line.Session (codes "a") 2 (reply.Done 1) ∷ line.Session (codes "a") 2 (reply.Committed 2) ∷ [],
          [],
          [],
          [],
          refl,
          refl,
          plain refl (answers refl (inr refl) refl refl refl refl refl, (answers refl (inr refl) refl refl tt refl refl, (answers refl (inr refl) refl refl tt refl refl, (answers refl (inr refl) refl refl (omega arith) refl refl, tt)))) tt refl,
          [],
          [],
          inl (record { rows = refl; is = refl }),
          record { as_many = refl; all_come = refl; told = refl },
          (refl, refl, record { tail = record { base = refl; entries = refl; end = refl }; late = ((refl, refl), refl) }),
        ),
      ),
    ),
  );
}

pub kept_by_start_is_played : IsPlayedOver (from_nothing kept_by_start) (empty_stores 1) kept_by_start_report
kept_by_start_is_played = record {
  may = empty_may _ _ (record { node = 1; has = holding 0 0 [] }) refl ((refl, refl), refl) refl refl;
  first = [];
  go_down = tt;
  opening = Setup 1 ∷ [];
  is_opened = (refl, refl, refl, refl, inl refl);
  rest = line.Session (codes "a") 1 (reply.Begin 1) ∷ line.Session (codes "a") 1 (reply.Changed 1) ∷ line.Down 1 1 true ∷ line.Session (codes "a") 1 (reply.Lost 1 1) ∷ line.Up 1 ∷ line.Session (codes "a") 2 (reply.Begin 2) ∷ line.Session (codes "a") 2 (row 1 10) ∷ line.Session (codes "a") 2 (reply.Done 1) ∷ line.Session (codes "a") 2 (reply.Committed 2) ∷ [];
  lines_are = refl;
  later = of_a 2 1 1 ∷ [];
  entries_are = refl;
  falls = [];
  tell = record { as_many = refl; all_come = refl; told = refl };
  order = (
    line.Session (codes "a") 1 (reply.Begin 1) ∷ line.Session (codes "a") 1 (reply.Changed 1) ∷ line.Down 1 1 true ∷ line.Session (codes "a") 1 (reply.Lost 1 1) ∷ [],
    line.Up 1 ∷ line.Session (codes "a") 2 (reply.Begin 2) ∷ line.Session (codes "a") 2 (row 1 10) ∷ line.Session (codes "a") 2 (reply.Done 1) ∷ line.Session (codes "a") 2 (reply.Committed 2) ∷ [],
    of_a 2 1 1 ∷ [],
    [],
    refl,
    refl,
    plain refl (answers refl (inr refl) refl refl refl refl refl, (answers refl (inr refl) refl refl tt refl refl, (record { counted = refl; of_script = (omega arith, omega arith); was_up = refl; cause = inl (record { at_commit = refl; uncut = refl; kept = inl refl; majority = refl; changes = record { transaction = transaction 1 (codes "insert into t values(1, 10)" ∷ []) Snapshot WithItsLine; is_its = refl; begin = 1; begun = ([], (line.Session (codes "a") 1 (reply.Changed 1) ∷ []), refl); has_ops = λ is. cc }; by = inl refl }) }, ((refl, refl, refl, inl (record { down = 1; is_lost = refl; says = inl refl })), tt)))) (refl, 1, Snapshot, refl, inr (record { at_commit = refl; fell = (_ ∷ _ ∷ [], _, _, _, _, refl, refl); cut = refl; comes_up = λ front back count node is none. comes_up 1 _ front back _ count node (tt, (tt, (refl, (tt, tt)))) is ([], _, refl) })) refl,
    Sends (commit_of (codes "a") 1 1) 1 [] ∷ [],
    fails 1 0 WithAll ∷ [],
    inr (record { at_commit = refl; begin = 1; level = Snapshot; often = 1; as_often = inl refl; is = refl }),
    record { as_many = refl; all_come = refl; told = refl },
    (
      line.Up 1 ∷ [],
      line.Session (codes "a") 2 (reply.Begin 2) ∷ line.Session (codes "a") 2 (row 1 10) ∷ line.Session (codes "a") 2 (reply.Done 1) ∷ line.Session (codes "a") 2 (reply.Committed 2) ∷ [],
      [],
      [],
      refl,
      refl,
      (inr (inl (record { was = refl; faults = []; says = refl; each = tt })), λ base empty. some_entry _ _ empty),
      Starts 1 ∷ [],
      [],
      refl,
      record { as_many = refl; all_come = refl; told = refl },
      (
        line.Session (codes "a") 2 (reply.Begin 2) ∷ line.Session (codes "a") 2 (row 1 10) ∷ line.Session (codes "a") 2 (reply.Done 1) ∷ line.Session (codes "a") 2 (reply.Committed 2) ∷ [],
        [],
        [],
        [],
        refl,
        refl,
        plain refl (answers refl (inr refl) refl refl refl refl refl, (answers refl (inr refl) refl refl tt refl refl, (answers refl (inr refl) refl refl tt refl refl, (answers refl (inr refl) refl refl (omega arith) refl refl, tt)))) tt refl,
        [],
        [],
        inl (record { rows = refl; is = refl }),
        record { as_many = refl; all_come = refl; told = refl },
        (refl, refl, record { tail = record { base = refl; entries = refl; end = refl }; late = ((refl, refl), refl) }),
      ),
    ),
  );
}

pub shipped_is_played : IsPlayedOver (from_nothing shipped) (empty_stores 3) shipped_report
shipped_is_played = record {
  may = empty_may _ _ (record { node = 1; has = holding 0 0 [] }) refl ((refl, refl), refl) refl refl;
  first = [];
  go_down = tt;
  opening = Setup 1 ∷ [];
  is_opened = (refl, refl, refl, refl, inl refl);
  rest = line.Down 1 2 false ∷ line.Session (codes "b") 1 (reply.Begin 1) ∷ line.Session (codes "b") 1 (reply.Changed 1) ∷ line.Down 2 1 false ∷ line.Session (codes "b") 1 (reply.NoMajority 1 3) ∷ line.Session (codes "b") 2 (reply.NoMajority 1 3) ∷ line.Up 2 ∷ line.Session (codes "b") 3 (reply.Begin 2) ∷ line.Session (codes "b") 3 (row 1 10) ∷ line.Session (codes "b") 3 (reply.Done 1) ∷ line.Session (codes "b") 3 (reply.Committed 2) ∷ [];
  lines_are = refl;
  later = of_b 2 1 1 ∷ [];
  entries_are = refl;
  falls = [];
  tell = record { as_many = refl; all_come = refl; told = refl };
  order = (
    line.Down 1 2 false ∷ [],
    line.Session (codes "b") 1 (reply.Begin 1) ∷ line.Session (codes "b") 1 (reply.Changed 1) ∷ line.Down 2 1 false ∷ line.Session (codes "b") 1 (reply.NoMajority 1 3) ∷ line.Session (codes "b") 2 (reply.NoMajority 1 3) ∷ line.Up 2 ∷ line.Session (codes "b") 3 (reply.Begin 2) ∷ line.Session (codes "b") 3 (row 1 10) ∷ line.Session (codes "b") 3 (reply.Done 1) ∷ line.Session (codes "b") 3 (reply.Committed 2) ∷ [],
    [],
    of_b 2 1 1 ∷ [],
    refl,
    refl,
    (inr (record { was = refl; faults = []; says = refl; each = tt }), λ base empty. some_entry _ _ empty),
    Stops 2 ∷ [],
    [],
    refl,
    record { as_many = refl; all_come = refl; told = refl },
    (
      [],
      line.Session (codes "b") 1 (reply.Begin 1) ∷ line.Session (codes "b") 1 (reply.Changed 1) ∷ line.Down 2 1 false ∷ line.Session (codes "b") 1 (reply.NoMajority 1 3) ∷ line.Session (codes "b") 2 (reply.NoMajority 1 3) ∷ line.Up 2 ∷ line.Session (codes "b") 3 (reply.Begin 2) ∷ line.Session (codes "b") 3 (row 1 10) ∷ line.Session (codes "b") 3 (reply.Done 1) ∷ line.Session (codes "b") 3 (reply.Committed 2) ∷ [],
      [],
      of_b 2 1 1 ∷ [],
      refl,
      refl,
      (refl, refl),
      [],
      [],
      refl,
      record { as_many = refl; all_come = refl; told = refl },
      (
        line.Session (codes "b") 1 (reply.Begin 1) ∷ line.Session (codes "b") 1 (reply.Changed 1) ∷ line.Down 2 1 false ∷ line.Session (codes "b") 1 (reply.NoMajority 1 3) ∷ [],
        line.Session (codes "b") 2 (reply.NoMajority 1 3) ∷ line.Up 2 ∷ line.Session (codes "b") 3 (reply.Begin 2) ∷ line.Session (codes "b") 3 (row 1 10) ∷ line.Session (codes "b") 3 (reply.Done 1) ∷ line.Session (codes "b") 3 (reply.Committed 2) ∷ [],
        of_b 2 1 1 ∷ [],
        [],
        refl,
        refl,
        armed refl (answers refl (inr refl) refl refl refl refl refl, (answers refl (inr refl) refl refl tt refl refl, (record { counted = refl; of_script = (omega arith, omega arith); was_up = refl; cause = inl (record { at_commit = refl; uncut = refl; kept = inl refl; majority = refl; changes = record { transaction = transaction 1 (codes "insert into t values(1, 10)" ∷ []) Snapshot WithItsLine; is_its = refl; begin = 1; begun = ((line.Down 1 2 false ∷ []), (line.Session (codes "b") 1 (reply.Changed 1) ∷ []), refl); has_ops = λ is. cc }; by = inr (omega arith) }) }, ((refl, refl, refl, inr (inr (inl (record { kept = record { kept = refl; unstopped = inl refl }; lacks = inr (refl, record { transaction = transaction 1 (codes "insert into t values(1, 10)" ∷ []) Snapshot WithItsLine; is_its = refl; begin = 1; begun = ((line.Down 1 2 false ∷ []), (line.Session (codes "b") 1 (reply.Changed 1) ∷ line.Down 2 1 false ∷ []), refl); has_ops = λ is. cc }); says = inl refl })))), tt)))) (refl, 1, Snapshot, refl, inr (record { at_commit = refl; fell = (_ ∷ _ ∷ [], _, _, _, _, refl, refl); cut = refl; comes_up = λ front back count node is none. absurd (no_fault _ front back count node refl is) })) (record { transaction = transaction 1 (codes "insert into t values(1, 10)" ∷ []) Snapshot WithItsLine; is_its = refl; begin = 1; begun = ((line.Down 1 2 false ∷ []), (line.Session (codes "b") 1 (reply.Changed 1) ∷ line.Down 2 1 false ∷ line.Session (codes "b") 1 (reply.NoMajority 1 3) ∷ []), refl); ran = _; is_ran = refl; untouched = λ j after before. absurd (omega (arith, after, before)); unbroken = refl }) (λ none. some_entry _ _) (omega arith) (omega arith),
        Sends (commit_of (codes "b") 1 1) 4 (moment.Ship ∷ []) ∷ [],
        [],
        inr (record { at_commit = refl; begin = 1; level = Snapshot; often = 4; as_often = inl refl; is = refl }),
        record { as_many = refl; all_come = refl; told = refl },
        (
          line.Session (codes "b") 2 (reply.NoMajority 1 3) ∷ [],
          line.Up 2 ∷ line.Session (codes "b") 3 (reply.Begin 2) ∷ line.Session (codes "b") 3 (row 1 10) ∷ line.Session (codes "b") 3 (reply.Done 1) ∷ line.Session (codes "b") 3 (reply.Committed 2) ∷ [],
          [],
          [],
          refl,
          refl,
          plain refl ((refl, refl, refl, inr (inr (inl (record { kept = record { kept = refl; unstopped = inr refl }; lacks = inl refl; says = inl refl })))), tt) tt refl,
          [],
          [],
          inl (record { rows = refl; is = refl }),
          record { as_many = refl; all_come = refl; told = refl },
          (
            line.Up 2 ∷ [],
            line.Session (codes "b") 3 (reply.Begin 2) ∷ line.Session (codes "b") 3 (row 1 10) ∷ line.Session (codes "b") 3 (reply.Done 1) ∷ line.Session (codes "b") 3 (reply.Committed 2) ∷ [],
            [],
            [],
            refl,
            refl,
            (inr (inl (record { was = refl; faults = []; says = refl; each = tt })), λ base empty. some_entry _ _ empty),
            Starts 2 ∷ [],
            [],
            refl,
            record { as_many = refl; all_come = refl; told = refl },
            (
              line.Session (codes "b") 3 (reply.Begin 2) ∷ line.Session (codes "b") 3 (row 1 10) ∷ line.Session (codes "b") 3 (reply.Done 1) ∷ line.Session (codes "b") 3 (reply.Committed 2) ∷ [],
              [],
              [],
              [],
              refl,
              refl,
              plain refl (answers refl (inr refl) refl refl refl refl refl, (answers refl (inr refl) refl refl tt refl refl, (answers refl (inr refl) refl refl tt refl refl, (answers refl (inr refl) refl refl (omega arith) refl refl, tt)))) tt refl,
              [],
              [],
              inl (record { rows = refl; is = refl }),
              record { as_many = refl; all_come = refl; told = refl },
              (refl, refl, record { tail = record { base = refl; entries = refl; end = refl }; late = ((refl, refl), refl) }),
            ),
          ),
        ),
      ),
    ),
  );
}

pub followed_later_is_played : IsPlayedOver (from_log followed_later 2 (no_rows (worked_table ∷ []))) (with_log 1 1 (Setup 1 ∷ []) ∷ FailedRead (holding 1 1 (Setup 1 ∷ [])) true ∷ FailedRead (holding 1 1 earlier_log) true ∷ []) followed_later_report
followed_later_is_played = record {
  may = same_may _ _ (record { node = 1; has = holding 1 1 (Setup 1 ∷ []) }) refl ((refl, refl), refl) refl refl;
  first = line.Down 1 2 true ∷ line.Down 2 3 true ∷ [];
  go_down = (record { counted = refl; of_script = (omega arith, omega arith); was_up = refl; by_fault = refl }, (record { counted = refl; of_script = (omega arith, omega arith); was_up = refl; by_fault = refl }, tt));
  opening = [];
  is_opened = λ base empty. let no_such : 2 ≡ 0 = base in absurd (omega (arith, no_such));
  rest = line.Down 3 1 false ∷ line.Up 3 ∷ line.Up 2 ∷ line.Session (codes "a") 1 (reply.Begin 2) ∷ line.Session (codes "a") 1 (reply.Changed 1) ∷ line.Session (codes "a") 1 (reply.Committed 3) ∷ [];
  lines_are = refl;
  later = of_a 3 1 2 ∷ [];
  entries_are = refl;
  falls = [];
  tell = record { as_many = refl; all_come = refl; told = refl };
  order = (
    line.Down 3 1 false ∷ [],
    line.Up 3 ∷ line.Up 2 ∷ line.Session (codes "a") 1 (reply.Begin 2) ∷ line.Session (codes "a") 1 (reply.Changed 1) ∷ line.Session (codes "a") 1 (reply.Committed 3) ∷ [],
    [],
    of_a 3 1 2 ∷ [],
    refl,
    refl,
    (inr (record { was = refl; faults = []; says = refl; each = tt }), λ base empty. let no_such : 2 ≡ 0 = base in absurd (omega (arith, no_such))),
    Stops 1 ∷ [],
    [],
    refl,
    record { as_many = refl; all_come = refl; told = refl },
    (
      line.Up 3 ∷ [],
      line.Up 2 ∷ line.Session (codes "a") 1 (reply.Begin 2) ∷ line.Session (codes "a") 1 (reply.Changed 1) ∷ line.Session (codes "a") 1 (reply.Committed 3) ∷ [],
      [],
      of_a 3 1 2 ∷ [],
      refl,
      refl,
      (inr (inl (record { was = refl; faults = []; says = refl; each = tt })), λ base empty. let no_such : 2 ≡ 0 = base in absurd (omega (arith, no_such))),
      Starts 3 ∷ [],
      [],
      refl,
      record { as_many = refl; all_come = refl; told = refl },
      (
        line.Up 2 ∷ [],
        line.Session (codes "a") 1 (reply.Begin 2) ∷ line.Session (codes "a") 1 (reply.Changed 1) ∷ line.Session (codes "a") 1 (reply.Committed 3) ∷ [],
        [],
        of_a 3 1 2 ∷ [],
        refl,
        refl,
        (inr (inl (record { was = refl; faults = []; says = refl; each = tt })), λ base empty. let no_such : 2 ≡ 0 = base in absurd (omega (arith, no_such))),
        Starts 2 ∷ [],
        [],
        refl,
        record { as_many = refl; all_come = refl; told = refl },
        (
          line.Session (codes "a") 1 (reply.Begin 2) ∷ line.Session (codes "a") 1 (reply.Changed 1) ∷ line.Session (codes "a") 1 (reply.Committed 3) ∷ [],
          [],
          of_a 3 1 2 ∷ [],
          [],
          refl,
          refl,
          plain refl (answers refl (inr refl) refl refl refl refl refl, (answers refl (inr refl) refl refl tt refl refl, (answers refl (inr refl) refl refl (omega arith) refl refl, tt))) (refl, 2, Snapshot, refl, inl (reply.Begin 2 ∷ reply.Changed 1 ∷ [], [], refl)) refl,
          Sends (commit_of (codes "a") 1 2) 1 [] ∷ [],
          [],
          inr (record { at_commit = refl; begin = 2; level = Snapshot; often = 1; as_often = inl refl; is = refl }),
          record { as_many = refl; all_come = refl; told = refl },
          (refl, refl, record { tail = record { base = refl; entries = refl; end = refl }; late = ((refl, refl), refl) }),
        ),
      ),
    ),
  );
}
