-- Rows that were worked by hand, computed: each a report in the order of play, with the deeds of its lines beside it, and the falls.
use Rattle.std.proofs.Common.{◌≡◌, [], ◌∷◌, refl, arith, codes, inl, inr, true, false}
use Rattle.cdb_values.specs.declared.replies.Reply.TheVariants as reply
use Rattle.cdb_values.specs.declared.rows.Level.TheVariants.{Snapshot}
use Rattle.script_form.specs.declared.scripts.Moment.TheVariants as moment
use Rattle.report_laws.specs.Work.{transaction, WithItsLine}
use Rattle.report_text.specs.declared.reports.EntryLine.TheVariants.{Setup}
use Rattle.report_text.specs.declared.reports.Line.TheVariants as line
use Rattle.report_worked.specs.Small.{from_nothing}
use Rattle.report_worked.specs.Worked.{row, of_a, of_b}
use Rattle.node_stories.proofs.StoryLemmas.{answers, armed, no_fault, no_true, plain, some_entry}
use Rattle.play_order.specs.Deeds.Deed.{Stops, Starts, Sends}
use Rattle.play_order.specs.Peers.Remains.{WithPromise}
use Rattle.play_order.specs.Played.{IsPlayedOver}
use Rattle.play_worked.specs.Plays.{lost_and_dropped_report, lost_and_kept_report, promised_above, promised_above_report, reads_go_on, reads_go_on_report, sent_once, sent_twice, sent_twice_report, skipped_lines, skipped_plain, skipped_report}
use Rattle.play_worked.specs.Stores.{fails, empty_stores, holding, commit_of}
use Rattle.play_worked.proofs.StoreLemmas.{empty_may}

pub reads_go_on_is_played : IsPlayedOver (from_nothing reads_go_on) (empty_stores 3) reads_go_on_report
reads_go_on_is_played = record {
  may = empty_may _ _ (record { node = 1; has = holding 0 0 [] }) refl ((refl, refl), refl) refl refl;
  first = [];
  go_down = tt;
  opening = Setup 1 ∷ [];
  is_opened = (refl, refl, refl, refl, inl refl);
  rest = line.Session (codes "a") 1 (reply.Begin 1) ∷ line.Session (codes "a") 1 (reply.Changed 1) ∷ line.Session (codes "a") 1 (reply.Committed 2) ∷ line.Session (codes "a") 2 (reply.Begin 2) ∷ line.Down 1 2 false ∷ line.Down 2 3 false ∷ line.Session (codes "a") 2 (row 1 10) ∷ line.Session (codes "a") 2 (reply.Done 1) ∷ line.Session (codes "a") 2 (reply.Committed 2) ∷ line.Session (codes "a") 3 (reply.NoMajority 1 3) ∷ [];
  lines_are = refl;
  later = of_a 2 1 1 ∷ [];
  entries_are = refl;
  falls = [];
  tell = record { as_many = refl; all_come = refl; told = refl };
  order = (
    line.Session (codes "a") 1 (reply.Begin 1) ∷ line.Session (codes "a") 1 (reply.Changed 1) ∷ line.Session (codes "a") 1 (reply.Committed 2) ∷ [],
    line.Session (codes "a") 2 (reply.Begin 2) ∷ line.Down 1 2 false ∷ line.Down 2 3 false ∷ line.Session (codes "a") 2 (row 1 10) ∷ line.Session (codes "a") 2 (reply.Done 1) ∷ line.Session (codes "a") 2 (reply.Committed 2) ∷ line.Session (codes "a") 3 (reply.NoMajority 1 3) ∷ [],
    of_a 2 1 1 ∷ [],
    [],
    refl,
    refl,
    plain refl (answers refl (inr refl) refl refl refl refl refl, (answers refl (inr refl) refl refl tt refl refl, (answers refl (inr refl) refl refl (omega arith) refl refl, tt))) (refl, 1, Snapshot, refl, inl (reply.Begin 1 ∷ reply.Changed 1 ∷ [], [], refl)) refl,
    Sends (commit_of (codes "a") 1 1) 1 [] ∷ [],
    [],
    inr (record { at_commit = refl; begin = 1; level = Snapshot; often = 1; as_often = inl refl; is = refl }),
    record { as_many = refl; all_come = refl; told = refl },
    (
      line.Session (codes "a") 2 (reply.Begin 2) ∷ [],
      line.Down 1 2 false ∷ line.Down 2 3 false ∷ line.Session (codes "a") 2 (row 1 10) ∷ line.Session (codes "a") 2 (reply.Done 1) ∷ line.Session (codes "a") 2 (reply.Committed 2) ∷ line.Session (codes "a") 3 (reply.NoMajority 1 3) ∷ [],
      [],
      [],
      refl,
      refl,
      plain refl (answers refl (inr refl) refl refl refl refl refl, tt) tt refl,
      [],
      [],
      inl (record { rows = refl; is = refl }),
      record { as_many = refl; all_come = refl; told = refl },
      (
        line.Down 1 2 false ∷ [],
        line.Down 2 3 false ∷ line.Session (codes "a") 2 (row 1 10) ∷ line.Session (codes "a") 2 (reply.Done 1) ∷ line.Session (codes "a") 2 (reply.Committed 2) ∷ line.Session (codes "a") 3 (reply.NoMajority 1 3) ∷ [],
        [],
        [],
        refl,
        refl,
        (inr (record { was = refl; faults = []; says = refl; each = tt }), λ base empty. some_entry _ _ empty),
        Stops 2 ∷ [],
        [],
        refl,
        record { as_many = refl; all_come = refl; told = refl },
        (
          line.Down 2 3 false ∷ [],
          line.Session (codes "a") 2 (row 1 10) ∷ line.Session (codes "a") 2 (reply.Done 1) ∷ line.Session (codes "a") 2 (reply.Committed 2) ∷ line.Session (codes "a") 3 (reply.NoMajority 1 3) ∷ [],
          [],
          [],
          refl,
          refl,
          (inr (record { was = refl; faults = []; says = refl; each = tt }), λ base empty. some_entry _ _ empty),
          Stops 3 ∷ [],
          [],
          refl,
          record { as_many = refl; all_come = refl; told = refl },
          (
            line.Session (codes "a") 2 (row 1 10) ∷ line.Session (codes "a") 2 (reply.Done 1) ∷ [],
            line.Session (codes "a") 2 (reply.Committed 2) ∷ line.Session (codes "a") 3 (reply.NoMajority 1 3) ∷ [],
            [],
            [],
            refl,
            refl,
            plain refl (answers refl (inr refl) refl refl tt refl refl, (answers refl (inr refl) refl refl tt refl refl, tt)) tt refl,
            [],
            [],
            inl (record { rows = refl; is = refl }),
            record { as_many = refl; all_come = refl; told = refl },
            (
              line.Session (codes "a") 2 (reply.Committed 2) ∷ [],
              line.Session (codes "a") 3 (reply.NoMajority 1 3) ∷ [],
              [],
              [],
              refl,
              refl,
              plain refl ((refl, refl, refl, inr (inr (inr (record { kept = record { kept = refl; unstopped = inr refl }; majority = refl; unsent = λ e. (refl, tt); sent = λ e. no_true false refl e; timely = (omega arith) })))), tt) tt refl,
              [],
              [],
              inl (record { rows = refl; is = refl }),
              record { as_many = refl; all_come = refl; told = refl },
              (
                line.Session (codes "a") 3 (reply.NoMajority 1 3) ∷ [],
                [],
                [],
                [],
                refl,
                refl,
                plain refl ((refl, refl, refl, inr (inr (inl (record { kept = record { kept = refl; unstopped = inr refl }; lacks = inl refl; says = inl refl })))), tt) tt refl,
                [],
                [],
                inl (record { rows = refl; is = refl }),
                record { as_many = refl; all_come = refl; told = refl },
                (refl, refl, record { tail = record { base = refl; entries = refl; end = refl }; late = ((refl, refl), refl) }),
              ),
            ),
          ),
        ),
      ),
    ),
  );
}

pub skipped_lines_is_played : IsPlayedOver (from_nothing skipped_lines) (empty_stores 3) skipped_report
skipped_lines_is_played = record {
  may = empty_may _ _ (record { node = 1; has = holding 0 0 [] }) refl ((refl, refl), refl) refl refl;
  first = [];
  go_down = tt;
  opening = Setup 1 ∷ [];
  is_opened = (refl, refl, refl, refl, inl refl);
  rest = line.Session (codes "a") 1 (reply.Begin 1) ∷ line.Down 1 2 false ∷ line.Session (codes "a") 1 (reply.Lost 2 1) ∷ line.Session (codes "a") 2 (reply.Begin 1) ∷ line.Session (codes "a") 2 (reply.Done 0) ∷ line.Session (codes "a") 2 (reply.Committed 1) ∷ [];
  lines_are = refl;
  later = [];
  entries_are = refl;
  falls = [];
  tell = record { as_many = refl; all_come = refl; told = refl };
  order = (
    line.Session (codes "a") 1 (reply.Begin 1) ∷ [],
    line.Down 1 2 false ∷ line.Session (codes "a") 1 (reply.Lost 2 1) ∷ line.Session (codes "a") 2 (reply.Begin 1) ∷ line.Session (codes "a") 2 (reply.Done 0) ∷ line.Session (codes "a") 2 (reply.Committed 1) ∷ [],
    [],
    [],
    refl,
    refl,
    plain refl (answers refl (inr refl) refl refl refl refl refl, tt) tt refl,
    [],
    [],
    inl (record { rows = refl; is = refl }),
    record { as_many = refl; all_come = refl; told = refl },
    (
      line.Down 1 2 false ∷ [],
      line.Session (codes "a") 1 (reply.Lost 2 1) ∷ line.Session (codes "a") 2 (reply.Begin 1) ∷ line.Session (codes "a") 2 (reply.Done 0) ∷ line.Session (codes "a") 2 (reply.Committed 1) ∷ [],
      [],
      [],
      refl,
      refl,
      (inr (record { was = refl; faults = []; says = refl; each = tt }), λ base empty. some_entry _ _ empty),
      Stops 2 ∷ [],
      [],
      refl,
      record { as_many = refl; all_come = refl; told = refl },
      (
        line.Session (codes "a") 1 (reply.Lost 2 1) ∷ [],
        line.Session (codes "a") 2 (reply.Begin 1) ∷ line.Session (codes "a") 2 (reply.Done 0) ∷ line.Session (codes "a") 2 (reply.Committed 1) ∷ [],
        [],
        [],
        refl,
        refl,
        plain refl ((refl, refl, refl, inl (record { down = 1; is_lost = refl; says = inl refl })), tt) tt refl,
        [],
        [],
        inl (record { rows = refl; is = refl }),
        record { as_many = refl; all_come = refl; told = refl },
        (
          [],
          line.Session (codes "a") 2 (reply.Begin 1) ∷ line.Session (codes "a") 2 (reply.Done 0) ∷ line.Session (codes "a") 2 (reply.Committed 1) ∷ [],
          [],
          [],
          refl,
          refl,
          record { up_to = inr (record { none = refl; cut = refl; majority = refl }); each = tt; appended = tt; fires = inl refl; fired = λ told. inl refl; moment = λ armed. absurd (omega (arith, armed)) },
          [],
          [],
          inl (record { rows = refl; is = refl }),
          record { as_many = refl; all_come = refl; told = refl },
          (
            line.Session (codes "a") 2 (reply.Begin 1) ∷ line.Session (codes "a") 2 (reply.Done 0) ∷ line.Session (codes "a") 2 (reply.Committed 1) ∷ [],
            [],
            [],
            [],
            refl,
            refl,
            plain refl (answers refl (inr refl) refl refl refl refl refl, (answers refl (inr refl) refl refl tt refl refl, (answers refl (inr refl) refl refl (omega arith) refl refl, tt))) tt refl,
            [],
            [],
            inl (record { rows = refl; is = refl }),
            record { as_many = refl; all_come = refl; told = refl },
            (refl, refl, record { tail = record { base = refl; entries = refl; end = refl }; late = ((refl, refl), refl) }),
          ),
        ),
      ),
    ),
  );
}

pub skipped_plain_is_played : IsPlayedOver (from_nothing skipped_plain) (empty_stores 3) skipped_report
skipped_plain_is_played = record {
  may = empty_may _ _ (record { node = 1; has = holding 0 0 [] }) refl ((refl, refl), refl) refl refl;
  first = [];
  go_down = tt;
  opening = Setup 1 ∷ [];
  is_opened = (refl, refl, refl, refl, inl refl);
  rest = line.Session (codes "a") 1 (reply.Begin 1) ∷ line.Down 1 2 false ∷ line.Session (codes "a") 1 (reply.Lost 2 1) ∷ line.Session (codes "a") 2 (reply.Begin 1) ∷ line.Session (codes "a") 2 (reply.Done 0) ∷ line.Session (codes "a") 2 (reply.Committed 1) ∷ [];
  lines_are = refl;
  later = [];
  entries_are = refl;
  falls = [];
  tell = record { as_many = refl; all_come = refl; told = refl };
  order = (
    line.Session (codes "a") 1 (reply.Begin 1) ∷ [],
    line.Down 1 2 false ∷ line.Session (codes "a") 1 (reply.Lost 2 1) ∷ line.Session (codes "a") 2 (reply.Begin 1) ∷ line.Session (codes "a") 2 (reply.Done 0) ∷ line.Session (codes "a") 2 (reply.Committed 1) ∷ [],
    [],
    [],
    refl,
    refl,
    plain refl (answers refl (inr refl) refl refl refl refl refl, tt) tt refl,
    [],
    [],
    inl (record { rows = refl; is = refl }),
    record { as_many = refl; all_come = refl; told = refl },
    (
      line.Down 1 2 false ∷ [],
      line.Session (codes "a") 1 (reply.Lost 2 1) ∷ line.Session (codes "a") 2 (reply.Begin 1) ∷ line.Session (codes "a") 2 (reply.Done 0) ∷ line.Session (codes "a") 2 (reply.Committed 1) ∷ [],
      [],
      [],
      refl,
      refl,
      (inr (record { was = refl; faults = []; says = refl; each = tt }), λ base empty. some_entry _ _ empty),
      Stops 2 ∷ [],
      [],
      refl,
      record { as_many = refl; all_come = refl; told = refl },
      (
        line.Session (codes "a") 1 (reply.Lost 2 1) ∷ [],
        line.Session (codes "a") 2 (reply.Begin 1) ∷ line.Session (codes "a") 2 (reply.Done 0) ∷ line.Session (codes "a") 2 (reply.Committed 1) ∷ [],
        [],
        [],
        refl,
        refl,
        plain refl ((refl, refl, refl, inl (record { down = 1; is_lost = refl; says = inl refl })), tt) tt refl,
        [],
        [],
        inl (record { rows = refl; is = refl }),
        record { as_many = refl; all_come = refl; told = refl },
        (
          [],
          line.Session (codes "a") 2 (reply.Begin 1) ∷ line.Session (codes "a") 2 (reply.Done 0) ∷ line.Session (codes "a") 2 (reply.Committed 1) ∷ [],
          [],
          [],
          refl,
          refl,
          record { up_to = inr (record { none = refl; cut = refl; majority = refl }); each = tt; appended = tt; fires = inl refl; fired = λ told. inl refl; moment = λ armed. absurd (omega (arith, armed)) },
          [],
          [],
          inl (record { rows = refl; is = refl }),
          record { as_many = refl; all_come = refl; told = refl },
          (
            line.Session (codes "a") 2 (reply.Begin 1) ∷ line.Session (codes "a") 2 (reply.Done 0) ∷ line.Session (codes "a") 2 (reply.Committed 1) ∷ [],
            [],
            [],
            [],
            refl,
            refl,
            plain refl (answers refl (inr refl) refl refl refl refl refl, (answers refl (inr refl) refl refl tt refl refl, (answers refl (inr refl) refl refl (omega arith) refl refl, tt))) tt refl,
            [],
            [],
            inl (record { rows = refl; is = refl }),
            record { as_many = refl; all_come = refl; told = refl },
            (refl, refl, record { tail = record { base = refl; entries = refl; end = refl }; late = ((refl, refl), refl) }),
          ),
        ),
      ),
    ),
  );
}

pub sent_to_the_next_is_played : IsPlayedOver (from_nothing (sent_twice moment.Append)) (empty_stores 3) sent_twice_report
sent_to_the_next_is_played = record {
  may = empty_may _ _ (record { node = 1; has = holding 0 0 [] }) refl ((refl, refl), refl) refl refl;
  first = [];
  go_down = tt;
  opening = Setup 1 ∷ [];
  is_opened = (refl, refl, refl, refl, inl refl);
  rest = line.Session (codes "b") 1 (reply.Begin 1) ∷ line.Session (codes "b") 1 (reply.Changed 1) ∷ line.Session (codes "b") 1 (reply.Committed 2) ∷ line.Session (codes "b") 2 (reply.Begin 2) ∷ line.Session (codes "b") 2 (reply.Changed 1) ∷ line.Down 1 1 false ∷ line.Session (codes "b") 2 (reply.Committed 3) ∷ line.Up 1 ∷ line.Session (codes "b") 3 (reply.Begin 3) ∷ line.Session (codes "b") 3 (row 1 11) ∷ line.Session (codes "b") 3 (reply.Done 1) ∷ line.Session (codes "b") 3 (reply.Committed 3) ∷ [];
  lines_are = refl;
  later = of_b 2 1 1 ∷ of_b 3 2 2 ∷ [];
  entries_are = refl;
  falls = [];
  tell = record { as_many = refl; all_come = refl; told = refl };
  order = (
    line.Session (codes "b") 1 (reply.Begin 1) ∷ line.Session (codes "b") 1 (reply.Changed 1) ∷ line.Session (codes "b") 1 (reply.Committed 2) ∷ [],
    line.Session (codes "b") 2 (reply.Begin 2) ∷ line.Session (codes "b") 2 (reply.Changed 1) ∷ line.Down 1 1 false ∷ line.Session (codes "b") 2 (reply.Committed 3) ∷ line.Up 1 ∷ line.Session (codes "b") 3 (reply.Begin 3) ∷ line.Session (codes "b") 3 (row 1 11) ∷ line.Session (codes "b") 3 (reply.Done 1) ∷ line.Session (codes "b") 3 (reply.Committed 3) ∷ [],
    of_b 2 1 1 ∷ [],
    of_b 3 2 2 ∷ [],
    refl,
    refl,
    plain refl (answers refl (inr refl) refl refl refl refl refl, (answers refl (inr refl) refl refl tt refl refl, (answers refl (inr refl) refl refl (omega arith) refl refl, tt))) (refl, 1, Snapshot, refl, inl (reply.Begin 1 ∷ reply.Changed 1 ∷ [], [], refl)) refl,
    Sends (commit_of (codes "b") 1 1) 4 [] ∷ [],
    [],
    inr (record { at_commit = refl; begin = 1; level = Snapshot; often = 4; as_often = inl refl; is = refl }),
    record { as_many = refl; all_come = refl; told = refl },
    (
      [],
      line.Session (codes "b") 2 (reply.Begin 2) ∷ line.Session (codes "b") 2 (reply.Changed 1) ∷ line.Down 1 1 false ∷ line.Session (codes "b") 2 (reply.Committed 3) ∷ line.Up 1 ∷ line.Session (codes "b") 3 (reply.Begin 3) ∷ line.Session (codes "b") 3 (row 1 11) ∷ line.Session (codes "b") 3 (reply.Done 1) ∷ line.Session (codes "b") 3 (reply.Committed 3) ∷ [],
      [],
      of_b 3 2 2 ∷ [],
      refl,
      refl,
      (refl, refl),
      [],
      [],
      refl,
      record { as_many = refl; all_come = refl; told = refl },
      (
        line.Session (codes "b") 2 (reply.Begin 2) ∷ line.Session (codes "b") 2 (reply.Changed 1) ∷ line.Down 1 1 false ∷ line.Session (codes "b") 2 (reply.Committed 3) ∷ [],
        line.Up 1 ∷ line.Session (codes "b") 3 (reply.Begin 3) ∷ line.Session (codes "b") 3 (row 1 11) ∷ line.Session (codes "b") 3 (reply.Done 1) ∷ line.Session (codes "b") 3 (reply.Committed 3) ∷ [],
        of_b 3 2 2 ∷ [],
        [],
        refl,
        refl,
        armed refl (answers refl (inr refl) refl refl refl refl refl, (answers refl (inr refl) refl refl tt refl refl, (record { counted = refl; of_script = (omega arith, omega arith); was_up = refl; cause = inl (record { at_commit = refl; uncut = refl; kept = inl refl; majority = refl; changes = record { transaction = transaction 2 (codes "update t set v = 11 where id = 1" ∷ []) Snapshot WithItsLine; is_its = refl; begin = 2; begun = ((line.Session (codes "b") 1 (reply.Begin 1) ∷ line.Session (codes "b") 1 (reply.Changed 1) ∷ line.Session (codes "b") 1 (reply.Committed 2) ∷ []), (line.Session (codes "b") 2 (reply.Changed 1) ∷ []), refl); has_ops = λ is. cc }; by = inr (omega arith) }) }, ((refl, refl, refl, inr (inr (inr (record { kept = record { kept = refl; unstopped = inl refl }; majority = refl; unsent = λ e. no_true false refl e; sent = λ e. refl; timely = (omega arith) })))), tt)))) (refl, 2, Snapshot, refl, inl (reply.Begin 2 ∷ reply.Changed 1 ∷ [], [], refl)) (record { transaction = transaction 2 (codes "update t set v = 11 where id = 1" ∷ []) Snapshot WithItsLine; is_its = refl; begin = 2; begun = ((line.Session (codes "b") 1 (reply.Begin 1) ∷ line.Session (codes "b") 1 (reply.Changed 1) ∷ line.Session (codes "b") 1 (reply.Committed 2) ∷ []), (line.Session (codes "b") 2 (reply.Changed 1) ∷ line.Down 1 1 false ∷ line.Session (codes "b") 2 (reply.Committed 3) ∷ []), refl); ran = _; is_ran = refl; untouched = λ j after before. absurd (omega (arith, after, before)); unbroken = refl }) (λ none. absurd (let no_such : 1 ≡ 0 = none in omega (arith, no_such))) (omega arith) (omega arith),
        Sends (commit_of (codes "b") 2 2) 4 (moment.Append ∷ []) ∷ [],
        [],
        inr (record { at_commit = refl; begin = 2; level = Snapshot; often = 4; as_often = inl refl; is = refl }),
        record { as_many = refl; all_come = refl; told = refl },
        (
          line.Up 1 ∷ [],
          line.Session (codes "b") 3 (reply.Begin 3) ∷ line.Session (codes "b") 3 (row 1 11) ∷ line.Session (codes "b") 3 (reply.Done 1) ∷ line.Session (codes "b") 3 (reply.Committed 3) ∷ [],
          [],
          [],
          refl,
          refl,
          (inr (inl (record { was = refl; faults = []; says = refl; each = tt })), λ base empty. some_entry _ _ empty),
          Starts 1 ∷ [],
          [],
          refl,
          record { as_many = refl; all_come = refl; told = refl },
          (
            line.Session (codes "b") 3 (reply.Begin 3) ∷ line.Session (codes "b") 3 (row 1 11) ∷ line.Session (codes "b") 3 (reply.Done 1) ∷ line.Session (codes "b") 3 (reply.Committed 3) ∷ [],
            [],
            [],
            [],
            refl,
            refl,
            plain refl (answers refl (inr refl) refl refl refl refl refl, (answers refl (inr refl) refl refl tt refl refl, (answers refl (inr refl) refl refl tt refl refl, (answers refl (inr refl) refl refl (omega arith) refl refl, tt)))) tt refl,
            [],
            [],
            inl (record { rows = refl; is = refl }),
            record { as_many = refl; all_come = refl; told = refl },
            (refl, refl, record { tail = record { base = refl; entries = refl; end = refl }; late = ((refl, refl), refl) }),
          ),
        ),
      ),
    ),
  );
}

pub found_by_the_next_is_played : IsPlayedOver (from_nothing (sent_twice moment.Ship)) (empty_stores 3) sent_twice_report
found_by_the_next_is_played = record {
  may = empty_may _ _ (record { node = 1; has = holding 0 0 [] }) refl ((refl, refl), refl) refl refl;
  first = [];
  go_down = tt;
  opening = Setup 1 ∷ [];
  is_opened = (refl, refl, refl, refl, inl refl);
  rest = line.Session (codes "b") 1 (reply.Begin 1) ∷ line.Session (codes "b") 1 (reply.Changed 1) ∷ line.Session (codes "b") 1 (reply.Committed 2) ∷ line.Session (codes "b") 2 (reply.Begin 2) ∷ line.Session (codes "b") 2 (reply.Changed 1) ∷ line.Down 1 1 false ∷ line.Session (codes "b") 2 (reply.Committed 3) ∷ line.Up 1 ∷ line.Session (codes "b") 3 (reply.Begin 3) ∷ line.Session (codes "b") 3 (row 1 11) ∷ line.Session (codes "b") 3 (reply.Done 1) ∷ line.Session (codes "b") 3 (reply.Committed 3) ∷ [];
  lines_are = refl;
  later = of_b 2 1 1 ∷ of_b 3 2 2 ∷ [];
  entries_are = refl;
  falls = [];
  tell = record { as_many = refl; all_come = refl; told = refl };
  order = (
    line.Session (codes "b") 1 (reply.Begin 1) ∷ line.Session (codes "b") 1 (reply.Changed 1) ∷ line.Session (codes "b") 1 (reply.Committed 2) ∷ [],
    line.Session (codes "b") 2 (reply.Begin 2) ∷ line.Session (codes "b") 2 (reply.Changed 1) ∷ line.Down 1 1 false ∷ line.Session (codes "b") 2 (reply.Committed 3) ∷ line.Up 1 ∷ line.Session (codes "b") 3 (reply.Begin 3) ∷ line.Session (codes "b") 3 (row 1 11) ∷ line.Session (codes "b") 3 (reply.Done 1) ∷ line.Session (codes "b") 3 (reply.Committed 3) ∷ [],
    of_b 2 1 1 ∷ [],
    of_b 3 2 2 ∷ [],
    refl,
    refl,
    plain refl (answers refl (inr refl) refl refl refl refl refl, (answers refl (inr refl) refl refl tt refl refl, (answers refl (inr refl) refl refl (omega arith) refl refl, tt))) (refl, 1, Snapshot, refl, inl (reply.Begin 1 ∷ reply.Changed 1 ∷ [], [], refl)) refl,
    Sends (commit_of (codes "b") 1 1) 4 [] ∷ [],
    [],
    inr (record { at_commit = refl; begin = 1; level = Snapshot; often = 4; as_often = inl refl; is = refl }),
    record { as_many = refl; all_come = refl; told = refl },
    (
      [],
      line.Session (codes "b") 2 (reply.Begin 2) ∷ line.Session (codes "b") 2 (reply.Changed 1) ∷ line.Down 1 1 false ∷ line.Session (codes "b") 2 (reply.Committed 3) ∷ line.Up 1 ∷ line.Session (codes "b") 3 (reply.Begin 3) ∷ line.Session (codes "b") 3 (row 1 11) ∷ line.Session (codes "b") 3 (reply.Done 1) ∷ line.Session (codes "b") 3 (reply.Committed 3) ∷ [],
      [],
      of_b 3 2 2 ∷ [],
      refl,
      refl,
      (refl, refl),
      [],
      [],
      refl,
      record { as_many = refl; all_come = refl; told = refl },
      (
        line.Session (codes "b") 2 (reply.Begin 2) ∷ line.Session (codes "b") 2 (reply.Changed 1) ∷ line.Down 1 1 false ∷ line.Session (codes "b") 2 (reply.Committed 3) ∷ [],
        line.Up 1 ∷ line.Session (codes "b") 3 (reply.Begin 3) ∷ line.Session (codes "b") 3 (row 1 11) ∷ line.Session (codes "b") 3 (reply.Done 1) ∷ line.Session (codes "b") 3 (reply.Committed 3) ∷ [],
        of_b 3 2 2 ∷ [],
        [],
        refl,
        refl,
        armed refl (answers refl (inr refl) refl refl refl refl refl, (answers refl (inr refl) refl refl tt refl refl, (record { counted = refl; of_script = (omega arith, omega arith); was_up = refl; cause = inl (record { at_commit = refl; uncut = refl; kept = inl refl; majority = refl; changes = record { transaction = transaction 2 (codes "update t set v = 11 where id = 1" ∷ []) Snapshot WithItsLine; is_its = refl; begin = 2; begun = ((line.Session (codes "b") 1 (reply.Begin 1) ∷ line.Session (codes "b") 1 (reply.Changed 1) ∷ line.Session (codes "b") 1 (reply.Committed 2) ∷ []), (line.Session (codes "b") 2 (reply.Changed 1) ∷ []), refl); has_ops = λ is. cc }; by = inr (omega arith) }) }, ((refl, refl, refl, inr (inr (inr (record { kept = record { kept = refl; unstopped = inl refl }; majority = refl; unsent = λ e. no_true false refl e; sent = λ e. refl; timely = (omega arith) })))), tt)))) (refl, 2, Snapshot, refl, inl (reply.Begin 2 ∷ reply.Changed 1 ∷ [], [], refl)) (record { transaction = transaction 2 (codes "update t set v = 11 where id = 1" ∷ []) Snapshot WithItsLine; is_its = refl; begin = 2; begun = ((line.Session (codes "b") 1 (reply.Begin 1) ∷ line.Session (codes "b") 1 (reply.Changed 1) ∷ line.Session (codes "b") 1 (reply.Committed 2) ∷ []), (line.Session (codes "b") 2 (reply.Changed 1) ∷ line.Down 1 1 false ∷ line.Session (codes "b") 2 (reply.Committed 3) ∷ []), refl); ran = _; is_ran = refl; untouched = λ j after before. absurd (omega (arith, after, before)); unbroken = refl }) (λ none. some_entry _ _) (omega arith) (omega arith),
        Sends (commit_of (codes "b") 2 2) 4 (moment.Ship ∷ []) ∷ [],
        [],
        inr (record { at_commit = refl; begin = 2; level = Snapshot; often = 4; as_often = inl refl; is = refl }),
        record { as_many = refl; all_come = refl; told = refl },
        (
          line.Up 1 ∷ [],
          line.Session (codes "b") 3 (reply.Begin 3) ∷ line.Session (codes "b") 3 (row 1 11) ∷ line.Session (codes "b") 3 (reply.Done 1) ∷ line.Session (codes "b") 3 (reply.Committed 3) ∷ [],
          [],
          [],
          refl,
          refl,
          (inr (inl (record { was = refl; faults = []; says = refl; each = tt })), λ base empty. some_entry _ _ empty),
          Starts 1 ∷ [],
          [],
          refl,
          record { as_many = refl; all_come = refl; told = refl },
          (
            line.Session (codes "b") 3 (reply.Begin 3) ∷ line.Session (codes "b") 3 (row 1 11) ∷ line.Session (codes "b") 3 (reply.Done 1) ∷ line.Session (codes "b") 3 (reply.Committed 3) ∷ [],
            [],
            [],
            [],
            refl,
            refl,
            plain refl (answers refl (inr refl) refl refl refl refl refl, (answers refl (inr refl) refl refl tt refl refl, (answers refl (inr refl) refl refl tt refl refl, (answers refl (inr refl) refl refl (omega arith) refl refl, tt)))) tt refl,
            [],
            [],
            inl (record { rows = refl; is = refl }),
            record { as_many = refl; all_come = refl; told = refl },
            (refl, refl, record { tail = record { base = refl; entries = refl; end = refl }; late = ((refl, refl), refl) }),
          ),
        ),
      ),
    ),
  );
}

pub lost_and_kept_is_played : IsPlayedOver (from_nothing (sent_once moment.Ship)) (empty_stores 3) lost_and_kept_report
lost_and_kept_is_played = record {
  may = empty_may _ _ (record { node = 1; has = holding 0 0 [] }) refl ((refl, refl), refl) refl refl;
  first = [];
  go_down = tt;
  opening = Setup 1 ∷ [];
  is_opened = (refl, refl, refl, refl, inl refl);
  rest = line.Session (codes "a") 1 (reply.Begin 1) ∷ line.Session (codes "a") 1 (reply.Changed 1) ∷ line.Session (codes "a") 1 (reply.Committed 2) ∷ line.Session (codes "a") 2 (reply.Begin 2) ∷ line.Session (codes "a") 2 (reply.Changed 1) ∷ line.Down 1 1 false ∷ line.Session (codes "a") 2 (reply.Lost 1 1) ∷ line.Session (codes "a") 3 (reply.Begin 3) ∷ line.Session (codes "a") 3 (row 1 11) ∷ line.Session (codes "a") 3 (reply.Done 1) ∷ line.Session (codes "a") 3 (reply.Committed 3) ∷ [];
  lines_are = refl;
  later = of_a 2 1 1 ∷ of_a 3 2 2 ∷ [];
  entries_are = refl;
  falls = [];
  tell = record { as_many = refl; all_come = refl; told = refl };
  order = (
    line.Session (codes "a") 1 (reply.Begin 1) ∷ line.Session (codes "a") 1 (reply.Changed 1) ∷ line.Session (codes "a") 1 (reply.Committed 2) ∷ [],
    line.Session (codes "a") 2 (reply.Begin 2) ∷ line.Session (codes "a") 2 (reply.Changed 1) ∷ line.Down 1 1 false ∷ line.Session (codes "a") 2 (reply.Lost 1 1) ∷ line.Session (codes "a") 3 (reply.Begin 3) ∷ line.Session (codes "a") 3 (row 1 11) ∷ line.Session (codes "a") 3 (reply.Done 1) ∷ line.Session (codes "a") 3 (reply.Committed 3) ∷ [],
    of_a 2 1 1 ∷ [],
    of_a 3 2 2 ∷ [],
    refl,
    refl,
    plain refl (answers refl (inr refl) refl refl refl refl refl, (answers refl (inr refl) refl refl tt refl refl, (answers refl (inr refl) refl refl (omega arith) refl refl, tt))) (refl, 1, Snapshot, refl, inl (reply.Begin 1 ∷ reply.Changed 1 ∷ [], [], refl)) refl,
    Sends (commit_of (codes "a") 1 1) 1 [] ∷ [],
    [],
    inr (record { at_commit = refl; begin = 1; level = Snapshot; often = 1; as_often = inl refl; is = refl }),
    record { as_many = refl; all_come = refl; told = refl },
    (
      [],
      line.Session (codes "a") 2 (reply.Begin 2) ∷ line.Session (codes "a") 2 (reply.Changed 1) ∷ line.Down 1 1 false ∷ line.Session (codes "a") 2 (reply.Lost 1 1) ∷ line.Session (codes "a") 3 (reply.Begin 3) ∷ line.Session (codes "a") 3 (row 1 11) ∷ line.Session (codes "a") 3 (reply.Done 1) ∷ line.Session (codes "a") 3 (reply.Committed 3) ∷ [],
      [],
      of_a 3 2 2 ∷ [],
      refl,
      refl,
      (refl, refl),
      [],
      [],
      refl,
      record { as_many = refl; all_come = refl; told = refl },
      (
        line.Session (codes "a") 2 (reply.Begin 2) ∷ line.Session (codes "a") 2 (reply.Changed 1) ∷ line.Down 1 1 false ∷ line.Session (codes "a") 2 (reply.Lost 1 1) ∷ [],
        line.Session (codes "a") 3 (reply.Begin 3) ∷ line.Session (codes "a") 3 (row 1 11) ∷ line.Session (codes "a") 3 (reply.Done 1) ∷ line.Session (codes "a") 3 (reply.Committed 3) ∷ [],
        of_a 3 2 2 ∷ [],
        [],
        refl,
        refl,
        armed refl (answers refl (inr refl) refl refl refl refl refl, (answers refl (inr refl) refl refl tt refl refl, (record { counted = refl; of_script = (omega arith, omega arith); was_up = refl; cause = inl (record { at_commit = refl; uncut = refl; kept = inl refl; majority = refl; changes = record { transaction = transaction 2 (codes "update t set v = 11 where id = 1" ∷ []) Snapshot WithItsLine; is_its = refl; begin = 2; begun = ((line.Session (codes "a") 1 (reply.Begin 1) ∷ line.Session (codes "a") 1 (reply.Changed 1) ∷ line.Session (codes "a") 1 (reply.Committed 2) ∷ []), (line.Session (codes "a") 2 (reply.Changed 1) ∷ []), refl); has_ops = λ is. cc }; by = inr (omega arith) }) }, ((refl, refl, refl, inr (inl (record { kept = refl; stays = refl; at_commit = refl; node = 1; down = 1; fault = false; fell = (line.Session (codes "a") 2 (reply.Begin 2) ∷ line.Session (codes "a") 2 (reply.Changed 1) ∷ [], [], refl); says = inl refl }))), tt)))) (refl, 2, Snapshot, refl, inr (record { at_commit = refl; fell = (_ ∷ _ ∷ [], _, _, _, _, refl, refl); cut = refl; comes_up = λ front back count node is none. absurd (no_fault _ front back count node refl is) })) (record { transaction = transaction 2 (codes "update t set v = 11 where id = 1" ∷ []) Snapshot WithItsLine; is_its = refl; begin = 2; begun = ((line.Session (codes "a") 1 (reply.Begin 1) ∷ line.Session (codes "a") 1 (reply.Changed 1) ∷ line.Session (codes "a") 1 (reply.Committed 2) ∷ []), (line.Session (codes "a") 2 (reply.Changed 1) ∷ line.Down 1 1 false ∷ line.Session (codes "a") 2 (reply.Lost 1 1) ∷ []), refl); ran = _; is_ran = refl; untouched = λ j after before. absurd (omega (arith, after, before)); unbroken = refl }) (λ none. some_entry _ _) (omega arith) (omega arith),
        Sends (commit_of (codes "a") 2 2) 1 (moment.Ship ∷ []) ∷ [],
        [],
        inr (record { at_commit = refl; begin = 2; level = Snapshot; often = 1; as_often = inl refl; is = refl }),
        record { as_many = refl; all_come = refl; told = refl },
        (
          line.Session (codes "a") 3 (reply.Begin 3) ∷ line.Session (codes "a") 3 (row 1 11) ∷ line.Session (codes "a") 3 (reply.Done 1) ∷ line.Session (codes "a") 3 (reply.Committed 3) ∷ [],
          [],
          [],
          [],
          refl,
          refl,
          plain refl (answers refl (inr refl) refl refl refl refl refl, (answers refl (inr refl) refl refl tt refl refl, (answers refl (inr refl) refl refl tt refl refl, (answers refl (inr refl) refl refl (omega arith) refl refl, tt)))) tt refl,
          [],
          [],
          inl (record { rows = refl; is = refl }),
          record { as_many = refl; all_come = refl; told = refl },
          (refl, refl, record { tail = record { base = refl; entries = refl; end = refl }; late = ((refl, refl), refl) }),
        ),
      ),
    ),
  );
}

pub lost_and_dropped_is_played : IsPlayedOver (from_nothing (sent_once moment.Append)) (empty_stores 3) lost_and_dropped_report
lost_and_dropped_is_played = record {
  may = empty_may _ _ (record { node = 1; has = holding 0 0 [] }) refl ((refl, refl), refl) refl refl;
  first = [];
  go_down = tt;
  opening = Setup 1 ∷ [];
  is_opened = (refl, refl, refl, refl, inl refl);
  rest = line.Session (codes "a") 1 (reply.Begin 1) ∷ line.Session (codes "a") 1 (reply.Changed 1) ∷ line.Session (codes "a") 1 (reply.Committed 2) ∷ line.Session (codes "a") 2 (reply.Begin 2) ∷ line.Session (codes "a") 2 (reply.Changed 1) ∷ line.Down 1 1 false ∷ line.Session (codes "a") 2 (reply.Lost 1 1) ∷ line.Session (codes "a") 3 (reply.Begin 2) ∷ line.Session (codes "a") 3 (row 1 10) ∷ line.Session (codes "a") 3 (reply.Done 1) ∷ line.Session (codes "a") 3 (reply.Committed 2) ∷ [];
  lines_are = refl;
  later = of_a 2 1 1 ∷ [];
  entries_are = refl;
  falls = [];
  tell = record { as_many = refl; all_come = refl; told = refl };
  order = (
    line.Session (codes "a") 1 (reply.Begin 1) ∷ line.Session (codes "a") 1 (reply.Changed 1) ∷ line.Session (codes "a") 1 (reply.Committed 2) ∷ [],
    line.Session (codes "a") 2 (reply.Begin 2) ∷ line.Session (codes "a") 2 (reply.Changed 1) ∷ line.Down 1 1 false ∷ line.Session (codes "a") 2 (reply.Lost 1 1) ∷ line.Session (codes "a") 3 (reply.Begin 2) ∷ line.Session (codes "a") 3 (row 1 10) ∷ line.Session (codes "a") 3 (reply.Done 1) ∷ line.Session (codes "a") 3 (reply.Committed 2) ∷ [],
    of_a 2 1 1 ∷ [],
    [],
    refl,
    refl,
    plain refl (answers refl (inr refl) refl refl refl refl refl, (answers refl (inr refl) refl refl tt refl refl, (answers refl (inr refl) refl refl (omega arith) refl refl, tt))) (refl, 1, Snapshot, refl, inl (reply.Begin 1 ∷ reply.Changed 1 ∷ [], [], refl)) refl,
    Sends (commit_of (codes "a") 1 1) 1 [] ∷ [],
    [],
    inr (record { at_commit = refl; begin = 1; level = Snapshot; often = 1; as_often = inl refl; is = refl }),
    record { as_many = refl; all_come = refl; told = refl },
    (
      [],
      line.Session (codes "a") 2 (reply.Begin 2) ∷ line.Session (codes "a") 2 (reply.Changed 1) ∷ line.Down 1 1 false ∷ line.Session (codes "a") 2 (reply.Lost 1 1) ∷ line.Session (codes "a") 3 (reply.Begin 2) ∷ line.Session (codes "a") 3 (row 1 10) ∷ line.Session (codes "a") 3 (reply.Done 1) ∷ line.Session (codes "a") 3 (reply.Committed 2) ∷ [],
      [],
      [],
      refl,
      refl,
      (refl, refl),
      [],
      [],
      refl,
      record { as_many = refl; all_come = refl; told = refl },
      (
        line.Session (codes "a") 2 (reply.Begin 2) ∷ line.Session (codes "a") 2 (reply.Changed 1) ∷ line.Down 1 1 false ∷ line.Session (codes "a") 2 (reply.Lost 1 1) ∷ [],
        line.Session (codes "a") 3 (reply.Begin 2) ∷ line.Session (codes "a") 3 (row 1 10) ∷ line.Session (codes "a") 3 (reply.Done 1) ∷ line.Session (codes "a") 3 (reply.Committed 2) ∷ [],
        [],
        [],
        refl,
        refl,
        armed refl (answers refl (inr refl) refl refl refl refl refl, (answers refl (inr refl) refl refl tt refl refl, (record { counted = refl; of_script = (omega arith, omega arith); was_up = refl; cause = inl (record { at_commit = refl; uncut = refl; kept = inl refl; majority = refl; changes = record { transaction = transaction 2 (codes "update t set v = 11 where id = 1" ∷ []) Snapshot WithItsLine; is_its = refl; begin = 2; begun = ((line.Session (codes "a") 1 (reply.Begin 1) ∷ line.Session (codes "a") 1 (reply.Changed 1) ∷ line.Session (codes "a") 1 (reply.Committed 2) ∷ []), (line.Session (codes "a") 2 (reply.Changed 1) ∷ []), refl); has_ops = λ is. cc }; by = inr (omega arith) }) }, ((refl, refl, refl, inr (inl (record { kept = refl; stays = refl; at_commit = refl; node = 1; down = 1; fault = false; fell = (line.Session (codes "a") 2 (reply.Begin 2) ∷ line.Session (codes "a") 2 (reply.Changed 1) ∷ [], [], refl); says = inl refl }))), tt)))) tt (record { transaction = transaction 2 (codes "update t set v = 11 where id = 1" ∷ []) Snapshot WithItsLine; is_its = refl; begin = 2; begun = ((line.Session (codes "a") 1 (reply.Begin 1) ∷ line.Session (codes "a") 1 (reply.Changed 1) ∷ line.Session (codes "a") 1 (reply.Committed 2) ∷ []), (line.Session (codes "a") 2 (reply.Changed 1) ∷ line.Down 1 1 false ∷ line.Session (codes "a") 2 (reply.Lost 1 1) ∷ []), refl); ran = _; is_ran = refl; untouched = λ j after before. absurd (omega (arith, after, before)); unbroken = refl }) (λ none. absurd (let no_such : 1 ≡ 0 = none in omega (arith, no_such))) (omega arith) (omega arith),
        Sends (commit_of (codes "a") 2 2) 1 (moment.Append ∷ []) ∷ [],
        [],
        inr (record { at_commit = refl; begin = 2; level = Snapshot; often = 1; as_often = inl refl; is = refl }),
        record { as_many = refl; all_come = refl; told = refl },
        (
          line.Session (codes "a") 3 (reply.Begin 2) ∷ line.Session (codes "a") 3 (row 1 10) ∷ line.Session (codes "a") 3 (reply.Done 1) ∷ line.Session (codes "a") 3 (reply.Committed 2) ∷ [],
          [],
          [],
          [],
          refl,
          refl,
          plain refl (answers refl (inr refl) refl refl refl refl refl, (answers refl (inr refl) refl refl tt refl refl, (answers refl (inr refl) refl refl tt refl refl, (answers refl (inr refl) refl refl (omega arith) refl refl, tt)))) tt refl,
          [],
          [],
          inl (record { rows = refl; is = refl }),
          record { as_many = refl; all_come = refl; told = refl },
          (refl, refl, record { tail = record { base = refl; entries = refl; end = refl }; late = ((refl, refl), refl) }),
        ),
      ),
    ),
  );
}

pub promised_above_is_played : IsPlayedOver (from_nothing promised_above) (empty_stores 3) promised_above_report
promised_above_is_played = record {
  may = empty_may _ _ (record { node = 1; has = holding 0 0 [] }) refl ((refl, refl), refl) refl refl;
  first = [];
  go_down = tt;
  opening = Setup 1 ∷ [];
  is_opened = (refl, refl, refl, refl, inl refl);
  rest = line.Down 1 3 false ∷ line.Down 2 1 false ∷ line.Up 1 ∷ line.Down 3 1 true ∷ line.Up 1 ∷ line.Down 4 1 true ∷ line.Up 3 ∷ line.Up 1 ∷ line.Session (codes "a") 1 (reply.Begin 1) ∷ line.Session (codes "a") 1 (reply.Done 0) ∷ line.Session (codes "a") 1 (reply.Committed 1) ∷ [];
  lines_are = refl;
  later = [];
  entries_are = refl;
  falls = [];
  tell = record { as_many = refl; all_come = refl; told = refl };
  order = (
    line.Down 1 3 false ∷ [],
    line.Down 2 1 false ∷ line.Up 1 ∷ line.Down 3 1 true ∷ line.Up 1 ∷ line.Down 4 1 true ∷ line.Up 3 ∷ line.Up 1 ∷ line.Session (codes "a") 1 (reply.Begin 1) ∷ line.Session (codes "a") 1 (reply.Done 0) ∷ line.Session (codes "a") 1 (reply.Committed 1) ∷ [],
    [],
    [],
    refl,
    refl,
    (inr (record { was = refl; faults = []; says = refl; each = tt }), λ base empty. some_entry _ _ empty),
    Stops 3 ∷ [],
    [],
    refl,
    record { as_many = refl; all_come = refl; told = refl },
    (
      line.Down 2 1 false ∷ [],
      line.Up 1 ∷ line.Down 3 1 true ∷ line.Up 1 ∷ line.Down 4 1 true ∷ line.Up 3 ∷ line.Up 1 ∷ line.Session (codes "a") 1 (reply.Begin 1) ∷ line.Session (codes "a") 1 (reply.Done 0) ∷ line.Session (codes "a") 1 (reply.Committed 1) ∷ [],
      [],
      [],
      refl,
      refl,
      (inr (record { was = refl; faults = []; says = refl; each = tt }), λ base empty. some_entry _ _ empty),
      Stops 1 ∷ [],
      [],
      refl,
      record { as_many = refl; all_come = refl; told = refl },
      (
        line.Up 1 ∷ line.Down 3 1 true ∷ [],
        line.Up 1 ∷ line.Down 4 1 true ∷ line.Up 3 ∷ line.Up 1 ∷ line.Session (codes "a") 1 (reply.Begin 1) ∷ line.Session (codes "a") 1 (reply.Done 0) ∷ line.Session (codes "a") 1 (reply.Committed 1) ∷ [],
        [],
        [],
        refl,
        refl,
        (inr (inl (record { was = refl; faults = line.Down 3 1 true ∷ []; says = refl; each = (record { counted = refl; of_script = (omega arith, omega arith); was_up = refl; by_fault = refl }, tt) })), λ base empty. some_entry _ _ empty),
        Starts 1 ∷ [],
        fails 1 1 WithPromise ∷ [],
        refl,
        record { as_many = refl; all_come = refl; told = refl },
        (
          line.Up 1 ∷ line.Down 4 1 true ∷ [],
          line.Up 3 ∷ line.Up 1 ∷ line.Session (codes "a") 1 (reply.Begin 1) ∷ line.Session (codes "a") 1 (reply.Done 0) ∷ line.Session (codes "a") 1 (reply.Committed 1) ∷ [],
          [],
          [],
          refl,
          refl,
          (inr (inl (record { was = refl; faults = line.Down 4 1 true ∷ []; says = refl; each = (record { counted = refl; of_script = (omega arith, omega arith); was_up = refl; by_fault = refl }, tt) })), λ base empty. some_entry _ _ empty),
          Starts 1 ∷ [],
          fails 1 1 WithPromise ∷ [],
          refl,
          record { as_many = refl; all_come = refl; told = refl },
          (
            line.Up 3 ∷ [],
            line.Up 1 ∷ line.Session (codes "a") 1 (reply.Begin 1) ∷ line.Session (codes "a") 1 (reply.Done 0) ∷ line.Session (codes "a") 1 (reply.Committed 1) ∷ [],
            [],
            [],
            refl,
            refl,
            (inr (inl (record { was = refl; faults = []; says = refl; each = tt })), λ base empty. some_entry _ _ empty),
            Starts 3 ∷ [],
            [],
            refl,
            record { as_many = refl; all_come = refl; told = refl },
            (
              line.Up 1 ∷ [],
              line.Session (codes "a") 1 (reply.Begin 1) ∷ line.Session (codes "a") 1 (reply.Done 0) ∷ line.Session (codes "a") 1 (reply.Committed 1) ∷ [],
              [],
              [],
              refl,
              refl,
              (inr (inl (record { was = refl; faults = []; says = refl; each = tt })), λ base empty. some_entry _ _ empty),
              Starts 1 ∷ [],
              [],
              refl,
              record { as_many = refl; all_come = refl; told = refl },
              (
                line.Session (codes "a") 1 (reply.Begin 1) ∷ line.Session (codes "a") 1 (reply.Done 0) ∷ line.Session (codes "a") 1 (reply.Committed 1) ∷ [],
                [],
                [],
                [],
                refl,
                refl,
                plain refl (answers refl (inr refl) refl refl refl refl refl, (answers refl (inr refl) refl refl tt refl refl, (answers refl (inr refl) refl refl (omega arith) refl refl, tt))) tt refl,
                [],
                [],
                inl (record { rows = refl; is = refl }),
                record { as_many = refl; all_come = refl; told = refl },
                (refl, refl, record { tail = record { base = refl; entries = refl; end = refl }; late = ((refl, refl), refl) }),
              ),
            ),
          ),
        ),
      ),
    ),
  );
}
