-- Stories of several nodes that are lawful, computed.
use Rattle.std.proofs.Common.{◌≡◌, ◌==◌, ℕ, List, [], ◌∷◌, refl, sym, subst, ◌∙◌, arith, codes, inl, inr, Bool, true, false, Option, Some, None, if◌then◌else◌, take, drop}
use Rattle.std.proofs.lemmas.Bool.{eqb-true}
use Rattle.cdb_values.specs.declared.replies.Reply.TheVariants as reply
use Rattle.report_laws.proofs.HistoryLaws.{none_stands}
use Rattle.report_laws.proofs.LineLaws.{fresh_begin}
use Rattle.report_laws.specs.History.{nothing_before, view_of, IsCommitAfter}
use Rattle.report_laws.specs.Told.{numbered, told}
use Rattle.report_text.specs.declared.reports.EntryLine.TheVariants.{Setup}
use Rattle.report_text.specs.declared.reports.Line.{Line}
use Rattle.report_text.specs.declared.reports.Line.TheVariants as line
use Rattle.script_form.specs.declared.scripts.Act.TheVariants as act
use Rattle.script_form.specs.declared.scripts.Moment.TheVariants as moment
use Rattle.report_worked.specs.Small.{from_nothing}
use Rattle.report_worked.specs.Worked.{worked_table, row, to_a}
use Rattle.report_worked.proofs.InsertSelectLemmas.{good_insert, inserting, selecting}
use Rattle.report_worked.proofs.WorkedLemmas.{along_parts}
use Rattle.cdb_values.specs.declared.rows.Level.TheVariants.{Snapshot}
use Rattle.report_laws.specs.Work.{Does}
use Rattle.node_reports.specs.Lawful.{LawfulOfNodes}
use Rattle.node_reports.specs.Operator.{IsArmed}
use Rattle.node_reports.specs.Told.{IsToldAlong}
use Rattle.node_stories.specs.Stories.{armed_row, armed_row_report, replica_falls, replica_falls_report, fed_twice, fed_twice_report}
use Rattle.node_stories.proofs.HeardLemmas.{only_down, along_them, told_them, fed_at, never_armed, no_arms}

-- the entry of the insert, behind the schema's
entered : IsCommitAfter (from_nothing replica_falls) (view_of (from_nothing replica_falls) (Setup 1 ∷ [])) 2 (codes "a") 1 1 Snapshot
entered = record {
  placed = refl;
  once = none_stands (from_nothing replica_falls).origin (Setup 1 ∷ []) (codes "a") 1 (refl, tt);
  begun = (omega arith, omega arith, omega arith);
  transaction = inserting;
  is_its = refl;
  is_level = refl;
  ran = _;
  is_ran = refl;
  has_ops = λ is. cc;
  untouched = λ j after before. absurd (omega (arith, after, before));
  is_good = good_insert;
}

-- lost by its own replica's fall, the insert stands, and its select finds it at the next node
pub replica_falls_is_lawful : LawfulOfNodes (from_nothing replica_falls) replica_falls_report
replica_falls_is_lawful = record {
  replies = along_them (IsToldAlong (from_nothing replica_falls) (view_of (from_nothing replica_falls) replica_falls_report.entries)) replica_falls.body replica_falls_report.lines
      (inl refl, (inl refl, tt)) (inl refl, (inl refl, (tt, (inl refl, (inl refl, (inl refl, (inl refl, (inl refl, tt))))))))
      (along_parts (IsToldAlong (from_nothing replica_falls) (view_of (from_nothing replica_falls) replica_falls_report.entries) (codes "a")) (Does inserting ∷ Does selecting ∷ [])
      ((reply.Begin 1 ∷ reply.Changed 1 ∷ reply.Lost 2 1 ∷ []) ∷ (reply.Begin 2 ∷ row 1 10 ∷ reply.Done 1 ∷ reply.Committed 2 ∷ []) ∷ []) (
        inr (record { begin = 1; base = omega arith; within = omega arith; ran = _; is_ran = refl; front = reply.Begin 1 ∷ reply.Changed 1 ∷ []; rest = []; fits = refl; cause = reply.Lost 2 1; is_cause = refl; may = inl (λ is. cc); says = refl }),
        (inl (record { begin = 2; base = omega arith; within = omega arith; ran = _; is_ran = refl; last = reply.Committed 2 ∷ []; ends = tt; right = (refl, tt); says = refl }), tt),
      ))
      refl;
  begins = (
    fresh_begin (nothing_before (worked_table ∷ [])) _ (codes "a") 1 (omega arith) (omega arith) tt,
    (tt, (tt, (tt, (fresh_begin (nothing_before (worked_table ∷ [])) _ (codes "a") 2 (omega arith) (omega arith) ((omega arith, tt), (tt, (tt, (tt, tt)))), (tt, (tt, (tt, tt))))))),
  );
  history = ((refl, refl, refl), (entered, tt));
  answered = (tt, (record { transaction = inserting; is_its = refl; within = omega arith; ran = _; is_ran = refl; outcome = reply.Lost 2 1; ends = inr (refl, tt); before = []; after = drop 3 (told (codes "a") replica_falls_report.lines); says = refl }, tt));
  places = (
    tt,
    (
      tt,
      (
        record { counted = refl; of_script = (omega arith, omega arith); was_up = λ stop. refl },
        (
          (refl, record { fault = true; front = to_a 1 (reply.Begin 1) ∷ to_a 1 (reply.Changed 1) ∷ []; back = []; stands = refl; since = tt; begin = 1; begun = ([], to_a 1 (reply.Changed 1) ∷ line.Down 1 2 true ∷ [], refl); once = (refl, (refl, tt)) }),
          (tt, (tt, (tt, (tt, tt)))),
        ),
      ),
    ),
  );
  operator = record {
    arms = no_arms;
    armed = λ before after count node place stands arm. never_armed place arm;
    apart = λ count other place arm again. never_armed place arm;
    heeded = ([], replica_falls_report.lines, refl, refl, ([], replica_falls_report.lines, refl, refl, refl));
  };
  feeds = refl;
  base = refl;
  end = refl;
}

-- a barrier, and feeds of which the second repeats the first
pub fed_twice_is_lawful : LawfulOfNodes (from_nothing fed_twice) fed_twice_report
fed_twice_is_lawful = record {
  replies = along_them (IsToldAlong (from_nothing fed_twice) (view_of (from_nothing fed_twice) fed_twice_report.entries)) fed_twice.body fed_twice_report.lines
      (inl refl, (tt, (tt, (tt, (tt, (tt, tt)))))) (inl refl, (inl refl, (inl refl, (tt, (tt, (tt, (tt, (tt, tt))))))))
      (along_parts (IsToldAlong (from_nothing fed_twice) (view_of (from_nothing fed_twice) fed_twice_report.entries) (codes "a")) (Does inserting ∷ []) ((reply.Begin 1 ∷ reply.Changed 1 ∷ reply.Committed 2 ∷ []) ∷ [])
      (inl (record { begin = 1; base = omega arith; within = omega arith; ran = _; is_ran = refl; last = reply.Committed 2 ∷ []; ends = tt; right = (record { later = omega arith; stands = refl; untouched = λ j after before. absurd (omega (arith, after, before)); is_good = good_insert }, tt); says = refl }), tt))
      refl;
  begins = (fresh_begin (nothing_before (worked_table ∷ [])) _ (codes "a") 1 (omega arith) (omega arith) tt, (tt, (tt, (tt, (tt, (tt, (tt, (tt, tt))))))));
  history = (
    (refl, refl, refl),
    (
      record {
        placed = refl;
        once = none_stands (from_nothing fed_twice).origin (Setup 1 ∷ []) (codes "a") 1 (refl, tt);
        begun = (omega arith, omega arith, omega arith);
        transaction = inserting;
        is_its = refl;
        is_level = refl;
        ran = _;
        is_ran = refl;
        has_ops = λ is. cc;
        untouched = λ j after before. absurd (omega (arith, after, before));
        is_good = good_insert;
      },
      tt,
    ),
  );
  answered = (tt, (record { transaction = inserting; is_its = refl; within = omega arith; ran = _; is_ran = refl; outcome = reply.Committed 2; ends = inl refl; before = []; after = []; says = refl }, tt));
  places = (
    tt,
    (
      tt,
      (
        tt,
        (
          tt,
          (tt, (record { counted = refl; of_script = (omega arith, omega arith); was_up = λ stop. refl }, (record { counted = refl; of_script = (omega arith, omega arith); was_up = λ stop. refl }, (tt, tt)))),
        ),
      ),
    ),
  );
  operator = record {
    arms = no_arms;
    armed = λ before after count node place stands arm. never_armed place arm;
    apart = λ count other place arm again. never_armed place arm;
    heeded = (
      [],
      fed_twice_report.lines,
      refl,
      refl,
      (
        to_a 1 (reply.Begin 1) ∷ to_a 1 (reply.Changed 1) ∷ to_a 1 (reply.Committed 2) ∷ line.Barrier ∷ [],
        line.Fed 2 ∷ line.Down 1 2 false ∷ line.Down 2 3 false ∷ line.Fed 2 ∷ [],
        refl,
        record {
          front = to_a 1 (reply.Begin 1) ∷ to_a 1 (reply.Changed 1) ∷ to_a 1 (reply.Committed 2) ∷ [];
          says = refl;
          alone = refl;
          all_done = told_them (take 1 fed_twice.body) (take 3 fed_twice_report.lines) (inl refl, tt) (inl refl, (inl refl, (inl refl, tt))) (reply.Begin 1 ∷ reply.Changed 1 ∷ reply.Committed 2 ∷ [], [], refl, inl refl, refl) refl;
        },
        (
          line.Fed 2 ∷ [],
          line.Down 1 2 false ∷ line.Down 2 3 false ∷ line.Fed 2 ∷ [],
          refl,
          record { front = []; position = 2; says = refl; alone = refl; right = inl (fed_at (from_nothing fed_twice) (view_of (from_nothing fed_twice) fed_twice_report.entries) (take 4 fed_twice_report.lines) 2 (omega arith) (omega arith) (omega arith) ((omega arith, tt), (tt, ((omega arith, tt), (tt, tt))))) },
          (
            line.Down 1 2 false ∷ [],
            line.Down 2 3 false ∷ line.Fed 2 ∷ [],
            refl,
            record { told = inr (1, refl); is_down = refl },
            (
              line.Down 2 3 false ∷ [],
              line.Fed 2 ∷ [],
              refl,
              record { told = inr (2, refl); is_down = refl },
              (
                line.Fed 2 ∷ [],
                [],
                refl,
                record { front = []; position = 2; says = refl; alone = refl; right = inr (record { same = refl; front = to_a 1 (reply.Begin 1) ∷ to_a 1 (reply.Changed 1) ∷ to_a 1 (reply.Committed 2) ∷ line.Barrier ∷ line.Fed 2 ∷ line.Down 1 2 false ∷ line.Down 2 3 false ∷ []; back = []; stands = refl; since = tt; few = refl }) },
                refl,
              ),
            ),
          ),
        ),
      ),
    );
  };
  feeds = refl;
  base = refl;
  end = refl;
}

-- the arm of a row stops the node of a session
arms : ℕ → Option ℕ
arms count = if count == 1 then Some 1 else None

-- during the select, behind the arm
armed_there : IsArmed (from_nothing armed_row) (take 5 armed_row_report.lines) (drop 6 armed_row_report.lines) 1
armed_there = record {
  done = take 1 armed_row.body;
  arm = record { line = 6; act = act.Arm (codes "a") (moment.Row 1) };
  middle = [];
  next = record { line = 7; act = act.Say (codes "a") (codes "select * from t") };
  later = [];
  stands = refl;
  is_place = refl;
  session = codes "a";
  moment = moment.Row 1;
  is_arm = refl;
  text = codes "select * from t";
  is_next = refl;
  none_between = refl;
  earlier = numbered 1 (reply.Begin 1 ∷ reply.Changed 1 ∷ reply.Committed 2 ∷ []);
  part = numbered 2 (reply.Begin 2 ∷ row 1 10 ∷ []);
  told_before = refl;
  all_earlier = (reply.Begin 1 ∷ reply.Changed 1 ∷ reply.Committed 2 ∷ [], [], refl, inl refl, refl);
  left = numbered 2 (reply.Lost 2 1 ∷ []);
  others = [];
  told_after = refl;
  mine = reply.Begin 2 ∷ row 1 10 ∷ reply.Lost 2 1 ∷ [];
  its_piece = refl;
  is_piece = inl refl;
  side = refl;
}

one_armed : (count place : ℕ) → arms count ≡ Some place → (count ≡ 1) × (1 ≡ place)
unfolding arms
one_armed count place is = go (count == 1) refl is
  where
    go : (b : Bool) → (count == 1) ≡ b → (if b then Some 1 else None) ≡ Some place → (count ≡ 1) × (1 ≡ place)
    go true e same = (eqb-true count 1 e, let it : 1 ≡ place = cc in it)
    go false e same = absurd (let no_such : None ≡ Some place = same in cc)

pub armed_row_is_lawful : LawfulOfNodes (from_nothing armed_row) armed_row_report
unfolding arms
armed_row_is_lawful = record {
  replies = along_them (IsToldAlong (from_nothing armed_row) (view_of (from_nothing armed_row) armed_row_report.entries)) armed_row.body armed_row_report.lines
      (inl refl, (tt, (inl refl, tt))) (inl refl, (inl refl, (inl refl, (inl refl, (inl refl, (tt, (inl refl, tt)))))))
      (along_parts (IsToldAlong (from_nothing armed_row) (view_of (from_nothing armed_row) armed_row_report.entries) (codes "a")) (Does inserting ∷ Does selecting ∷ [])
      ((reply.Begin 1 ∷ reply.Changed 1 ∷ reply.Committed 2 ∷ []) ∷ (reply.Begin 2 ∷ row 1 10 ∷ reply.Lost 2 1 ∷ []) ∷ []) (
        inl (record { begin = 1; base = omega arith; within = omega arith; ran = _; is_ran = refl; last = reply.Committed 2 ∷ []; ends = tt; right = (record { later = omega arith; stands = refl; untouched = λ j after before. absurd (omega (arith, after, before)); is_good = good_insert }, tt); says = refl }),
        (inr (record { begin = 2; base = omega arith; within = omega arith; ran = _; is_ran = refl; front = reply.Begin 2 ∷ row 1 10 ∷ []; rest = reply.Done 1 ∷ []; fits = refl; cause = reply.Lost 2 1; is_cause = refl; may = inl (λ is. cc); says = refl }), tt),
      ))
      refl;
  begins = (
    fresh_begin (nothing_before (worked_table ∷ [])) _ (codes "a") 1 (omega arith) (omega arith) tt,
    (tt, (tt, (fresh_begin (nothing_before (worked_table ∷ [])) _ (codes "a") 2 (omega arith) (omega arith) ((omega arith, tt), (tt, ((omega arith, tt), tt))), (tt, (tt, (tt, tt)))))),
  );
  history = (
    (refl, refl, refl),
    (
      record {
        placed = refl;
        once = none_stands (from_nothing armed_row).origin (Setup 1 ∷ []) (codes "a") 1 (refl, tt);
        begun = (omega arith, omega arith, omega arith);
        transaction = inserting;
        is_its = refl;
        is_level = refl;
        ran = _;
        is_ran = refl;
        has_ops = λ is. cc;
        untouched = λ j after before. absurd (omega (arith, after, before));
        is_good = good_insert;
      },
      tt,
    ),
  );
  answered = (tt, (record { transaction = inserting; is_its = refl; within = omega arith; ran = _; is_ran = refl; outcome = reply.Committed 2; ends = inl refl; before = []; after = drop 3 (told (codes "a") armed_row_report.lines); says = refl }, tt));
  places = (
    tt,
    (
      tt,
      (
        tt,
        (
          tt,
          (
            tt,
            (
              record { counted = refl; of_script = (omega arith, omega arith); was_up = λ stop. refl },
              (
                (refl, record { fault = false; front = take 5 armed_row_report.lines; back = []; stands = refl; since = tt; begin = 2; begun = (take 3 armed_row_report.lines, line.Session (codes "a") 2 (row 1 10) ∷ line.Down 1 2 false ∷ [], refl); once = (refl, (refl, (refl, (refl, (refl, tt))))) }),
                tt,
              ),
            ),
          ),
        ),
      ),
    ),
  );
  operator = record {
    arms = arms;
    armed = λ before after count node place stands arm.
        (let parts = only_down (take 5 armed_row_report.lines) (drop 6 armed_row_report.lines) before after 1 2 count node false false (tt, (tt, (tt, (tt, (tt, tt))))) (tt, tt) stands in
        subst (λ (k : ℕ). IsArmed (from_nothing armed_row) before after k) (one_armed count place arm).1
        (subst (λ (ls : List Line). IsArmed (from_nothing armed_row) ls after 1) parts.0 (subst (λ (ls : List Line). IsArmed (from_nothing armed_row) (take 5 armed_row_report.lines) ls 1) parts.1 armed_there)));
    apart = λ count other place arm again. (one_armed count place arm).0 ∙ sym (one_armed other place again).0;
    heeded = ([], armed_row_report.lines, refl, refl, ([], armed_row_report.lines, refl, refl, ([], armed_row_report.lines, refl, refl, refl)));
  };
  feeds = refl;
  base = refl;
  end = refl;
}
