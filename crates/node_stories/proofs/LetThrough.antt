-- Two reports that are lawful and in the order of play, and that no history has.
use Rattle.std.proofs.Common.{◌≡◌, [], ◌∷◌, refl, arith, codes, inl, inr, false, take, drop}
use Rattle.cdb_values.specs.declared.replies.Reply.TheVariants as reply
use Rattle.cdb_values.specs.declared.rows.Level.TheVariants.{Snapshot}
use Rattle.report_laws.specs.History.{nothing_before, view_of}
use Rattle.report_laws.specs.Told.{told, numbered}
use Rattle.report_laws.specs.Work.{transaction, Does, WithItsLine}
use Rattle.report_text.specs.declared.reports.EntryLine.TheVariants.{Setup}
use Rattle.report_text.specs.declared.reports.Line.TheVariants as line
use Rattle.report_worked.specs.Small.{from_nothing}
use Rattle.report_worked.specs.Worked.{worked_table, row, of_a, of_b}
use Rattle.report_worked.proofs.InsertSelectLemmas.{good_insert}
use Rattle.report_worked.proofs.WorkedLemmas.{along_parts}
use Rattle.script_form.specs.declared.scripts.Act.TheVariants as act
use Rattle.script_form.specs.declared.scripts.Moment.TheVariants as moment
use Rattle.node_reports.specs.Lawful.{LawfulOfNodes}
use Rattle.node_reports.specs.Operator.{IsArmed}
use Rattle.node_reports.specs.Told.{IsToldAlong}
use Rattle.node_reports.specs.Order.{InNodesOrder}
use Rattle.node_stories.specs.StoriesWrong.{stops_a_replica, stops_a_replica_report, unshipped_stands, unshipped_stands_report}
use Rattle.node_stories.proofs.LawfulForm.{armed_by, armed_story, entered, heard, next_entry, one_apart, one_arm, told_cut, told_whole}
use Rattle.node_stories.proofs.StoryLemmas.{answers, armed, no_fault, no_true, plain}

pub stops_a_replica_is_in_order : InNodesOrder (from_nothing stops_a_replica) stops_a_replica_report
stops_a_replica_is_in_order = record {
  first = [];
  go_down = tt;
  opening = Setup 1 ∷ [];
  opened = (refl, refl, refl, refl, inl refl);
  rest = line.Session (codes "b") 1 (reply.Begin 1) ∷ line.Session (codes "b") 1 (reply.Changed 1) ∷ line.Down 1 2 false ∷ line.Session (codes "b") 1 (reply.Committed 2) ∷ [];
  lines_are = refl;
  later = of_b 2 1 1 ∷ [];
  entries_are = refl;
  order = (
    [],
    line.Session (codes "b") 1 (reply.Begin 1) ∷ line.Session (codes "b") 1 (reply.Changed 1) ∷ line.Down 1 2 false ∷ line.Session (codes "b") 1 (reply.Committed 2) ∷ [],
    [],
    of_b 2 1 1 ∷ [],
    refl,
    refl,
    (refl, refl),
    (
      line.Session (codes "b") 1 (reply.Begin 1) ∷ line.Session (codes "b") 1 (reply.Changed 1) ∷ line.Down 1 2 false ∷ line.Session (codes "b") 1 (reply.Committed 2) ∷ [],
      [],
      of_b 2 1 1 ∷ [],
      [],
      refl,
      refl,
      armed refl (answers refl (inr refl) refl refl refl refl refl, (answers refl (inr refl) refl refl tt refl refl, (record { counted = refl; of_script = (omega arith, omega arith); was_up = refl; cause = inl (record { at_commit = refl; uncut = refl; kept = inl refl; majority = refl; changes = record { transaction = transaction 1 (codes "insert into t values(1, 10)" ∷ []) Snapshot WithItsLine; is_its = refl; begin = 1; begun = ([], (line.Session (codes "b") 1 (reply.Changed 1) ∷ []), refl); has_ops = λ is. cc }; by = inr (omega arith) }) }, ((refl, refl, refl, inr (inr (inr (record { kept = record { kept = refl; unstopped = inl refl }; majority = refl; unsent = λ e. no_true false refl e; sent = λ e. refl; timely = (omega arith) })))), tt)))) (refl, 1, Snapshot, refl, inl (reply.Begin 1 ∷ reply.Changed 1 ∷ [], [], refl)) (record { transaction = transaction 1 (codes "insert into t values(1, 10)" ∷ []) Snapshot WithItsLine; is_its = refl; begin = 1; begun = ([], (line.Session (codes "b") 1 (reply.Changed 1) ∷ line.Down 1 2 false ∷ line.Session (codes "b") 1 (reply.Committed 2) ∷ []), refl); ran = _; is_ran = refl; untouched = λ j after before. absurd (omega (arith, after, before)); unbroken = refl }) (λ none. absurd (let no_such : 1 ≡ 0 = none in omega (arith, no_such))) (omega arith) (omega arith),
      (refl, refl),
    ),
  );
}

-- the arm fires during the session's next line
stops_a_replica_arm : IsArmed (from_nothing stops_a_replica) (take 2 stops_a_replica_report.lines) (drop 3 stops_a_replica_report.lines) 0
stops_a_replica_arm = record {
  done = take 0 stops_a_replica.body;
  arm = record { line = 5; act = act.Arm (codes "b") moment.Append };
  middle = [];
  next = record { line = 6; act = act.Say (codes "b") (codes "insert into t values(1, 10)") };
  later = drop 2 stops_a_replica.body;
  stands = refl;
  is_place = refl;
  session = codes "b";
  moment = moment.Append;
  is_arm = refl;
  text = codes "insert into t values(1, 10)";
  is_next = refl;
  none_between = refl;
  earlier = [];
  part = numbered 1 (reply.Begin 1 ∷ reply.Changed 1 ∷ []);
  told_before = refl;
  all_earlier = refl;
  left = numbered 1 (reply.Committed 2 ∷ []);
  others = [];
  told_after = refl;
  mine = reply.Begin 1 ∷ reply.Changed 1 ∷ reply.Committed 2 ∷ [];
  its_piece = refl;
  is_piece = inl refl;
  side = refl;
}

pub stops_a_replica_is_lawful : LawfulOfNodes (from_nothing stops_a_replica) stops_a_replica_report
stops_a_replica_is_lawful = armed_story stops_a_replica (nothing_before (worked_table ∷ [])) stops_a_replica_report (one_arm 1 0) (0 ∷ 0 ∷ []) refl refl
    refl
    (along_parts (IsToldAlong (from_nothing stops_a_replica) (view_of (from_nothing stops_a_replica) stops_a_replica_report.entries) (codes "b")) (Does (transaction 1 (codes "insert into t values(1, 10)" ∷ []) Snapshot WithItsLine) ∷ []) ((reply.Begin 1 ∷ reply.Changed 1 ∷ reply.Committed 2 ∷ []) ∷ []) (told_whole 1 (reply.Committed 2) (omega arith) (omega arith) tt (entered refl good_insert) refl, tt))
    ((refl, refl, refl), (next_entry (from_nothing stops_a_replica) (Setup 1 ∷ []) (codes "b") (transaction 1 (codes "insert into t values(1, 10)" ∷ []) Snapshot WithItsLine) (omega arith) refl (refl, tt) (λ is. cc) good_insert, tt))
    (tt, (heard (transaction 1 (codes "insert into t values(1, 10)" ∷ []) Snapshot WithItsLine) (reply.Committed 2) (take 0 (told (codes "b") stops_a_replica_report.lines)) (drop 3 (told (codes "b") stops_a_replica_report.lines)) refl (omega arith) (inl refl) refl, tt))
    ((armed_by (λ k. IsArmed (from_nothing stops_a_replica) (take 2 stops_a_replica_report.lines) (drop 3 stops_a_replica_report.lines) k) 0 stops_a_replica_arm), tt) (one_apart 1 0) refl refl refl refl

pub unshipped_stands_is_in_order : InNodesOrder (from_nothing unshipped_stands) unshipped_stands_report
unshipped_stands_is_in_order = record {
  first = [];
  go_down = tt;
  opening = Setup 1 ∷ [];
  opened = (refl, refl, refl, refl, inl refl);
  rest = line.Session (codes "a") 1 (reply.Begin 1) ∷ line.Session (codes "a") 1 (reply.Changed 1) ∷ line.Down 1 1 false ∷ line.Session (codes "a") 1 (reply.Lost 1 1) ∷ line.Session (codes "a") 2 (reply.Begin 2) ∷ line.Session (codes "a") 2 (row 1 10) ∷ line.Session (codes "a") 2 (reply.Done 1) ∷ line.Session (codes "a") 2 (reply.Committed 2) ∷ [];
  lines_are = refl;
  later = of_a 2 1 1 ∷ [];
  entries_are = refl;
  order = (
    [],
    line.Session (codes "a") 1 (reply.Begin 1) ∷ line.Session (codes "a") 1 (reply.Changed 1) ∷ line.Down 1 1 false ∷ line.Session (codes "a") 1 (reply.Lost 1 1) ∷ line.Session (codes "a") 2 (reply.Begin 2) ∷ line.Session (codes "a") 2 (row 1 10) ∷ line.Session (codes "a") 2 (reply.Done 1) ∷ line.Session (codes "a") 2 (reply.Committed 2) ∷ [],
    [],
    of_a 2 1 1 ∷ [],
    refl,
    refl,
    (refl, refl),
    (
      line.Session (codes "a") 1 (reply.Begin 1) ∷ line.Session (codes "a") 1 (reply.Changed 1) ∷ line.Down 1 1 false ∷ line.Session (codes "a") 1 (reply.Lost 1 1) ∷ [],
      line.Session (codes "a") 2 (reply.Begin 2) ∷ line.Session (codes "a") 2 (row 1 10) ∷ line.Session (codes "a") 2 (reply.Done 1) ∷ line.Session (codes "a") 2 (reply.Committed 2) ∷ [],
      of_a 2 1 1 ∷ [],
      [],
      refl,
      refl,
      armed refl (answers refl (inr refl) refl refl refl refl refl, (answers refl (inr refl) refl refl tt refl refl, (record { counted = refl; of_script = (omega arith, omega arith); was_up = refl; cause = inl (record { at_commit = refl; uncut = refl; kept = inl refl; majority = refl; changes = record { transaction = transaction 1 (codes "insert into t values(1, 10)" ∷ []) Snapshot WithItsLine; is_its = refl; begin = 1; begun = ([], (line.Session (codes "a") 1 (reply.Changed 1) ∷ []), refl); has_ops = λ is. cc }; by = inr (omega arith) }) }, ((refl, refl, refl, inr (inl (record { kept = refl; stays = refl; at_commit = refl; node = 1; down = 1; fault = false; fell = (line.Session (codes "a") 1 (reply.Begin 1) ∷ line.Session (codes "a") 1 (reply.Changed 1) ∷ [], [], refl); says = inl refl }))), tt)))) (refl, 1, Snapshot, refl, inr (record { at_commit = refl; fell = (_ ∷ _ ∷ [], _, _, _, _, refl, refl); cut = refl; comes_up = λ front back count node is none. absurd (no_fault _ front back count node refl is) })) (record { transaction = transaction 1 (codes "insert into t values(1, 10)" ∷ []) Snapshot WithItsLine; is_its = refl; begin = 1; begun = ([], (line.Session (codes "a") 1 (reply.Changed 1) ∷ line.Down 1 1 false ∷ line.Session (codes "a") 1 (reply.Lost 1 1) ∷ []), refl); ran = _; is_ran = refl; untouched = λ j after before. absurd (omega (arith, after, before)); unbroken = refl }) (λ none. absurd (let no_such : 1 ≡ 0 = none in omega (arith, no_such))) (omega arith) (omega arith),
      (
        line.Session (codes "a") 2 (reply.Begin 2) ∷ line.Session (codes "a") 2 (row 1 10) ∷ line.Session (codes "a") 2 (reply.Done 1) ∷ line.Session (codes "a") 2 (reply.Committed 2) ∷ [],
        [],
        [],
        [],
        refl,
        refl,
        plain refl (answers refl (inr refl) refl refl refl refl refl, (answers refl (inr refl) refl refl tt refl refl, (answers refl (inr refl) refl refl tt refl refl, (answers refl (inr refl) refl refl (omega arith) refl refl, tt)))) tt refl,
        (refl, refl),
      ),
    ),
  );
}

-- the arm fires during the session's next line
unshipped_stands_arm : IsArmed (from_nothing unshipped_stands) (take 2 unshipped_stands_report.lines) (drop 3 unshipped_stands_report.lines) 0
unshipped_stands_arm = record {
  done = take 0 unshipped_stands.body;
  arm = record { line = 5; act = act.Arm (codes "a") moment.Append };
  middle = [];
  next = record { line = 6; act = act.Say (codes "a") (codes "insert into t values(1, 10)") };
  later = drop 2 unshipped_stands.body;
  stands = refl;
  is_place = refl;
  session = codes "a";
  moment = moment.Append;
  is_arm = refl;
  text = codes "insert into t values(1, 10)";
  is_next = refl;
  none_between = refl;
  earlier = [];
  part = numbered 1 (reply.Begin 1 ∷ reply.Changed 1 ∷ []);
  told_before = refl;
  all_earlier = refl;
  left = numbered 1 (reply.Lost 1 1 ∷ []);
  others = numbered 2 (reply.Begin 2 ∷ row 1 10 ∷ reply.Done 1 ∷ reply.Committed 2 ∷ []);
  told_after = refl;
  mine = reply.Begin 1 ∷ reply.Changed 1 ∷ reply.Lost 1 1 ∷ [];
  its_piece = refl;
  is_piece = inl refl;
  side = refl;
}

pub unshipped_stands_is_lawful : LawfulOfNodes (from_nothing unshipped_stands) unshipped_stands_report
unshipped_stands_is_lawful = armed_story unshipped_stands (nothing_before (worked_table ∷ [])) unshipped_stands_report (one_arm 1 0) (0 ∷ 0 ∷ 0 ∷ []) refl refl
    (along_parts (IsToldAlong (from_nothing unshipped_stands) (view_of (from_nothing unshipped_stands) unshipped_stands_report.entries) (codes "a")) (Does (transaction 1 (codes "insert into t values(1, 10)" ∷ []) Snapshot WithItsLine) ∷ Does (transaction 2 (codes "select * from t" ∷ []) Snapshot WithItsLine) ∷ []) ((reply.Begin 1 ∷ reply.Changed 1 ∷ reply.Lost 1 1 ∷ []) ∷ (reply.Begin 2 ∷ row 1 10 ∷ reply.Done 1 ∷ reply.Committed 2 ∷ []) ∷ []) (told_cut 1 (reply.Begin 1 ∷ reply.Changed 1 ∷ []) ([]) (reply.Lost 1 1) (omega arith) (omega arith) refl refl (inl (λ is. cc)) refl, (told_whole 2 (reply.Committed 2) (omega arith) (omega arith) tt refl refl, tt)))
    refl
    ((refl, refl, refl), (next_entry (from_nothing unshipped_stands) (Setup 1 ∷ []) (codes "a") (transaction 1 (codes "insert into t values(1, 10)" ∷ []) Snapshot WithItsLine) (omega arith) refl (refl, tt) (λ is. cc) good_insert, tt))
    (tt, (heard (transaction 1 (codes "insert into t values(1, 10)" ∷ []) Snapshot WithItsLine) (reply.Lost 1 1) (take 0 (told (codes "a") unshipped_stands_report.lines)) (drop 3 (told (codes "a") unshipped_stands_report.lines)) refl (omega arith) (inr (refl, tt)) refl, tt))
    ((armed_by (λ k. IsArmed (from_nothing unshipped_stands) (take 2 unshipped_stands_report.lines) (drop 3 unshipped_stands_report.lines) k) 0 unshipped_stands_arm), tt) (one_apart 1 0) refl refl refl refl
