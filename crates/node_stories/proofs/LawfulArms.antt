-- Stories of arms are lawful.
use Rattle.std.proofs.Common.{[], ◌∷◌, ◌++◌, refl, arith, codes, inl, inr, take, drop}
use Rattle.cdb_values.specs.declared.replies.Reply.TheVariants as reply
use Rattle.cdb_values.specs.declared.rows.Level.TheVariants.{Snapshot}
use Rattle.report_laws.specs.History.{nothing_before, view_of}
use Rattle.report_laws.specs.Told.{told, numbered}
use Rattle.report_laws.specs.Work.{transaction, Does, WithItsLine}
use Rattle.report_text.specs.declared.reports.EntryLine.TheVariants.{Setup}
use Rattle.report_worked.specs.Small.{from_nothing}
use Rattle.report_worked.specs.Worked.{worked_table, row, of_a}
use Rattle.report_worked.proofs.InsertSelectLemmas.{good_insert}
use Rattle.report_worked.proofs.WorkedLemmas.{along_parts}
use Rattle.script_form.specs.declared.scripts.Act.TheVariants as act
use Rattle.script_form.specs.declared.scripts.Moment.TheVariants as moment
use Rattle.node_reports.specs.Lawful.{LawfulOfNodes}
use Rattle.node_reports.specs.Operator.{IsArmed}
use Rattle.node_reports.specs.Told.{IsToldAlong}
use Rattle.node_stories.specs.Stories.{armed_row_survives, armed_row_survives_report, armed_append, armed_append_report, shipped, shipped_report, lost_stands, lost_stands_report, falls_and_stops, falls_and_stops_report, sent_again, sent_again_report}
use Rattle.node_stories.proofs.HeardLemmas.{never_armed}
use Rattle.node_stories.proofs.LawfulForm.{armed_by, armed_story, entered, good_two, heard, next_entry, one_apart, one_arm, told_cut, told_whole}

-- the arm fires during the session's next line
armed_row_survives_arm : IsArmed (from_nothing armed_row_survives) (take 5 armed_row_survives_report.lines) (drop 6 armed_row_survives_report.lines) 1
armed_row_survives_arm = record {
  done = take 1 armed_row_survives.body;
  arm = record { line = 6; act = act.Arm (codes "b") (moment.Row 1) };
  middle = [];
  next = record { line = 7; act = act.Say (codes "b") (codes "select * from t") };
  later = drop 3 armed_row_survives.body;
  stands = refl;
  is_place = refl;
  session = codes "b";
  moment = moment.Row 1;
  is_arm = refl;
  text = codes "select * from t";
  is_next = refl;
  none_between = refl;
  earlier = [];
  part = numbered 1 (reply.Begin 2 ∷ row 1 10 ∷ []);
  told_before = refl;
  all_earlier = refl;
  left = numbered 1 (reply.Done 1 ∷ reply.Committed 2 ∷ []);
  others = numbered 2 (reply.Begin 2 ∷ row 1 10 ∷ reply.Done 1 ∷ reply.Committed 2 ∷ []);
  told_after = refl;
  mine = reply.Begin 2 ∷ row 1 10 ∷ reply.Done 1 ∷ reply.Committed 2 ∷ [];
  its_piece = refl;
  is_piece = inl refl;
  side = refl;
}

pub armed_row_survives_is_lawful : LawfulOfNodes (from_nothing armed_row_survives) armed_row_survives_report
armed_row_survives_is_lawful = armed_story armed_row_survives (nothing_before (worked_table ∷ [])) armed_row_survives_report (one_arm 1 1) (0 ∷ 0 ∷ 0 ∷ 0 ∷ []) refl refl
    (along_parts (IsToldAlong (from_nothing armed_row_survives) (view_of (from_nothing armed_row_survives) armed_row_survives_report.entries) (codes "a")) (Does (transaction 1 (codes "insert into t values(1, 10)" ∷ []) Snapshot WithItsLine) ∷ []) ((reply.Begin 1 ∷ reply.Changed 1 ∷ reply.Committed 2 ∷ []) ∷ []) (told_whole 1 (reply.Committed 2) (omega arith) (omega arith) tt (entered refl good_insert) refl, tt))
    (along_parts (IsToldAlong (from_nothing armed_row_survives) (view_of (from_nothing armed_row_survives) armed_row_survives_report.entries) (codes "b")) (Does (transaction 1 (codes "select * from t" ∷ []) Snapshot WithItsLine) ∷ Does (transaction 2 (codes "select * from t" ∷ []) Snapshot WithItsLine) ∷ []) ((reply.Begin 2 ∷ row 1 10 ∷ reply.Done 1 ∷ reply.Committed 2 ∷ []) ∷ (reply.Begin 2 ∷ row 1 10 ∷ reply.Done 1 ∷ reply.Committed 2 ∷ []) ∷ []) (told_whole 2 (reply.Committed 2) (omega arith) (omega arith) tt refl refl, (told_whole 2 (reply.Committed 2) (omega arith) (omega arith) tt refl refl, tt)))
    ((refl, refl, refl), (next_entry (from_nothing armed_row_survives) (Setup 1 ∷ []) (codes "a") (transaction 1 (codes "insert into t values(1, 10)" ∷ []) Snapshot WithItsLine) (omega arith) refl (refl, tt) (λ is. cc) good_insert, tt))
    (tt, (heard (transaction 1 (codes "insert into t values(1, 10)" ∷ []) Snapshot WithItsLine) (reply.Committed 2) (take 0 (told (codes "a") armed_row_survives_report.lines)) (drop 3 (told (codes "a") armed_row_survives_report.lines)) refl (omega arith) (inl refl) refl, tt))
    ((armed_by (λ k. IsArmed (from_nothing armed_row_survives) (take 5 armed_row_survives_report.lines) (drop 6 armed_row_survives_report.lines) k) 1 armed_row_survives_arm), tt) (one_apart 1 1) refl refl refl refl

-- the arm fires during the session's next line
armed_append_arm : IsArmed (from_nothing armed_append) (take 2 armed_append_report.lines) (drop 3 armed_append_report.lines) 0
armed_append_arm = record {
  done = take 0 armed_append.body;
  arm = record { line = 5; act = act.Arm (codes "a") moment.Append };
  middle = [];
  next = record { line = 6; act = act.Say (codes "a") (codes "insert into t values(1, 10)") };
  later = drop 2 armed_append.body;
  stands = refl;
  is_place = refl;
  session = codes "a";
  moment = moment.Append;
  is_arm = refl;
  text = codes "insert into t values(1, 10)";
  is_next = refl;
  none_between = refl;
  earlier = [];
  part = numbered 1 (reply.Begin 1 ∷ reply.Changed 1 ∷ []);
  told_before = refl;
  all_earlier = refl;
  left = numbered 1 (reply.Lost 1 1 ∷ []);
  others = numbered 2 (reply.NoMajority 0 1 ∷ []);
  told_after = refl;
  mine = reply.Begin 1 ∷ reply.Changed 1 ∷ reply.Lost 1 1 ∷ [];
  its_piece = refl;
  is_piece = inl refl;
  side = refl;
}

pub armed_append_is_lawful : LawfulOfNodes (from_nothing armed_append) armed_append_report
armed_append_is_lawful = armed_story armed_append (nothing_before (worked_table ∷ [])) armed_append_report (one_arm 1 0) (0 ∷ 0 ∷ 0 ∷ []) refl refl
    (along_parts (IsToldAlong (from_nothing armed_append) (view_of (from_nothing armed_append) armed_append_report.entries) (codes "a")) (Does (transaction 1 (codes "insert into t values(1, 10)" ∷ []) Snapshot WithItsLine) ∷ Does (transaction 2 (codes "select * from t" ∷ []) Snapshot WithItsLine) ∷ []) ((reply.Begin 1 ∷ reply.Changed 1 ∷ reply.Lost 1 1 ∷ []) ∷ (reply.NoMajority 0 1 ∷ []) ∷ []) (told_cut 1 (reply.Begin 1 ∷ reply.Changed 1 ∷ []) ([]) (reply.Lost 1 1) (omega arith) (omega arith) refl refl (inl (λ is. cc)) refl, (told_cut 1 ([]) (reply.Begin 1 ∷ reply.Done 0 ∷ []) (reply.NoMajority 0 1) (omega arith) (omega arith) refl refl (inl (inl refl)) refl, tt)))
    refl
    ((refl, refl, refl), (next_entry (from_nothing armed_append) (Setup 1 ∷ []) (codes "a") (transaction 1 (codes "insert into t values(1, 10)" ∷ []) Snapshot WithItsLine) (omega arith) refl (refl, tt) (λ is. cc) good_insert, tt))
    (tt, (heard (transaction 1 (codes "insert into t values(1, 10)" ∷ []) Snapshot WithItsLine) (reply.Lost 1 1) (take 0 (told (codes "a") armed_append_report.lines)) (drop 3 (told (codes "a") armed_append_report.lines)) refl (omega arith) (inr (refl, tt)) refl, tt))
    ((armed_by (λ k. IsArmed (from_nothing armed_append) (take 2 armed_append_report.lines) (drop 3 armed_append_report.lines) k) 0 armed_append_arm), tt) (one_apart 1 0) refl refl refl refl

-- the arm fires during the session's next line
shipped_arm : IsArmed (from_nothing shipped) (take 3 shipped_report.lines) (drop 4 shipped_report.lines) 1
shipped_arm = record {
  done = take 1 shipped.body;
  arm = record { line = 6; act = act.Arm (codes "b") moment.Ship };
  middle = [];
  next = record { line = 7; act = act.Say (codes "b") (codes "insert into t values(1, 10)") };
  later = drop 3 shipped.body;
  stands = refl;
  is_place = refl;
  session = codes "b";
  moment = moment.Ship;
  is_arm = refl;
  text = codes "insert into t values(1, 10)";
  is_next = refl;
  none_between = refl;
  earlier = [];
  part = numbered 1 (reply.Begin 1 ∷ reply.Changed 1 ∷ []);
  told_before = refl;
  all_earlier = refl;
  left = numbered 1 (reply.NoMajority 1 3 ∷ []);
  others = numbered 2 (reply.NoMajority 1 3 ∷ []) ++ numbered 3 (reply.Begin 2 ∷ row 1 10 ∷ reply.Done 1 ∷ reply.Committed 2 ∷ []);
  told_after = refl;
  mine = reply.Begin 1 ∷ reply.Changed 1 ∷ reply.NoMajority 1 3 ∷ [];
  its_piece = refl;
  is_piece = inl refl;
  side = refl;
}

pub shipped_is_lawful : LawfulOfNodes (from_nothing shipped) shipped_report
shipped_is_lawful = armed_story shipped (nothing_before (worked_table ∷ [])) shipped_report (one_arm 2 1) (1 ∷ 0 ∷ 0 ∷ 0 ∷ 6 ∷ 0 ∷ []) refl refl
    refl
    (along_parts (IsToldAlong (from_nothing shipped) (view_of (from_nothing shipped) shipped_report.entries) (codes "b")) (Does (transaction 1 (codes "insert into t values(1, 10)" ∷ []) Snapshot WithItsLine) ∷ Does (transaction 2 (codes "select * from t" ∷ []) Snapshot WithItsLine) ∷ Does (transaction 3 (codes "select * from t" ∷ []) Snapshot WithItsLine) ∷ []) ((reply.Begin 1 ∷ reply.Changed 1 ∷ reply.NoMajority 1 3 ∷ []) ∷ (reply.NoMajority 1 3 ∷ []) ∷ (reply.Begin 2 ∷ row 1 10 ∷ reply.Done 1 ∷ reply.Committed 2 ∷ []) ∷ []) (told_cut 1 (reply.Begin 1 ∷ reply.Changed 1 ∷ []) ([]) (reply.NoMajority 1 3) (omega arith) (omega arith) refl refl (inl (inr (refl, (λ is. cc), tt))) refl, (told_cut 1 ([]) (reply.Begin 1 ∷ reply.Done 0 ∷ []) (reply.NoMajority 1 3) (omega arith) (omega arith) refl refl (inl (inl refl)) refl, (told_whole 2 (reply.Committed 2) (omega arith) (omega arith) tt refl refl, tt))))
    ((refl, refl, refl), (next_entry (from_nothing shipped) (Setup 1 ∷ []) (codes "b") (transaction 1 (codes "insert into t values(1, 10)" ∷ []) Snapshot WithItsLine) (omega arith) refl (refl, tt) (λ is. cc) good_insert, tt))
    (tt, (heard (transaction 1 (codes "insert into t values(1, 10)" ∷ []) Snapshot WithItsLine) (reply.NoMajority 1 3) (take 0 (told (codes "b") shipped_report.lines)) (drop 3 (told (codes "b") shipped_report.lines)) refl (omega arith) (inr (refl, tt)) refl, tt))
    ((λ place is. never_armed place is), ((armed_by (λ k. IsArmed (from_nothing shipped) (take 3 shipped_report.lines) (drop 4 shipped_report.lines) k) 1 shipped_arm), tt)) (one_apart 2 1) refl refl refl refl

-- the arm fires during the session's next line
lost_stands_arm : IsArmed (from_nothing lost_stands) (take 6 lost_stands_report.lines) (drop 7 lost_stands_report.lines) 2
lost_stands_arm = record {
  done = take 2 lost_stands.body;
  arm = record { line = 7; act = act.Arm (codes "a") moment.Append };
  middle = [];
  next = record { line = 8; act = act.Say (codes "a") (codes "insert into t values(2, 20)") };
  later = drop 4 lost_stands.body;
  stands = refl;
  is_place = refl;
  session = codes "a";
  moment = moment.Append;
  is_arm = refl;
  text = codes "insert into t values(2, 20)";
  is_next = refl;
  none_between = refl;
  earlier = numbered 1 (reply.Begin 1 ∷ reply.Changed 1 ∷ reply.Committed 2 ∷ []);
  part = numbered 2 (reply.Begin 2 ∷ reply.Changed 1 ∷ []);
  told_before = refl;
  all_earlier = (reply.Begin 1 ∷ reply.Changed 1 ∷ reply.Committed 2 ∷ [], [], refl, inl refl, refl);
  left = numbered 2 (reply.Lost 1 2 ∷ []);
  others = numbered 3 (reply.Begin 3 ∷ row 1 10 ∷ row 2 20 ∷ reply.Done 2 ∷ reply.Committed 3 ∷ []);
  told_after = refl;
  mine = reply.Begin 2 ∷ reply.Changed 1 ∷ reply.Lost 1 2 ∷ [];
  its_piece = refl;
  is_piece = inl refl;
  side = refl;
}

pub lost_stands_is_lawful : LawfulOfNodes (from_nothing lost_stands) lost_stands_report
lost_stands_is_lawful = armed_story lost_stands (nothing_before (worked_table ∷ [])) lost_stands_report (one_arm 2 2) (0 ∷ 4 ∷ 0 ∷ 0 ∷ 5 ∷ 0 ∷ []) refl refl
    (along_parts (IsToldAlong (from_nothing lost_stands) (view_of (from_nothing lost_stands) lost_stands_report.entries) (codes "a")) (Does (transaction 1 (codes "insert into t values(1, 10)" ∷ []) Snapshot WithItsLine) ∷ Does (transaction 2 (codes "insert into t values(2, 20)" ∷ []) Snapshot WithItsLine) ∷ Does (transaction 3 (codes "select * from t" ∷ []) Snapshot WithItsLine) ∷ []) ((reply.Begin 1 ∷ reply.Changed 1 ∷ reply.Committed 2 ∷ []) ∷ (reply.Begin 2 ∷ reply.Changed 1 ∷ reply.Lost 1 2 ∷ []) ∷ (reply.Begin 3 ∷ row 1 10 ∷ row 2 20 ∷ reply.Done 2 ∷ reply.Committed 3 ∷ []) ∷ []) (told_whole 1 (reply.Committed 2) (omega arith) (omega arith) tt (entered refl good_insert) refl, (told_cut 2 (reply.Begin 2 ∷ reply.Changed 1 ∷ []) ([]) (reply.Lost 1 2) (omega arith) (omega arith) refl refl (inl (λ is. cc)) refl, (told_whole 3 (reply.Committed 3) (omega arith) (omega arith) tt refl refl, tt))))
    refl
    ((refl, refl, refl), (next_entry (from_nothing lost_stands) (Setup 1 ∷ []) (codes "a") (transaction 1 (codes "insert into t values(1, 10)" ∷ []) Snapshot WithItsLine) (omega arith) refl (refl, tt) (λ is. cc) good_insert, (next_entry (from_nothing lost_stands) (Setup 1 ∷ of_a 2 1 1 ∷ []) (codes "a") (transaction 2 (codes "insert into t values(2, 20)" ∷ []) Snapshot WithItsLine) (omega arith) refl (refl, (refl, tt)) (λ is. cc) good_two, tt)))
    (tt, (heard (transaction 1 (codes "insert into t values(1, 10)" ∷ []) Snapshot WithItsLine) (reply.Committed 2) (take 0 (told (codes "a") lost_stands_report.lines)) (drop 3 (told (codes "a") lost_stands_report.lines)) refl (omega arith) (inl refl) refl, (heard (transaction 2 (codes "insert into t values(2, 20)" ∷ []) Snapshot WithItsLine) (reply.Lost 1 2) (take 3 (told (codes "a") lost_stands_report.lines)) (drop 6 (told (codes "a") lost_stands_report.lines)) refl (omega arith) (inr (refl, tt)) refl, tt)))
    ((λ place is. never_armed place is), ((armed_by (λ k. IsArmed (from_nothing lost_stands) (take 6 lost_stands_report.lines) (drop 7 lost_stands_report.lines) k) 2 lost_stands_arm), tt)) (one_apart 2 2) refl refl refl refl

-- the arm fires during the session's next line
falls_and_stops_arm : IsArmed (from_nothing falls_and_stops) (take 3 falls_and_stops_report.lines) (drop 4 falls_and_stops_report.lines) 0
falls_and_stops_arm = record {
  done = take 0 falls_and_stops.body;
  arm = record { line = 5; act = act.Arm (codes "a") moment.Ship };
  middle = [];
  next = record { line = 6; act = act.Say (codes "a") (codes "insert into t values(1, 10)") };
  later = drop 2 falls_and_stops.body;
  stands = refl;
  is_place = refl;
  session = codes "a";
  moment = moment.Ship;
  is_arm = refl;
  text = codes "insert into t values(1, 10)";
  is_next = refl;
  none_between = refl;
  earlier = [];
  part = numbered 1 (reply.Begin 1 ∷ reply.Changed 1 ∷ []);
  told_before = refl;
  all_earlier = refl;
  left = numbered 1 (reply.Lost 3 1 ∷ []);
  others = [];
  told_after = refl;
  mine = reply.Begin 1 ∷ reply.Changed 1 ∷ reply.Lost 3 1 ∷ [];
  its_piece = refl;
  is_piece = inl refl;
  side = refl;
}

pub falls_and_stops_is_lawful : LawfulOfNodes (from_nothing falls_and_stops) falls_and_stops_report
falls_and_stops_is_lawful = armed_story falls_and_stops (nothing_before (worked_table ∷ [])) falls_and_stops_report (one_arm 2 0) (0 ∷ 0 ∷ []) refl refl
    (along_parts (IsToldAlong (from_nothing falls_and_stops) (view_of (from_nothing falls_and_stops) falls_and_stops_report.entries) (codes "a")) (Does (transaction 1 (codes "insert into t values(1, 10)" ∷ []) Snapshot WithItsLine) ∷ []) ((reply.Begin 1 ∷ reply.Changed 1 ∷ reply.Lost 3 1 ∷ []) ∷ []) (told_cut 1 (reply.Begin 1 ∷ reply.Changed 1 ∷ []) ([]) (reply.Lost 3 1) (omega arith) (omega arith) refl refl (inl (λ is. cc)) refl, tt))
    refl
    ((refl, refl, refl), (next_entry (from_nothing falls_and_stops) (Setup 1 ∷ []) (codes "a") (transaction 1 (codes "insert into t values(1, 10)" ∷ []) Snapshot WithItsLine) (omega arith) refl (refl, tt) (λ is. cc) good_insert, tt))
    (tt, (heard (transaction 1 (codes "insert into t values(1, 10)" ∷ []) Snapshot WithItsLine) (reply.Lost 3 1) (take 0 (told (codes "a") falls_and_stops_report.lines)) (drop 3 (told (codes "a") falls_and_stops_report.lines)) refl (omega arith) (inr (refl, tt)) refl, tt))
    ((armed_by (λ k. IsArmed (from_nothing falls_and_stops) (take 3 falls_and_stops_report.lines) (drop 4 falls_and_stops_report.lines) k) 0 falls_and_stops_arm), tt) (one_apart 2 0) refl refl refl refl

-- the arm fires during the session's next line
sent_again_arm : IsArmed (from_nothing sent_again) (take 2 sent_again_report.lines) (drop 3 sent_again_report.lines) 0
sent_again_arm = record {
  done = take 0 sent_again.body;
  arm = record { line = 5; act = act.Arm (codes "b") moment.Append };
  middle = [];
  next = record { line = 6; act = act.Say (codes "b") (codes "insert into t values(1, 10)") };
  later = drop 2 sent_again.body;
  stands = refl;
  is_place = refl;
  session = codes "b";
  moment = moment.Append;
  is_arm = refl;
  text = codes "insert into t values(1, 10)";
  is_next = refl;
  none_between = refl;
  earlier = [];
  part = numbered 1 (reply.Begin 1 ∷ reply.Changed 1 ∷ []);
  told_before = refl;
  all_earlier = refl;
  left = numbered 1 (reply.Committed 2 ∷ []);
  others = numbered 2 (reply.Begin 2 ∷ row 1 10 ∷ reply.Done 1 ∷ reply.Committed 2 ∷ []);
  told_after = refl;
  mine = reply.Begin 1 ∷ reply.Changed 1 ∷ reply.Committed 2 ∷ [];
  its_piece = refl;
  is_piece = inl refl;
  side = refl;
}

pub sent_again_is_lawful : LawfulOfNodes (from_nothing sent_again) sent_again_report
sent_again_is_lawful = armed_story sent_again (nothing_before (worked_table ∷ [])) sent_again_report (one_arm 1 0) (0 ∷ 0 ∷ 5 ∷ 0 ∷ []) refl refl
    refl
    (along_parts (IsToldAlong (from_nothing sent_again) (view_of (from_nothing sent_again) sent_again_report.entries) (codes "b")) (Does (transaction 1 (codes "insert into t values(1, 10)" ∷ []) Snapshot WithItsLine) ∷ Does (transaction 2 (codes "select * from t" ∷ []) Snapshot WithItsLine) ∷ []) ((reply.Begin 1 ∷ reply.Changed 1 ∷ reply.Committed 2 ∷ []) ∷ (reply.Begin 2 ∷ row 1 10 ∷ reply.Done 1 ∷ reply.Committed 2 ∷ []) ∷ []) (told_whole 1 (reply.Committed 2) (omega arith) (omega arith) tt (entered refl good_insert) refl, (told_whole 2 (reply.Committed 2) (omega arith) (omega arith) tt refl refl, tt)))
    ((refl, refl, refl), (next_entry (from_nothing sent_again) (Setup 1 ∷ []) (codes "b") (transaction 1 (codes "insert into t values(1, 10)" ∷ []) Snapshot WithItsLine) (omega arith) refl (refl, tt) (λ is. cc) good_insert, tt))
    (tt, (heard (transaction 1 (codes "insert into t values(1, 10)" ∷ []) Snapshot WithItsLine) (reply.Committed 2) (take 0 (told (codes "b") sent_again_report.lines)) (drop 3 (told (codes "b") sent_again_report.lines)) refl (omega arith) (inl refl) refl, tt))
    ((armed_by (λ k. IsArmed (from_nothing sent_again) (take 2 sent_again_report.lines) (drop 3 sent_again_report.lines) k) 0 sent_again_arm), tt) (one_apart 1 0) refl refl refl refl
