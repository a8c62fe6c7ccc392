-- Stories of nodes that fall, are stopped and come back are lawful.
use Rattle.std.proofs.Common.{[], ◌∷◌, refl, arith, codes, inl, inr, take, drop}
use Rattle.cdb_values.specs.declared.replies.Reply.TheVariants as reply
use Rattle.cdb_values.specs.declared.rows.Level.TheVariants.{Snapshot}
use Rattle.report_laws.specs.History.{nothing_before, view_of}
use Rattle.report_laws.specs.Told.{told}
use Rattle.report_laws.specs.Work.{transaction, ByCommit, Does, WithItsLine}
use Rattle.report_text.specs.declared.reports.EntryLine.TheVariants.{Setup}
use Rattle.report_worked.specs.Small.{from_nothing}
use Rattle.report_worked.specs.Worked.{worked_table, row}
use Rattle.report_worked.proofs.InsertSelectLemmas.{good_insert}
use Rattle.report_worked.proofs.WorkedLemmas.{along_parts}
use Rattle.node_reports.specs.Lawful.{LawfulOfNodes}
use Rattle.node_reports.specs.Told.{IsToldAlong}
use Rattle.node_stories.specs.Stories.{master_falls, master_falls_report, came_back, came_back_report, kept_by_start, kept_by_start_report, few_at_commit, few_at_commit_report, few_but_read, few_but_read_report, read_while_few, read_while_few_report, falls_while_down, falls_while_down_report, taken_and_fallen, taken_and_fallen_report, moves_on_one, moves_on_one_report, wanting, wanting_report, ends_undurable, ends_undurable_report, tail_stands, tail_stands_report}
use Rattle.node_stories.proofs.LawfulForm.{entered, heard, next_entry, story, told_cut, told_whole}

pub master_falls_is_lawful : LawfulOfNodes (from_nothing master_falls) master_falls_report
master_falls_is_lawful = story master_falls (nothing_before (worked_table ∷ [])) master_falls_report (0 ∷ 0 ∷ 8 ∷ []) refl refl
    (along_parts (IsToldAlong (from_nothing master_falls) (view_of (from_nothing master_falls) master_falls_report.entries) (codes "a")) (Does (transaction 1 (codes "insert into t values(1, 10)" ∷ []) Snapshot WithItsLine) ∷ Does (transaction 2 (codes "select * from t" ∷ []) Snapshot WithItsLine) ∷ []) ((reply.Begin 1 ∷ reply.Changed 1 ∷ reply.Lost 1 1 ∷ []) ∷ (reply.Begin 1 ∷ reply.Done 0 ∷ reply.Committed 1 ∷ []) ∷ []) (told_cut 1 (reply.Begin 1 ∷ reply.Changed 1 ∷ []) ([]) (reply.Lost 1 1) (omega arith) (omega arith) refl refl (inl (λ is. cc)) refl, (told_whole 1 (reply.Committed 1) (omega arith) (omega arith) tt refl refl, tt)))
    refl
    ((refl, refl, refl), tt)
    (tt, tt)
    refl refl refl refl

pub came_back_is_lawful : LawfulOfNodes (from_nothing came_back) came_back_report
came_back_is_lawful = story came_back (nothing_before (worked_table ∷ [])) came_back_report (0 ∷ 2 ∷ 1 ∷ 0 ∷ []) refl refl
    (along_parts (IsToldAlong (from_nothing came_back) (view_of (from_nothing came_back) came_back_report.entries) (codes "a")) (Does (transaction 1 ([]) Snapshot ByCommit) ∷ []) ((reply.Begin 1 ∷ reply.Lost 2 1 ∷ []) ∷ []) (told_cut 1 (reply.Begin 1 ∷ []) ([]) (reply.Lost 2 1) (omega arith) (omega arith) refl refl (inl (λ is. cc)) refl, tt))
    refl
    ((refl, refl, refl), tt)
    (tt, tt)
    refl refl refl refl

pub kept_by_start_is_lawful : LawfulOfNodes (from_nothing kept_by_start) kept_by_start_report
kept_by_start_is_lawful = story kept_by_start (nothing_before (worked_table ∷ [])) kept_by_start_report (0 ∷ 5 ∷ 0 ∷ []) refl refl
    (along_parts (IsToldAlong (from_nothing kept_by_start) (view_of (from_nothing kept_by_start) kept_by_start_report.entries) (codes "a")) (Does (transaction 1 (codes "insert into t values(1, 10)" ∷ []) Snapshot WithItsLine) ∷ Does (transaction 2 (codes "select * from t" ∷ []) Snapshot WithItsLine) ∷ []) ((reply.Begin 1 ∷ reply.Changed 1 ∷ reply.Lost 1 1 ∷ []) ∷ (reply.Begin 2 ∷ row 1 10 ∷ reply.Done 1 ∷ reply.Committed 2 ∷ []) ∷ []) (told_cut 1 (reply.Begin 1 ∷ reply.Changed 1 ∷ []) ([]) (reply.Lost 1 1) (omega arith) (omega arith) refl refl (inl (λ is. cc)) refl, (told_whole 2 (reply.Committed 2) (omega arith) (omega arith) tt refl refl, tt)))
    refl
    ((refl, refl, refl), (next_entry (from_nothing kept_by_start) (Setup 1 ∷ []) (codes "a") (transaction 1 (codes "insert into t values(1, 10)" ∷ []) Snapshot WithItsLine) (omega arith) refl (refl, tt) (λ is. cc) good_insert, tt))
    (tt, (heard (transaction 1 (codes "insert into t values(1, 10)" ∷ []) Snapshot WithItsLine) (reply.Lost 1 1) (take 0 (told (codes "a") kept_by_start_report.lines)) (drop 3 (told (codes "a") kept_by_start_report.lines)) refl (omega arith) (inr (refl, tt)) refl, tt))
    refl refl refl refl

pub few_at_commit_is_lawful : LawfulOfNodes (from_nothing few_at_commit) few_at_commit_report
few_at_commit_is_lawful = story few_at_commit (nothing_before (worked_table ∷ [])) few_at_commit_report (0 ∷ 6 ∷ 0 ∷ []) refl refl
    (along_parts (IsToldAlong (from_nothing few_at_commit) (view_of (from_nothing few_at_commit) few_at_commit_report.entries) (codes "a")) (Does (transaction 1 (codes "insert into t values(1, 10)" ∷ []) Snapshot WithItsLine) ∷ Does (transaction 2 (codes "select * from t" ∷ []) Snapshot WithItsLine) ∷ []) ((reply.Begin 1 ∷ reply.Changed 1 ∷ reply.NoMajority 1 3 ∷ []) ∷ (reply.Begin 2 ∷ row 1 10 ∷ reply.Done 1 ∷ reply.Committed 2 ∷ []) ∷ []) (told_cut 1 (reply.Begin 1 ∷ reply.Changed 1 ∷ []) ([]) (reply.NoMajority 1 3) (omega arith) (omega arith) refl refl (inl (inr (refl, (λ is. cc), tt))) refl, (told_whole 2 (reply.Committed 2) (omega arith) (omega arith) tt refl refl, tt)))
    refl
    ((refl, refl, refl), (next_entry (from_nothing few_at_commit) (Setup 1 ∷ []) (codes "a") (transaction 1 (codes "insert into t values(1, 10)" ∷ []) Snapshot WithItsLine) (omega arith) refl (refl, tt) (λ is. cc) good_insert, tt))
    (tt, (heard (transaction 1 (codes "insert into t values(1, 10)" ∷ []) Snapshot WithItsLine) (reply.NoMajority 1 3) (take 0 (told (codes "a") few_at_commit_report.lines)) (drop 3 (told (codes "a") few_at_commit_report.lines)) refl (omega arith) (inr (refl, tt)) refl, tt))
    refl refl refl refl

pub few_but_read_is_lawful : LawfulOfNodes (from_nothing few_but_read) few_but_read_report
few_but_read_is_lawful = story few_but_read (nothing_before (worked_table ∷ [])) few_but_read_report (0 ∷ 2 ∷ 1 ∷ 0 ∷ []) refl refl
    (along_parts (IsToldAlong (from_nothing few_but_read) (view_of (from_nothing few_but_read) few_but_read_report.entries) (codes "a")) (Does (transaction 1 ([]) Snapshot ByCommit) ∷ []) ((reply.Begin 1 ∷ reply.Committed 1 ∷ []) ∷ []) (told_whole 1 (reply.Committed 1) (omega arith) (omega arith) tt refl refl, tt))
    refl
    ((refl, refl, refl), tt)
    (tt, tt)
    refl refl refl refl

pub read_while_few_is_lawful : LawfulOfNodes (from_nothing read_while_few) read_while_few_report
read_while_few_is_lawful = story read_while_few (nothing_before (worked_table ∷ [])) read_while_few_report (0 ∷ 2 ∷ 1 ∷ 0 ∷ []) refl refl
    refl
    (along_parts (IsToldAlong (from_nothing read_while_few) (view_of (from_nothing read_while_few) read_while_few_report.entries) (codes "b")) (Does (transaction 1 ([]) Snapshot ByCommit) ∷ []) ((reply.Begin 1 ∷ reply.Committed 1 ∷ []) ∷ []) (told_whole 1 (reply.Committed 1) (omega arith) (omega arith) tt refl refl, tt))
    ((refl, refl, refl), tt)
    (tt, tt)
    refl refl refl refl

pub falls_while_down_is_lawful : LawfulOfNodes (from_nothing falls_while_down) falls_while_down_report
falls_while_down_is_lawful = story falls_while_down (nothing_before (worked_table ∷ [])) falls_while_down_report (2 ∷ 0 ∷ 4 ∷ []) refl refl
    (along_parts (IsToldAlong (from_nothing falls_while_down) (view_of (from_nothing falls_while_down) falls_while_down_report.entries) (codes "a")) (Does (transaction 1 (codes "select * from t" ∷ []) Snapshot WithItsLine) ∷ []) ((reply.Begin 1 ∷ reply.Done 0 ∷ reply.Committed 1 ∷ []) ∷ []) (told_whole 1 (reply.Committed 1) (omega arith) (omega arith) tt refl refl, tt))
    refl
    ((refl, refl, refl), tt)
    (tt, tt)
    refl refl refl refl

pub taken_and_fallen_is_lawful : LawfulOfNodes (from_nothing taken_and_fallen) taken_and_fallen_report
taken_and_fallen_is_lawful = story taken_and_fallen (nothing_before (worked_table ∷ [])) taken_and_fallen_report (2 ∷ 0 ∷ []) refl refl
    (along_parts (IsToldAlong (from_nothing taken_and_fallen) (view_of (from_nothing taken_and_fallen) taken_and_fallen_report.entries) (codes "a")) (Does (transaction 1 (codes "select * from t" ∷ []) Snapshot WithItsLine) ∷ []) ((reply.NoMajority 0 1 ∷ []) ∷ []) (told_cut 1 ([]) (reply.Begin 1 ∷ reply.Done 0 ∷ []) (reply.NoMajority 0 1) (omega arith) (omega arith) refl refl (inl (inl refl)) refl, tt))
    refl
    ((refl, refl, refl), tt)
    (tt, tt)
    refl refl refl refl

pub moves_on_one_is_lawful : LawfulOfNodes (from_nothing moves_on_one) moves_on_one_report
moves_on_one_is_lawful = story moves_on_one (nothing_before (worked_table ∷ [])) moves_on_one_report (0 ∷ 0 ∷ 3 ∷ 1 ∷ 0 ∷ 0 ∷ 3 ∷ 0 ∷ 0 ∷ []) refl refl
    refl
    (along_parts (IsToldAlong (from_nothing moves_on_one) (view_of (from_nothing moves_on_one) moves_on_one_report.entries) (codes "b")) (Does (transaction 1 (codes "insert into t values(1, 10)" ∷ []) Snapshot ByCommit) ∷ Does (transaction 2 (codes "select * from t" ∷ []) Snapshot ByCommit) ∷ []) ((reply.Begin 1 ∷ reply.Changed 1 ∷ reply.Committed 2 ∷ []) ∷ (reply.Begin 2 ∷ reply.NoMajority 0 1 ∷ []) ∷ []) (told_whole 1 (reply.Committed 2) (omega arith) (omega arith) tt (entered refl good_insert) refl, (told_cut 2 (reply.Begin 2 ∷ []) (row 1 10 ∷ reply.Done 1 ∷ []) (reply.NoMajority 0 1) (omega arith) (omega arith) refl refl (inr (refl, refl)) refl, tt)))
    ((refl, refl, refl), (next_entry (from_nothing moves_on_one) (Setup 1 ∷ []) (codes "b") (transaction 1 (codes "insert into t values(1, 10)" ∷ []) Snapshot ByCommit) (omega arith) refl (refl, tt) (λ is. cc) good_insert, tt))
    (tt, (heard (transaction 1 (codes "insert into t values(1, 10)" ∷ []) Snapshot ByCommit) (reply.Committed 2) (take 0 (told (codes "b") moves_on_one_report.lines)) (drop 3 (told (codes "b") moves_on_one_report.lines)) refl (omega arith) (inl refl) refl, tt))
    refl refl refl refl

pub wanting_is_lawful : LawfulOfNodes (from_nothing wanting) wanting_report
wanting_is_lawful = story wanting (nothing_before (worked_table ∷ [])) wanting_report (0 ∷ []) refl refl
    (along_parts (IsToldAlong (from_nothing wanting) (view_of (from_nothing wanting) wanting_report.entries) (codes "a")) (Does (transaction 1 (codes "select * from t" ∷ []) Snapshot WithItsLine) ∷ []) ((reply.NoMemory ∷ []) ∷ []) (told_cut 1 ([]) (reply.Begin 1 ∷ reply.Done 0 ∷ []) (reply.NoMemory) (omega arith) (omega arith) refl refl (inl tt) refl, tt))
    refl
    ((refl, refl, refl), tt)
    (tt, tt)
    refl refl refl refl

pub ends_undurable_is_lawful : LawfulOfNodes (from_nothing ends_undurable) ends_undurable_report
ends_undurable_is_lawful = story ends_undurable (nothing_before (worked_table ∷ [])) ends_undurable_report (0 ∷ []) refl refl
    (along_parts (IsToldAlong (from_nothing ends_undurable) (view_of (from_nothing ends_undurable) ends_undurable_report.entries) (codes "a")) (Does (transaction 1 (codes "insert into t values(1, 10)" ∷ []) Snapshot WithItsLine) ∷ []) ((reply.Begin 1 ∷ reply.Changed 1 ∷ reply.NoMajority 1 3 ∷ []) ∷ []) (told_cut 1 (reply.Begin 1 ∷ reply.Changed 1 ∷ []) ([]) (reply.NoMajority 1 3) (omega arith) (omega arith) refl refl (inl (inr (refl, (λ is. cc), tt))) refl, tt))
    refl
    ((refl, refl, refl), (next_entry (from_nothing ends_undurable) (Setup 1 ∷ []) (codes "a") (transaction 1 (codes "insert into t values(1, 10)" ∷ []) Snapshot WithItsLine) (omega arith) refl (refl, tt) (λ is. cc) good_insert, tt))
    (tt, (heard (transaction 1 (codes "insert into t values(1, 10)" ∷ []) Snapshot WithItsLine) (reply.NoMajority 1 3) (take 0 (told (codes "a") ends_undurable_report.lines)) (drop 3 (told (codes "a") ends_undurable_report.lines)) refl (omega arith) (inr (refl, tt)) refl, tt))
    refl refl refl refl

pub tail_stands_is_lawful : LawfulOfNodes (from_nothing tail_stands) tail_stands_report
tail_stands_is_lawful = story tail_stands (nothing_before (worked_table ∷ [])) tail_stands_report (1 ∷ 0 ∷ 5 ∷ 0 ∷ []) refl refl
    (along_parts (IsToldAlong (from_nothing tail_stands) (view_of (from_nothing tail_stands) tail_stands_report.entries) (codes "a")) (Does (transaction 1 (codes "insert into t values(1, 10)" ∷ []) Snapshot WithItsLine) ∷ Does (transaction 2 (codes "select * from t" ∷ []) Snapshot WithItsLine) ∷ []) ((reply.Begin 1 ∷ reply.Changed 1 ∷ reply.Lost 1 2 ∷ []) ∷ (reply.Begin 2 ∷ row 1 10 ∷ reply.Done 1 ∷ reply.Committed 2 ∷ []) ∷ []) (told_cut 1 (reply.Begin 1 ∷ reply.Changed 1 ∷ []) ([]) (reply.Lost 1 2) (omega arith) (omega arith) refl refl (inl (λ is. cc)) refl, (told_whole 2 (reply.Committed 2) (omega arith) (omega arith) tt refl refl, tt)))
    refl
    ((refl, refl, refl), (next_entry (from_nothing tail_stands) (Setup 1 ∷ []) (codes "a") (transaction 1 (codes "insert into t values(1, 10)" ∷ []) Snapshot WithItsLine) (omega arith) refl (refl, tt) (λ is. cc) good_insert, tt))
    (tt, (heard (transaction 1 (codes "insert into t values(1, 10)" ∷ []) Snapshot WithItsLine) (reply.Lost 1 2) (take 0 (told (codes "a") tail_stands_report.lines)) (drop 3 (told (codes "a") tail_stands_report.lines)) refl (omega arith) (inr (refl, tt)) refl, tt))
    refl refl refl refl
