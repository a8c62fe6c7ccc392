-- Stories of openings, of elections and of bases are lawful.
use Rattle.std.proofs.Common.{[], ◌∷◌, refl, arith, codes, inl, take, drop}
use Rattle.cdb_values.specs.Rows.{no_rows}
use Rattle.cdb_values.specs.declared.replies.Reply.TheVariants as reply
use Rattle.cdb_values.specs.declared.rows.Level.TheVariants.{Snapshot}
use Rattle.report_laws.specs.History.{nothing_before, view_of}
use Rattle.report_laws.specs.Told.{told}
use Rattle.report_laws.specs.Work.{transaction, Does, WithItsLine}
use Rattle.report_worked.specs.Small.{from_log, from_nothing}
use Rattle.report_worked.specs.Worked.{worked_table}
use Rattle.report_worked.proofs.InsertSelectLemmas.{good_insert}
use Rattle.report_worked.proofs.WorkedLemmas.{along_parts}
use Rattle.node_reports.specs.Lawful.{LawfulOfNodes}
use Rattle.node_reports.specs.Told.{IsToldAlong}
use Rattle.node_stories.specs.Stories.{late_majority, late_majority_report, few_opened, few_opened_report, opened_later, opened_later_report, falls_at_election, falls_at_election_report, led_later, led_later_report, followed_later, followed_later_report, other_tables_report, other_basis, other_script, armed_again, armed_again_report, over_a_row}
use Rattle.node_stories.proofs.LawfulForm.{entered, heard, next_entry, story, told_cut, told_whole}

pub late_majority_is_lawful : LawfulOfNodes (from_nothing late_majority) late_majority_report
late_majority_is_lawful = story late_majority (nothing_before (worked_table ∷ [])) late_majority_report (3 ∷ 0 ∷ []) refl refl
    (along_parts (IsToldAlong (from_nothing late_majority) (view_of (from_nothing late_majority) late_majority_report.entries) (codes "a")) (Does (transaction 1 (codes "select * from t" ∷ []) Snapshot WithItsLine) ∷ []) ((reply.Begin 1 ∷ reply.Done 0 ∷ reply.Committed 1 ∷ []) ∷ []) (told_whole 1 (reply.Committed 1) (omega arith) (omega arith) tt refl refl, tt))
    refl
    ((refl, refl, refl), tt)
    (tt, tt)
    refl refl refl refl

pub few_opened_is_lawful : LawfulOfNodes (from_nothing few_opened) few_opened_report
few_opened_is_lawful = story few_opened (nothing_before (worked_table ∷ [])) few_opened_report (0 ∷ []) refl refl
    (along_parts (IsToldAlong (from_nothing few_opened) (view_of (from_nothing few_opened) few_opened_report.entries) (codes "a")) (Does (transaction 1 (codes "select * from t" ∷ []) Snapshot WithItsLine) ∷ []) ((reply.NoMajority 1 3 ∷ []) ∷ []) (told_cut 1 ([]) (reply.Begin 1 ∷ reply.Done 0 ∷ []) (reply.NoMajority 1 3) (omega arith) (omega arith) refl refl (inl (inl refl)) refl, tt))
    refl
    ((refl, refl, refl), tt)
    (tt, tt)
    refl refl refl refl

pub opened_later_is_lawful : LawfulOfNodes (from_nothing opened_later) opened_later_report
opened_later_is_lawful = story opened_later (nothing_before (worked_table ∷ [])) opened_later_report (3 ∷ 1 ∷ 1 ∷ 0 ∷ []) refl refl
    (along_parts (IsToldAlong (from_nothing opened_later) (view_of (from_nothing opened_later) opened_later_report.entries) (codes "a")) (Does (transaction 1 (codes "select * from t" ∷ []) Snapshot WithItsLine) ∷ []) ((reply.Begin 1 ∷ reply.Done 0 ∷ reply.Committed 1 ∷ []) ∷ []) (told_whole 1 (reply.Committed 1) (omega arith) (omega arith) tt refl refl, tt))
    refl
    ((refl, refl, refl), tt)
    (tt, tt)
    refl refl refl refl

pub falls_at_election_is_lawful : LawfulOfNodes (from_nothing falls_at_election) falls_at_election_report
falls_at_election_is_lawful = story falls_at_election (nothing_before (worked_table ∷ [])) falls_at_election_report (1 ∷ 0 ∷ []) refl refl
    (along_parts (IsToldAlong (from_nothing falls_at_election) (view_of (from_nothing falls_at_election) falls_at_election_report.entries) (codes "a")) (Does (transaction 1 (codes "insert into t values(1, 10)" ∷ []) Snapshot WithItsLine) ∷ []) ((reply.NoMajority 2 5 ∷ []) ∷ []) (told_cut 1 ([]) (reply.Begin 1 ∷ reply.Changed 1 ∷ []) (reply.NoMajority 2 5) (omega arith) (omega arith) refl refl (inl (inl refl)) refl, tt))
    refl
    ((refl, refl, refl), tt)
    (tt, tt)
    refl refl refl refl

pub led_later_is_lawful : LawfulOfNodes (from_log led_later 1 (no_rows (worked_table ∷ []))) led_later_report
led_later_is_lawful = story led_later (from_log led_later 1 (no_rows (worked_table ∷ []))).origin led_later_report (3 ∷ 1 ∷ 1 ∷ 0 ∷ []) refl refl
    (along_parts (IsToldAlong (from_log led_later 1 (no_rows (worked_table ∷ []))) (view_of (from_log led_later 1 (no_rows (worked_table ∷ []))) led_later_report.entries) (codes "a")) (Does (transaction 1 (codes "insert into t values(1, 10)" ∷ []) Snapshot WithItsLine) ∷ []) ((reply.Begin 1 ∷ reply.Changed 1 ∷ reply.Committed 2 ∷ []) ∷ []) (told_whole 1 (reply.Committed 2) (omega arith) (omega arith) tt (entered refl good_insert) refl, tt))
    refl
    (next_entry (from_log led_later 1 (no_rows (worked_table ∷ []))) ([]) (codes "a") (transaction 1 (codes "insert into t values(1, 10)" ∷ []) Snapshot WithItsLine) (omega arith) refl tt (λ is. cc) good_insert, tt)
    (heard (transaction 1 (codes "insert into t values(1, 10)" ∷ []) Snapshot WithItsLine) (reply.Committed 2) (take 0 (told (codes "a") led_later_report.lines)) (drop 3 (told (codes "a") led_later_report.lines)) refl (omega arith) (inl refl) refl, tt)
    refl refl refl refl

pub followed_later_is_lawful : LawfulOfNodes (from_log followed_later 2 (no_rows (worked_table ∷ []))) followed_later_report
followed_later_is_lawful = story followed_later (from_log followed_later 2 (no_rows (worked_table ∷ []))).origin followed_later_report (3 ∷ 1 ∷ 1 ∷ 0 ∷ []) refl refl
    (along_parts (IsToldAlong (from_log followed_later 2 (no_rows (worked_table ∷ []))) (view_of (from_log followed_later 2 (no_rows (worked_table ∷ []))) followed_later_report.entries) (codes "a")) (Does (transaction 1 (codes "insert into t values(1, 10)" ∷ []) Snapshot WithItsLine) ∷ []) ((reply.Begin 2 ∷ reply.Changed 1 ∷ reply.Committed 3 ∷ []) ∷ []) (told_whole 2 (reply.Committed 3) (omega arith) (omega arith) tt (entered refl good_insert) refl, tt))
    refl
    (next_entry (from_log followed_later 2 (no_rows (worked_table ∷ []))) ([]) (codes "a") (transaction 1 (codes "insert into t values(1, 10)" ∷ []) Snapshot WithItsLine) (omega arith) refl tt (λ is. cc) good_insert, tt)
    (heard (transaction 1 (codes "insert into t values(1, 10)" ∷ []) Snapshot WithItsLine) (reply.Committed 3) (take 0 (told (codes "a") followed_later_report.lines)) (drop 3 (told (codes "a") followed_later_report.lines)) refl (omega arith) (inl refl) refl, tt)
    refl refl refl refl

pub other_tables_is_lawful : LawfulOfNodes other_basis other_tables_report
other_tables_is_lawful = story other_script other_basis.origin other_tables_report (0 ∷ 0 ∷ []) refl refl
    (along_parts (IsToldAlong other_basis (view_of other_basis other_tables_report.entries) (codes "a")) (Does (transaction 1 (codes "insert into t values(1, 10)" ∷ []) Snapshot WithItsLine) ∷ Does (transaction 2 (codes "insert into t values(1, 2)" ∷ []) Snapshot WithItsLine) ∷ []) ((reply.Begin 1 ∷ reply.Changed 1 ∷ reply.Committed 2 ∷ []) ∷ (reply.Begin 2 ∷ reply.Changed 1 ∷ reply.Duplicate 2 (codes "t") (codes "pk") ∷ []) ∷ []) (told_whole 1 (reply.Committed 2) (omega arith) (omega arith) tt (entered refl good_insert) refl, (told_whole 2 (reply.Duplicate 2 (codes "t") (codes "pk")) (omega arith) (omega arith) tt (record { has_ops = λ is. cc; begun = omega arith; within = omega arith; untouched = λ j after before. absurd (omega (arith, after, before)); breaks = refl }) refl, tt)))
    refl
    (next_entry other_basis ([]) (codes "a") (transaction 1 (codes "insert into t values(1, 10)" ∷ []) Snapshot WithItsLine) (omega arith) refl tt (λ is. cc) good_insert, tt)
    (heard (transaction 1 (codes "insert into t values(1, 10)" ∷ []) Snapshot WithItsLine) (reply.Committed 2) (take 0 (told (codes "a") other_tables_report.lines)) (drop 3 (told (codes "a") other_tables_report.lines)) refl (omega arith) (inl refl) refl, tt)
    refl refl refl refl

pub armed_again_is_lawful : LawfulOfNodes over_a_row armed_again_report
armed_again_is_lawful = story armed_again over_a_row.origin armed_again_report (0 ∷ 0 ∷ []) refl refl
    (along_parts (IsToldAlong over_a_row (view_of over_a_row armed_again_report.entries) (codes "a")) (Does (transaction 1 (codes "insert into t values(1, 2)" ∷ []) Snapshot WithItsLine) ∷ []) ((reply.Begin 2 ∷ reply.Changed 1 ∷ reply.Duplicate 2 (codes "t") (codes "pk") ∷ []) ∷ []) (told_whole 2 (reply.Duplicate 2 (codes "t") (codes "pk")) (omega arith) (omega arith) tt (record { has_ops = λ is. cc; begun = omega arith; within = omega arith; untouched = λ j after before. absurd (omega (arith, after, before)); breaks = refl }) refl, tt))
    refl tt tt refl refl refl refl
