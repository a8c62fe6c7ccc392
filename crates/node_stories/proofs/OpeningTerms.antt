-- Stories of openings, of elections and of bases are in the order of play, computed.
use Rattle.std.proofs.Common.{◌≡◌, [], ◌∷◌, refl, arith, codes, inl, inr, true, false}
use Rattle.cdb_values.specs.Rows.{no_rows}
use Rattle.cdb_values.specs.declared.replies.Reply.TheVariants as reply
use Rattle.cdb_values.specs.declared.rows.Level.TheVariants.{Snapshot}
use Rattle.report_laws.proofs.PieceLaws.{all_at, commit_is_last}
use Rattle.report_laws.specs.Work.{transaction, WithItsLine}
use Rattle.report_text.specs.declared.reports.EntryLine.TheVariants.{Setup}
use Rattle.report_text.specs.declared.reports.Line.{Line}
use Rattle.report_text.specs.declared.reports.Line.TheVariants as line
use Rattle.report_worked.specs.Small.{from_log, from_nothing}
use Rattle.report_worked.specs.Worked.{worked_table, of_a}
use Rattle.node_reports.specs.Order.{InNodesOrder}
use Rattle.node_stories.specs.Stories.{late_majority, late_majority_report, few_opened, few_opened_report, based_on_none_report, opened_later, opened_later_report, falls_at_election, falls_at_election_report, led_later, led_later_report, followed_later, followed_later_report, ends_undurable, ends_undurable_report, other_basis, other_tables_report, armed_again_report, over_a_row}
use Rattle.node_stories.proofs.StoryLemmas.{answers, comes_up, never_alone, plain, some_entry}

pub late_majority_is_in_order : InNodesOrder (from_nothing late_majority) late_majority_report
late_majority_is_in_order = record {
  first = line.Down 1 2 true ∷ line.Down 2 3 true ∷ [];
  go_down = (record { counted = refl; of_script = (omega arith, omega arith); was_up = refl; by_fault = refl }, (record { counted = refl; of_script = (omega arith, omega arith); was_up = refl; by_fault = refl }, tt));
  opening = Setup 1 ∷ [];
  opened = (refl, refl, refl, refl, inr (refl, inl (omega arith)));
  rest = line.Up 2 ∷ line.Session (codes "a") 1 (reply.Begin 1) ∷ line.Session (codes "a") 1 (reply.Done 0) ∷ line.Session (codes "a") 1 (reply.Committed 1) ∷ [];
  lines_are = refl;
  later = [];
  entries_are = refl;
  order = (
    line.Up 2 ∷ [],
    line.Session (codes "a") 1 (reply.Begin 1) ∷ line.Session (codes "a") 1 (reply.Done 0) ∷ line.Session (codes "a") 1 (reply.Committed 1) ∷ [],
    [],
    [],
    refl,
    refl,
    (inr (inl (record { was = refl; faults = []; says = refl; each = tt })), λ base empty. some_entry _ _ empty),
    (
      line.Session (codes "a") 1 (reply.Begin 1) ∷ line.Session (codes "a") 1 (reply.Done 0) ∷ line.Session (codes "a") 1 (reply.Committed 1) ∷ [],
      [],
      [],
      [],
      refl,
      refl,
      plain refl (answers refl (inr refl) refl refl refl refl refl, (answers refl (inr refl) refl refl tt refl refl, (answers refl (inr refl) refl refl (omega arith) refl refl, tt))) tt refl,
      (refl, refl),
    ),
  );
}

pub few_opened_is_in_order : InNodesOrder (from_nothing few_opened) few_opened_report
few_opened_is_in_order = record {
  first = line.Down 1 2 true ∷ line.Down 2 3 true ∷ [];
  go_down = (record { counted = refl; of_script = (omega arith, omega arith); was_up = refl; by_fault = refl }, (record { counted = refl; of_script = (omega arith, omega arith); was_up = refl; by_fault = refl }, tt));
  opening = Setup 1 ∷ [];
  opened = (refl, refl, refl, refl, inr (refl, inl (omega arith)));
  rest = line.Session (codes "a") 1 (reply.NoMajority 1 3) ∷ [];
  lines_are = refl;
  later = [];
  entries_are = refl;
  order = (
    line.Session (codes "a") 1 (reply.NoMajority 1 3) ∷ [],
    [],
    [],
    [],
    refl,
    refl,
    plain refl ((refl, refl, refl, inr (inr (inl (record { kept = record { kept = refl; unstopped = inr refl }; lacks = inl refl; says = inl refl })))), tt) tt refl,
    (refl, refl),
  );
}

pub based_on_none_is_in_order : InNodesOrder (from_log few_opened 1 (no_rows (worked_table ∷ []))) based_on_none_report
based_on_none_is_in_order = record {
  first = line.Down 1 2 true ∷ line.Down 2 3 true ∷ [];
  go_down = (record { counted = refl; of_script = (omega arith, omega arith); was_up = refl; by_fault = refl }, (record { counted = refl; of_script = (omega arith, omega arith); was_up = refl; by_fault = refl }, tt));
  opening = [];
  opened = λ base empty. refl;
  rest = line.Session (codes "a") 1 (reply.NoMajority 1 3) ∷ [];
  lines_are = refl;
  later = [];
  entries_are = refl;
  order = (
    line.Session (codes "a") 1 (reply.NoMajority 1 3) ∷ [],
    [],
    [],
    [],
    refl,
    refl,
    plain refl ((refl, refl, refl, inr (inr (inl (record { kept = record { kept = refl; unstopped = inr refl }; lacks = inl refl; says = inl refl })))), tt) tt refl,
    (refl, refl),
  );
}

pub opened_later_is_in_order : InNodesOrder (from_nothing opened_later) opened_later_report
opened_later_is_in_order = record {
  first = line.Down 1 2 true ∷ line.Down 2 3 true ∷ [];
  go_down = (record { counted = refl; of_script = (omega arith, omega arith); was_up = refl; by_fault = refl }, (record { counted = refl; of_script = (omega arith, omega arith); was_up = refl; by_fault = refl }, tt));
  opening = [];
  opened = λ base empty. refl;
  rest = line.Down 3 1 false ∷ line.Up 2 ∷ line.Up 3 ∷ line.Session (codes "a") 1 (reply.Begin 1) ∷ line.Session (codes "a") 1 (reply.Done 0) ∷ line.Session (codes "a") 1 (reply.Committed 1) ∷ [];
  lines_are = refl;
  later = Setup 1 ∷ [];
  entries_are = refl;
  order = (
    line.Down 3 1 false ∷ [],
    line.Up 2 ∷ line.Up 3 ∷ line.Session (codes "a") 1 (reply.Begin 1) ∷ line.Session (codes "a") 1 (reply.Done 0) ∷ line.Session (codes "a") 1 (reply.Committed 1) ∷ [],
    [],
    Setup 1 ∷ [],
    refl,
    refl,
    (inr (record { was = refl; faults = []; says = refl; each = tt }), λ base empty. refl),
    (
      line.Up 2 ∷ [],
      line.Up 3 ∷ line.Session (codes "a") 1 (reply.Begin 1) ∷ line.Session (codes "a") 1 (reply.Done 0) ∷ line.Session (codes "a") 1 (reply.Committed 1) ∷ [],
      [],
      Setup 1 ∷ [],
      refl,
      refl,
      (inr (inl (record { was = refl; faults = []; says = refl; each = tt })), λ base empty. refl),
      (
        line.Up 3 ∷ [],
        line.Session (codes "a") 1 (reply.Begin 1) ∷ line.Session (codes "a") 1 (reply.Done 0) ∷ line.Session (codes "a") 1 (reply.Committed 1) ∷ [],
        Setup 1 ∷ [],
        [],
        refl,
        refl,
        (inr (inl (record { was = refl; faults = []; says = refl; each = tt })), (refl, refl, refl, refl, inl refl)),
        (
          line.Session (codes "a") 1 (reply.Begin 1) ∷ line.Session (codes "a") 1 (reply.Done 0) ∷ line.Session (codes "a") 1 (reply.Committed 1) ∷ [],
          [],
          [],
          [],
          refl,
          refl,
          plain refl (answers refl (inr refl) refl refl refl refl refl, (answers refl (inr refl) refl refl tt refl refl, (answers refl (inr refl) refl refl (omega arith) refl refl, tt))) tt refl,
          (refl, refl),
        ),
      ),
    ),
  );
}

pub falls_at_election_is_in_order : InNodesOrder (from_nothing falls_at_election) falls_at_election_report
falls_at_election_is_in_order = record {
  first = [];
  go_down = tt;
  opening = Setup 1 ∷ [];
  opened = (refl, refl, refl, refl, inl refl);
  rest = line.Down 1 1 false ∷ line.Down 2 2 true ∷ line.Down 3 3 true ∷ line.Session (codes "a") 1 (reply.NoMajority 2 5) ∷ [];
  lines_are = refl;
  later = [];
  entries_are = refl;
  order = (
    line.Down 1 1 false ∷ line.Down 2 2 true ∷ line.Down 3 3 true ∷ [],
    line.Session (codes "a") 1 (reply.NoMajority 2 5) ∷ [],
    [],
    [],
    refl,
    refl,
    (inr (record { was = refl; faults = line.Down 2 2 true ∷ line.Down 3 3 true ∷ []; says = refl; each = (record { counted = refl; of_script = (omega arith, omega arith); was_up = refl; by_fault = refl }, (record { counted = refl; of_script = (omega arith, omega arith); was_up = refl; by_fault = refl }, tt)) }), λ base empty. some_entry _ _ empty),
    (
      line.Session (codes "a") 1 (reply.NoMajority 2 5) ∷ [],
      [],
      [],
      [],
      refl,
      refl,
      plain refl ((refl, refl, refl, inr (inr (inl (record { kept = record { kept = refl; unstopped = inr refl }; lacks = inl refl; says = inl refl })))), tt) tt refl,
      (refl, refl),
    ),
  );
}

pub led_later_is_in_order : InNodesOrder (from_log led_later 1 (no_rows (worked_table ∷ []))) led_later_report
led_later_is_in_order = record {
  first = line.Down 1 2 true ∷ line.Down 2 3 true ∷ [];
  go_down = (record { counted = refl; of_script = (omega arith, omega arith); was_up = refl; by_fault = refl }, (record { counted = refl; of_script = (omega arith, omega arith); was_up = refl; by_fault = refl }, tt));
  opening = [];
  opened = λ base empty. let no_such : 1 ≡ 0 = base in absurd (omega (arith, no_such));
  rest = line.Down 3 1 false ∷ line.Up 1 ∷ line.Up 2 ∷ line.Session (codes "a") 1 (reply.Begin 1) ∷ line.Session (codes "a") 1 (reply.Changed 1) ∷ line.Session (codes "a") 1 (reply.Committed 2) ∷ [];
  lines_are = refl;
  later = of_a 2 1 1 ∷ [];
  entries_are = refl;
  order = (
    line.Down 3 1 false ∷ [],
    line.Up 1 ∷ line.Up 2 ∷ line.Session (codes "a") 1 (reply.Begin 1) ∷ line.Session (codes "a") 1 (reply.Changed 1) ∷ line.Session (codes "a") 1 (reply.Committed 2) ∷ [],
    [],
    of_a 2 1 1 ∷ [],
    refl,
    refl,
    (inr (record { was = refl; faults = []; says = refl; each = tt }), λ base empty. let no_such : 1 ≡ 0 = base in absurd (omega (arith, no_such))),
    (
      line.Up 1 ∷ [],
      line.Up 2 ∷ line.Session (codes "a") 1 (reply.Begin 1) ∷ line.Session (codes "a") 1 (reply.Changed 1) ∷ line.Session (codes "a") 1 (reply.Committed 2) ∷ [],
      [],
      of_a 2 1 1 ∷ [],
      refl,
      refl,
      (inr (inl (record { was = refl; faults = []; says = refl; each = tt })), λ base empty. let no_such : 1 ≡ 0 = base in absurd (omega (arith, no_such))),
      (
        line.Up 2 ∷ [],
        line.Session (codes "a") 1 (reply.Begin 1) ∷ line.Session (codes "a") 1 (reply.Changed 1) ∷ line.Session (codes "a") 1 (reply.Committed 2) ∷ [],
        [],
        of_a 2 1 1 ∷ [],
        refl,
        refl,
        (inr (inl (record { was = refl; faults = []; says = refl; each = tt })), λ base empty. let no_such : 1 ≡ 0 = base in absurd (omega (arith, no_such))),
        (
          line.Session (codes "a") 1 (reply.Begin 1) ∷ line.Session (codes "a") 1 (reply.Changed 1) ∷ line.Session (codes "a") 1 (reply.Committed 2) ∷ [],
          [],
          of_a 2 1 1 ∷ [],
          [],
          refl,
          refl,
          plain refl (answers refl (inr refl) refl refl refl refl refl, (answers refl (inr refl) refl refl tt refl refl, (answers refl (inr refl) refl refl (omega arith) refl refl, tt))) (refl, 1, Snapshot, refl, inl (reply.Begin 1 ∷ reply.Changed 1 ∷ [], [], refl)) refl,
          (refl, refl),
        ),
      ),
    ),
  );
}

pub followed_later_is_in_order : InNodesOrder (from_log followed_later 2 (no_rows (worked_table ∷ []))) followed_later_report
followed_later_is_in_order = record {
  first = line.Down 1 2 true ∷ line.Down 2 3 true ∷ [];
  go_down = (record { counted = refl; of_script = (omega arith, omega arith); was_up = refl; by_fault = refl }, (record { counted = refl; of_script = (omega arith, omega arith); was_up = refl; by_fault = refl }, tt));
  opening = [];
  opened = λ base empty. let no_such : 2 ≡ 0 = base in absurd (omega (arith, no_such));
  rest = line.Down 3 1 false ∷ line.Up 3 ∷ line.Up 2 ∷ line.Session (codes "a") 1 (reply.Begin 2) ∷ line.Session (codes "a") 1 (reply.Changed 1) ∷ line.Session (codes "a") 1 (reply.Committed 3) ∷ [];
  lines_are = refl;
  later = of_a 3 1 2 ∷ [];
  entries_are = refl;
  order = (
    line.Down 3 1 false ∷ [],
    line.Up 3 ∷ line.Up 2 ∷ line.Session (codes "a") 1 (reply.Begin 2) ∷ line.Session (codes "a") 1 (reply.Changed 1) ∷ line.Session (codes "a") 1 (reply.Committed 3) ∷ [],
    [],
    of_a 3 1 2 ∷ [],
    refl,
    refl,
    (inr (record { was = refl; faults = []; says = refl; each = tt }), λ base empty. let no_such : 2 ≡ 0 = base in absurd (omega (arith, no_such))),
    (
      line.Up 3 ∷ [],
      line.Up 2 ∷ line.Session (codes "a") 1 (reply.Begin 2) ∷ line.Session (codes "a") 1 (reply.Changed 1) ∷ line.Session (codes "a") 1 (reply.Committed 3) ∷ [],
      [],
      of_a 3 1 2 ∷ [],
      refl,
      refl,
      (inr (inl (record { was = refl; faults = []; says = refl; each = tt })), λ base empty. let no_such : 2 ≡ 0 = base in absurd (omega (arith, no_such))),
      (
        line.Up 2 ∷ [],
        line.Session (codes "a") 1 (reply.Begin 2) ∷ line.Session (codes "a") 1 (reply.Changed 1) ∷ line.Session (codes "a") 1 (reply.Committed 3) ∷ [],
        [],
        of_a 3 1 2 ∷ [],
        refl,
        refl,
        (inr (inl (record { was = refl; faults = []; says = refl; each = tt })), λ base empty. let no_such : 2 ≡ 0 = base in absurd (omega (arith, no_such))),
        (
          line.Session (codes "a") 1 (reply.Begin 2) ∷ line.Session (codes "a") 1 (reply.Changed 1) ∷ line.Session (codes "a") 1 (reply.Committed 3) ∷ [],
          [],
          of_a 3 1 2 ∷ [],
          [],
          refl,
          refl,
          plain refl (answers refl (inr refl) refl refl refl refl refl, (answers refl (inr refl) refl refl tt refl refl, (answers refl (inr refl) refl refl (omega arith) refl refl, tt))) (refl, 2, Snapshot, refl, inl (reply.Begin 2 ∷ reply.Changed 1 ∷ [], [], refl)) refl,
          (refl, refl),
        ),
      ),
    ),
  );
}

pub ends_undurable_is_in_order : InNodesOrder (from_nothing ends_undurable) ends_undurable_report
ends_undurable_is_in_order = record {
  first = [];
  go_down = tt;
  opening = Setup 1 ∷ [];
  opened = (refl, refl, refl, refl, inl refl);
  rest = line.Session (codes "a") 1 (reply.Begin 1) ∷ line.Session (codes "a") 1 (reply.Changed 1) ∷ line.Down 1 2 true ∷ line.Down 2 3 true ∷ line.Session (codes "a") 1 (reply.NoMajority 1 3) ∷ [];
  lines_are = refl;
  later = of_a 2 1 1 ∷ [];
  entries_are = refl;
  order = (
    line.Session (codes "a") 1 (reply.Begin 1) ∷ line.Session (codes "a") 1 (reply.Changed 1) ∷ line.Down 1 2 true ∷ line.Down 2 3 true ∷ line.Session (codes "a") 1 (reply.NoMajority 1 3) ∷ [],
    [],
    of_a 2 1 1 ∷ [],
    [],
    refl,
    refl,
    plain refl (answers refl (inr refl) refl refl refl refl refl, (answers refl (inr refl) refl refl tt refl refl, (record { counted = refl; of_script = (omega arith, omega arith); was_up = refl; cause = inl (record { at_commit = refl; uncut = refl; kept = inl refl; majority = refl; changes = record { transaction = transaction 1 (codes "insert into t values(1, 10)" ∷ []) Snapshot WithItsLine; is_its = refl; begin = 1; begun = ([], (line.Session (codes "a") 1 (reply.Changed 1) ∷ []), refl); has_ops = λ is. cc }; by = inl refl }) }, (record { counted = refl; of_script = (omega arith, omega arith); was_up = refl; cause = inr (inr (refl, refl)) }, ((refl, refl, refl, inr (inr (inl (record { kept = record { kept = refl; unstopped = inr refl }; lacks = inr (refl, record { transaction = transaction 1 (codes "insert into t values(1, 10)" ∷ []) Snapshot WithItsLine; is_its = refl; begin = 1; begun = ([], (line.Session (codes "a") 1 (reply.Changed 1) ∷ line.Down 1 2 true ∷ line.Down 2 3 true ∷ []), refl); has_ops = λ is. cc }); says = inl refl })))), tt))))) (refl, 1, Snapshot, refl, inr (record { at_commit = refl; fell = (_ ∷ _ ∷ [], _, _, _, _, refl, refl); cut = refl; comes_up = λ front back count node is none. never_alone 3 1 ([]) (line.Session (codes "a") 1 (reply.Begin 1) ∷ line.Session (codes "a") 1 (reply.Changed 1) ∷ line.Down 1 2 true ∷ line.Down 2 3 true ∷ line.Session (codes "a") 1 (reply.NoMajority 1 3) ∷ []) front back count node (omega arith) (omega arith) refl is none })) refl,
    (refl, refl),
  );
}

pub other_tables_is_in_order : InNodesOrder other_basis other_tables_report
other_tables_is_in_order = record {
  first = line.Down 1 2 true ∷ [];
  go_down = (record { counted = refl; of_script = (omega arith, omega arith); was_up = refl; by_fault = refl }, tt);
  opening = [];
  opened = λ base empty. let no_such : 1 ≡ 0 = base in absurd (omega (arith, no_such));
  rest = line.Session (codes "a") 1 (reply.Begin 1) ∷ line.Session (codes "a") 1 (reply.Changed 1) ∷ line.Session (codes "a") 1 (reply.Committed 2) ∷ line.Session (codes "a") 2 (reply.Begin 2) ∷ line.Session (codes "a") 2 (reply.Changed 1) ∷ line.Session (codes "a") 2 (reply.Duplicate 2 (codes "t") (codes "pk")) ∷ [];
  lines_are = refl;
  later = of_a 2 1 1 ∷ [];
  entries_are = refl;
  order = (
    line.Session (codes "a") 1 (reply.Begin 1) ∷ line.Session (codes "a") 1 (reply.Changed 1) ∷ line.Session (codes "a") 1 (reply.Committed 2) ∷ [],
    line.Session (codes "a") 2 (reply.Begin 2) ∷ line.Session (codes "a") 2 (reply.Changed 1) ∷ line.Session (codes "a") 2 (reply.Duplicate 2 (codes "t") (codes "pk")) ∷ [],
    of_a 2 1 1 ∷ [],
    [],
    refl,
    refl,
    plain refl (answers refl (inr refl) refl refl refl refl refl, (answers refl (inr refl) refl refl tt refl refl, (answers refl (inr refl) refl refl (omega arith) refl refl, tt))) (refl, 1, Snapshot, refl, inl (reply.Begin 1 ∷ reply.Changed 1 ∷ [], [], refl)) refl,
    (
      line.Session (codes "a") 2 (reply.Begin 2) ∷ line.Session (codes "a") 2 (reply.Changed 1) ∷ line.Session (codes "a") 2 (reply.Duplicate 2 (codes "t") (codes "pk")) ∷ [],
      [],
      [],
      [],
      refl,
      refl,
      plain refl (answers refl (inr refl) refl refl refl refl refl, (answers refl (inr refl) refl refl tt refl refl, (answers refl (inr refl) refl refl refl refl refl, tt))) tt refl,
      (refl, refl),
    ),
  );
}

-- a line that tells that no node went down
abbrev IsNoFall : Line → Type 0
IsNoFall (line.Down count node fault) = ⊥
IsNoFall (line.Session name txn answer) = Unit {0}
IsNoFall (line.Up node) = Unit {0}
IsNoFall line.Barrier = Unit {0}
IsNoFall (line.Fed position) = Unit {0}

pub armed_again_is_in_order : InNodesOrder over_a_row armed_again_report
armed_again_is_in_order = record {
  first = [];
  go_down = tt;
  opening = [];
  opened = λ base empty. let no_such : 2 ≡ 0 = base in absurd (omega (arith, no_such));
  rest = armed_again_report.lines;
  lines_are = refl;
  later = [];
  entries_are = refl;
  order = (
    [],
    armed_again_report.lines,
    [],
    [],
    refl,
    refl,
    (refl, refl),
    (
      armed_again_report.lines,
      [],
      [],
      [],
      refl,
      refl,
      record {
        up_to = inl refl;
        each = (answers refl (inr refl) refl refl refl refl refl, (answers refl (inr refl) refl refl tt refl refl, (answers refl (inr refl) refl refl refl refl refl, tt)));
        appended = tt;
        fires = inl refl;
        fired = λ told. absurd (let no_such : reply.Duplicate 2 (codes "t") (codes "pk") ≡ reply.Committed 3 = commit_is_last (reply.Begin 2 ∷ reply.Changed 1 ∷ []) (reply.Duplicate 2 (codes "t") (codes "pk")) 3 (refl, (refl, tt)) told in cc);
        moment = λ armed front back count node is at. absurd (all_at IsNoFall armed_again_report.lines (line.Down count node false) (tt, (tt, (tt, tt))) (front, back, is));
      },
      (refl, refl),
    ),
  );
}
