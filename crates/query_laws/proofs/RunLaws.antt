-- Statements over rows that the intervals which they use do not tell from those at their begin.
use Rattle.std.proofs.Common.{◌≡◌, List, [], ◌∷◌, refl, ap, ◌∙◌}
use Rattle.std.specs.List.{AllByRecursion}
use Rattle.cdb_values.specs.Rows.{Rows}
use Rattle.cdb_values.specs.declared.rows.RowOp.{RowOp}
use Rattle.cdb_values.specs.declared.tables.TableDef.{TableDef}
use Rattle.sql_answer.specs.Answers.{Outcome, Fails, Gives, Meaning, tables_read, filter_met, finish, answer, ops_after}
use Rattle.sql_answer.specs.Combinations.{seen}
use Rattle.query_laws.specs.Conjuncts.{conjuncts}
use Rattle.query_laws.specs.Intervals.{Interval}
use Rattle.query_laws.specs.Runs.{ranges_of, used_if, run_then, run_from, kept_if, lasting_statements, run_without_failures}
use Rattle.query_laws.specs.Stable.{HoldsTheSame, ShowsTheSame}
use Rattle.query_laws.proofs.ListLaws.{all_back, all_weaker}
use Rattle.session_language.proofs.EachLaws.{all_front}
use Rattle.query_laws.proofs.RowsLaws.{seen_same}
use Rattle.query_laws.proofs.StableLemmas.{met_same, ranges_same}

all_seen : (tables : List TableDef) (rows others : Rows) (ops : List RowOp) (ranges : List Interval) → AllByRecursion (HoldsTheSame tables rows others) ranges →
    AllByRecursion (ShowsTheSame tables (seen rows.tables ops) (seen others.tables ops)) ranges
all_seen tables rows others ops ranges same =
    all_weaker (HoldsTheSame tables rows others) (ShowsTheSame tables (seen rows.tables ops) (seen others.tables ops)) (seen_same tables rows others ops) ranges same

-- one statement
pub answer_same : (tables : List TableDef) (rows others : Rows) (ops : List RowOp) (s : Meaning) →
    AllByRecursion (HoldsTheSame tables rows others) (ranges_of tables rows.tables ops s) → answer tables others.tables ops s ≡ answer tables rows.tables ops s
answer_same tables rows others ops s same =
    ap (finish tables s ops) (met_same tables (seen rows.tables ops) (seen others.tables ops) (tables_read s) (filter_met s) (all_seen tables rows others ops _ same))

pub reads_same : (tables : List TableDef) (rows others : Rows) (ops : List RowOp) (s : Meaning) →
    AllByRecursion (HoldsTheSame tables rows others) (ranges_of tables rows.tables ops s) → ranges_of tables others.tables ops s ≡ ranges_of tables rows.tables ops s
reads_same tables rows others ops s same =
    ranges_same tables (conjuncts (filter_met s)) (seen rows.tables ops) (seen others.tables ops) (tables_read s) ([] ∷ []) (all_seen tables rows others ops _ same)

-- a statement that is done, and those after it
run_step : (tables : List TableDef) (rows others : Rows) (ops : List RowOp) (s : Meaning) (ss : List Meaning) (o : Outcome) →
    answer tables rows.tables ops s ≡ o →
    AllByRecursion (HoldsTheSame tables rows others) (used_if o (ranges_of tables rows.tables ops s)) →
    run_from tables others.tables (ops_after ops o) (lasting_statements tables rows.tables (ops_after ops o) ss) ≡ run_without_failures (run_from tables rows.tables (ops_after ops o) ss) →
    run_from tables others.tables ops (kept_if o s (lasting_statements tables rows.tables (ops_after ops o) ss))
    ≡ run_without_failures (run_then o (ranges_of tables rows.tables ops s) (run_from tables rows.tables (ops_after ops o) ss))
run_step tables rows others ops s ss (Fails e) is same rest = rest
run_step tables rows others ops s ss (Gives told after) is same rest =
    let now = answer_same tables rows others ops s same ∙ is in
    ap (λ o. run_then o (ranges_of tables others.tables ops s) (run_from tables others.tables (ops_after ops o) (lasting_statements tables rows.tables after ss))) now
    ∙ ap (λ l. run_then (Gives told after) l (run_from tables others.tables after (lasting_statements tables rows.tables after ss))) (reads_same tables rows others ops s same)
    ∙ ap (λ n. run_then (Gives told after) (ranges_of tables rows.tables ops s) n) rest

-- the whole transaction, without the statements that failed
pub run_same : (tables : List TableDef) (rows others : Rows) (ops : List RowOp) (ss : List Meaning) →
    AllByRecursion (HoldsTheSame tables rows others) (run_from tables rows.tables ops ss).ranges →
    run_from tables others.tables ops (lasting_statements tables rows.tables ops ss) ≡ run_without_failures (run_from tables rows.tables ops ss)
run_same tables rows others ops [] same = refl
run_same tables rows others ops (s ∷ ss) same =
    run_step tables rows others ops s ss (answer tables rows.tables ops s) refl
    (all_front (HoldsTheSame tables rows others) (used_if (answer tables rows.tables ops s) (ranges_of tables rows.tables ops s)) (run_from tables rows.tables (ops_after ops (answer tables rows.tables ops s)) ss).ranges same)
    (run_same tables rows others (ops_after ops (answer tables rows.tables ops s)) ss
    (all_back (HoldsTheSame tables rows others) (used_if (answer tables rows.tables ops s) (ranges_of tables rows.tables ops s)) (run_from tables rows.tables (ops_after ops (answer tables rows.tables ops s)) ss).ranges same))
