-- A transaction's statements one after the other, over the versions at its begin position and its own
-- operations so far: what each is answered, and the intervals that it reads.
--
-- A statement that fails by the rows that it met reads nothing, and may be left out: the others are
-- answered alike without it.
use Rattle.std.specs.Prelude.{◌++◌, ◌∷◌, [], List}
use Rattle.cdb_values.specs.declared.rows.RowOp.{RowOp}
use Rattle.cdb_values.specs.declared.rows.Version.{Version}
use Rattle.cdb_values.specs.declared.tables.TableDef.{TableDef}
use Rattle.sql_answer.specs.Answers.{Outcome, Fails, Gives, Meaning, tables_read, filter_met, answer, ops_after}
use Rattle.sql_answer.specs.Combinations.{seen}
use Rattle.query_laws.specs.Intervals.{Interval}
use Rattle.query_laws.specs.Walks.{ranges_read}

-- the intervals that a statement reads
abbrev pub ranges_of : List TableDef → List (List Version) → List RowOp → Meaning → List Interval
ranges_of tables versions ops statement = ranges_read tables (seen versions ops) (tables_read statement) (filter_met statement)

-- the intervals that it uses: none where it fails
abbrev pub used_if : Outcome → List Interval → List Interval
used_if (Fails cause) ranges = []
used_if (Gives told after) ranges = ranges

-- what statements come to: the outcome of each, the operations after them, and the intervals that they use
pub record Run : Type 0 where
  pub outcomes : List Outcome
  pub ops : List RowOp
  pub ranges : List Interval

-- an outcome, with the intervals that were read for it, before a run
abbrev pub run_then : Outcome → List Interval → Run → Run
run_then outcome ranges run = record { outcomes = outcome ∷ run.outcomes; ops = run.ops; ranges = used_if outcome ranges ++ run.ranges }

-- the run of statements behind these operations
abbrev pub run_from : List TableDef → List (List Version) → List RowOp → List Meaning → Run
run_from tables versions ops [] = record { outcomes = []; ops = ops; ranges = [] }
run_from tables versions ops (s ∷ statements) =
    run_then (answer tables versions ops s) (ranges_of tables versions ops s) (run_from tables versions (ops_after ops (answer tables versions ops s)) statements)

-- a statement before others, where it did not fail
abbrev pub kept_if : Outcome → Meaning → List Meaning → List Meaning
kept_if (Fails cause) s rest = rest
kept_if (Gives told after) s rest = s ∷ rest

-- the statements that did not fail, behind these operations
abbrev pub lasting_statements : List TableDef → List (List Version) → List RowOp → List Meaning → List Meaning
lasting_statements tables versions ops [] = []
lasting_statements tables versions ops (s ∷ statements) =
    kept_if (answer tables versions ops s) s (lasting_statements tables versions (ops_after ops (answer tables versions ops s)) statements)

-- the outcomes that are no failures
abbrev pub successes : List Outcome → List Outcome
successes [] = []
successes (Fails cause ∷ outcomes) = successes outcomes
successes (Gives told after ∷ outcomes) = Gives told after ∷ successes outcomes

-- a run without its failures
abbrev pub run_without_failures : Run → Run
run_without_failures run = record { outcomes = successes run.outcomes; ops = run.ops; ranges = run.ranges }
