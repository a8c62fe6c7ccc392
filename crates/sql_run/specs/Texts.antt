-- What a text comes to in a schema before any row is looked at: what it is to transactions, what it means, and the plan
-- by which it reads.
use Rattle.std.specs.Prelude.{List, [], Ok, Err}
use Rattle.cdb_values.specs.declared.rows.RowOp.{RowOp}
use Rattle.cdb_values.specs.declared.rows.Version.{Version}
use Rattle.cdb_values.specs.declared.tables.TableDef.{TableDef}
use Rattle.query_laws.specs.Alone.{reads_of}
use Rattle.query_plan.specs.Planned.{Planned, plan_of}
use Rattle.session_language.specs.Language.{Answered, Kind}
use Rattle.sql_answer.specs.Answers.{Meaning, answer}
use Rattle.sql_answer.specs.Language.{answered}

pub record PreparedText : Type 0 where
  pub kind : Kind
  pub meaning : Meaning
  pub plan : List Planned

-- the plan of what a text means; one with an error reads no table
abbrev pub plan_by : List TableDef → Meaning → List Planned
plan_by tables (Ok statement) = plan_of tables statement
plan_by tables (Err cause) = []

-- the answer of what a text means, behind these operations
abbrev pub answer_to : List TableDef → List (List Version) → List RowOp → Meaning → Answered
answer_to tables versions done meaning = answered (reads_of tables versions done meaning) done (answer tables versions done meaning)
