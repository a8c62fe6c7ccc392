-- The language of SQL, as the laws of reports need it: what each text is to transactions, and how it is
-- answered. How a statement is bound in a schema is a parameter of the definitions: what it means there, or
-- the error that it has before any row is looked at. So is which intervals it reads. The language of SQL binds as
-- `sql_bind` does, and reads as plans do (`query_laws`).
use Rattle.std.specs.Prelude.{ℕ, ◌∷◌, [], List, true, false, Result, Ok, Err}
use Rattle.cdb_values.specs.declared.items.Interval.{Interval}
use Rattle.cdb_values.specs.declared.rows.RowOp.{RowOp}
use Rattle.cdb_values.specs.declared.rows.StatementError.{StatementError}
use Rattle.cdb_values.specs.declared.rows.StatementError.TheVariants as error
use Rattle.cdb_values.specs.declared.rows.Version.{Version}
use Rattle.cdb_values.specs.declared.tables.TableDef.{TableDef}
use Rattle.session_language.specs.Language.{Answered, Language}
use Rattle.cdb_values.specs.declared.replies.Reply.TheVariants as reply
use Rattle.sql_bind.specs.Binding.{binding}
use Rattle.sql_bind.specs.Bound.{BoundStatement}
use Rattle.sql_bind.specs.Faults.{FaultKind, UnknownTable, UnknownColumn, AmbiguousName, WrongType, WrongCount}
use Rattle.sql_grammar.specs.Trees.{Statement}
use Rattle.sql_answer.specs.Answers.{Meaning, Outcome, Fails, Gives, answer}
use Rattle.sql_answer.specs.Reading.{reading, kind_of_text}

-- how statements are bound in schemas
abbrev pub Binder : Type 0
Binder = List TableDef → Statement → Meaning

abbrev pub meant_by : Binder → List TableDef → Result Statement ℕ → Meaning
meant_by bind tables (Ok statement) = bind tables statement
meant_by bind tables (Err at) = Err (error.Syntax at)

-- what a text means in a schema: a statement, or the first error that it has before any row is looked at
unfoldable pub meaning : Binder → List TableDef → List ℕ → Meaning
meaning bind tables text = meant_by bind tables (reading text)

-- which intervals a statement reads
abbrev pub IntervalReader : Type 0
IntervalReader = List TableDef → List (List Version) → List RowOp → Meaning → List Interval

-- an outcome behind these operations, for which these intervals were read, as the laws of reports see it
abbrev pub answered : List Interval → List RowOp → Outcome → Answered
answered ranges ops (Fails cause) = record { replies = reply.Error cause ∷ []; ops = ops; uses = []; ranges = []; failed = true }
answered ranges ops (Gives told after) = record { replies = told.replies; ops = after; uses = told.uses; ranges = ranges; failed = false }

-- the language of SQL whose statements are bound so, and read so
abbrev pub language_of : Binder → IntervalReader → Language
language_of bind reads = record {
  kind = kind_of_text;
  answer = λ tables versions ops text. answered (reads tables versions ops (meaning bind tables text)) ops (answer tables versions ops (meaning bind tables text));
}

-- how each kind of error that a statement has in a schema is told
abbrev pub cause_of : FaultKind → StatementError
cause_of UnknownTable = error.Table
cause_of UnknownColumn = error.Column
cause_of AmbiguousName = error.Ambiguous
cause_of WrongType = error.Type_
cause_of WrongCount = error.Count

abbrev pub meant_as : Result BoundStatement FaultKind → Meaning
meant_as (Ok statement) = Ok statement
meant_as (Err kind) = Err (cause_of kind)

-- statements are bound as `sql_bind` binds them
abbrev pub sql_binder : Binder
sql_binder tables statement = meant_as (binding tables statement)
