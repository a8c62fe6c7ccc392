-- What values of the code say.
use Rattle.std.specs.Prelude.{filter, ℕ, List, [], ◌∷◌, map, Option, Some, None, Result, Ok, Err}
use Rattle.cdb_values.specs.declared.values.Value.{Value}
use Rattle.cdb_values.specs.declared.rows.RowOp.{RowOp}
use Rattle.cdb_values.specs.declared.rows.RowRef.{RowRef}
use Rattle.cdb_values.specs.declared.rows.StatementError.{StatementError}
use Rattle.sql_bind.specs.declared.types.Bound.{Bound}
use Rattle.sql_bind.specs.declared.types.Condition.{Condition}
use Rattle.sql_bind.specs.Views.{bound_in, bound_filter_in}
use Rattle.sql_answer.specs.Answers as laws
use Rattle.sql_answer.specs.Answers.{Meaning}
use Rattle.sql_answer.specs.Combinations as laws_of_rows
use Rattle.sql_answer.specs.Conditions.{meets}
use Rattle.sql_answer_plain.specs.declared.outcomes.Outcome.{Outcome}
use Rattle.sql_answer_plain.specs.declared.outcomes.Outcome.TheVariants.{Fails, Tells, Writes}
use Rattle.sql_answer_plain.specs.declared.seen.Seen.{Seen}

-- a row that a transaction sees
abbrev pub seen_in : Seen → laws_of_rows.Seen
seen_in s = record { source = s.source; row = s.row }

abbrev pub all_seen_in : List Seen → List laws_of_rows.Seen
all_seen_in rows = map seen_in rows

-- a row with where it is from
abbrev pub seen_row : RowRef → List Value → laws_of_rows.Seen
seen_row source row = record { source = source; row = row }

-- the row that an operation wrote, if it wrote one there
abbrev pub own : ℕ → Option (List Value) → List laws_of_rows.Seen
own number None = []
own number (Some row) = laws_of_rows.seen_own number row ∷ []

abbrev pub combinations_in : List (List Seen) → List (List laws_of_rows.Seen)
combinations_in combinations = map all_seen_in combinations

-- those of these combinations for which a WHERE is true
abbrev pub all_kept : Option Condition → List (List laws_of_rows.Seen) → List (List laws_of_rows.Seen)
all_kept condition combinations = filter (λ c. meets (bound_filter_in condition) (laws_of_rows.rows_of c)) combinations

-- what an outcome comes to behind these operations
abbrev pub outcome_in : List RowOp → Outcome → laws.Outcome
outcome_in ops (Fails cause) = laws.Fails cause
outcome_in ops (Tells replies uses) = laws.Gives (record { replies = replies; uses = uses }) ops
outcome_in ops (Writes writes) = laws.net_given ops writes

-- what a statement means in the schema, or the error that it has there
abbrev pub meaning_in : Result Bound StatementError → Meaning
meaning_in (Ok statement) = Ok (bound_in statement)
meaning_in (Err cause) = Err cause
