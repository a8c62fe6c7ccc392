-- Worked example: write skew. Two transactions read all rows of t from id 1 on, and each changes one of
-- them; and a history with the schema's entry a second time.
use Rattle.std.specs.Prelude.{ℕ, ◌∷◌, [], List, Some, Ok}
use Rattle.cdb_values.specs.Rows.{no_rows}
use Rattle.cdb_values.specs.declared.rows.Level.TheVariants.{Serializable}
use Rattle.cdb_values.specs.declared.values.Value.{Value}
use Rattle.cdb_values.specs.declared.replies.Reply.TheVariants as reply
use Rattle.sql_bind.specs.Bound.{InsertInto, UpdateOf, SelectOf}
use Rattle.sql_bind.specs.declared.types.BoundItem.TheVariants as items
use Rattle.sql_bind.specs.declared.types.BoundOperand.TheVariants as operand
use Rattle.sql_bind.specs.declared.types.Cmp.TheVariants as cmp
use Rattle.sql_answer.specs.Answers.{Meaning, Outcome}
use Rattle.sql_answer.specs.Worked.{int, id, v, compares, plain_query, tells}
use Rattle.query_laws.specs.Intervals.{Edge, Free, Interval}
use Rattle.query_laws.specs.Worked.{interval}
use Rattle.serial_laws.specs.Histories.{Entry, Setup, Commit, Origin}

-- the beginning of a database
abbrev pub beginning : Origin
beginning = record { position = 0; rows = no_rows [] }

-- insert into t values (1, 10), (2, 20)
abbrev pub two_inserts : Meaning
two_inserts = Ok (InsertInto 0 ((int 1 ∷ int 10 ∷ []) ∷ (int 2 ∷ int 20 ∷ []) ∷ []))

-- select id, v from t where id >= 1
abbrev pub all_read : Meaning
all_read = Ok (SelectOf (plain_query (0 ∷ []) (items.Column id ∷ items.Column v ∷ []) (Some (compares cmp.Ge id 1))))

-- select id from t where id = 1
abbrev pub one_read : Meaning
one_read = Ok (SelectOf (plain_query (0 ∷ []) (items.Column id ∷ []) (Some (compares cmp.Eq id 1))))

-- update t set v = 0 where id = n
abbrev pub set_to_0 : ℕ → Meaning
set_to_0 n = Ok (UpdateOf 0 (record { column = 1; first = operand.Value (int 0); rest = [] } ∷ []) (Some (compares cmp.Eq id n)))

-- the entries 1 to 4: the schema, two rows, and two transactions that began at 2
abbrev pub skew : List Entry
skew = Setup ∷ Commit (two_inserts ∷ []) 1 Serializable ∷ Commit (all_read ∷ set_to_0 1 ∷ []) 2 Serializable ∷ Commit (all_read ∷ set_to_0 2 ∷ []) 2 Serializable ∷ []

-- the schema's entry a second time, between a transaction's begin and its entry
abbrev pub schema_again : List Entry
schema_again = Setup ∷ Commit (two_inserts ∷ []) 1 Serializable ∷ Setup ∷ Commit (one_read ∷ []) 2 Serializable ∷ []

-- the rows from a bound of id on
abbrev pub from_id : Edge → Interval
from_id low = interval 0 [] low Free

-- two rows are told
abbrev pub told_two : List Value → List Value → Outcome
told_two first second = tells (reply.Row first ∷ reply.Row second ∷ reply.Done 2 ∷ [])
