-- The writes of a transaction in turn, and what its net operations make of the same rows.
--
-- Each write finds the rows as the writes before it left them, with its target by genid: a target
-- by number is the genid that the write of that number gave. A write applies where its table is
-- there and its target is live when its turn comes: so a target by number is an earlier insert or
-- update whose version no write between took away. A target by genid is a version of the base,
-- since the transaction names its own versions by number alone. On a base whose genids are all
-- below its next one, the net operations of writes that apply give the same rows in the same order.
use Rattle.std.specs.Prelude.{◌≡◌, ℕ, ◌<◌, ◌++◌, ◌∷◌, [], List, Option, Some, None, true, length}
use Rattle.std.specs.List.{AllByRecursion}
use Rattle.cdb_values.specs.Rows.{Rows, no_rows, apply, apply_all}
use Rattle.cdb_values.specs.declared.rows.RowOp.{RowOp}
use Rattle.cdb_values.specs.declared.rows.RowOp.TheVariants.{Insert, Update, Delete}
use Rattle.cdb_values.specs.declared.rows.RowRef.{RowRef}
use Rattle.cdb_values.specs.declared.rows.RowRef.TheVariants.{Base, Own}
use Rattle.cdb_values.specs.declared.tables.TableDef.{TableDef}
use Rattle.genid_rows.specs.Targets.{based, given, is_target_live, table_of}
use Rattle.net_writes.specs.Net.{net_of}
use Rattle.cdb_values.specs.Views.{table_rows}

-- the genid that a write gave, and 0 for a write that gave none
abbrev pub recorded : Option ℕ → ℕ
recorded None = 0
recorded (Some genid) = genid

-- the genids that the writes gave, with that of one more on these rows
abbrev pub made_with : List ℕ → Rows → RowOp → List ℕ
made_with made rows op = made ++ recorded (given rows op) ∷ []

-- the rows after these writes in turn, where those before them gave these genids
abbrev pub in_turn : Rows → List ℕ → List RowOp → Rows
in_turn rows made [] = rows
in_turn rows made (op ∷ ops) = in_turn (apply rows (based made op)) (made_with made rows op) ops

-- a target by genid is below the next one of the base
abbrev pub IsNamed : ℕ → RowRef → Type 0
IsNamed next (Base genid) = genid < next
IsNamed next (Own write) = Unit {0}

abbrev pub NamesTarget : ℕ → RowOp → Type 0
NamesTarget next (Insert table row) = Unit {0}
NamesTarget next (Update table target old row) = IsNamed next target
NamesTarget next (Delete table target old) = IsNamed next target

-- a write applies on these rows, over a base of that next genid, after writes that gave these genids
pub record Applies (next : ℕ) (rows : Rows) (made : List ℕ) (op : RowOp) : Type 0 where
  pub table : table_of op < length rows.tables
  pub live : is_target_live rows made op ≡ true
  pub named : NamesTarget next op

-- each of these writes applies when its turn comes
abbrev pub ApplyInTurn : ℕ → Rows → List ℕ → List RowOp → Type 0
ApplyInTurn next rows made [] = Unit {0}
ApplyInTurn next rows made (op ∷ ops) = Applies next rows made op × ApplyInTurn next (apply rows (based made op)) (made_with made rows op) ops

-- a base whose genids are all below its next one
pub record IsNumbered (rows : Rows) : Type 0 where
  pub below : AllByRecursion (AllByRecursion (λ v. v.genid < rows.next)) rows.tables

-- the law, on every such base: the writes in turn and their net operations give the same rows
abbrev pub NetIsInTurn : Type 0
NetIsInTurn = (rows : Rows) (ops : List RowOp) (table : ℕ) → IsNumbered rows → ApplyInTurn rows.next rows [] ops
    → table_rows (in_turn rows [] ops) table ≡ table_rows (apply_all rows (net_of ops)) table

-- tables without rows are such a base
abbrev pub NoRowsAreNumbered : Type 0
NoRowsAreNumbered = (tables : List TableDef) → IsNumbered (no_rows tables)

-- and operations keep it
abbrev pub StaysNumbered : Type 0
StaysNumbered = (rows : Rows) (op : RowOp) → IsNumbered rows → IsNumbered (apply rows op)
