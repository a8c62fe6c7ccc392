-- What a statement means in a schema, as data alone: a bound statement without where it lies in memory.
--
-- A table is its place in the schema. A column is its table's place in FROM and its own place in that table. Of what a
-- bound statement holds, only conditions have parts that lie elsewhere in memory; the rest are the types of the code.
use Rattle.std.specs.Prelude.{ℕ, Bool, List, [], ◌∷◌, Option}
use Rattle.cdb_values.specs.declared.rows.Level.{Level}
use Rattle.cdb_values.specs.declared.values.Value.{Value}
use Rattle.sql_bind.specs.declared.types.BoundAssign.{BoundAssign}
use Rattle.sql_bind.specs.declared.types.BoundColumn.{BoundColumn}
use Rattle.sql_bind.specs.declared.types.BoundItem.{BoundItem}
use Rattle.sql_bind.specs.declared.types.BoundKey.{BoundKey}
use Rattle.sql_bind.specs.declared.types.BoundOperand.{BoundOperand}
use Rattle.sql_bind.specs.declared.types.Cmp.{Cmp}

-- A condition. Grouped is a condition in parentheses.
mutual
  pub data Cond : Type 0 where
    AnyOf : Conds → Cond
    AllOf : Conds → Cond
    NotOf : Cond → Cond
    Grouped : Cond → Cond
    Compares : Cmp → BoundOperand → BoundOperand → Cond
    TestsNull : BoundOperand → Bool → Cond

  pub data Conds : Type 0 where
    no_cond : Conds
    more_conds : Cond → Conds → Conds

abbrev pub conds : List Cond → Conds
conds [] = no_cond
conds (c ∷ cs) = more_conds c (conds cs)

-- a query
pub record BoundQuery : Type 0 where
  pub selectv : Bool
  pub items : List BoundItem
  pub tables : List ℕ
  pub filter : Option Cond
  pub group : List BoundColumn
  pub order : List BoundKey
  pub limit : Option ℕ

-- a statement; the rows of an INSERT have one value for each column of the table, in its order
pub data BoundStatement : Type 0 where
  BeginIt : BoundStatement
  CommitIt : BoundStatement
  RollbackIt : BoundStatement
  SetIt : Level → BoundStatement
  InsertInto : ℕ → List (List Value) → BoundStatement
  UpdateOf : ℕ → List BoundAssign → Option Cond → BoundStatement
  DeleteFrom : ℕ → Option Cond → BoundStatement
  SelectOf : BoundQuery → BoundStatement
