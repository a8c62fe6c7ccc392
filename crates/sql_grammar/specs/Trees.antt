-- What a text of SQL says, as data alone: statements and table definitions without where they lie in memory.
-- A name is the list of its bytes.
use Rattle.std.specs.Prelude.{ℕ, ℤ, Bool, List, [], ◌∷◌, Option}
use Rattle.sql_grammar.specs.declared.types.Comparison.{Comparison}
use Rattle.sql_grammar.specs.declared.types.Kind.{Kind}
use Rattle.sql_grammar.specs.declared.types.Mark.{Mark}

abbrev pub Name : Type 0
Name = List ℕ

-- a value as it is written
pub data Constant : Type 0 where
  NullValue : Constant
  IntValue : ℤ → Constant
  TextValue : List ℕ → Constant
  BlobValue : List ℕ → Constant

-- a column, with its table or alias where one is written
pub record Column : Type 0 where
  pub qualifier : Option Name
  pub name : Name

-- a literal or a column
pub data Side : Type 0 where
  OfLiteral : Constant → Side
  OfColumn : Column → Side

-- A condition. AnyOf and AllOf have two parts at least, and Grouped is a condition in parentheses.
mutual
  pub data Cond : Type 0 where
    AnyOf : Conds → Cond
    AllOf : Conds → Cond
    NotOf : Cond → Cond
    Grouped : Cond → Cond
    Compares : Comparison → Side → Side → Cond
    TestsNull : Side → Bool → Cond

  pub data Conds : Type 0 where
    no_cond : Conds
    more_conds : Cond → Conds → Conds

abbrev pub conds : List Cond → Conds
conds [] = no_cond
conds (c ∷ cs) = more_conds c (conds cs)

-- what a query gives in a column of its answer
pub data Item : Type 0 where
  OfItem : Column → Item
  CountAll : Item
  SumOf : Column → Item
  MinOf : Column → Item
  MaxOf : Column → Item

-- a key of ORDER BY
pub record Key : Type 0 where
  pub item : Item
  pub descending : Bool

-- a table of FROM
pub record Source : Type 0 where
  pub table : Name
  pub alias : Option Name

-- what is added or taken away
pub record Change : Type 0 where
  pub minus : Bool
  pub side : Side

-- a column of SET and its value
pub record Setting : Type 0 where
  pub column : Name
  pub first : Side
  pub rest : List Change

-- a query
pub record Query : Type 0 where
  pub selectv : Bool
  pub items : Option (List Item)
  pub tables : List Source
  pub filter : Option Cond
  pub group : List Column
  pub order : List Key
  pub limit : Option ℕ

pub data Statement : Type 0 where
  BeginIt : Statement
  CommitIt : Statement
  RollbackIt : Statement
  SnapshotIt : Statement
  SerializableIt : Statement
  InsertInto : Name → Option (List Name) → List (List Constant) → Statement
  UpdateOf : Name → List Setting → Option Cond → Statement
  DeleteFrom : Name → Option Cond → Statement
  SelectOf : Query → Statement

-- a column or a key of a table's definition
pub data Part : Type 0 where
  ColumnPart : Name → Kind → List Mark → Part
  PrimaryPart : List Name → Part
  KeyPart : Bool → Name → List Name → Part

pub record Definition : Type 0 where
  pub name : Name
  pub parts : List Part
