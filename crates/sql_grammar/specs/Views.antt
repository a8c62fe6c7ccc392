-- What a value of the code says, without where it lies in memory.
use Rattle.std.specs.Prelude.{ℕ, List, map, Option, Some, None, option_map}
use Rattle.sql_grammar.specs.declared.seq.Seq.{Seq}
use Rattle.sql_grammar.specs.declared.types.Literal.{Literal}
use Rattle.sql_grammar.specs.declared.types.Literal.TheVariants as literals
use Rattle.sql_grammar.specs.declared.types.ColumnName.{ColumnName}
use Rattle.sql_grammar.specs.declared.types.Operand.{Operand}
use Rattle.sql_grammar.specs.declared.types.Operand.TheVariants as operands
use Rattle.sql_grammar.specs.declared.types.Test.{Test, fold-Test}
use Rattle.sql_grammar.specs.declared.types.Test.TheOpen.{Test-F}
use Rattle.sql_grammar.specs.declared.types.SelectItem.{SelectItem}
use Rattle.sql_grammar.specs.declared.types.SelectItem.TheVariants as items
use Rattle.sql_grammar.specs.declared.types.OrderKey.{OrderKey}
use Rattle.sql_grammar.specs.declared.types.FromTable.{FromTable}
use Rattle.sql_grammar.specs.declared.types.Step.{Step}
use Rattle.sql_grammar.specs.declared.types.Assign.{Assign}
use Rattle.sql_grammar.specs.declared.types.SelectStmt.{SelectStmt}
use Rattle.sql_grammar.specs.declared.types.Stmt.{Stmt}
use Rattle.sql_grammar.specs.declared.types.Stmt.TheVariants as statements
use Rattle.sql_grammar.specs.declared.types.CreatePart.{CreatePart}
use Rattle.sql_grammar.specs.declared.types.CreatePart.TheVariants as parts
use Rattle.sql_grammar.specs.declared.types.CreateTable.{CreateTable}
use Rattle.sql_grammar.specs.Trees.{Name, Constant, NullValue, IntValue, TextValue, BlobValue, Column, Side, OfLiteral, OfColumn, Cond, AnyOf, AllOf, NotOf, Grouped, Compares, TestsNull, conds, Item, OfItem, CountAll, SumOf, MinOf, MaxOf, Key, Source, Change, Setting, Query, Statement, BeginIt, CommitIt, RollbackIt, SnapshotIt, SerializableIt, InsertInto, UpdateOf, DeleteFrom, SelectOf, Part, ColumnPart, PrimaryPart, KeyPart, Definition}

-- the items of a list of a statement
abbrev pub list_in : {A : Type 0} → Seq A → List A
list_in s = s.items.items

abbrev pub name_in : List ℕ → Name
name_in n = n

abbrev pub names_in : Seq (List ℕ) → List Name
names_in s = map name_in s.items.items

abbrev pub literal_in : Literal → Constant
literal_in literals.Null = NullValue
literal_in (literals.Int n) = IntValue n
literal_in (literals.Text t) = TextValue t
literal_in (literals.Blob b) = BlobValue b

abbrev pub tuple_in : Seq Literal → List Constant
tuple_in r = map literal_in r.items.items

abbrev pub column_in : ColumnName → Column
column_in c = record { qualifier = option_map name_in c.qualifier; name = name_in c.name }

abbrev pub operand_in : Operand → Side
operand_in (operands.Literal l) = OfLiteral (literal_in l)
operand_in (operands.Column c) = OfColumn (column_in c)

abbrev pub level : Test-F Cond → Cond
level (Test-F.Or s) = AnyOf (conds s.items.items)
level (Test-F.And s) = AllOf (conds s.items.items)
level (Test-F.Not b) = NotOf b.value
level (Test-F.Group b) = Grouped b.value
level (Test-F.Compare op left right) = Compares op (operand_in left) (operand_in right)
level (Test-F.IsNull side negated) = TestsNull (operand_in side) negated

unfoldable pub condition_in : Test → Cond
condition_in = fold-Test Cond level

abbrev pub filter_in : Option Test → Option Cond
filter_in f = option_map condition_in f

abbrev pub item_in : SelectItem → Item
item_in (items.Column c) = OfItem (column_in c)
item_in items.Count = CountAll
item_in (items.Sum c) = SumOf (column_in c)
item_in (items.Min c) = MinOf (column_in c)
item_in (items.Max c) = MaxOf (column_in c)

abbrev pub items_in : Option (Seq SelectItem) → Option (List Item)
items_in None = None
items_in (Some l) = Some (map item_in l.items.items)

abbrev pub key_in : OrderKey → Key
key_in k = record { item = item_in k.item; descending = k.descending }

abbrev pub source_in : FromTable → Source
source_in t = record { table = name_in t.table; alias = option_map name_in t.alias }

abbrev pub change_in : Step → Change
change_in s = record { minus = s.minus; side = operand_in s.operand }

abbrev pub setting_in : Assign → Setting
setting_in a = record { column = name_in a.column; first = operand_in a.first; rest = map change_in a.rest.items.items }

abbrev pub query_in : SelectStmt → Query
query_in s = record {
  selectv = s.selectv;
  items = items_in s.items;
  tables = map source_in s.tables.items.items;
  filter = filter_in s.filter;
  group = map column_in s.group.items.items;
  order = map key_in s.order.items.items;
  limit = s.limit;
}

abbrev pub statement_in : Stmt → Statement
statement_in statements.Begin = BeginIt
statement_in statements.Commit = CommitIt
statement_in statements.Rollback = RollbackIt
statement_in statements.SetSnapshot = SnapshotIt
statement_in statements.SetSerializable = SerializableIt
statement_in (statements.Insert table columns rows) = InsertInto (name_in table) (option_map names_in columns) (map tuple_in rows.items.items)
statement_in (statements.Update table assigns filter) = UpdateOf (name_in table) (map setting_in assigns.items.items) (filter_in filter)
statement_in (statements.Delete table filter) = DeleteFrom (name_in table) (filter_in filter)
statement_in (statements.Select s) = SelectOf (query_in s)

abbrev pub part_in : CreatePart → Part
part_in (parts.Column name kind marks) = ColumnPart (name_in name) kind marks.items.items
part_in (parts.Primary columns) = PrimaryPart (names_in columns)
part_in (parts.Key unique name columns) = KeyPart unique (name_in name) (names_in columns)

abbrev pub definition_in : CreateTable → Definition
definition_in c = record { name = name_in c.name; parts = map part_in c.parts.items.items }
