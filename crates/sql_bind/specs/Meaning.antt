-- What a statement means in a schema, where nothing is wrong with it.
use Rattle.std.specs.Prelude.{ℕ, ◌+◌, List, [], ◌∷◌, ◌++◌, if◌then◌else◌, map, take, Option, Some, None, option_map}
use Rattle.std.specs.Str.{bytes_eq}
use Rattle.cdb_values.specs.declared.rows.Level.TheVariants.{Snapshot, Serializable}
use Rattle.cdb_values.specs.declared.tables.ColumnDef.{ColumnDef}
use Rattle.cdb_values.specs.declared.tables.TableDef.{TableDef}
use Rattle.cdb_values.specs.declared.values.Value.{Value}
use Rattle.cdb_values.specs.declared.values.Value.TheVariants as values
use Rattle.sql_grammar.specs.declared.types.Comparison.{Comparison}
use Rattle.sql_grammar.specs.declared.types.Comparison.TheVariants as signs
use Rattle.sql_grammar.specs.Trees.{Name, Constant, NullValue, IntValue, TextValue, BlobValue, Column, Side, OfLiteral, OfColumn, Item, OfItem, CountAll, SumOf, MinOf, MaxOf, Key, Change, Setting, Query, Statement}
use Rattle.sql_grammar.specs.Trees as written
use Rattle.sql_bind.specs.declared.types.BoundAssign.{BoundAssign}
use Rattle.sql_bind.specs.declared.types.BoundItem.{BoundItem}
use Rattle.sql_bind.specs.declared.types.BoundItem.TheVariants as items
use Rattle.sql_bind.specs.declared.types.BoundKey.{BoundKey}
use Rattle.sql_bind.specs.declared.types.BoundOperand.{BoundOperand}
use Rattle.sql_bind.specs.declared.types.BoundOperand.TheVariants as operands
use Rattle.sql_bind.specs.declared.types.BoundStep.{BoundStep}
use Rattle.sql_bind.specs.declared.types.Cmp.{Cmp}
use Rattle.sql_bind.specs.declared.types.Cmp.TheVariants as cmps
use Rattle.sql_bind.specs.Bound.{Cond, AnyOf, AllOf, NotOf, Grouped, Compares, TestsNull, Conds, no_cond, more_conds, BoundQuery, BoundStatement, BeginIt, CommitIt, RollbackIt, SetIt, InsertInto, UpdateOf, DeleteFrom, SelectOf}
use Rattle.sql_bind.specs.Scope.{Visible, target, visible, meant, named_ones}
use Rattle.sql_bind.specs.Faults.{own_column}

abbrev pub value_of : Constant → Value
value_of NullValue = values.Null
value_of (IntValue number) = values.Int number
value_of (TextValue text) = values.Text text
value_of (BlobValue blob) = values.Blob blob

abbrev pub bound_side : List Visible → Side → BoundOperand
bound_side scope (OfLiteral literal) = operands.Value (value_of literal)
bound_side scope (OfColumn column) = operands.Column (meant scope column)

abbrev pub cmp_of : Comparison → Cmp
cmp_of signs.Eq = cmps.Eq
cmp_of signs.Ne = cmps.Ne
cmp_of signs.Lt = cmps.Lt
cmp_of signs.Le = cmps.Le
cmp_of signs.Gt = cmps.Gt
cmp_of signs.Ge = cmps.Ge

-- a condition keeps its shape
abbrev mutual
  pub bound_cond : List Visible → written.Cond → Cond
  bound_cond scope (written.AnyOf parts) = AnyOf (bound_conds scope parts)
  bound_cond scope (written.AllOf parts) = AllOf (bound_conds scope parts)
  bound_cond scope (written.NotOf part) = NotOf (bound_cond scope part)
  bound_cond scope (written.Grouped part) = Grouped (bound_cond scope part)
  bound_cond scope (written.Compares sign left right) = Compares (cmp_of sign) (bound_side scope left) (bound_side scope right)
  bound_cond scope (written.TestsNull side negated) = TestsNull (bound_side scope side) negated

  pub bound_conds : List Visible → written.Conds → Conds
  bound_conds scope written.no_cond = no_cond
  bound_conds scope (written.more_conds part parts) = more_conds (bound_cond scope part) (bound_conds scope parts)

abbrev pub bound_filter : List Visible → Option written.Cond → Option Cond
bound_filter scope filter = option_map (bound_cond scope) filter

-- the value that a tuple has for a column, NULL where the list leaves the column out
abbrev pub listed_value : List Name → List Constant → Name → Value
listed_value [] literals column = values.Null
listed_value (name ∷ names) [] column = values.Null
listed_value (name ∷ names) (literal ∷ literals) column = if bytes_eq name column then value_of literal else listed_value names literals column

-- one value for each column of the table, in its order
abbrev pub bound_row : Visible → Option (List Name) → List Constant → List Value
bound_row table None literals = map value_of literals
bound_row table (Some names) literals = map (λ column. listed_value names literals column.name) table.columns

abbrev pub bound_change : List Visible → Change → BoundStep
bound_change scope change = record { minus = change.minus; operand = bound_side scope change.side }

abbrev pub bound_setting : List Visible → Setting → BoundAssign
bound_setting scope setting = record {
  column = (meant scope (own_column setting.column)).column;
  first = bound_side scope setting.first;
  rest = map (bound_change scope) setting.rest;
}

abbrev pub bound_item : List Visible → Item → BoundItem
bound_item scope (OfItem column) = items.Column (meant scope column)
bound_item scope CountAll = items.Count
bound_item scope (SumOf column) = items.Sum (meant scope column)
bound_item scope (MinOf column) = items.Min (meant scope column)
bound_item scope (MaxOf column) = items.Max (meant scope column)

abbrev pub bound_key : List Visible → Key → BoundKey
bound_key scope key = record { item = bound_item scope key.item; descending = key.descending }

-- the columns of a table of FROM, counted on from a number
abbrev pub columns_from : ℕ → ℕ → List ColumnDef → List BoundItem
columns_from place at [] = []
columns_from place at (column ∷ columns) = items.Column (record { place = place; column = at }) ∷ columns_from place (at + 1) columns

-- all columns of the tables in FROM order, the tables counted on from a number
abbrev pub all_from : ℕ → List Visible → List BoundItem
all_from place [] = []
all_from place (table ∷ tables) = columns_from place 0 (take 256 table.columns) ++ all_from (place + 1) tables

abbrev pub bound_items : List Visible → Option (List Item) → List BoundItem
bound_items scope None = all_from 0 scope
bound_items scope (Some items) = map (bound_item scope) items

abbrev pub bound_query : List Visible → Query → BoundQuery
bound_query sources query = record {
  selectv = query.selectv;
  items = bound_items (named_ones sources) query.items;
  tables = map (λ table. table.table) sources;
  filter = bound_filter (named_ones sources) query.filter;
  group = map (meant (named_ones sources)) query.group;
  order = map (bound_key (named_ones sources)) query.order;
  limit = query.limit;
}

unfoldable pub bound_as : List TableDef → Statement → BoundStatement
bound_as tables written.BeginIt = BeginIt
bound_as tables written.CommitIt = CommitIt
bound_as tables written.RollbackIt = RollbackIt
bound_as tables written.SnapshotIt = SetIt Snapshot
bound_as tables written.SerializableIt = SetIt Serializable
bound_as tables (written.InsertInto table names rows) = InsertInto (target tables table).table (map (bound_row (target tables table) names) rows)
bound_as tables (written.UpdateOf table settings filter) = UpdateOf (target tables table).table (map (bound_setting (target tables table ∷ [])) settings) (bound_filter (target tables table ∷ []) filter)
bound_as tables (written.DeleteFrom table filter) = DeleteFrom (target tables table).table (bound_filter (target tables table ∷ []) filter)
bound_as tables (written.SelectOf query) = SelectOf (bound_query (map (visible tables) query.tables) query)
