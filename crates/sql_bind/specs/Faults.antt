-- What is wrong with a statement in a schema: one test for each kind, each meant where the kinds before it are absent.
use Rattle.std.specs.Prelude.{ℕ, ◌==◌, List, [], ◌∷◌, ◌++◌, Bool, true, false, ◌&&◌, ◌||◌, not, map, flat_map, length, Option, Some, None, is_none, unwrap_or}
use Rattle.std.specs.List.{list_any}
use Rattle.cdb_values.specs.Tables.{has_twice}
use Rattle.cdb_values.specs.declared.tables.ColumnType.{ColumnType}
use Rattle.cdb_values.specs.declared.tables.ColumnType.TheVariants as kinds
use Rattle.cdb_values.specs.declared.tables.TableDef.{TableDef}
use Rattle.sql_grammar.specs.Trees.{Name, Constant, NullValue, IntValue, TextValue, BlobValue, Column, Side, OfLiteral, OfColumn, Cond, AnyOf, AllOf, NotOf, Grouped, Compares, TestsNull, Conds, no_cond, more_conds, Item, OfItem, CountAll, SumOf, MinOf, MaxOf, Change, Setting, Query, Statement, InsertInto, UpdateOf, DeleteFrom, SelectOf}
use Rattle.sql_bind.specs.Scope.{Visible, target, visible, is_unknown_table, is_unknown, is_ambiguous, may_be_same, kind_meant, named_ones}

-- the kinds, in the order in which they are told
pub data FaultKind : Type 0 where
  UnknownTable : FaultKind
  UnknownColumn : FaultKind
  AmbiguousName : FaultKind
  WrongType : FaultKind
  WrongCount : FaultKind

-- The columns that the parts of a statement name.

-- a column that INSERT lists or SET writes, which stands without its table
abbrev pub own_column : Name → Column
own_column name = record { qualifier = None; name = name }

abbrev pub side_columns : Side → List Column
side_columns (OfLiteral literal) = []
side_columns (OfColumn column) = column ∷ []

abbrev mutual
  pub cond_columns : Cond → List Column
  cond_columns (AnyOf parts) = parts_columns parts
  cond_columns (AllOf parts) = parts_columns parts
  cond_columns (NotOf part) = cond_columns part
  cond_columns (Grouped part) = cond_columns part
  cond_columns (Compares sign left right) = side_columns left ++ side_columns right
  cond_columns (TestsNull side negated) = side_columns side

  pub parts_columns : Conds → List Column
  parts_columns no_cond = []
  parts_columns (more_conds part parts) = cond_columns part ++ parts_columns parts

abbrev pub filter_columns : Option Cond → List Column
filter_columns None = []
filter_columns (Some cond) = cond_columns cond

abbrev pub setting_columns : Setting → List Column
setting_columns setting = side_columns setting.first ++ flat_map (λ change. side_columns change.side) setting.rest

abbrev pub item_columns : Item → List Column
item_columns (OfItem column) = column ∷ []
item_columns CountAll = []
item_columns (SumOf column) = column ∷ []
item_columns (MinOf column) = column ∷ []
item_columns (MaxOf column) = column ∷ []

-- The items of a query, and behind them those of its ORDER BY.

abbrev pub listed : Option (List Item) → List Item
listed None = []
listed (Some items) = items

abbrev pub query_items : Query → List Item
query_items query = listed query.items ++ map (λ key. key.item) query.order

-- Grouped queries.

abbrev pub is_aggregate : Item → Bool
is_aggregate (OfItem column) = false
is_aggregate CountAll = true
is_aggregate (SumOf column) = true
is_aggregate (MinOf column) = true
is_aggregate (MaxOf column) = true

abbrev pub is_empty : {A : Type 0} → List A → Bool
is_empty [] = true
is_empty (x ∷ xs) = false

-- it has GROUP BY, or an aggregate in its items or in ORDER BY
abbrev pub is_grouped : Query → Bool
is_grouped query = not (is_empty query.group) || list_any is_aggregate (query_items query)

-- a plain column that cannot be one of GROUP BY
abbrev pub is_outside : List Visible → List Column → Item → Bool
is_outside scope group (OfItem column) = not (list_any (may_be_same scope column) group)
is_outside scope group CountAll = false
is_outside scope group (SumOf column) = false
is_outside scope group (MinOf column) = false
is_outside scope group (MaxOf column) = false

-- `*`, or a plain column outside GROUP BY
abbrev pub is_ungrouped : List Visible → Query → Bool
is_ungrouped scope query = is_none query.items || list_any (is_outside scope query.group) (query_items query)

-- Types: NULL has none, and goes with each.

abbrev pub literal_kind : Constant → Option ColumnType
literal_kind NullValue = None
literal_kind (IntValue number) = Some kinds.Integer
literal_kind (TextValue text) = Some kinds.Text
literal_kind (BlobValue blob) = Some kinds.Blob

abbrev pub side_kind : List Visible → Side → Option ColumnType
side_kind scope (OfLiteral literal) = literal_kind literal
side_kind scope (OfColumn column) = kind_meant scope column

abbrev pub is_same_type : ColumnType → ColumnType → Bool
is_same_type kinds.Integer kinds.Integer = true
is_same_type kinds.Text kinds.Text = true
is_same_type kinds.Blob kinds.Blob = true
is_same_type _ _ = false

abbrev pub differ : Option ColumnType → Option ColumnType → Bool
differ None _ = false
differ (Some a) None = false
differ (Some a) (Some b) = not (is_same_type a b)

abbrev pub is_no_number : List Visible → Side → Bool
is_no_number scope side = differ (side_kind scope side) (Some kinds.Integer)

-- whether a condition compares operands of different types
abbrev mutual
  pub cond_differs : List Visible → Cond → Bool
  cond_differs scope (AnyOf parts) = parts_differ scope parts
  cond_differs scope (AllOf parts) = parts_differ scope parts
  cond_differs scope (NotOf part) = cond_differs scope part
  cond_differs scope (Grouped part) = cond_differs scope part
  cond_differs scope (Compares sign left right) = differ (side_kind scope left) (side_kind scope right)
  cond_differs scope (TestsNull side negated) = false

  pub parts_differ : List Visible → Conds → Bool
  parts_differ scope no_cond = false
  parts_differ scope (more_conds part parts) = cond_differs scope part || parts_differ scope parts

abbrev pub filter_differs : List Visible → Option Cond → Bool
filter_differs scope None = false
filter_differs scope (Some cond) = cond_differs scope cond

-- A value alone is of its column's type. What `+` and `-` make is an integer, and is made of integers.
abbrev pub value_differs : Option ColumnType → List Visible → Side → List Change → Bool
value_differs kind scope first [] = differ kind (side_kind scope first)
value_differs kind scope first (change ∷ changes) = differ kind (Some kinds.Integer) || (is_no_number scope first || list_any (λ c. is_no_number scope c.side) (change ∷ changes))

-- the value of a column in SET that is of another type
abbrev pub setting_differs : Visible → Setting → Bool
setting_differs table setting = value_differs (kind_meant (table ∷ []) (own_column setting.column)) (table ∷ []) setting.first setting.rest

-- a SUM of what is no integer
abbrev pub item_differs : List Visible → Item → Bool
item_differs scope (OfItem column) = false
item_differs scope CountAll = false
item_differs scope (SumOf column) = differ (kind_meant scope column) (Some kinds.Integer)
item_differs scope (MinOf column) = false
item_differs scope (MaxOf column) = false

-- the types of a tuple's columns: of those that are listed, or of all columns of the table
abbrev pub tuple_kinds : Visible → Option (List Name) → List (Option ColumnType)
tuple_kinds table None = map (λ column. Some column.kind) table.columns
tuple_kinds table (Some names) = map (λ name. kind_meant (table ∷ []) (own_column name)) names

-- values without a column have no type to miss
abbrev pub tuple_differs : List (Option ColumnType) → List Constant → Bool
tuple_differs [] literals = false
tuple_differs (kind ∷ kinds) [] = false
tuple_differs (kind ∷ kinds) (literal ∷ literals) = differ kind (literal_kind literal) || tuple_differs kinds literals

-- What the tests look at, by the kind of statement.

abbrev pub own_columns : Option (List Name) → List Column
own_columns None = []
own_columns (Some names) = map own_column names

abbrev pub statement_tables : Statement → List Name
statement_tables (InsertInto table names rows) = table ∷ []
statement_tables (UpdateOf table settings filter) = table ∷ []
statement_tables (DeleteFrom table filter) = table ∷ []
statement_tables (SelectOf query) = map (λ source. source.table) query.tables
statement_tables _ = []

-- the tables from which its columns may come
abbrev pub scope_of : List TableDef → Statement → List Visible
scope_of tables (InsertInto table names rows) = target tables table ∷ []
scope_of tables (UpdateOf table settings filter) = target tables table ∷ []
scope_of tables (DeleteFrom table filter) = target tables table ∷ []
scope_of tables (SelectOf query) = named_ones (map (visible tables) query.tables)
scope_of tables _ = []

abbrev pub update_columns : List Setting → Option Cond → List Column
update_columns settings filter = map (λ setting. own_column setting.column) settings ++ (flat_map setting_columns settings ++ filter_columns filter)

abbrev pub query_columns : Query → List Column
query_columns query = flat_map item_columns (query_items query) ++ (filter_columns query.filter ++ query.group)

-- the columns that it names
abbrev pub statement_columns : Statement → List Column
statement_columns (InsertInto table names rows) = own_columns names
statement_columns (UpdateOf table settings filter) = update_columns settings filter
statement_columns (DeleteFrom table filter) = filter_columns filter
statement_columns (SelectOf query) = query_columns query
statement_columns _ = []

abbrev pub names_listed : Option (List Name) → List Name
names_listed None = []
names_listed (Some names) = names

-- the names that may stand in it once: of the columns that it writes, and of its tables
abbrev pub single_names : Statement → List Name
single_names (InsertInto table names rows) = names_listed names
single_names (UpdateOf table settings filter) = map (λ setting. setting.column) settings
single_names (SelectOf query) = map (λ source. unwrap_or source.alias source.table) query.tables
single_names _ = []

-- it is a query that is grouped, with `*` or a plain column outside GROUP BY
abbrev pub is_badly_grouped : List Visible → Statement → Bool
is_badly_grouped scope (SelectOf query) = is_grouped query && is_ungrouped scope query
is_badly_grouped scope _ = false

-- how many values a tuple has to have
abbrev pub width : Visible → Option (List Name) → ℕ
width table None = length table.columns
width table (Some names) = length names

-- The tests.

abbrev pub has_unknown_table : List TableDef → Statement → Bool
has_unknown_table tables statement = list_any (is_unknown_table tables) (statement_tables statement)

abbrev pub has_unknown_column : List TableDef → Statement → Bool
has_unknown_column tables statement = is_badly_grouped (scope_of tables statement) statement || list_any (is_unknown (scope_of tables statement)) (statement_columns statement)

abbrev pub has_ambiguous_name : List TableDef → Statement → Bool
has_ambiguous_name tables statement = has_twice (single_names statement) || list_any (is_ambiguous (scope_of tables statement)) (statement_columns statement)

abbrev pub has_wrong_type : List TableDef → Statement → Bool
has_wrong_type tables (InsertInto table names rows) = list_any (tuple_differs (tuple_kinds (target tables table) names)) rows
has_wrong_type tables (UpdateOf table settings filter) = list_any (setting_differs (target tables table)) settings || filter_differs (target tables table ∷ []) filter
has_wrong_type tables (DeleteFrom table filter) = filter_differs (target tables table ∷ []) filter
has_wrong_type tables (SelectOf query) = list_any (item_differs (scope_of tables (SelectOf query))) (query_items query) || filter_differs (scope_of tables (SelectOf query)) query.filter
has_wrong_type tables _ = false

abbrev pub has_wrong_count : List TableDef → Statement → Bool
has_wrong_count tables (InsertInto table names rows) = list_any (λ row. not (length row == width (target tables table) names)) rows
has_wrong_count tables _ = false
