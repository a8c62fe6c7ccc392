-- What a bound statement has of the text that it is of: the values of the rows of an INSERT, and those that SET gives, can be told;
-- and in tables with columns a query has an item or more.
use Rattle.std.proofs.Common.{◌≡◌, ℕ, List, [], ◌∷◌, ◌++◌, map, take, Bool, true, false, cond, ◌||◌, refl, ap, subst, Option, Some, None, Result, Ok, Err}
use Rattle.std.specs.Prelude.{slice_get, is_none, bytes_eq, unwrap_or}
use Rattle.std.specs.List.{AllByRecursion, list_any}
use Rattle.std.proofs.lemmas.Bool.{or_parts}
use Rattle.std.proofs.lemmas.Option.{same_Some}
use Rattle.cdb_values.specs.Named.{PlacedTable, found_at, with_place, table_named}
use Rattle.cdb_values.specs.Tables.{place_of}
use Rattle.cdb_values.specs.declared.tables.ColumnDef.{ColumnDef}
use Rattle.cdb_values.specs.declared.tables.TableDef.{TableDef}
use Rattle.cdb_values.specs.declared.values.Value.{Value}
use Rattle.session_language.proofs.EachLaws.{all_found}
use Rattle.session_language.specs.Spelled.{IsToldValue, IsToldRow, SpellsRow}
use Rattle.sql_bind.specs.Binding.{binding}
use Rattle.sql_bind.specs.Bound.{BoundStatement, BeginIt, CommitIt, RollbackIt, SetIt, InsertInto, UpdateOf, DeleteFrom, SelectOf}
use Rattle.sql_bind.specs.Faults.{FaultKind, UnknownTable, UnknownColumn, AmbiguousName, WrongType, WrongCount, has_unknown_table, has_unknown_column, has_ambiguous_name, has_wrong_type, has_wrong_count}
use Rattle.sql_bind.specs.Meaning.{value_of, bound_side, listed_value, bound_row, bound_setting, bound_item, columns_from, bound_items, bound_as}
use Rattle.sql_bind.specs.Scope.{Visible, target, visible, visible_at, is_unknown_table, named_ones}
use Rattle.sql_bind.specs.declared.types.BoundAssign.{BoundAssign}
use Rattle.sql_bind.specs.declared.types.BoundItem.{BoundItem}
use Rattle.sql_bind.specs.declared.types.BoundOperand.{BoundOperand}
use Rattle.sql_bind.specs.declared.types.BoundOperand.TheVariants as operand
use Rattle.sql_grammar.specs.Trees as written
use Rattle.sql_grammar.specs.Trees.{Name, Constant, Side, OfLiteral, OfColumn, Item, Setting, Source, Statement}
use Rattle.sql_run.specs.Spelled.{HasColumn, HasColumns}
use Rattle.sql_run.proofs.GrammarLemmas.{IsConstant, HasValue, HasOne, HasItems, IsWritten}

-- an operand that is such a value, or a column
abbrev pub IsOperand : BoundOperand → Type 0
IsOperand (operand.Value value) = IsToldValue value
IsOperand (operand.Column column) = Unit {0}

abbrev pub GivesValue : BoundAssign → Type 0
GivesValue assign = IsOperand assign.first

abbrev pub IsBoundWell : BoundStatement → Type 0
IsBoundWell BeginIt = Unit {0}
IsBoundWell CommitIt = Unit {0}
IsBoundWell RollbackIt = Unit {0}
IsBoundWell (SetIt level) = Unit {0}
IsBoundWell (InsertInto table rows) = AllByRecursion IsToldRow rows
IsBoundWell (UpdateOf table assigns filter) = AllByRecursion GivesValue assigns
IsBoundWell (DeleteFrom table filter) = Unit {0}
IsBoundWell (SelectOf query) = Unit {0}

-- a query has an item or more
abbrev pub HasAnItem : BoundStatement → Type 0
HasAnItem BeginIt = Unit {0}
HasAnItem CommitIt = Unit {0}
HasAnItem RollbackIt = Unit {0}
HasAnItem (SetIt level) = Unit {0}
HasAnItem (InsertInto table rows) = Unit {0}
HasAnItem (UpdateOf table assigns filter) = Unit {0}
HasAnItem (DeleteFrom table filter) = Unit {0}
HasAnItem (SelectOf query) = HasOne query.items

-- ---- a statement that is bound has none of the errors

unless : (t : Bool) (kind : FaultKind) (rest : Result BoundStatement FaultKind) (b : BoundStatement) → cond t (Err kind) rest ≡ Ok b → (t ≡ false) × (rest ≡ Ok b)
unless true kind rest b is = absurd cc
unless false kind rest b is = (refl, is)

pub record IsFaultless (tables : List TableDef) (s : Statement) (b : BoundStatement) : Type 0 where
  pub table : has_unknown_table tables s ≡ false
  pub column : has_unknown_column tables s ≡ false
  pub name : has_ambiguous_name tables s ≡ false
  pub type_ : has_wrong_type tables s ≡ false
  pub count : has_wrong_count tables s ≡ false
  pub is : bound_as tables s ≡ b

abbrev bound_ok : BoundStatement → Result BoundStatement FaultKind
bound_ok b = Ok b

ok_same : (x y : BoundStatement) → bound_ok x ≡ bound_ok y → x ≡ y
ok_same x y same = cc

pub faultless : (tables : List TableDef) (s : Statement) (b : BoundStatement) → binding tables s ≡ Ok b → IsFaultless tables s b
unfolding binding
faultless tables s b is =
    let last : Result BoundStatement FaultKind = Ok (bound_as tables s) in
    let counted : Result BoundStatement FaultKind = cond (has_wrong_count tables s) (Err WrongCount) last in
    let typed : Result BoundStatement FaultKind = cond (has_wrong_type tables s) (Err WrongType) counted in
    let named : Result BoundStatement FaultKind = cond (has_ambiguous_name tables s) (Err AmbiguousName) typed in
    let known : Result BoundStatement FaultKind = cond (has_unknown_column tables s) (Err UnknownColumn) named in
    let a = unless (has_unknown_table tables s) UnknownTable known b is in
    let c = unless (has_unknown_column tables s) UnknownColumn named b a.1 in
    let d = unless (has_ambiguous_name tables s) AmbiguousName typed b c.1 in
    let e = unless (has_wrong_type tables s) WrongType counted b d.1 in
    let f = unless (has_wrong_count tables s) WrongCount last b e.1 in
    record { table = a.0; column = c.0; name = d.0; type_ = e.0; count = f.0; is = ok_same (bound_as tables s) b f.1 }

-- ---- a table that is known

abbrev placed : ℕ → TableDef → PlacedTable
placed place table = record { place = place; table = table }

placed_is : (place : ℕ) (found : Option TableDef) (p : PlacedTable) → with_place place found ≡ Some p → found ≡ Some p.table
placed_is place None p is = absurd cc
placed_is place (Some table) p is = ap (λ (q : PlacedTable). Some q.table) (same_Some (placed place table) p is)

pub named_table : (tables : List TableDef) (name : Name) (p : PlacedTable) → table_named tables name ≡ Some p → slice_get tables p.place ≡ Some p.table
named_table tables name p is = go (place_of tables name) refl is
  where
    place_is : (place : ℕ) (found : Option TableDef) → with_place place found ≡ Some p → place ≡ p.place
    place_is place None is = absurd cc
    place_is place (Some table) is = ap (λ (q : PlacedTable). q.place) (same_Some (placed place table) p is)

    go : (o : Option ℕ) → place_of tables name ≡ o → found_at tables o ≡ Some p → slice_get tables p.place ≡ Some p.table
    go None found is = absurd cc
    go (Some place) found is = subst (λ (n : ℕ). slice_get tables n ≡ Some p.table) (place_is place (slice_get tables place) is) (placed_is place (slice_get tables place) p is)

has_one : (columns : List ColumnDef) → HasColumn columns → HasOne columns
has_one [] has = absurd has
has_one (c ∷ cs) has = tt

has_columns : (tables : List TableDef) (name called : Name) → AllByRecursion HasColumns tables → is_none (table_named tables name) ≡ false → HasOne (visible_at called (table_named tables name)).columns
has_columns tables name called all known = go (table_named tables name) refl known
  where
    go : (o : Option PlacedTable) → table_named tables name ≡ o → is_none o ≡ false → HasOne (visible_at called o).columns
    go None found known = absurd cc
    go (Some p) found known = has_one p.table.columns (all_found HasColumns tables p.place p.table all (named_table tables name p found))

-- ---- INSERT

values_are : (literals : List Constant) → AllByRecursion IsConstant literals → AllByRecursion IsToldValue (map value_of literals)
values_are [] all = tt
values_are (l ∷ ls) all = (all.0, values_are ls all.1)

listed_is : (names : List Name) (literals : List Constant) (column : Name) → AllByRecursion IsConstant literals → IsToldValue (listed_value names literals column)
listed_is [] literals column all = tt
listed_is (name ∷ names) [] column all = tt
listed_is (name ∷ names) (literal ∷ literals) column all = pick (bytes_eq name column) (listed_is names literals column all.1)
  where
    pick : (b : Bool) → IsToldValue (listed_value names literals column) → IsToldValue (cond b (value_of literal) (listed_value names literals column))
    pick true later = all.0
    pick false later = later

all_listed : (names : List Name) (literals : List Constant) (columns : List ColumnDef) → AllByRecursion IsConstant literals → AllByRecursion IsToldValue (map (λ column. listed_value names literals column.name) columns)
all_listed names literals [] all = tt
all_listed names literals (column ∷ columns) all = (listed_is names literals column.name all, all_listed names literals columns all)

pub row_from : (row : List Value) → HasOne row → AllByRecursion IsToldValue row → SpellsRow row
row_from [] has all = absurd has
row_from (v ∷ vs) has all = all

mapped_has : {A B : Type 0} (f : A → B) (xs : List A) → HasOne xs → HasOne (map f xs)
mapped_has f [] has = absurd has
mapped_has f (x ∷ xs) has = tt

row_is : (table : Visible) (names : Option (List Name)) (literals : List Constant) → AllByRecursion IsConstant literals → IsToldRow (bound_row table names literals)
row_is table None literals all = values_are literals all
row_is table (Some names) literals all = all_listed names literals table.columns all

rows_are : (table : Visible) (names : Option (List Name)) (rows : List (List Constant)) → AllByRecursion (AllByRecursion IsConstant) rows
    → AllByRecursion IsToldRow (map (bound_row table names) rows)
rows_are table names [] all = tt
rows_are table names (row ∷ rows) all = (row_is table names row all.0, rows_are table names rows all.1)

-- ---- UPDATE

side_is : (scope : List Visible) (side : Side) → HasValue side → IsOperand (bound_side scope side)
side_is scope (OfLiteral literal) is = is
side_is scope (OfColumn column) is = tt

settings_are : (scope : List Visible) (settings : List Setting) → AllByRecursion (λ s. HasValue s.first) settings → AllByRecursion GivesValue (map (bound_setting scope) settings)
settings_are scope [] all = tt
settings_are scope (s ∷ ss) all = (side_is scope s.first all.0, settings_are scope ss all.1)

-- ---- SELECT

first_columns : (place : ℕ) (columns : List ColumnDef) (later : List BoundItem) → HasOne columns → HasOne (columns_from place 0 (take 256 columns) ++ later)
first_columns place [] later has = absurd has
first_columns place (c ∷ cs) later has = tt

items_have : (tables : List TableDef) (items : Option (List Item)) (sources : List Source) → AllByRecursion HasColumns tables → HasItems items → HasOne sources
    → list_any (is_unknown_table tables) (map (λ source. source.table) sources) ≡ false → HasOne (bound_items (named_ones (map (visible tables) sources)) items)
items_have tables items [] all has some known = absurd some
items_have tables None (source ∷ sources) all has some known =
    let parts = or_parts (is_unknown_table tables source.table) (list_any (is_unknown_table tables) (map (λ (s : Source). s.table) sources)) known in
    first_columns 0 (visible tables source).columns _ (has_columns tables source.table (unwrap_or source.alias source.table) all parts.0)
items_have tables (Some items) (source ∷ sources) all has some known = mapped_has (bound_item (named_ones (map (visible tables) (source ∷ sources)))) items has

-- ---- statements

pub first_known : (b : Bool) → (b || false) ≡ false → b ≡ false
first_known true is = absurd cc
first_known false is = refl

bound_is : (tables : List TableDef) (s : Statement) → IsWritten s → IsBoundWell (bound_as tables s)
unfolding bound_as
bound_is tables written.BeginIt is = tt
bound_is tables written.CommitIt is = tt
bound_is tables written.RollbackIt is = tt
bound_is tables written.SnapshotIt is = tt
bound_is tables written.SerializableIt is = tt
bound_is tables (written.InsertInto table names rows) is = rows_are (target tables table) names rows is
bound_is tables (written.UpdateOf table settings filter) is = settings_are (target tables table ∷ []) settings is
bound_is tables (written.DeleteFrom table filter) is = tt
bound_is tables (written.SelectOf query) is = tt

item_is : (tables : List TableDef) (s : Statement) → AllByRecursion HasColumns tables → IsWritten s → has_unknown_table tables s ≡ false → HasAnItem (bound_as tables s)
unfolding bound_as
item_is tables written.BeginIt all is known = tt
item_is tables written.CommitIt all is known = tt
item_is tables written.RollbackIt all is known = tt
item_is tables written.SnapshotIt all is known = tt
item_is tables written.SerializableIt all is known = tt
item_is tables (written.InsertInto table names rows) all is known = tt
item_is tables (written.UpdateOf table settings filter) all is known = tt
item_is tables (written.DeleteFrom table filter) all is known = tt
item_is tables (written.SelectOf query) all is known = items_have tables query.items query.tables all is.0 is.1 known

-- a statement of a text that is UTF-8
pub bound_well : (tables : List TableDef) (s : Statement) (b : BoundStatement) → IsWritten s → binding tables s ≡ Ok b → IsBoundWell b
bound_well tables s b is binds = subst IsBoundWell (faultless tables s b binds).is (bound_is tables s is)

-- the same, bound in tables with columns
pub items_bound : (tables : List TableDef) (s : Statement) (b : BoundStatement) → AllByRecursion HasColumns tables → IsWritten s → binding tables s ≡ Ok b → HasAnItem b
items_bound tables s b all is binds =
    let f = faultless tables s b binds in
    subst HasAnItem f.is (item_is tables s all is f.table)
