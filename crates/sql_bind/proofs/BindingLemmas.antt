-- The first kind of error that a statement has, test by test.
use Rattle.std.proofs.Common.{◌≡◌, ◌+◌, nat_lt, cond, List, [], ◌∷◌, Bool, true, false, ◌||◌, map, Option, Some, None, Result, Ok, Err, refl, ap, ap₂, ◌∙◌}
use Rattle.std.specs.Prelude.{if◌then◌else◌, unwrap_or}
use Rattle.std.specs.List.{list_any}
use Rattle.cdb_values.specs.Named.{PlacedTable, table_named}
use Rattle.cdb_values.specs.declared.tables.TableDef.{TableDef}
use Rattle.sql_grammar.specs.Trees.{Name, Column, Source, Statement}
use Rattle.sql_bind.specs.declared.faults.BindFault.{BindFault}
use Rattle.sql_bind.specs.declared.faults.BindFault.TheVariants as faults
use Rattle.sql_bind.specs.Answers.{Misses, Refuses}
use Rattle.sql_bind.specs.Binding.{binding}
use Rattle.sql_bind.specs.Bound.{BoundStatement}
use Rattle.sql_bind.specs.Faults.{FaultKind, UnknownTable, UnknownColumn, AmbiguousName, WrongType, WrongCount, has_unknown_table, has_unknown_column, has_ambiguous_name, has_wrong_type, has_wrong_count}
use Rattle.sql_bind.specs.Meaning.{bound_as}
use Rattle.sql_bind.specs.Scope.{Visible, visible, visible_at, may_mean, is_ambiguous}

first_kind : Bool → Bool → Bool → Bool → Bool → BoundStatement → Result BoundStatement FaultKind
first_kind table column ambiguous type count meaning =
    if table then Err UnknownTable
    else if column then Err UnknownColumn
    else if ambiguous then Err AmbiguousName
    else if type then Err WrongType
    else if count then Err WrongCount
    else Ok meaning

module _ (tables : List TableDef) (s : Statement) where
  kind_of : Bool → Bool → Bool → Bool → Bool → Result BoundStatement FaultKind
  kind_of table column ambiguous type count = first_kind table column ambiguous type count (bound_as tables s)

  pub no_table : has_unknown_table tables s ≡ true → binding tables s ≡ Err UnknownTable
  unfolding binding kind_of first_kind
  no_table t = ap (λ b. kind_of b (has_unknown_column tables s) (has_ambiguous_name tables s) (has_wrong_type tables s) (has_wrong_count tables s)) t

  pub no_column : has_unknown_table tables s ≡ false → has_unknown_column tables s ≡ true → binding tables s ≡ Err UnknownColumn
  unfolding binding kind_of first_kind
  no_column t c = ap₂ (λ t c. kind_of t c (has_ambiguous_name tables s) (has_wrong_type tables s) (has_wrong_count tables s)) t c

  pub two_meanings : has_unknown_table tables s ≡ false → has_unknown_column tables s ≡ false → has_ambiguous_name tables s ≡ true → binding tables s ≡ Err AmbiguousName
  unfolding binding kind_of first_kind
  two_meanings t c a =
      ap₂ (λ t c. kind_of t c (has_ambiguous_name tables s) (has_wrong_type tables s) (has_wrong_count tables s)) t c
      ∙ ap (λ a. kind_of false false a (has_wrong_type tables s) (has_wrong_count tables s)) a

  pub wrong_type : has_unknown_table tables s ≡ false → has_unknown_column tables s ≡ false → has_ambiguous_name tables s ≡ false → has_wrong_type tables s ≡ true → binding tables s ≡ Err WrongType
  unfolding binding kind_of first_kind
  wrong_type t c a y =
      ap₂ (λ t c. kind_of t c (has_ambiguous_name tables s) (has_wrong_type tables s) (has_wrong_count tables s)) t c
      ∙ ap₂ (λ a y. kind_of false false a y (has_wrong_count tables s)) a y

  pub wrong_count : has_unknown_table tables s ≡ false → has_unknown_column tables s ≡ false → has_ambiguous_name tables s ≡ false → has_wrong_type tables s ≡ false → has_wrong_count tables s ≡ true → binding tables s ≡ Err WrongCount
  unfolding binding kind_of first_kind
  wrong_count t c a y n =
      ap₂ (λ t c. kind_of t c (has_ambiguous_name tables s) (has_wrong_type tables s) (has_wrong_count tables s)) t c
      ∙ ap₂ (λ a y. kind_of false false a y (has_wrong_count tables s)) a y
      ∙ ap (λ n. kind_of false false false false n) n

  pub is_bound : has_unknown_table tables s ≡ false → has_unknown_column tables s ≡ false → has_ambiguous_name tables s ≡ false → has_wrong_type tables s ≡ false → has_wrong_count tables s ≡ false → binding tables s ≡ Ok (bound_as tables s)
  unfolding binding kind_of first_kind
  is_bound t c a y n =
      ap₂ (λ t c. kind_of t c (has_ambiguous_name tables s) (has_wrong_type tables s) (has_wrong_count tables s)) t c
      ∙ ap₂ (λ a y. kind_of false false a y (has_wrong_count tables s)) a y
      ∙ ap (λ n. kind_of false false false false n) n

-- one table alone makes no column ambiguous
one_meaning : (table : Visible) (column : Column) → is_ambiguous (table ∷ []) column ≡ false
one_meaning table column = go (may_mean column table)
  where
    go : (b : Bool) → nat_lt 1 (0 + cond b 1 0) ≡ false
    go true = refl
    go false = refl

pub never_ambiguous : (table : Visible) (columns : List Column) → list_any (is_ambiguous (table ∷ [])) columns ≡ false
never_ambiguous table [] = refl
never_ambiguous table (column ∷ columns) = ap₂ (λ a b. a || b) (one_meaning table column) (never_ambiguous table columns)

-- the names of FROM are those of its tables
name_at : (name : Name) (found : Option PlacedTable) → (visible_at name found).name ≡ name
name_at name None = refl
name_at name (Some found) = refl

pub names_visible : (tables : List TableDef) (sources : List Source) → map (λ v. v.name) (map (visible tables) sources) ≡ map (λ s. unwrap_or s.alias s.table) sources
names_visible tables [] = refl
names_visible tables (source ∷ sources) = ap₂ (λ n ns. n ∷ ns) (name_at (unwrap_or source.alias source.table) (table_named tables source.table)) (names_visible tables sources)

-- a table that is not found
pub missed : (fault : BindFault) (unknown : Bool) (answer : Result BoundStatement FaultKind) → Misses fault unknown → (unknown ≡ true → answer ≡ Err UnknownTable) → Refuses fault answer
missed faults.Table unknown answer misses refused = refused misses
missed faults.Column unknown answer misses refused = absurd misses
missed faults.Ambiguous unknown answer misses refused = absurd misses
missed faults.Type_ unknown answer misses refused = absurd misses
missed faults.Count unknown answer misses refused = absurd misses
missed faults.NoMemory unknown answer misses refused = tt
