-- A bound statement has the types of its table: the rows of an INSERT, and the values that SET gives on rows of these types.
use Rattle.std.proofs.Common.{◌≡◌, ℕ, zero, suc, ◌+◌, ◌==◌, List, [], ◌∷◌, length, map, Bool, true, false, cond, not, ltb, ◌||◌, refl, sym, ◌∙◌, subst, ap, arith, Option, Some, None, ◌+ℤ◌, ◌-ℤ◌}
use Rattle.std.specs.Prelude.{ℤ, slice_get, slice_set, option_map, unwrap_or, bytes_eq, is_some, flat_map}
use Rattle.std.specs.Option.{option_and_then}
use Rattle.std.specs.List.{AllByRecursion, list_any}
use Rattle.std.proofs.lemmas.Bool.{both_ways, cond-true, eqb-true, not-false, or_left, or_parts, or_right}
use Rattle.std.proofs.lemmas.List.Folds.{list_any-append}
use Rattle.std.proofs.lemmas.Option.{same_Some}
use Rattle.std.proofs.lemmas.Slice.Eq.{bytes_eq-Decides}
use Rattle.cdb_values.specs.Columns.{column_from, column_at}
use Rattle.cdb_values.specs.Tables.{is_named, has_twice}
use Rattle.cdb_values.specs.declared.tables.ColumnDef.{ColumnDef}
use Rattle.cdb_values.specs.declared.tables.ColumnType.{ColumnType}
use Rattle.cdb_values.specs.declared.tables.ColumnType.TheVariants as kinds
use Rattle.cdb_values.specs.declared.values.Value.{Value}
use Rattle.cdb_values.specs.declared.values.Value.TheVariants.{Null, Int, Text, Blob}
use Rattle.session_language.specs.Intervals.{cell}
use Rattle.sql_answer.specs.Aggregates.{is_64_bits, int_value}
use Rattle.sql_answer.specs.Conditions.{column_value, operand_value}
use Rattle.sql_answer.specs.Writes.{changed, stepped, assigned, set_from}
use Rattle.sql_bind.specs.Faults.{own_column, own_columns, side_columns, setting_columns, literal_kind, side_kind, is_same_type, differ, is_no_number, value_differs, setting_differs, tuple_kinds, tuple_differs, width}
use Rattle.sql_bind.specs.Meaning.{value_of, bound_side, listed_value, bound_row, bound_change, bound_setting}
use Rattle.sql_bind.specs.Scope.{Visible, as_byte, column_place, is_called, place_in, is_unknown, at_place, meant_from, meant, kind_at, kind_meant}
use Rattle.sql_bind.specs.declared.types.BoundAssign.{BoundAssign}
use Rattle.sql_bind.specs.declared.types.BoundColumn.{BoundColumn}
use Rattle.sql_bind.specs.declared.types.BoundStep.{BoundStep}
use Rattle.sql_grammar.specs.Trees.{Name, Constant, NullValue, IntValue, TextValue, BlobValue, Column, Side, OfLiteral, OfColumn, Change, Setting}

-- NULL goes with each type
abbrev pub IsOfKind : ColumnType → Value → Type 0
IsOfKind kind Null = Unit {0}
IsOfKind kind (Int n) = kind ≡ kinds.Integer
IsOfKind kind (Text t) = kind ≡ kinds.Text
IsOfKind kind (Blob b) = kind ≡ kinds.Blob

-- one value for each column, of its type or NULL
abbrev pub FitKinds : List ColumnDef → List Value → Type 0
FitKinds [] [] = Unit {0}
FitKinds [] (v ∷ vs) = ⊥
FitKinds (c ∷ cs) [] = ⊥
FitKinds (c ∷ cs) (v ∷ vs) = IsOfKind c.kind v × FitKinds cs vs

-- ---- types of literals

same_type : (a b : ColumnType) → is_same_type a b ≡ true → a ≡ b
same_type kinds.Integer kinds.Integer is = refl
same_type kinds.Integer kinds.Text is = absurd cc
same_type kinds.Integer kinds.Blob is = absurd cc
same_type kinds.Text kinds.Integer is = absurd cc
same_type kinds.Text kinds.Text is = refl
same_type kinds.Text kinds.Blob is = absurd cc
same_type kinds.Blob kinds.Integer is = absurd cc
same_type kinds.Blob kinds.Text is = absurd cc
same_type kinds.Blob kinds.Blob is = refl

-- types that do not differ are one
agree : (a b : ColumnType) → differ (Some a) (Some b) ≡ false → a ≡ b
agree a b is = same_type a b (not-false (is_same_type a b) is)

literal_is : (kind : ColumnType) (l : Constant) → differ (Some kind) (literal_kind l) ≡ false → IsOfKind kind (value_of l)
literal_is kind NullValue is = tt
literal_is kind (IntValue n) is = agree kind kinds.Integer is
literal_is kind (TextValue t) is = agree kind kinds.Text is
literal_is kind (BlobValue b) is = agree kind kinds.Blob is

-- ---- columns by their names

same_bytes : (xs ys : List ℕ) → bytes_eq xs ys ≡ true → xs ≡ ys
same_bytes xs ys is = (bytes_eq-Decides xs ys).0 is

bytes_same : (xs ys : List ℕ) → xs ≡ ys → bytes_eq xs ys ≡ true
bytes_same xs ys is = (bytes_eq-Decides xs ys).1 is

abbrev names_of : List ColumnDef → List (List ℕ)
names_of columns = map (λ column. column.name) columns

-- a column with a name is among the names
is_among : (columns : List ColumnDef) (i : ℕ) (c : ColumnDef) (name : List ℕ) → slice_get columns i ≡ Some c → c.name ≡ name → is_named name (names_of columns) ≡ true
is_among [] i c name at is = absurd cc
is_among (first ∷ columns) zero c name at is =
    let same : first ≡ c = same_Some first c at in
    let named : bytes_eq first.name name ≡ true = bytes_same first.name name (ap (λ (d : ColumnDef). d.name) same ∙ is) in
    or_left (bytes_eq first.name name) (is_named name (names_of columns)) named
is_among (first ∷ columns) (suc i) c name at is = or_right (bytes_eq first.name name) (is_named name (names_of columns)) (is_among columns i c name at is)

-- where no name stands twice, a name means the column that has it
pub found_first : (at : ℕ) (columns : List ColumnDef) (i : ℕ) (c : ColumnDef) (name : List ℕ) → has_twice (names_of columns) ≡ false → slice_get columns i ≡ Some c → c.name ≡ name
    → column_from at name columns ≡ Some (at + i)
found_first at [] i c name once found is = absurd cc
found_first at (first ∷ columns) zero c name once found is =
    let same : first ≡ c = same_Some first c found in
    let named : bytes_eq first.name name ≡ true = bytes_same first.name name (ap (λ (d : ColumnDef). d.name) same ∙ is) in
    let here : at ≡ at + 0 = omega arith in
    cond-true (bytes_eq first.name name) (Some at) (column_from (at + 1) name columns) named ∙ ap (λ (n : ℕ). Some n) here
found_first at (first ∷ columns) (suc i) c name once found is =
    let parts = or_parts (is_named first.name (names_of columns)) (has_twice (names_of columns)) once in
    go (bytes_eq first.name name) refl parts.0 (found_first (at + 1) columns i c name parts.1 found is)
  where
    go : (b : Bool) → bytes_eq first.name name ≡ b → is_named first.name (names_of columns) ≡ false → column_from (at + 1) name columns ≡ Some ((at + 1) + i)
        → cond b (Some at) (column_from (at + 1) name columns) ≡ Some (at + suc i)
    go true named once later =
        let other : is_named first.name (names_of columns) ≡ true = is_among columns i c first.name found (is ∙ sym (same_bytes first.name name named)) in
        absurd (both_ways (is_named first.name (names_of columns)) once other)
    go false other once later = let next : (at + 1) + i ≡ at + suc i = omega arith in later ∙ ap (λ (n : ℕ). Some n) next

-- a place that is found has a column
pub found_is : (at : ℕ) (columns : List ColumnDef) (name : List ℕ) (place : ℕ) → column_from at name columns ≡ Some place → (i : ℕ) × (c : ColumnDef) × (place ≡ at + i) × (slice_get columns i ≡ Some c)
found_is at [] name place found = absurd cc
found_is at (first ∷ columns) name place found = go (bytes_eq first.name name) found (found_is (at + 1) columns name place)
  where
    go : (b : Bool) → cond b (Some at) (column_from (at + 1) name columns) ≡ Some place
        → (column_from (at + 1) name columns ≡ Some place → (i : ℕ) × (c : ColumnDef) × (place ≡ (at + 1) + i) × (slice_get columns i ≡ Some c))
        → (i : ℕ) × (c : ColumnDef) × (place ≡ at + i) × (slice_get (first ∷ columns) i ≡ Some c)
    go true found later = let same : at ≡ place = same_Some at place found in (0, first, omega arith, refl)
    go false found later =
        let rest = later found in
        let i : ℕ = rest.0 in
        let same : place ≡ (at + 1) + i = rest.2 in
        let next : place ≡ at + suc i = omega arith in
        (suc i, rest.1, next, rest.3)

byte_is : (n place : ℕ) → as_byte n ≡ Some place → n ≡ place
byte_is n place is = go (ltb n 256) is
  where
    go : (b : Bool) → cond b (Some n) None ≡ Some place → n ≡ place
    go true is = same_Some n place is
    go false is = absurd cc

-- the column at a place of the first table
abbrev first_column : ℕ → BoundColumn
first_column place = record { place = 0; column = place }

-- what a name of the one table means, where it is known
pub record Means (table : Visible) (column : Column) : Type 0 where
  pub place : ℕ
  pub column_def : ColumnDef
  pub at : column_at column.name table.columns ≡ Some place
  pub there : slice_get table.columns place ≡ Some column_def
  pub meant_is : meant (table ∷ []) column ≡ first_column place
  pub kind_is : kind_meant (table ∷ []) column ≡ Some column_def.kind

known_place : (table : Visible) (column : Column) → is_unknown (table ∷ []) column ≡ false → (place : ℕ) × (place_in column table ≡ Some place)
known_place table column known = go (place_in column table) refl known
  where
    go : (o : Option ℕ) → place_in column table ≡ o → not (is_some o || false) ≡ false → (place : ℕ) × (place_in column table ≡ Some place)
    go None found known = absurd cc
    go (Some place) found known = (place, found)

place_at : (table : Visible) (column : Column) (place : ℕ) → place_in column table ≡ Some place → column_at column.name table.columns ≡ Some place
place_at table column place found = go (is_called column.qualifier table.name) found
  where
    inner : (o : Option ℕ) → column_at column.name table.columns ≡ o → option_and_then as_byte o ≡ Some place → column_at column.name table.columns ≡ Some place
    inner None at found = absurd cc
    inner (Some n) at found = at ∙ ap (λ (m : ℕ). Some m) (byte_is n place found)

    go : (b : Bool) → cond b (column_place table column.name) None ≡ Some place → column_at column.name table.columns ≡ Some place
    go true found = inner (column_at column.name table.columns) refl found
    go false found = absurd cc

pub means : (table : Visible) (column : Column) → is_unknown (table ∷ []) column ≡ false → Means table column
means table column known =
    let p = known_place table column known in
    let place : ℕ = p.0 in
    let found : place_in column table ≡ Some place = p.1 in
    let at : column_at column.name table.columns ≡ Some place = place_at table column place found in
    let c = found_is 0 table.columns column.name place at in
    let same : c.0 ≡ place = sym (c.2 ∙ zero_first c.0) in
    let there : slice_get table.columns place ≡ Some c.1 = subst (λ (n : ℕ). slice_get table.columns n ≡ Some c.1) same c.3 in
    record {
      place = place;
      column_def = c.1;
      at = at;
      there = there;
      meant_is = ap (λ (o : Option ℕ). unwrap_or (at_place 0 o (meant_from 1 [] column)) (first_column 0)) found;
      kind_is = ap (λ (o : Option ℕ). kind_at table o (kind_meant [] column)) found ∙ ap (λ (o : Option ColumnDef). option_map (λ (d : ColumnDef). d.kind) o) there;
    }
  where
    zero_first : (n : ℕ) → 0 + n ≡ n
    zero_first n = omega arith

-- ---- INSERT

-- each column has a value of its type
pub each_fits : (columns : List ColumnDef) (f : List ℕ → Value) → ((i : ℕ) (c : ColumnDef) → slice_get columns i ≡ Some c → IsOfKind c.kind (f c.name)) → FitKinds columns (map (λ column. f column.name) columns)
each_fits [] f each = tt
each_fits (c ∷ cs) f each = (each 0 c refl, each_fits cs f (λ i d at. each (suc i) d at))

tuple_fits : (columns : List ColumnDef) (literals : List Constant) → length literals ≡ length columns → tuple_differs (map (λ column. Some column.kind) columns) literals ≡ false
    → FitKinds columns (map value_of literals)
tuple_fits [] [] same agrees = tt
tuple_fits [] (l ∷ ls) same agrees = absurd (omega arith)
tuple_fits (c ∷ cs) [] same agrees = absurd (omega arith)
tuple_fits (c ∷ cs) (l ∷ ls) same agrees =
    let parts = or_parts (differ (Some c.kind) (literal_kind l)) (tuple_differs (map (λ (d : ColumnDef). Some d.kind) cs) ls) agrees in
    let rest : length ls ≡ length cs = omega arith in
    (literal_is c.kind l parts.0, tuple_fits cs ls rest parts.1)

abbrev kinds_listed : Visible → List Name → List (Option ColumnType)
kinds_listed table names = map (λ name. kind_meant (table ∷ []) (own_column name)) names

-- the value that a list gives for a column is of its type
listed_fits : (table : Visible) (names : List Name) (literals : List Constant) (i : ℕ) (c : ColumnDef) → has_twice (names_of table.columns) ≡ false → slice_get table.columns i ≡ Some c
    → list_any (is_unknown (table ∷ [])) (map own_column names) ≡ false → tuple_differs (kinds_listed table names) literals ≡ false → IsOfKind c.kind (listed_value names literals c.name)
listed_fits table [] literals i c once at known agrees = tt
listed_fits table (name ∷ names) [] i c once at known agrees = tt
listed_fits table (name ∷ names) (l ∷ ls) i c once at known agrees =
    let knows = or_parts (is_unknown (table ∷ []) (own_column name)) (list_any (is_unknown (table ∷ [])) (map own_column names)) known in
    let parts = or_parts (differ (kind_meant (table ∷ []) (own_column name)) (literal_kind l)) (tuple_differs (kinds_listed table names) ls) agrees in
    go (bytes_eq name c.name) refl knows.0 parts.0 (listed_fits table names ls i c once at knows.1 parts.1)
  where
    go : (b : Bool) → bytes_eq name c.name ≡ b → is_unknown (table ∷ []) (own_column name) ≡ false → differ (kind_meant (table ∷ []) (own_column name)) (literal_kind l) ≡ false
        → IsOfKind c.kind (listed_value names ls c.name) → IsOfKind c.kind (cond b (value_of l) (listed_value names ls c.name))
    go false other knows typed later = later
    go true named knows typed later =
        let m : Means table (own_column name) = means table (own_column name) knows in
        let here : column_at name table.columns ≡ Some (0 + i) = found_first 0 table.columns i c name once at (sym (same_bytes name c.name named)) in
        let place : m.place ≡ 0 + i = same_Some m.place (0 + i) (sym m.at ∙ here) in
        let plain : 0 + i ≡ i = omega arith in
        let one : Some m.column_def ≡ Some c = sym m.there ∙ ap (λ (n : ℕ). slice_get table.columns n) (place ∙ plain) ∙ at in
        let kind : kind_meant (table ∷ []) (own_column name) ≡ Some c.kind = m.kind_is ∙ ap (λ (d : ColumnDef). Some d.kind) (same_Some m.column_def c one) in
        literal_is c.kind l (subst (λ (o : Option ColumnType). differ o (literal_kind l) ≡ false) kind typed)

pub row_fits_kinds : (table : Visible) (names : Option (List Name)) (literals : List Constant) → has_twice (names_of table.columns) ≡ false → not (length literals == width table names) ≡ false
    → list_any (is_unknown (table ∷ [])) (own_columns names) ≡ false → tuple_differs (tuple_kinds table names) literals ≡ false → FitKinds table.columns (bound_row table names literals)
row_fits_kinds table None literals once counted known agrees = tuple_fits table.columns literals (eqb-true (length literals) (length table.columns) (not-false (length literals == length table.columns) counted)) agrees
row_fits_kinds table (Some names) literals once counted known agrees =
    each_fits table.columns (listed_value names literals) (λ i c at. listed_fits table names literals i c once at known agrees)

-- ---- UPDATE

cell_fits : (columns : List ColumnDef) (row : List Value) (place : ℕ) (c : ColumnDef) → FitKinds columns row → slice_get columns place ≡ Some c → IsOfKind c.kind (cell row place)
cell_fits [] row place c fits at = absurd cc
cell_fits (first ∷ columns) [] place c fits at = absurd fits
cell_fits (first ∷ columns) (v ∷ vs) zero c fits at = subst (λ (d : ColumnDef). IsOfKind d.kind v) (same_Some first c at) fits.0
cell_fits (first ∷ columns) (v ∷ vs) (suc place) c fits at = cell_fits columns vs place c fits.1 at

pub exchanged_fits : (columns : List ColumnDef) (row : List Value) (place : ℕ) (c : ColumnDef) (value : Value) → FitKinds columns row → slice_get columns place ≡ Some c → IsOfKind c.kind value
    → FitKinds columns (slice_set row place value)
exchanged_fits [] row place c value fits at is = absurd cc
exchanged_fits (first ∷ columns) [] place c value fits at is = absurd fits
exchanged_fits (first ∷ columns) (v ∷ vs) zero c value fits at is = (subst (λ (d : ColumnDef). IsOfKind d.kind value) (sym (same_Some first c at)) is, fits.1)
exchanged_fits (first ∷ columns) (v ∷ vs) (suc place) c value fits at is = (fits.0, exchanged_fits columns vs place c value fits.1 at is)

-- a value of a type, where there is one
abbrev pub GivesKind : ColumnType → Option Value → Type 0
GivesKind kind None = Unit {0}
GivesKind kind (Some v) = IsOfKind kind v

int_fits : (x : ℤ) → GivesKind kinds.Integer (int_value x)
int_fits x = go (is_64_bits x)
  where
    go : (b : Bool) → GivesKind kinds.Integer (cond b (Some (Int x)) None)
    go true = refl
    go false = tt

changed_fits : (minus : Bool) (x y : Value) → GivesKind kinds.Integer (changed minus x y)
changed_fits true Null y = tt
changed_fits true (Int x) Null = tt
changed_fits true (Int x) (Int y) = int_fits (x -ℤ y)
changed_fits true (Int x) (Text y) = tt
changed_fits true (Int x) (Blob y) = tt
changed_fits true (Text x) y = tt
changed_fits true (Blob x) y = tt
changed_fits false Null y = tt
changed_fits false (Int x) Null = tt
changed_fits false (Int x) (Int y) = int_fits (x +ℤ y)
changed_fits false (Int x) (Text y) = tt
changed_fits false (Int x) (Blob y) = tt
changed_fits false (Text x) y = tt
changed_fits false (Blob x) y = tt

step_fits : (minus : Bool) (y : Value) (o : Option Value) → GivesKind kinds.Integer (option_and_then (λ v. changed minus v y) o)
step_fits minus y None = tt
step_fits minus y (Some x) = changed_fits minus x y

steps_fit : (old : List (List Value)) (o : Option Value) (steps : List BoundStep) → GivesKind kinds.Integer o → GivesKind kinds.Integer (stepped old o steps)
steps_fit old o [] is = is
steps_fit old o (step ∷ steps) is = steps_fit old (option_and_then (λ v. changed step.minus v (operand_value old step.operand)) o) steps (step_fits step.minus (operand_value old step.operand) o)

-- a column of SET and the type of what it gets on rows of these types
abbrev pub IsTypedAssign : List ColumnDef → BoundAssign → Type 0
IsTypedAssign columns assign = (c : ColumnDef) × (slice_get columns assign.column ≡ Some c) × ((row : List Value) → FitKinds columns row → GivesKind c.kind (assigned (row ∷ []) assign))

column_gives : (table : Visible) (column : Column) (row : List Value) (kind : ColumnType) → is_unknown (table ∷ []) column ≡ false → differ (Some kind) (kind_meant (table ∷ []) column) ≡ false
    → FitKinds table.columns row → IsOfKind kind (column_value (row ∷ []) (meant (table ∷ []) column))
column_gives table column row kind known agrees fits =
    let m : Means table column = means table column known in
    let same : kind ≡ m.column_def.kind = agree kind m.column_def.kind (subst (λ (o : Option ColumnType). differ (Some kind) o ≡ false) m.kind_is agrees) in
    let value : IsOfKind m.column_def.kind (cell row m.place) = cell_fits table.columns row m.place m.column_def fits m.there in
    let there : column_value (row ∷ []) (meant (table ∷ []) column) ≡ cell row m.place = ap (λ (b : BoundColumn). column_value (row ∷ []) b) m.meant_is in
    subst (λ (v : Value). IsOfKind kind v) (sym there) (subst (λ (k : ColumnType). IsOfKind k (cell row m.place)) (sym same) value)

side_gives : (table : Visible) (side : Side) (row : List Value) (kind : ColumnType) → list_any (is_unknown (table ∷ [])) (side_columns side) ≡ false → differ (Some kind) (side_kind (table ∷ []) side) ≡ false
    → FitKinds table.columns row → IsOfKind kind (operand_value (row ∷ []) (bound_side (table ∷ []) side))
side_gives table (OfLiteral literal) row kind known agrees fits = literal_is kind literal agrees
side_gives table (OfColumn column) row kind known agrees fits = column_gives table column row kind (first_false (is_unknown (table ∷ []) column) known) agrees fits
  where
    first_false : (b : Bool) → (b || false) ≡ false → b ≡ false
    first_false true is = absurd cc
    first_false false is = refl

pub setting_fits : (table : Visible) (s : Setting) → is_unknown (table ∷ []) (own_column s.column) ≡ false → list_any (is_unknown (table ∷ [])) (setting_columns s) ≡ false → setting_differs table s ≡ false
    → IsTypedAssign table.columns (bound_setting (table ∷ []) s)
setting_fits table s known others agrees =
    let m : Means table (own_column s.column) = means table (own_column s.column) known in
    let typed : value_differs (Some m.column_def.kind) (table ∷ []) s.first s.rest ≡ false = subst (λ (o : Option ColumnType). value_differs o (table ∷ []) s.first s.rest ≡ false) m.kind_is agrees in
    let there : slice_get table.columns (meant (table ∷ []) (own_column s.column)).column ≡ Some m.column_def = subst (λ (b : BoundColumn). slice_get table.columns b.column ≡ Some m.column_def) (sym m.meant_is) m.there in
    (m.column_def, there, λ row fits. go row fits m.column_def.kind s.rest typed)
  where
    firsts : list_any (is_unknown (table ∷ [])) (side_columns s.first) ≡ false
    firsts = (or_parts (list_any (is_unknown (table ∷ [])) (side_columns s.first)) (list_any (is_unknown (table ∷ [])) (flat_map (λ change. side_columns change.side) s.rest))
        (sym (list_any-append (is_unknown (table ∷ [])) (side_columns s.first) (flat_map (λ change. side_columns change.side) s.rest)) ∙ others)).0

    go : (row : List Value) → FitKinds table.columns row → (kind : ColumnType) (rest : List Change) → value_differs (Some kind) (table ∷ []) s.first rest ≡ false
        → GivesKind kind (stepped (row ∷ []) (Some (operand_value (row ∷ []) (bound_side (table ∷ []) s.first))) (map (bound_change (table ∷ [])) rest))
    go row fits kind [] typed = side_gives table s.first row kind firsts typed fits
    go row fits kind (change ∷ changes) typed =
        let parts = or_parts (differ (Some kind) (Some kinds.Integer)) (is_no_number (table ∷ []) s.first || list_any (λ (c : Change). is_no_number (table ∷ []) c.side) (change ∷ changes)) typed in
        let same : kind ≡ kinds.Integer = agree kind kinds.Integer parts.0 in
        let x : Value = operand_value (row ∷ []) (bound_side (table ∷ []) s.first) in
        let y : Value = operand_value (row ∷ []) (bound_side (table ∷ []) change.side) in
        let result : Option Value = stepped (row ∷ []) (Some x) (map (bound_change (table ∷ [])) (change ∷ changes)) in
        let is : GivesKind kinds.Integer result = steps_fit (row ∷ []) (changed change.minus x y) (map (bound_change (table ∷ [])) changes) (changed_fits change.minus x y) in
        subst (λ (k : ColumnType). GivesKind k result) (sym same) is

-- the row that SET makes of a row of these types
abbrev pub RowFits : List ColumnDef → Option (List Value) → Type 0
RowFits columns None = Unit {0}
RowFits columns (Some row) = FitKinds columns row

pub set_fits : (columns : List ColumnDef) (old row : List Value) (assigns : List BoundAssign) → AllByRecursion (IsTypedAssign columns) assigns → FitKinds columns old → FitKinds columns row
    → RowFits columns (set_from (old ∷ []) assigns row)
set_fits columns old row [] all was is = is
set_fits columns old row (assign ∷ assigns) all was is =
    go (assigned (old ∷ []) assign) (all.0.2 old was) (λ value good. set_fits columns old (slice_set row assign.column value) assigns all.1 was (exchanged_fits columns row assign.column all.0.0 value is all.0.1 good))
  where
    go : (o : Option Value) → GivesKind all.0.0.kind o → ((value : Value) → IsOfKind all.0.0.kind value → RowFits columns (set_from (old ∷ []) assigns (slice_set row assign.column value)))
        → RowFits columns (option_and_then (λ value. set_from (old ∷ []) assigns (slice_set row assign.column value)) o)
    go None good later = tt
    go (Some value) good later = later value good
