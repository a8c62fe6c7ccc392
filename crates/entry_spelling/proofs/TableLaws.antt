-- Tables that a schema can grow to fit their fields.
use Rattle.std.proofs.Common.{◌≡◌, ℕ, ◌+◌, ◌<◌, ◌≤◌, List, [], ◌∷◌, ◌++◌, length, Bool, true, false, ◌||◌, if◌then◌else◌, nat_lt, nat_le, map, Option, Some, None, ◌==◌, slice_get, refl, arith, length-append}
use Rattle.std.proofs.lemmas.Bool.{ltb-false, leb-false}
use Rattle.std.proofs.lemmas.Option.{slice_get_within}
use Rattle.std.specs.List.{AllByRecursion, list_any}
use Rattle.cdb_values.specs.Tables.{is_named, has_twice, is_bad_column, are_bad_columns, are_bad_keys, is_unlawful, is_long_name, are_long_names, are_long_keys, is_past_limits, add_fault}
use Rattle.cdb_values.specs.declared.schemas.AddFault.TheVariants.{Taken, Unlawful, Limit}
use Rattle.cdb_values.specs.declared.tables.ColumnDef.{ColumnDef}
use Rattle.cdb_values.specs.declared.tables.KeyDef.{KeyDef}
use Rattle.cdb_values.specs.declared.tables.TableDef.{TableDef}
use Rattle.frame_code.specs.Spelled.{IsByte, IsNameBytes, IsColumn, IsIndex, IsTable, Grow, IsSchema}

-- tests
or_left : (a b : Bool) → a || b ≡ false → a ≡ false
or_left false b e = refl
or_left true b e = e

or_right : (a b : Bool) → a || b ≡ false → b ≡ false
or_right false b e = e
or_right true b e = absurd (let h : true ≡ false = e in cc)

no_fault : (a b c : Bool) → (if a then Some Taken else if b then Some Unlawful else if c then Some Limit else None) ≡ None → (b ≡ false) × (c ≡ false)
no_fault true b c e = absurd (let h : Some Taken ≡ None = e in cc)
no_fault false true c e = absurd (let h : Some Unlawful ≡ None = e in cc)
no_fault false false true e = absurd (let h : Some Limit ≡ None = e in cc)
no_fault false false false e = (refl, refl)

none_any : {A : Type 0} (test : A → Bool) (P : A → Type 0) → ((x : A) → test x ≡ false → P x) → (xs : List A) → list_any test xs ≡ false → AllByRecursion P xs
none_any test P each [] e = tt
none_any test P each (x ∷ xs) e = (each x (or_left (test x) (list_any test xs) e), none_any test P each xs (or_right (test x) (list_any test xs) e))

none_any_of : {A B : Type 0} (f : A → B) (test : B → Bool) (P : A → Type 0) → ((x : A) → test (f x) ≡ false → P x) → (xs : List A)
    → list_any test (map f xs) ≡ false → AllByRecursion P xs
none_any_of f test P each [] e = tt
none_any_of f test P each (x ∷ xs) e =
    (each x (or_left (test (f x)) (list_any test (map f xs)) e), none_any_of f test P each xs (or_right (test (f x)) (list_any test (map f xs)) e))

-- what both have: two lists of facts as one
both_all : {A : Type 0} (P Q R : A → Type 0) → ((x : A) → P x → Q x → R x) → (xs : List A) → AllByRecursion P xs → AllByRecursion Q xs → AllByRecursion R xs
both_all P Q R both [] p q = tt
both_all P Q R both (x ∷ xs) p q = (both x p.0 q.0, both_all P Q R both xs p.1 q.1)

-- names
abbrev pub IsShortName : List ℕ → Type 0
IsShortName name = length name ≤ 32

short_name : (name : List ℕ) → is_long_name name ≡ false → IsShortName name
short_name name e = ltb-false 32 (length name) (or_right (length name == 0) (nat_lt 32 (length name)) e)

-- a column's place is one of a byte, where the columns are few
known_place : (columns : List ColumnDef) (unique : Bool) (place : ℕ) → length columns ≤ 64 → is_bad_column unique (slice_get columns place) ≡ false → IsByte place
known_place columns unique place few e = go (slice_get columns place) refl e
  where
    go : (at : Option ColumnDef) → slice_get columns place ≡ at → is_bad_column unique at ≡ false → IsByte place
    go None here bad = absurd (let h : true ≡ false = bad in cc)
    go (Some column) here bad = let within = slice_get_within columns place column here in omega arith

-- a key: its name and its columns are few, and each column is one of the table's
pub record IsShortKey (k : KeyDef) : Type 0 where
  pub name : IsShortName k.name
  pub few : length k.columns ≤ 8
  pub places : AllByRecursion IsByte k.columns

record IsKeyWithin (k : KeyDef) : Type 0 where
  pub name : IsShortName k.name
  pub few : length k.columns ≤ 8

abbrev HasPlaces : KeyDef → Type 0
HasPlaces k = AllByRecursion IsByte k.columns

key_within : (k : KeyDef) → (is_long_name k.name || nat_lt 8 (length k.columns)) ≡ false → IsKeyWithin k
key_within k e = record {
  name = short_name k.name (or_left (is_long_name k.name) (nat_lt 8 (length k.columns)) e);
  few = ltb-false 8 (length k.columns) (or_right (is_long_name k.name) (nat_lt 8 (length k.columns)) e);
}

key_places : (columns : List ColumnDef) → length columns ≤ 64 → (k : KeyDef)
    → ((length k.columns == 0) || are_bad_columns columns k.unique k.columns) ≡ false → HasPlaces k
key_places columns few k e =
    none_any (λ place. is_bad_column k.unique (slice_get columns place)) IsByte (λ place. known_place columns k.unique place few) k.columns
    (or_right (length k.columns == 0) (are_bad_columns columns k.unique k.columns) e)

abbrev pub IsShortColumn : ColumnDef → Type 0
IsShortColumn c = IsShortName c.name

-- a table that is within the limits
pub record IsShortTable (t : TableDef) : Type 0 where
  pub name : IsShortName t.name
  pub few_columns : length t.columns ≤ 64
  pub few_keys : length t.keys ≤ 8
  pub columns : AllByRecursion IsShortColumn t.columns
  pub keys : AllByRecursion IsShortKey t.keys

short_table : (t : TableDef) → is_unlawful t ≡ false → is_past_limits t ≡ false → IsShortTable t
short_table t lawful within =
    let name = is_long_name t.name in
    let columns = nat_lt 64 (length t.columns) in
    let keys = nat_lt 8 (length t.keys) in
    let names = are_long_names (map (λ c. c.name) t.columns) in
    let long = are_long_keys t.keys in
    let one : name || columns || keys || names ≡ false = or_left (name || columns || keys || names) long within in
    let two : name || columns || keys ≡ false = or_left (name || columns || keys) names one in
    let three : name || columns ≡ false = or_left (name || columns) keys two in
    let few : length t.columns ≤ 64 = ltb-false 64 (length t.columns) (or_right name columns three) in
    record {
      name = short_name t.name (or_left name columns three);
      few_columns = few;
      few_keys = ltb-false 8 (length t.keys) (or_right (name || columns) keys two);
      columns = none_any_of (λ c. c.name) is_long_name IsShortColumn (λ c. short_name c.name) t.columns (or_right (name || columns || keys) names one);
      keys = both_all IsKeyWithin HasPlaces IsShortKey (λ k w p. record { name = w.name; few = w.few; places = p }) t.keys
          (none_any (λ k. is_long_name k.name || nat_lt 8 (length k.columns)) IsKeyWithin key_within t.keys
          (or_right (name || columns || keys || names) long within))
          (none_any (λ k. (length k.columns == 0) || are_bad_columns t.columns k.unique k.columns) HasPlaces (key_places t.columns few) t.keys
          (or_right (has_twice (map (λ c. c.name) t.columns) || has_twice (map (λ k. k.name) t.keys)) (are_bad_keys t.columns t.keys) lawful));
    }

-- a table that can be added: it is within the limits, and one more fits
record IsOneMore (before : List TableDef) (t : TableDef) : Type 0 where
  pub room : length before < 64
  pub table : IsShortTable t

one_more : (before : List TableDef) (t : TableDef) → add_fault before t ≡ None → IsOneMore before t
one_more before t e =
    let full = nat_le 64 (length before) in
    let told = no_fault (is_named t.name (map (λ t. t.name) before)) (is_unlawful t) (full || is_past_limits t) e in
    record {
      room = leb-false 64 (length before) (or_left full (is_past_limits t) told.1);
      table = short_table t told.0 (or_right full (is_past_limits t) told.1);
    }

-- all tables that a schema grew to
pub record AreShortTables (before tables : List TableDef) : Type 0 where
  pub few : length before ≤ 64 → length before + length tables ≤ 64
  pub each : AllByRecursion IsShortTable tables

pub grown_are_short : (before tables : List TableDef) → Grow before tables → AreShortTables before tables
grown_are_short before [] grow = record { few = λ h. omega arith; each = tt }
grown_are_short before (t ∷ tables) grow =
    let one = one_more before t grow.0 in
    let more = grown_are_short (before ++ t ∷ []) tables grow.1 in
    let room : length before < 64 = one.room in
    let size : length (before ++ t ∷ []) ≡ length before + 1 = length-append before (t ∷ []) in
    let fits : length (before ++ t ∷ []) ≤ 64 = omega arith in
    let few : length (before ++ t ∷ []) + length tables ≤ 64 = more.few fits in
    record { few = λ h. omega arith; each = (one.table, more.each) }

-- they fit their fields
all_fit : {A : Type 0} (P Q : A → Type 0) → ((x : A) → P x → Q x) → (xs : List A) → AllByRecursion P xs → AllByRecursion Q xs
all_fit P Q fit [] p = tt
all_fit P Q fit (x ∷ xs) p = (fit x p.0, all_fit P Q fit xs p.1)

name_fits : (name : List ℕ) → IsShortName name → IsNameBytes name
name_fits name short = omega arith

key_fits : (k : KeyDef) → IsShortKey k → IsIndex k
key_fits k short =
    let few : length k.columns ≤ 8 = short.few in
    record { name = name_fits k.name short.name; columns = record { count = omega arith; each = short.places } }

table_fits : (t : TableDef) → IsShortTable t → IsTable t
table_fits t short =
    let columns : length t.columns ≤ 64 = short.few_columns in
    let keys : length t.keys ≤ 8 = short.few_keys in
    record {
      name = name_fits t.name short.name;
      columns = record { count = omega arith; each = all_fit IsShortColumn IsColumn (λ c. name_fits c.name) t.columns short.columns };
      keys = record { count = omega arith; each = all_fit IsShortKey IsIndex key_fits t.keys short.keys };
    }

pub grown_fit : (tables : List TableDef) → Grow [] tables → IsSchema tables
grown_fit tables grow =
    let short = grown_are_short [] tables grow in
    let few : length tables ≤ 64 = omega (arith, short.few (omega arith)) in
    record { count = omega arith; each = all_fit IsShortTable IsTable table_fits tables short.each; grow = grow }
