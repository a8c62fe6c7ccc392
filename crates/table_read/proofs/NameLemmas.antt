-- The columns at the places of a lawful table's keys have the names that are written.
use Rattle.std.proofs.Common.{◌≡◌, ℕ, ◌+◌, Bool, true, false, ◌||◌, ◌==◌, if◌then◌else◌, List, [], ◌∷◌, length, map, Option, Some, None, Ok, option_map, slice_get, bytes_eq, refl, ◌∙◌, ap, ap₂, subst, add-one}
use Rattle.std.proofs.lemmas.Slice.Eq.{bytes_eq-Decides}
use Rattle.cdb_values.specs.Tables.{add_fault, is_bad_column, are_bad_columns, are_bad_keys, is_unlawful, has_twice}
use Rattle.cdb_values.specs.declared.schemas.AddFault.{AddFault}
use Rattle.cdb_values.specs.declared.schemas.AddFault.TheVariants as faults
use Rattle.cdb_values.specs.declared.tables.TableDef.{TableDef}
use Rattle.cdb_values.specs.declared.tables.ColumnDef.{ColumnDef}
use Rattle.sql_grammar.specs.Trees.{Definition}
use Rattle.table_read.specs.declared.keys.WrittenKey.{WrittenKey}
use Rattle.table_read.specs.Reading.{definition_of}
use Rattle.table_read.specs.Keys.{written_keys}
use Rattle.table_read.specs.Tables.{columns_with, place_among, key_over, table_over, table_said}
use Rattle.table_read.specs.Named.{name_at, names_at, names_written}
use Rattle.table_read.specs.Verdict.{unless_fault, defined, table_of}

both_false : (a b : Bool) → (a || b) ≡ false → (a ≡ false) × (b ≡ false)
both_false true b e = cc
both_false false b e = (refl, e)

at_place : (columns : List ColumnDef) (name : List ℕ) (found : ColumnDef) → slice_get columns (place_among columns name) ≡ Some found → found.name ≡ name
at_place [] name found e = cc
at_place (column ∷ columns) name found e = go (at_place columns name found) (bytes_eq column.name name) refl e
  where
    go : (slice_get columns (place_among columns name) ≡ Some found → found.name ≡ name) → (same : Bool) → bytes_eq column.name name ≡ same → slice_get (column ∷ columns) (if same then 0 else place_among columns name + 1) ≡ Some found → found.name ≡ name
    go later true s e = let h : found ≡ column = cc in ap (λ c. c.name) h ∙ (bytes_eq-Decides column.name name).0 s
    go later false s e = later (subst (λ n. slice_get (column ∷ columns) n ≡ Some found) (add-one (place_among columns name)) e)

name_there : (columns : List ColumnDef) (unique : Bool) (name : List ℕ) → is_bad_column unique (slice_get columns (place_among columns name)) ≡ false → name_at columns (place_among columns name) ≡ Some name
name_there columns unique name good = go (slice_get columns (place_among columns name)) refl good
  where
    go : (o : Option ColumnDef) → slice_get columns (place_among columns name) ≡ o → is_bad_column unique o ≡ false → option_map (λ column. column.name) o ≡ Some name
    go None e good = cc
    go (Some found) e good = ap (λ n. Some n) (at_place columns name found e)

names_there : (columns : List ColumnDef) (unique : Bool) (names : List (List ℕ)) → are_bad_columns columns unique (map (place_among columns) names) ≡ false → map (name_at columns) (map (place_among columns) names) ≡ map (λ name. Some name) names
names_there columns unique [] good = refl
names_there columns unique (name ∷ names) good =
    let p : (is_bad_column unique (slice_get columns (place_among columns name)) ≡ false) × (are_bad_columns columns unique (map (place_among columns) names) ≡ false) = both_false (is_bad_column unique (slice_get columns (place_among columns name))) (are_bad_columns columns unique (map (place_among columns) names)) good in
    ap₂ (λ n ns. n ∷ ns) (name_there columns unique name p.0) (names_there columns unique names p.1)

keys_there : (columns : List ColumnDef) (keys : List WrittenKey) → are_bad_keys columns (map (key_over columns) keys) ≡ false → map (names_at columns) (map (key_over columns) keys) ≡ map names_written keys
keys_there columns [] good = refl
keys_there columns (key ∷ keys) good =
    let p : (((length (map (place_among columns) key.columns) == 0) || are_bad_columns columns key.unique (map (place_among columns) key.columns)) ≡ false) × (are_bad_keys columns (map (key_over columns) keys) ≡ false) = both_false ((length (map (place_among columns) key.columns) == 0) || are_bad_columns columns key.unique (map (place_among columns) key.columns)) (are_bad_keys columns (map (key_over columns) keys)) good in
    let q : are_bad_columns columns key.unique (map (place_among columns) key.columns) ≡ false = (both_false (length (map (place_among columns) key.columns) == 0) (are_bad_columns columns key.unique (map (place_among columns) key.columns)) p.0).1 in
    ap₂ (λ n ns. n ∷ ns) (names_there columns key.unique key.columns q) (keys_there columns keys p.1)

unfaulty : (taken unlawful past : Bool) → (if taken then Some faults.Taken else if unlawful then Some faults.Unlawful else if past then Some faults.Limit else None) ≡ None → unlawful ≡ false
unfaulty true unlawful past e = cc
unfaulty false true past e = cc
unfaulty false false past e = refl

good_keys : (tables : List TableDef) (name : List ℕ) (columns : List ColumnDef) (keys : List WrittenKey) → add_fault tables (table_over name columns keys) ≡ None → are_bad_keys columns (map (key_over columns) keys) ≡ false
good_keys tables name columns keys e =
    let lawful : is_unlawful (table_over name columns keys) ≡ false = unfaulty _ (is_unlawful (table_over name columns keys)) _ e in
    (both_false (has_twice (map (λ c. c.name) columns) || has_twice (map (λ k. k.name) (map (key_over columns) keys))) (are_bad_keys columns (map (key_over columns) keys)) lawful).1

pub keys_named : (tables : List TableDef) (text : List ℕ) (definition : Definition) (table : TableDef) → definition_of text ≡ Some definition → table_of tables text ≡ Ok table → map (names_at table.columns) table.keys ≡ map names_written (written_keys definition.parts)
unfolding table_of table_said
keys_named tables text definition table f e = go (add_fault tables (table_said definition)) refl (subst (λ o. defined tables o ≡ Ok table) f e)
  where
    go : (fault : Option AddFault) → add_fault tables (table_said definition) ≡ fault → unless_fault (table_said definition) fault ≡ Ok table → map (names_at table.columns) table.keys ≡ map names_written (written_keys definition.parts)
    go None n e =
        let same : table_said definition ≡ table = cc in
        subst (λ t. map (names_at t.columns) t.keys ≡ map names_written (written_keys definition.parts)) same
        (keys_there (columns_with (written_keys definition.parts) definition.parts) (written_keys definition.parts) (good_keys tables definition.name (columns_with (written_keys definition.parts) definition.parts) (written_keys definition.parts) n))
    go (Some fault) n e = cc
