-- The pairs of rows that fit their trees can be put, whatever the genid.
use Rattle.std.proofs.Common.{◌≡◌, ℕ, ◌+◌, ◌≤◌, ◌<◌, ◌==◌, Bool, true, false, if◌then◌else◌, List, [], ◌∷◌, length, Option, Some, None, refl, sym, ap, ◌∙◌, subst, arith, length-append}
use Rattle.std.proofs.lemmas.Bool.{eqb-true}
use Rattle.std.specs.Prelude.{IfSome, MatchOption}
use Rattle.std.specs.List.{AllByRecursion, slice_get}
use Rattle.byteorder.specs.Endian.{big_bytes}
use Rattle.byteorder.specs.Numbers.{length-bytes_high_first}
use Rattle.cdb_values.specs.Good.{bytes_of_row, bytes_of_key, row_bytes, key_of}
use Rattle.cdb_values.specs.Rows.{version}
use Rattle.cdb_values.specs.declared.limits.TheConstants.{MOST_KEY_BYTES}
use Rattle.cdb_values.specs.declared.rows.RowOp.{RowOp}
use Rattle.cdb_values.specs.declared.rows.RowOp.TheVariants.{Insert, Update, Delete}
use Rattle.cdb_values.specs.declared.rows.RowRef.TheVariants.{Base, Own}
use Rattle.cdb_values.specs.declared.rows.Version.{Version}
use Rattle.cdb_values.specs.declared.tables.TableDef.{TableDef}
use Rattle.cdb_values.specs.declared.tables.KeyDef.{KeyDef}
use Rattle.cdb_values.specs.declared.values.Value.{Value}
use Rattle.cdb_values.specs.declared.values.Value.TheVariants.{Null, Int, Text, Blob}
use Rattle.key_code.specs.Codes.{key_code, row_code, IsShort}
use Rattle.key_code.proofs.SizeLemmas.{length-key_code, length-row_code}
use Rattle.table_store.specs.Forests.{Pair}
use Rattle.table_store.specs.Listings.{keyed}
use Rattle.table_store.specs.Operations.{born}
use Rattle.table_changes.specs.Changed.{IsPuttable}
use Rattle.table_edits.specs.Fits.{FitsTrees, FitsAt, WritesFitting}
use Rattle.table_edits.proofs.ListLemmas.{get_some}
use Rattle.table_store.proofs.AmongLaws.{all_among, among_all}

pub short_value : (v : Value) → row_bytes v ≤ 1600 → IsShort v
short_value Null h = tt
short_value (Int x) h = tt
short_value (Text text) h = (let k : 5 + length text ≤ 1600 = h in omega (arith, k))
short_value (Blob blob) h = (let k : 5 + length blob ≤ 1600 = h in omega (arith, k))

short_row : (row : List Value) → bytes_of_row row ≤ 1600 → AllByRecursion IsShort row
short_row [] h = tt
short_row (v ∷ vs) h =
    let k : row_bytes v + bytes_of_row vs ≤ 1600 = h in
    (short_value v (omega (arith, k)), short_row vs (omega (arith, k)))

row_puttable : (keys : List KeyDef) (genid : ℕ) (row : List Value) → FitsTrees keys row → IsPuttable None (version genid row)
row_puttable keys genid row fits =
    let size : bytes_of_row row ≤ 1600 = fits.size in
    let eight : length (big_bytes 8 genid) ≡ 8 = length-bytes_high_first 8 genid in
    let long : length (row_code row) ≡ bytes_of_row row = length-row_code row in
    record { key_fits = omega (arith, eight); cell_fits = omega (arith, eight, long, size); short = short_row row size }

-- a pair of a key, unique or not
record HasRoom (p : Pair) : Type 0 where
  key_fits : length p.0 ≤ 1630
  cell_fits : 2 + length p.0 + length p.1 ≤ 1640

key_room : (unique : Bool) (code genid : List ℕ) → length code ≤ 512 → length genid ≡ 8 → HasRoom (keyed unique code genid)
key_room true code genid small eight = record { key_fits = omega (arith, small); cell_fits = omega (arith, small, eight) }
key_room false code genid small eight =
    let both = length-append code genid in
    record { key_fits = omega (arith, small, eight, both); cell_fits = omega (arith, small, eight, both) }

key_puttable : (key : KeyDef) (genid : ℕ) (row : List Value) → bytes_of_row row ≤ 1600 → bytes_of_key (key_of key row) ≤ MOST_KEY_BYTES → IsPuttable (Some key) (version genid row)
key_puttable key genid row size fits =
    let small : bytes_of_key (key_of key row) ≤ 512 = fits in
    let long : length (key_code (key_of key row)) ≡ bytes_of_key (key_of key row) = length-key_code (key_of key row) in
    let room = key_room key.unique (key_code (key_of key row)) (big_bytes 8 genid) (omega (arith, small, long)) (length-bytes_high_first 8 genid) in
    record { key_fits = room.key_fits; cell_fits = room.cell_fits; short = short_row row size }

-- the row of an operation on a table
pub fits_there : (tables : List TableDef) (place other : ℕ) (table : TableDef) (row : List Value) → slice_get tables place ≡ Some table → other ≡ place
    → FitsAt tables other row → FitsTrees table.keys row
fits_there tables place other table row at same fits =
    subst (λ (o : Option TableDef). IfSome o (λ t. FitsTrees t.keys row)) (ap (λ (n : ℕ). slice_get tables n) same ∙ at) fits

born_fits : (Q : Version → Type 0) (tables : List TableDef) (place : ℕ) (table : TableDef) → slice_get tables place ≡ Some table
    → ((genid : ℕ) (row : List Value) → FitsTrees table.keys row → Q (version genid row)) → (ops : List RowOp) (next : ℕ)
    → AllByRecursion (WritesFitting tables) ops → AllByRecursion Q (born place next ops)
born_fits Q tables place table at f [] next h = tt
born_fits Q tables place table at f (Insert other row ∷ ops) next h = go (other == place) refl (born_fits Q tables place table at f ops (next + 1) h.1)
  where
    go : (t : Bool) → (other == place) ≡ t → AllByRecursion Q (born place (next + 1) ops)
        → AllByRecursion Q (if t then version next row ∷ born place (next + 1) ops else born place (next + 1) ops)
    go true e later = (f next row (fits_there tables place other table row at (eqb-true other place e) h.0), later)
    go false e later = later
born_fits Q tables place table at f (Update other (Base genid) old row ∷ ops) next h = go (other == place) refl (born_fits Q tables place table at f ops (next + 1) h.1)
  where
    go : (t : Bool) → (other == place) ≡ t → AllByRecursion Q (born place (next + 1) ops)
        → AllByRecursion Q (if t then version next row ∷ born place (next + 1) ops else born place (next + 1) ops)
    go true e later = (f next row (fits_there tables place other table row at (eqb-true other place e) h.0), later)
    go false e later = later
born_fits Q tables place table at f (Update other (Own write) old row ∷ ops) next h = born_fits Q tables place table at f ops next h.1
born_fits Q tables place table at f (Delete other target old ∷ ops) next h = born_fits Q tables place table at f ops next h.1

-- all that comes can be put into the tree of the rows, and into that of each key
pub rows_fit : (tables : List TableDef) (place next : ℕ) (table : TableDef) (ops : List RowOp) → slice_get tables place ≡ Some table
    → AllByRecursion (WritesFitting tables) ops → AllByRecursion (IsPuttable None) (born place next ops)
rows_fit tables place next table ops at h = born_fits (IsPuttable None) tables place table at (row_puttable table.keys) ops next h

pub keys_fit : (tables : List TableDef) (place next : ℕ) (table : TableDef) (ops : List RowOp) → slice_get tables place ≡ Some table
    → AllByRecursion (WritesFitting tables) ops → AllByRecursion (λ key. AllByRecursion (IsPuttable (Some key)) (born place next ops)) table.keys
keys_fit tables place next table ops at h =
    all_among (λ key. AllByRecursion (IsPuttable (Some key)) (born place next ops)) table.keys
    (λ key i. born_fits (IsPuttable (Some key)) tables place table at
    (λ genid row fits. key_puttable key genid row fits.size (among_all (λ k. bytes_of_key (key_of k row) ≤ MOST_KEY_BYTES) key table.keys fits.keys i)) ops next h)

-- the table at a place, and its keys
pub record IsTableAt (tables : List TableDef) (place : ℕ) (keys : List KeyDef) : Type 0 where
  pub table : TableDef
  pub at : slice_get tables place ≡ Some table
  pub keys_are : keys ≡ table.keys

pub table_at : (tables : List TableDef) (place : ℕ) (keys : List KeyDef) → place < length tables
    → MatchOption (slice_get tables place) (keys ≡ []) (λ t. keys ≡ t.keys) → IsTableAt tables place keys
table_at tables place keys within h =
    let found = get_some tables place within in
    record { table = found.0; at = found.1; keys_are = subst (λ (o : Option TableDef). MatchOption o (keys ≡ []) (λ t. keys ≡ t.keys)) found.1 h }

pub keys_fit_there : (tables : List TableDef) (place next : ℕ) (keys : List KeyDef) (ops : List RowOp) → IsTableAt tables place keys
    → AllByRecursion (WritesFitting tables) ops → AllByRecursion (λ key. AllByRecursion (IsPuttable (Some key)) (born place next ops)) keys
keys_fit_there tables place next keys ops is h =
    subst (λ (ks : List KeyDef). AllByRecursion (λ key. AllByRecursion (IsPuttable (Some key)) (born place next ops)) ks) (sym is.keys_are)
    (keys_fit tables place next is.table ops is.at h)
