-- A row fits its table exactly where it is found to.
use Rattle.std.proofs.Common.{◌≡◌, ℕ, ◌-◌, ◌≤◌, ◌<◌, ◌&&◌, ◌||◌, not, Bool, true, false, List, [], ◌∷◌, nat_lt, refl, arith}
use Rattle.std.specs.Bool.{Decides}
use Rattle.std.proofs.lemmas.Bool.{false≢true, ltb-true}
use Rattle.std.proofs.lemmas.Bool.Decides.{Decides-like, Decides-and}
use Rattle.std.specs.List.{AllByRecursion}
use Rattle.cdb_values.specs.Good.{FitsColumn, FitsColumns, FitsTable, bytes_of_row, bytes_of_key, key_of}
use Rattle.cdb_values.specs.declared.limits.TheConstants.{MOST_ROW_BYTES, MOST_KEY_BYTES}
use Rattle.cdb_values.specs.declared.tables.TableDef.{TableDef}
use Rattle.cdb_values.specs.declared.tables.KeyDef.{KeyDef}
use Rattle.cdb_values.specs.declared.tables.ColumnDef.{ColumnDef}
use Rattle.cdb_values.specs.declared.tables.ColumnType.{ColumnType}
use Rattle.cdb_values.specs.declared.tables.ColumnType.TheVariants as kinds
use Rattle.cdb_values.specs.declared.values.Value.{Value}
use Rattle.cdb_values.specs.declared.values.Value.TheVariants.{Null, Int, Text, Blob}
use Rattle.table_state.specs.Fits.{is_integer, is_text, is_blob, fits_column, fits_columns, is_long_row, is_long_key, has_long_key, fits_table}

integer_decides : (kind : ColumnType) → Decides (is_integer kind) (kind ≡ kinds.Integer)
integer_decides kinds.Integer = (λ e. refl, λ e. refl)
integer_decides kinds.Text = (λ e. absurd (false≢true e), λ e. cc)
integer_decides kinds.Blob = (λ e. absurd (false≢true e), λ e. cc)

text_decides : (kind : ColumnType) → Decides (is_text kind) (kind ≡ kinds.Text)
text_decides kinds.Integer = (λ e. absurd (false≢true e), λ e. cc)
text_decides kinds.Text = (λ e. refl, λ e. refl)
text_decides kinds.Blob = (λ e. absurd (false≢true e), λ e. cc)

blob_decides : (kind : ColumnType) → Decides (is_blob kind) (kind ≡ kinds.Blob)
blob_decides kinds.Integer = (λ e. absurd (false≢true e), λ e. cc)
blob_decides kinds.Text = (λ e. absurd (false≢true e), λ e. cc)
blob_decides kinds.Blob = (λ e. refl, λ e. refl)

column_decides : (column : ColumnDef) (value : Value) → Decides (fits_column column value) (FitsColumn column value)
column_decides column Null = (λ e. e, λ e. e)
column_decides column (Int _) = integer_decides column.kind
column_decides column (Text _) = text_decides column.kind
column_decides column (Blob _) = blob_decides column.kind

columns_decide : (columns : List ColumnDef) (values : List Value) → Decides (fits_columns columns values) (FitsColumns columns values)
columns_decide [] [] = (λ e. tt, λ h. refl)
columns_decide [] (v ∷ vs) = (λ e. absurd (false≢true e), λ h. absurd h)
columns_decide (c ∷ cs) [] = (λ e. absurd (false≢true e), λ h. absurd h)
columns_decide (c ∷ cs) (v ∷ vs) = Decides-and (fits_column c v) (fits_columns cs vs) (column_decides c v) (columns_decide cs vs)

atmost_decides : (limit size : ℕ) → Decides (not (nat_lt limit size)) (size ≤ limit)
atmost_decides limit size = go (nat_lt limit size) refl
  where
    under : nat_lt limit size ≡ false → size ≤ limit
    under e = grind arith

    go : (t : Bool) → nat_lt limit size ≡ t → Decides (not t) (size ≤ limit)
    go true e = (λ f. absurd (false≢true f), λ h. (let past : limit < size = ltb-true limit size e in absurd (omega (arith, past, h))))
    go false e = (λ f. under e, λ h. refl)

keys_decide : (keys : List KeyDef) (row : List Value)
    → Decides (not (has_long_key keys row)) (AllByRecursion (λ key. bytes_of_key (key_of key row) ≤ MOST_KEY_BYTES) keys)
keys_decide [] row = (λ e. tt, λ h. refl)
keys_decide (key ∷ keys) row =
    let one = atmost_decides MOST_KEY_BYTES (bytes_of_key (key_of key row)) in
    let more = keys_decide keys row in (
      λ e. (let b = neither (is_long_key row key) (has_long_key keys row) e in (one.0 b.0, more.0 b.1)),
      λ h. both (is_long_key row key) (has_long_key keys row) (one.1 h.0) (more.1 h.1),
    )
  where
    neither : (a b : Bool) → not (a || b) ≡ true → (not a ≡ true) × (not b ≡ true)
    neither true b e = absurd (false≢true e)
    neither false b e = (refl, e)

    both : (a b : Bool) → not a ≡ true → not b ≡ true → not (a || b) ≡ true
    both true b e f = e
    both false b e f = f

pub table_decides : (table : TableDef) (row : List Value) → Decides (fits_table table row) (FitsTable table row)
table_decides table row =
    let keys = not (has_long_key table.keys row) in
    Decides-like (fits_table table row) (λ h. record { columns = h.0; size = h.1.0; keys = h.1.1 }) (λ r. (r.columns, (r.size, r.keys)))
    (Decides-and (fits_columns table.columns row) (not (is_long_row row) && keys) (columns_decide table.columns row)
    (Decides-and (not (is_long_row row)) keys (atmost_decides MOST_ROW_BYTES (bytes_of_row row)) (keys_decide table.keys row)))
