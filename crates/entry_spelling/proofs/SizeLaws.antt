-- How many bytes the parts of an entry take at most.
use Rattle.std.proofs.Common.{◌≡◌, ℕ, ◌+◌, ◌*◌, ◌<◌, ◌≤◌, ◌^◌, Bool, true, false, List, [], ◌∷◌, ◌++◌, length, arith, length-append, mul-le-mul_left}
use Rattle.std.specs.List.{AllByRecursion, flat_map}
use Rattle.byteorder.specs.Endian.{big_bytes}
use Rattle.byteorder.specs.Numbers.{length-bytes_high_first}
use Rattle.cdb_values.specs.declared.rows.Change.{Change}
use Rattle.cdb_values.specs.declared.rows.Change.TheVariants as change
use Rattle.cdb_values.specs.declared.tables.ColumnDef.{ColumnDef}
use Rattle.cdb_values.specs.declared.tables.ColumnType.{ColumnType}
use Rattle.cdb_values.specs.declared.tables.ColumnType.TheVariants as types
use Rattle.cdb_values.specs.declared.tables.KeyDef.{KeyDef}
use Rattle.cdb_values.specs.declared.tables.TableDef.{TableDef}
use Rattle.cdb_values.specs.declared.values.Value.{Value}
use Rattle.key_code.specs.Codes.{row_code}
use Rattle.page_store.specs.declared.edits.Edit.{Edit}
use Rattle.page_store.specs.declared.edits.Edit.TheVariants.{PutCell, TakeCell, SwapCell, SetHead}
use Rattle.page_store.specs.declared.pages.Head.{Head}
use Rattle.page_store.specs.declared.pages.PageKind.{PageKind}
use Rattle.page_store.specs.declared.pages.PageKind.TheVariants.{Free, Leaf, Inner, Meta}
use Rattle.phys_log.specs.declared.entries.LogRecord.{LogRecord}
use Rattle.frame_code.specs.Codes.{byte, two_bytes, number, flag, few, name_code, cell_code, stored_row, type_code, column_code, index_code, table_code, schema_code, change_code, kind_code, head_code, edit_code, record_code}
use Rattle.frame_code.specs.Spelled.{IsByte, IsCellBytes, IsStoredRow, IsChange, IsEdit, IsRecord}
use Rattle.entry_spelling.proofs.TableLaws.{IsShortColumn, IsShortKey, IsShortTable}

-- two parts, one behind the other
pub joined : (xs ys : List ℕ) (m n : ℕ) → length xs ≤ m → length ys ≤ n → length (xs ++ ys) ≤ m + n
joined xs ys m n h k = let e : length (xs ++ ys) ≡ length xs + length ys = length-append xs ys in omega arith

-- parts that each take so many bytes at most
pub size_of_parts : {A : Type 0} (code : A → List ℕ) (Has : A → Type 0) (most : ℕ) → ((x : A) → Has x → length (code x) ≤ most)
    → (xs : List A) → AllByRecursion Has xs → length (flat_map code xs) ≤ most * length xs
size_of_parts code Has most each [] all = omega arith
size_of_parts code Has most each (x ∷ xs) all =
    let here : length (code x) ≤ most = each x all.0 in
    let more : length (flat_map code xs) ≤ most * length xs = size_of_parts code Has most each xs all.1 in
    let both : length (code x ++ flat_map code xs) ≤ most + most * length xs = joined (code x) (flat_map code xs) most (most * length xs) here more in
    grind (arith, both)

-- numbers
two_size : (n : ℕ) → length (two_bytes n) ≤ 2
two_size n = let e : length (two_bytes n) ≡ 2 = length-bytes_high_first 2 n in omega arith

four_size : (n : ℕ) → length (big_bytes 4 n) ≤ 4
four_size n = let e : length (big_bytes 4 n) ≡ 4 = length-bytes_high_first 4 n in omega arith

pub number_size : (n : ℕ) → length (number n) ≤ 8
number_size n = let e : length (number n) ≡ 8 = length-bytes_high_first 8 n in omega arith

flag_size : (b : Bool) → length (flag b) ≤ 1
flag_size true = omega arith
flag_size false = omega arith

-- names, cells and rows
pub name_size : (name : List ℕ) (most : ℕ) → length name ≤ most → length (name_code name) ≤ 1 + most
name_size name most h = joined (byte (length name)) name 1 most (omega arith) h

cell_size : (cell : List ℕ) → IsCellBytes cell → length (cell_code cell) ≤ 2 + 2 ^ 16
cell_size cell h = joined (two_bytes (length cell)) cell 2 (2 ^ 16) (two_size (length cell)) (omega arith)

row_size : (row : List Value) → IsStoredRow row → length (stored_row row) ≤ 4 + 2 ^ 32
row_size row h =
    let short : length (row_code row) < 2 ^ 32 = h.size in
    joined (big_bytes 4 (length (row_code row))) (row_code row) 4 (2 ^ 32) (four_size (length (row_code row))) (omega arith)

-- tables
type_size : (kind : ColumnType) → length (type_code kind) ≤ 1
type_size types.Integer = omega arith
type_size types.Text = omega arith
type_size types.Blob = omega arith

column_size : (c : ColumnDef) → IsShortColumn c → length (column_code c) ≤ 35
column_size c h =
    joined (name_code c.name) (type_code c.kind ++ flag c.nullable) 33 2 (name_size c.name 32 h)
    (joined (type_code c.kind) (flag c.nullable) 1 1 (type_size c.kind) (flag_size c.nullable))

within : (n count most size : ℕ) → n ≤ count → size ≤ most * n → size ≤ most * count
within n count most size h k = let more : most * n ≤ most * count = mul-le-mul_left most h in omega arith

-- few parts behind their number
few_size : {A : Type 0} (code : A → List ℕ) (Has : A → Type 0) (most count : ℕ) → ((x : A) → Has x → length (code x) ≤ most)
    → (xs : List A) → length xs ≤ count → AllByRecursion Has xs → length (few code xs) ≤ 1 + most * count
few_size code Has most count each xs h all =
    let parts : length (flat_map code xs) ≤ most * length xs = size_of_parts code Has most each xs all in
    joined (byte (length xs)) (flat_map code xs) 1 (most * count) (omega arith) (within (length xs) count most (length (flat_map code xs)) h parts)

index_size : (k : KeyDef) → IsShortKey k → length (index_code k) ≤ 43
index_size k h =
    joined (name_code k.name) (flag k.unique ++ few byte k.columns) 33 10 (name_size k.name 32 h.name)
    (joined (flag k.unique) (few byte k.columns) 1 9 (flag_size k.unique)
    (few_size byte IsByte 1 8 (λ n b. omega arith) k.columns h.few h.places))

table_size : (t : TableDef) → IsShortTable t → length (table_code t) ≤ 2619
table_size t h =
    joined (name_code t.name) (few column_code t.columns ++ few index_code t.keys) 33 2586 (name_size t.name 32 h.name)
    (joined (few column_code t.columns) (few index_code t.keys) 2241 345
    (few_size column_code IsShortColumn 35 64 column_size t.columns h.few_columns h.columns)
    (few_size index_code IsShortKey 43 8 index_size t.keys h.few_keys h.keys))

pub schema_size : (tables : List TableDef) → length tables ≤ 64 → AllByRecursion IsShortTable tables → length (schema_code tables) ≤ 2 ^ 18
schema_size tables h all =
    let parts : length (flat_map table_code tables) ≤ 2619 * length tables = size_of_parts table_code IsShortTable 2619 table_size tables all in
    let both : length (schema_code tables) ≤ 2 + 2619 * 64 =
    joined (two_bytes (length tables)) (flat_map table_code tables) 2 (2619 * 64) (two_size (length tables)) (omega arith) in
    omega arith

-- changes
one_row_size : (kind table genid : ℕ) (row : List Value) → IsStoredRow row → length (kind ∷ (two_bytes table ++ (number genid ++ stored_row row))) ≤ 15 + 2 ^ 32
one_row_size kind table genid row h =
    joined (byte kind) (two_bytes table ++ (number genid ++ stored_row row)) 1 (14 + 2 ^ 32) (omega arith)
    (joined (two_bytes table) (number genid ++ stored_row row) 2 (12 + 2 ^ 32) (two_size table)
    (joined (number genid) (stored_row row) 8 (4 + 2 ^ 32) (number_size genid) (row_size row h)))

pub change_size : (c : Change) → IsChange c → length (change_code c) ≤ 2 ^ 34
change_size (change.Insert table genid row) h = let size : length (change_code (change.Insert table genid row)) ≤ 15 + 2 ^ 32 = one_row_size 1 table genid row h.row in omega arith
change_size (change.Delete table old_genid old) h = let size : length (change_code (change.Delete table old_genid old)) ≤ 15 + 2 ^ 32 = one_row_size 3 table old_genid old h.row in omega arith
change_size (change.Update table old_genid old genid row) h =
    let size : length (change_code (change.Update table old_genid old genid row)) ≤ 1 + (26 + 2 ^ 33) =
    joined (byte 2) (two_bytes table ++ (number old_genid ++ (stored_row old ++ (number genid ++ stored_row row)))) 1 (26 + 2 ^ 33) (omega arith)
    (joined (two_bytes table) (number old_genid ++ (stored_row old ++ (number genid ++ stored_row row))) 2 (24 + 2 ^ 33) (two_size table)
    (joined (number old_genid) (stored_row old ++ (number genid ++ stored_row row)) 8 (16 + 2 ^ 33) (number_size old_genid)
    (joined (stored_row old) (number genid ++ stored_row row) (4 + 2 ^ 32) (12 + 2 ^ 32) (row_size old h.old)
    (joined (number genid) (stored_row row) 8 (4 + 2 ^ 32) (number_size genid) (row_size row h.row))))) in
    omega arith

-- records
kind_size : (k : PageKind) → length (kind_code k) ≤ 1
kind_size Free = omega arith
kind_size Leaf = omega arith
kind_size Inner = omega arith
kind_size Meta = omega arith

head_size : (h : Head) → length (head_code h) ≤ 10
head_size h =
    joined (kind_code h.kind) (byte h.level ++ number h.right) 1 9 (kind_size h.kind)
    (joined (byte h.level) (number h.right) 1 8 (omega arith) (number_size h.right))

placed_size : (kind at : ℕ) (cell : List ℕ) → IsCellBytes cell → length (kind ∷ (two_bytes at ++ cell_code cell)) ≤ 5 + 2 ^ 16
placed_size kind at cell h =
    joined (byte kind) (two_bytes at ++ cell_code cell) 1 (4 + 2 ^ 16) (omega arith)
    (joined (two_bytes at) (cell_code cell) 2 (2 + 2 ^ 16) (two_size at) (cell_size cell h))

edit_size : (edit : Edit) → IsEdit edit → length (edit_code edit) ≤ 7 + 2 ^ 17
edit_size (PutCell at cell) h = let size : length (edit_code (PutCell at cell)) ≤ 5 + 2 ^ 16 = placed_size 1 at cell h.1 in omega arith
edit_size (TakeCell at cell) h = let size : length (edit_code (TakeCell at cell)) ≤ 5 + 2 ^ 16 = placed_size 2 at cell h.1 in omega arith
edit_size (SwapCell at before after) h =
    joined (byte 3) (two_bytes at ++ (cell_code before ++ cell_code after)) 1 (6 + 2 ^ 17) (omega arith)
    (joined (two_bytes at) (cell_code before ++ cell_code after) 2 (4 + 2 ^ 17) (two_size at)
    (joined (cell_code before) (cell_code after) (2 + 2 ^ 16) (2 + 2 ^ 16) (cell_size before h.1) (cell_size after h.2)))
edit_size (SetHead before after) h =
    let size : length (edit_code (SetHead before after)) ≤ 21 =
    joined (byte 4) (head_code before ++ head_code after) 1 20 (omega arith)
    (joined (head_code before) (head_code after) 10 10 (head_size before) (head_size after)) in
    omega arith

pub record_size : (r : LogRecord) → IsRecord r → length (record_code r) ≤ 2 ^ 18
record_size r h =
    let size : length (record_code r) ≤ 31 + 2 ^ 17 =
    joined (number r.lsn) (number r.prev ++ (number r.page ++ edit_code r.edit)) 8 (23 + 2 ^ 17) (number_size r.lsn)
    (joined (number r.prev) (number r.page ++ edit_code r.edit) 8 (15 + 2 ^ 17) (number_size r.prev)
    (joined (number r.page) (edit_code r.edit) 8 (7 + 2 ^ 17) (number_size r.page) (edit_size r.edit h.edit))) in
    omega arith
