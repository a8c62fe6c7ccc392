-- The bytes that stand for a frame, and for each of its parts.
--
-- Lists of parts stand behind their number, and bytes behind their length; numbers are big-endian.
use Rattle.std.specs.Prelude.{ℕ, List, [], ◌∷◌, ◌++◌, length, Bool, true, false}
use Rattle.std.specs.List.{flat_map}
use Rattle.byteorder.specs.Endian.{big_bytes}
use Rattle.cdb_values.specs.declared.rows.Change.{Change}
use Rattle.cdb_values.specs.declared.rows.Change.TheVariants as change
use Rattle.cdb_values.specs.declared.rows.Level.{Level}
use Rattle.cdb_values.specs.declared.rows.Level.TheVariants.{Snapshot, Serializable}
use Rattle.cdb_values.specs.declared.tables.ColumnDef.{ColumnDef}
use Rattle.cdb_values.specs.declared.tables.ColumnType.{ColumnType}
use Rattle.cdb_values.specs.declared.tables.ColumnType.TheVariants as types
use Rattle.cdb_values.specs.declared.tables.KeyDef.{KeyDef}
use Rattle.cdb_values.specs.declared.tables.TableDef.{TableDef}
use Rattle.cdb_values.specs.declared.values.Value.{Value}
use Rattle.key_code.specs.Codes.{row_code}
use Rattle.page_store.specs.declared.edits.Edit.{Edit}
use Rattle.page_store.specs.declared.edits.Edit.TheVariants.{PutCell, TakeCell, SwapCell, SetHead}
use Rattle.page_store.specs.declared.pages.Head.{Head}
use Rattle.page_store.specs.declared.pages.PageKind.{PageKind}
use Rattle.page_store.specs.declared.pages.PageKind.TheVariants.{Free, Leaf, Inner, Meta}
use Rattle.phys_log.specs.declared.entries.Entry.{Entry}
use Rattle.phys_log.specs.declared.entries.Entry.TheVariants.{Setup, Commit}
use Rattle.phys_log.specs.declared.entries.LogRecord.{LogRecord}
use Rattle.frame_code.specs.declared.frames.Frame.{Frame}
use Rattle.frame_code.specs.declared.frames.Frame.TheVariants as frames

-- numbers of 1, 2, 8 and 16 bytes
abbrev pub byte : ℕ → List ℕ
byte n = n ∷ []

abbrev pub two_bytes : ℕ → List ℕ
two_bytes n = big_bytes 2 n

abbrev pub number : ℕ → List ℕ
number n = big_bytes 8 n

abbrev pub sixteen_bytes : ℕ → List ℕ
sixteen_bytes n = big_bytes 16 n

-- yes or no
abbrev pub flag : Bool → List ℕ
flag false = 0 ∷ []
flag true = 1 ∷ []

-- parts behind their number, which takes 1 byte or 8
abbrev pub few : {A : Type 0} → (A → List ℕ) → List A → List ℕ
few code parts = byte (length parts) ++ flat_map code parts

abbrev pub many : {A : Type 0} → (A → List ℕ) → List A → List ℕ
many code parts = number (length parts) ++ flat_map code parts

-- bytes behind their length
abbrev pub name_code : List ℕ → List ℕ
name_code name = byte (length name) ++ name

abbrev pub cell_code : List ℕ → List ℕ
cell_code cell = two_bytes (length cell) ++ cell

abbrev pub stored_row : List Value → List ℕ
stored_row row = big_bytes 4 (length (row_code row)) ++ row_code row

-- tables
abbrev pub type_code : ColumnType → List ℕ
type_code types.Integer = 1 ∷ []
type_code types.Text = 2 ∷ []
type_code types.Blob = 3 ∷ []

abbrev pub column_code : ColumnDef → List ℕ
column_code c = name_code c.name ++ (type_code c.kind ++ flag c.nullable)

abbrev pub index_code : KeyDef → List ℕ
index_code k = name_code k.name ++ (flag k.unique ++ few byte k.columns)

abbrev pub table_code : TableDef → List ℕ
table_code t = name_code t.name ++ (few column_code t.columns ++ few index_code t.keys)

abbrev pub schema_code : List TableDef → List ℕ
schema_code tables = two_bytes (length tables) ++ flat_map table_code tables

-- changes
abbrev pub change_code : Change → List ℕ
change_code (change.Insert table genid row) = 1 ∷ (two_bytes table ++ (number genid ++ stored_row row))
change_code (change.Update table old_genid old genid row) =
    2 ∷ (two_bytes table ++ (number old_genid ++ (stored_row old ++ (number genid ++ stored_row row))))
change_code (change.Delete table old_genid old) = 3 ∷ (two_bytes table ++ (number old_genid ++ stored_row old))

-- records
abbrev pub kind_code : PageKind → List ℕ
kind_code Free = 0 ∷ []
kind_code Leaf = 1 ∷ []
kind_code Inner = 2 ∷ []
kind_code Meta = 3 ∷ []

abbrev pub head_code : Head → List ℕ
head_code h = kind_code h.kind ++ (byte h.level ++ number h.right)

abbrev pub edit_code : Edit → List ℕ
edit_code (PutCell at cell) = 1 ∷ (two_bytes at ++ cell_code cell)
edit_code (TakeCell at cell) = 2 ∷ (two_bytes at ++ cell_code cell)
edit_code (SwapCell at before after) = 3 ∷ (two_bytes at ++ (cell_code before ++ cell_code after))
edit_code (SetHead before after) = 4 ∷ (head_code before ++ head_code after)

abbrev pub record_code : LogRecord → List ℕ
record_code r = number r.lsn ++ (number r.prev ++ (number r.page ++ edit_code r.edit))

-- entries
abbrev pub level_code : Level → ℕ
level_code Snapshot = 1
level_code Serializable = 2

abbrev pub entry_code : Entry → List ℕ
entry_code (Setup generation schema records) =
    number generation ++ (0 ∷ (schema_code schema ++ many record_code records))
entry_code (Commit generation id begin level changes records) =
    number generation
    ++ (level_code level
    ∷ (number id.began
    ++ (name_code id.session
    ++ (number id.txn ++ (number begin ++ (many change_code changes ++ many record_code records))))))

-- frames
abbrev pub payload : Frame → List ℕ
payload (frames.Header version node cluster) = byte version ++ (byte node ++ sixteen_bytes cluster)
payload (frames.Promise generation) = number generation
payload (frames.Accept generation) = number generation
payload (frames.Entry entry) = entry_code entry
payload (frames.Cut length) = number length

abbrev pub kind_of : Frame → ℕ
kind_of (frames.Header version node cluster) = 1
kind_of (frames.Promise generation) = 2
kind_of (frames.Accept generation) = 3
kind_of (frames.Entry entry) = 4
kind_of (frames.Cut length) = 5

-- a kind, the length of a payload, and the payload
abbrev pub envelope : ℕ → List ℕ → List ℕ
envelope kind payload = kind ∷ (number (length payload) ++ payload)

abbrev pub frame_code : Frame → List ℕ
frame_code frame = envelope (kind_of frame) (payload frame)
