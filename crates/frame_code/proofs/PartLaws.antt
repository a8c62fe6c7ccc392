-- The parts of tables, changes and records tell themselves.
use Rattle.std.proofs.Common.{◌≡◌, ℕ, ◌^◌, ◌<◌, List, [], ◌∷◌, ◌++◌, refl, sym, ap, ◌∙◌, arith}
use Rattle.std.specs.List.{AllByRecursion}
use Rattle.byteorder.specs.Endian.{big_bytes}
use Rattle.cdb_values.specs.declared.rows.Change.{Change}
use Rattle.cdb_values.specs.declared.rows.Change.TheVariants as change
use Rattle.cdb_values.specs.declared.tables.ColumnType.TheVariants as types
use Rattle.cdb_values.specs.declared.values.Value.{Value}
use Rattle.key_code.specs.Codes.{row_code, IsRowValue}
use Rattle.key_code.proofs.ValueLaws.{digits_tell, first}
use Rattle.key_code.proofs.JoinedLaws.{row_value_tells, row_begins}
use Rattle.page_store.specs.declared.edits.Edit.{Edit}
use Rattle.page_store.specs.declared.edits.Edit.TheVariants.{PutCell, TakeCell, SwapCell, SetHead}
use Rattle.page_store.specs.declared.pages.Head.{Head}
use Rattle.page_store.specs.declared.pages.PageKind.{PageKind}
use Rattle.page_store.specs.declared.pages.PageKind.TheVariants.{Free, Leaf, Inner, Meta}
use Rattle.frame_code.specs.Codes.{byte, two_bytes, number, flag, few, name_code, cell_code, stored_row, type_code, column_code, index_code, table_code, schema_code, change_code, kind_code, head_code, edit_code, record_code}
use Rattle.frame_code.specs.Spelled.{IsByte, IsTwoBytes, IsNumber, AreFew, IsNameBytes, IsCellBytes, IsStoredRow, IsColumn, IsIndex, IsTable, IsSchema, IsChange, IsHead, IsEdit, IsRecord}
use Rattle.frame_code.specs.Tells.{Tells}
use Rattle.frame_code.proofs.FormLaws.{Both, both, both_tell, as_parts_tell, bytes_tell, two_bytes_tell, numbers_tell, flags_tell, Any, few_tell, listed_tell, counted_tell}

-- names, cells and rows
pub names_tell : Tells name_code IsNameBytes
names_tell v w ps qs hv hw e = counted_tell byte IsByte bytes_tell v w ps qs hv hw e

pub cells_tell : Tells cell_code IsCellBytes
cells_tell v w ps qs hv hw e = counted_tell two_bytes IsTwoBytes two_bytes_tell v w ps qs hv hw e

abbrev IsFourBytes : ℕ → Type 0
IsFourBytes n = n < 2 ^ 32

four_bytes_tell : Tells (big_bytes 4) IsFourBytes
four_bytes_tell v w ps qs hv hw e = digits_tell 4 v w ps qs hv hw e

-- a row is told by its whole code
pub row_codes_are_one : (xs ys : List Value) → AllByRecursion IsRowValue xs → AllByRecursion IsRowValue ys → row_code xs ≡ row_code ys → xs ≡ ys
row_codes_are_one [] [] hx hy e = refl
row_codes_are_one [] (y ∷ ys) hx hy e = absurd (row_begins y (row_code ys) (sym e))
row_codes_are_one (x ∷ xs) [] hx hy e = absurd (row_begins x (row_code xs) e)
row_codes_are_one (x ∷ xs) (y ∷ ys) hx hy e =
    let one = row_value_tells x y (row_code xs) (row_code ys) hx.0 hy.0 e in
    ap (λ z. z ∷ xs) one.0 ∙ ap (λ l. y ∷ l) (row_codes_are_one xs ys hx.1 hy.1 one.1)

pub rows_tell : Tells stored_row IsStoredRow
rows_tell v w ps qs hv hw e =
    let one = counted_tell (big_bytes 4) IsFourBytes four_bytes_tell (row_code v) (row_code w) ps qs hv.size hw.size e in
    (row_codes_are_one v w hv.values hw.values one.0, one.1)

-- tables
pub types_tell : Tells type_code Any
types_tell types.Integer types.Integer ps qs hv hw e = (refl, cc)
types_tell types.Text types.Text ps qs hv hw e = (refl, cc)
types_tell types.Blob types.Blob ps qs hv hw e = (refl, cc)
types_tell types.Integer types.Text ps qs hv hw e = let b : ◌≡◌ {A = ℕ} 1 2 = cc in absurd (omega arith)
types_tell types.Integer types.Blob ps qs hv hw e = let b : ◌≡◌ {A = ℕ} 1 3 = cc in absurd (omega arith)
types_tell types.Text types.Integer ps qs hv hw e = let b : ◌≡◌ {A = ℕ} 2 1 = cc in absurd (omega arith)
types_tell types.Text types.Blob ps qs hv hw e = let b : ◌≡◌ {A = ℕ} 2 3 = cc in absurd (omega arith)
types_tell types.Blob types.Integer ps qs hv hw e = let b : ◌≡◌ {A = ℕ} 3 1 = cc in absurd (omega arith)
types_tell types.Blob types.Text ps qs hv hw e = let b : ◌≡◌ {A = ℕ} 3 2 = cc in absurd (omega arith)

pub columns_tell : Tells column_code IsColumn
columns_tell =
    as_parts_tell (both name_code (both type_code flag)) (Both IsNameBytes (Both Any Any))
    (both_tell name_code IsNameBytes (both type_code flag) (Both Any Any) names_tell (both_tell type_code Any flag Any types_tell flags_tell))
    column_code IsColumn
    (λ c. (c.name, (c.kind, c.nullable))) (λ p. record { name = p.0; kind = p.1.0; nullable = p.1.1 })
    (λ c. refl) (λ c h. (h, (tt, tt))) (λ c. refl)

pub indexes_tell : Tells index_code IsIndex
indexes_tell =
    as_parts_tell (both name_code (both flag (few byte))) (Both IsNameBytes (Both Any (AreFew IsByte)))
    (both_tell name_code IsNameBytes (both flag (few byte)) (Both Any (AreFew IsByte)) names_tell
    (both_tell flag Any (few byte) (AreFew IsByte) flags_tell (few_tell byte IsByte bytes_tell)))
    index_code IsIndex
    (λ k. (k.name, (k.unique, k.columns))) (λ p. record { name = p.0; columns = p.1.1; unique = p.1.0 })
    (λ k. refl) (λ k h. (h.name, (tt, h.columns))) (λ k. refl)

pub tables_tell : Tells table_code IsTable
tables_tell =
    as_parts_tell (both name_code (both (few column_code) (few index_code))) (Both IsNameBytes (Both (AreFew IsColumn) (AreFew IsIndex)))
    (both_tell name_code IsNameBytes (both (few column_code) (few index_code)) (Both (AreFew IsColumn) (AreFew IsIndex)) names_tell
    (both_tell (few column_code) (AreFew IsColumn) (few index_code) (AreFew IsIndex)
    (few_tell column_code IsColumn columns_tell) (few_tell index_code IsIndex indexes_tell)))
    table_code IsTable
    (λ t. (t.name, (t.columns, t.keys))) (λ p. record { name = p.0; columns = p.1.0; keys = p.1.1 })
    (λ t. refl) (λ t h. (h.name, (h.columns, h.keys))) (λ t. refl)

pub schemas_tell : Tells schema_code IsSchema
schemas_tell xs ys ps qs hx hy e =
    listed_tell two_bytes IsTwoBytes two_bytes_tell table_code IsTable tables_tell xs ys ps qs hx.count hy.count hx.each hy.each e

-- heads, edits and records
abbrev kind_tag : PageKind → ℕ
kind_tag Free = 0
kind_tag Leaf = 1
kind_tag Inner = 2
kind_tag Meta = 3

kind_first : (k : PageKind) (ps : List ℕ) → first (kind_code k ++ ps) ≡ kind_tag k
unfolding first
kind_first Free ps = refl
kind_first Leaf ps = refl
kind_first Inner ps = refl
kind_first Meta ps = refl

pub kinds_tell : Tells kind_code Any
kinds_tell Free Free ps qs hv hw e = (refl, cc)
kinds_tell Leaf Leaf ps qs hv hw e = (refl, cc)
kinds_tell Inner Inner ps qs hv hw e = (refl, cc)
kinds_tell Meta Meta ps qs hv hw e = (refl, cc)
kinds_tell v w ps qs hv hw e = let b : kind_tag v ≡ kind_tag w = sym (kind_first v ps) ∙ ap first e ∙ kind_first w qs in absurd (omega arith)

pub heads_tell : Tells head_code IsHead
heads_tell =
    as_parts_tell (both kind_code (both byte number)) (Both Any (Both IsByte IsNumber))
    (both_tell kind_code Any (both byte number) (Both IsByte IsNumber) kinds_tell (both_tell byte IsByte number IsNumber bytes_tell numbers_tell))
    head_code IsHead
    (λ h. (h.kind, (h.level, h.right))) (λ p. record { kind = p.0; level = p.1.0; right = p.1.1 })
    (λ h. refl) (λ h s. (tt, (s.level, s.right))) (λ h. refl)

abbrev pub placed : ℕ × List ℕ → List ℕ
placed p = both two_bytes cell_code p

abbrev pub IsPlaced : ℕ × List ℕ → Type 0
IsPlaced p = Both IsTwoBytes IsCellBytes p

pub placed_tell : Tells placed IsPlaced
placed_tell = both_tell two_bytes IsTwoBytes cell_code IsCellBytes two_bytes_tell cells_tell

abbrev pub swapped : ℕ × (List ℕ × List ℕ) → List ℕ
swapped p = both two_bytes (both cell_code cell_code) p

abbrev pub IsSwapped : ℕ × (List ℕ × List ℕ) → Type 0
IsSwapped p = Both IsTwoBytes (Both IsCellBytes IsCellBytes) p

pub swapped_tell : Tells swapped IsSwapped
swapped_tell =
    both_tell two_bytes IsTwoBytes (both cell_code cell_code) (Both IsCellBytes IsCellBytes) two_bytes_tell
    (both_tell cell_code IsCellBytes cell_code IsCellBytes cells_tell cells_tell)

abbrev pub two_heads : Head × Head → List ℕ
two_heads p = both head_code head_code p

abbrev pub AreHeads : Head × Head → Type 0
AreHeads p = Both IsHead IsHead p

pub two_heads_tell : Tells two_heads AreHeads
two_heads_tell = both_tell head_code IsHead head_code IsHead heads_tell heads_tell

abbrev edit_tag : Edit → ℕ
edit_tag (PutCell at cell) = 1
edit_tag (TakeCell at cell) = 2
edit_tag (SwapCell at before after) = 3
edit_tag (SetHead before after) = 4

edit_first : (v : Edit) (ps : List ℕ) → first (edit_code v ++ ps) ≡ edit_tag v
unfolding first
edit_first (PutCell at cell) ps = refl
edit_first (TakeCell at cell) ps = refl
edit_first (SwapCell at before after) ps = refl
edit_first (SetHead before after) ps = refl

pub edits_tell : Tells edit_code IsEdit
edits_tell (PutCell a x) (PutCell b y) ps qs hv hw e =
    let behind : placed (a, x) ++ ps ≡ placed (b, y) ++ qs = cc in
    let parts = placed_tell (a, x) (b, y) ps qs hv hw behind in
    (ap (λ (p : ℕ × List ℕ). PutCell p.0 p.1) parts.0, parts.1)
edits_tell (TakeCell a x) (TakeCell b y) ps qs hv hw e =
    let behind : placed (a, x) ++ ps ≡ placed (b, y) ++ qs = cc in
    let parts = placed_tell (a, x) (b, y) ps qs hv hw behind in
    (ap (λ (p : ℕ × List ℕ). TakeCell p.0 p.1) parts.0, parts.1)
edits_tell (SwapCell a x y) (SwapCell b z w) ps qs hv hw e =
    let behind : swapped (a, (x, y)) ++ ps ≡ swapped (b, (z, w)) ++ qs = cc in
    let parts = swapped_tell (a, (x, y)) (b, (z, w)) ps qs (hv.0, (hv.1, hv.2)) (hw.0, (hw.1, hw.2)) behind in
    (ap (λ (p : ℕ × (List ℕ × List ℕ)). SwapCell p.0 p.1.0 p.1.1) parts.0, parts.1)
edits_tell (SetHead x y) (SetHead z w) ps qs hv hw e =
    let behind : two_heads (x, y) ++ ps ≡ two_heads (z, w) ++ qs = cc in
    let parts = two_heads_tell (x, y) (z, w) ps qs hv hw behind in
    (ap (λ (p : Head × Head). SetHead p.0 p.1) parts.0, parts.1)
edits_tell v w ps qs hv hw e = let b : edit_tag v ≡ edit_tag w = sym (edit_first v ps) ∙ ap first e ∙ edit_first w qs in absurd (omega arith)

pub records_tell : Tells record_code IsRecord
records_tell =
    as_parts_tell (both number (both number (both number edit_code))) (Both IsNumber (Both IsNumber (Both IsNumber IsEdit)))
    (both_tell number IsNumber (both number (both number edit_code)) (Both IsNumber (Both IsNumber IsEdit)) numbers_tell
    (both_tell number IsNumber (both number edit_code) (Both IsNumber IsEdit) numbers_tell
    (both_tell number IsNumber edit_code IsEdit numbers_tell edits_tell)))
    record_code IsRecord
    (λ r. (r.lsn, (r.prev, (r.page, r.edit)))) (λ p. record { lsn = p.0; prev = p.1.0; page = p.1.1.0; edit = p.1.1.1 })
    (λ r. refl) (λ r h. (h.lsn, (h.prev, (h.page, h.edit)))) (λ r. refl)

-- changes
abbrev pub one_row : ℕ × (ℕ × List Value) → List ℕ
one_row p = both two_bytes (both number stored_row) p

abbrev pub IsRowPart : ℕ × (ℕ × List Value) → Type 0
IsRowPart p = Both IsTwoBytes (Both IsNumber IsStoredRow) p

pub one_row_tell : Tells one_row IsRowPart
one_row_tell =
    both_tell two_bytes IsTwoBytes (both number stored_row) (Both IsNumber IsStoredRow) two_bytes_tell
    (both_tell number IsNumber stored_row IsStoredRow numbers_tell rows_tell)

abbrev pub two_rows : ℕ × (ℕ × (List Value × (ℕ × List Value))) → List ℕ
two_rows p = both two_bytes (both number (both stored_row (both number stored_row))) p

abbrev pub AreRowParts : ℕ × (ℕ × (List Value × (ℕ × List Value))) → Type 0
AreRowParts p = Both IsTwoBytes (Both IsNumber (Both IsStoredRow (Both IsNumber IsStoredRow))) p

pub two_rows_tell : Tells two_rows AreRowParts
two_rows_tell =
    both_tell two_bytes IsTwoBytes (both number (both stored_row (both number stored_row))) (Both IsNumber (Both IsStoredRow (Both IsNumber IsStoredRow))) two_bytes_tell
    (both_tell number IsNumber (both stored_row (both number stored_row)) (Both IsStoredRow (Both IsNumber IsStoredRow)) numbers_tell
    (both_tell stored_row IsStoredRow (both number stored_row) (Both IsNumber IsStoredRow) rows_tell
    (both_tell number IsNumber stored_row IsStoredRow numbers_tell rows_tell)))

abbrev change_tag : Change → ℕ
change_tag (change.Insert table genid row) = 1
change_tag (change.Update table old_genid old genid row) = 2
change_tag (change.Delete table old_genid old) = 3

change_first : (v : Change) (ps : List ℕ) → first (change_code v ++ ps) ≡ change_tag v
unfolding first
change_first (change.Insert table genid row) ps = refl
change_first (change.Update table old_genid old genid row) ps = refl
change_first (change.Delete table old_genid old) ps = refl

pub changes_tell : Tells change_code IsChange
changes_tell (change.Insert a g r) (change.Insert b h s) ps qs hv hw e =
    let behind : one_row (a, (g, r)) ++ ps ≡ one_row (b, (h, s)) ++ qs = cc in
    let parts = one_row_tell (a, (g, r)) (b, (h, s)) ps qs (hv.table, (hv.genid, hv.row)) (hw.table, (hw.genid, hw.row)) behind in
    (ap (λ (p : ℕ × (ℕ × List Value)). change.Insert p.0 p.1.0 p.1.1) parts.0, parts.1)
changes_tell (change.Update a o x g r) (change.Update b p y h s) ps qs hv hw e =
    let behind : two_rows (a, (o, (x, (g, r)))) ++ ps ≡ two_rows (b, (p, (y, (h, s)))) ++ qs = cc in
    let parts = two_rows_tell (a, (o, (x, (g, r)))) (b, (p, (y, (h, s)))) ps qs
    (hv.table, (hv.old_genid, (hv.old, (hv.genid, hv.row)))) (hw.table, (hw.old_genid, (hw.old, (hw.genid, hw.row)))) behind in
    (ap (λ (t : ℕ × (ℕ × (List Value × (ℕ × List Value)))). change.Update t.0 t.1.0 t.1.1.0 t.1.1.1.0 t.1.1.1.1) parts.0, parts.1)
changes_tell (change.Delete a g r) (change.Delete b h s) ps qs hv hw e =
    let behind : one_row (a, (g, r)) ++ ps ≡ one_row (b, (h, s)) ++ qs = cc in
    let parts = one_row_tell (a, (g, r)) (b, (h, s)) ps qs (hv.table, (hv.genid, hv.row)) (hw.table, (hw.genid, hw.row)) behind in
    (ap (λ (p : ℕ × (ℕ × List Value)). change.Delete p.0 p.1.0 p.1.1) parts.0, parts.1)
changes_tell v w ps qs hv hw e = let b : change_tag v ≡ change_tag w = sym (change_first v ps) ∙ ap first e ∙ change_first w qs in absurd (omega arith)
