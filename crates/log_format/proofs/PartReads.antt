-- Where the parts of a part are not at the front, it is not.
use Rattle.std.proofs.Common.{◌≡◌, ℕ, List, ◌∷◌, ◌++◌, refl, sym, ap, ◌∙◌, arith}
use Rattle.cdb_values.specs.declared.rows.Change.TheVariants as change
use Rattle.page_store.specs.declared.edits.Edit.TheVariants.{PutCell, TakeCell, SwapCell, SetHead}
use Rattle.frame_code.specs.Codes.{byte, number, flag, few, name_code, type_code, column_code, index_code, table_code, change_code, kind_code, head_code, edit_code, record_code}
use Rattle.frame_code.specs.Spelled.{IsByte, IsNumber, AreFew, IsNameBytes, IsColumn, IsIndex, IsTable, IsChange, IsHead, IsEdit, IsRecord}
use Rattle.frame_code.specs.Tells.{Lacks}
use Rattle.frame_code.proofs.FormLaws.{Both, both, Any}
use Rattle.frame_code.proofs.PartLaws.{placed, IsPlaced, swapped, IsSwapped, two_heads, AreHeads, one_row, IsRowPart, two_rows, AreRowParts}

pub as_parts_lack : {A B : Type 0} (a : A → List ℕ) (IsA : A → Type 0) (b : B → List ℕ) (IsB : B → Type 0) (to : B → A)
    → ((v : B) → IsB v → IsA (to v)) → ((v : B) → b v ≡ a (to v)) → (bytes : List ℕ) → Lacks a IsA bytes → Lacks b IsB bytes
as_parts_lack a IsA b IsB to has same bytes none v rest h e = none (to v) rest (has v h) (ap (λ l. l ++ rest) (sym (same v)) ∙ e)

-- behind the tags of edits
pub no_put : (rest : List ℕ) → Lacks placed IsPlaced rest → Lacks edit_code IsEdit (1 ∷ rest)
no_put rest none (PutCell at cell) more h e = none (at, cell) more h (cc)
no_put rest none (TakeCell at cell) more h e = let b : ◌≡◌ {A = ℕ} 2 1 = cc in omega arith
no_put rest none (SwapCell at before after) more h e = let b : ◌≡◌ {A = ℕ} 3 1 = cc in omega arith
no_put rest none (SetHead before after) more h e = let b : ◌≡◌ {A = ℕ} 4 1 = cc in omega arith

pub no_take : (rest : List ℕ) → Lacks placed IsPlaced rest → Lacks edit_code IsEdit (2 ∷ rest)
no_take rest none (PutCell at cell) more h e = let b : ◌≡◌ {A = ℕ} 1 2 = cc in omega arith
no_take rest none (TakeCell at cell) more h e = none (at, cell) more h (cc)
no_take rest none (SwapCell at before after) more h e = let b : ◌≡◌ {A = ℕ} 3 2 = cc in omega arith
no_take rest none (SetHead before after) more h e = let b : ◌≡◌ {A = ℕ} 4 2 = cc in omega arith

pub no_swap : (rest : List ℕ) → Lacks swapped IsSwapped rest → Lacks edit_code IsEdit (3 ∷ rest)
no_swap rest none (PutCell at cell) more h e = let b : ◌≡◌ {A = ℕ} 1 3 = cc in omega arith
no_swap rest none (TakeCell at cell) more h e = let b : ◌≡◌ {A = ℕ} 2 3 = cc in omega arith
no_swap rest none (SwapCell at before after) more h e = none (at, (before, after)) more (h.0, (h.1, h.2)) (cc)
no_swap rest none (SetHead before after) more h e = let b : ◌≡◌ {A = ℕ} 4 3 = cc in omega arith

pub no_heads : (rest : List ℕ) → Lacks two_heads AreHeads rest → Lacks edit_code IsEdit (4 ∷ rest)
no_heads rest none (PutCell at cell) more h e = let b : ◌≡◌ {A = ℕ} 1 4 = cc in omega arith
no_heads rest none (TakeCell at cell) more h e = let b : ◌≡◌ {A = ℕ} 2 4 = cc in omega arith
no_heads rest none (SwapCell at before after) more h e = let b : ◌≡◌ {A = ℕ} 3 4 = cc in omega arith
no_heads rest none (SetHead before after) more h e = none (before, after) more h (cc)

-- behind the tags of changes
pub no_insert : (rest : List ℕ) → Lacks one_row IsRowPart rest → Lacks change_code IsChange (1 ∷ rest)
no_insert rest none (change.Insert table genid row) more h e = none (table, (genid, row)) more (h.table, (h.genid, h.row)) (cc)
no_insert rest none (change.Update table old_genid old genid row) more h e = let b : ◌≡◌ {A = ℕ} 2 1 = cc in omega arith
no_insert rest none (change.Delete table old_genid old) more h e = let b : ◌≡◌ {A = ℕ} 3 1 = cc in omega arith

pub no_update : (rest : List ℕ) → Lacks two_rows AreRowParts rest → Lacks change_code IsChange (2 ∷ rest)
no_update rest none (change.Insert table genid row) more h e = let b : ◌≡◌ {A = ℕ} 1 2 = cc in omega arith
no_update rest none (change.Update table old_genid old genid row) more h e =
    none (table, (old_genid, (old, (genid, row)))) more (h.table, (h.old_genid, (h.old, (h.genid, h.row)))) (cc)
no_update rest none (change.Delete table old_genid old) more h e = let b : ◌≡◌ {A = ℕ} 3 2 = cc in omega arith

pub no_delete : (rest : List ℕ) → Lacks one_row IsRowPart rest → Lacks change_code IsChange (3 ∷ rest)
no_delete rest none (change.Insert table genid row) more h e = let b : ◌≡◌ {A = ℕ} 1 3 = cc in omega arith
no_delete rest none (change.Update table old_genid old genid row) more h e = let b : ◌≡◌ {A = ℕ} 2 3 = cc in omega arith
no_delete rest none (change.Delete table old_genid old) more h e = none (table, (old_genid, old)) more (h.table, (h.genid, h.row)) (cc)

-- records of parts
pub no_head : (bytes : List ℕ) → Lacks (both kind_code (both byte number)) (Both Any (Both IsByte IsNumber)) bytes → Lacks head_code IsHead bytes
no_head bytes none =
    as_parts_lack (both kind_code (both byte number)) (Both Any (Both IsByte IsNumber)) head_code IsHead
    (λ h. (h.kind, (h.level, h.right))) (λ h s. (tt, (s.level, s.right))) (λ h. refl) bytes none

pub no_record : (bytes : List ℕ) → Lacks (both number (both number (both number edit_code))) (Both IsNumber (Both IsNumber (Both IsNumber IsEdit))) bytes
    → Lacks record_code IsRecord bytes
no_record bytes none =
    as_parts_lack (both number (both number (both number edit_code))) (Both IsNumber (Both IsNumber (Both IsNumber IsEdit))) record_code IsRecord
    (λ r. (r.lsn, (r.prev, (r.page, r.edit)))) (λ r h. (h.lsn, (h.prev, (h.page, h.edit)))) (λ r. refl) bytes none

pub no_column : (bytes : List ℕ) → Lacks (both name_code (both type_code flag)) (Both IsNameBytes (Both Any Any)) bytes → Lacks column_code IsColumn bytes
no_column bytes none =
    as_parts_lack (both name_code (both type_code flag)) (Both IsNameBytes (Both Any Any)) column_code IsColumn
    (λ c. (c.name, (c.kind, c.nullable))) (λ c h. (h, (tt, tt))) (λ c. refl) bytes none

pub no_index : (bytes : List ℕ) → Lacks (both name_code (both flag (few byte))) (Both IsNameBytes (Both Any (AreFew IsByte))) bytes
    → Lacks index_code IsIndex bytes
no_index bytes none =
    as_parts_lack (both name_code (both flag (few byte))) (Both IsNameBytes (Both Any (AreFew IsByte))) index_code IsIndex
    (λ k. (k.name, (k.unique, k.columns))) (λ k h. (h.name, (tt, h.columns))) (λ k. refl) bytes none

pub no_table : (bytes : List ℕ)
    → Lacks (both name_code (both (few column_code) (few index_code))) (Both IsNameBytes (Both (AreFew IsColumn) (AreFew IsIndex))) bytes
    → Lacks table_code IsTable bytes
no_table bytes none =
    as_parts_lack (both name_code (both (few column_code) (few index_code))) (Both IsNameBytes (Both (AreFew IsColumn) (AreFew IsIndex))) table_code IsTable
    (λ t. (t.name, (t.columns, t.keys))) (λ t h. (h.name, (h.columns, h.keys))) (λ t. refl) bytes none
