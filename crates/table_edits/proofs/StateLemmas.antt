-- A state stays one when operations are done on it: genids rise below the next one, and rows have codes.
use Rattle.std.proofs.Common.{◌≡◌, ℕ, ◌+◌, ◌≤◌, ◌<◌, ◌^◌, ◌==◌, not, List, [], ◌∷◌, ◌++◌, length, refl, ◌∙◌, subst, arith}
use Rattle.std.proofs.lemmas.List.{length-set}
use Rattle.std.proofs.lemmas.Bool.{eq-eqb}
use Rattle.std.specs.List.{AllByRecursion}
use Rattle.cdb_values.specs.Rows.{Rows, version, without, versions_of, taken, added, apply_all}
use Rattle.cdb_values.specs.declared.rows.RowOp.{RowOp}
use Rattle.cdb_values.specs.declared.rows.RowOp.TheVariants.{Insert, Update, Delete}
use Rattle.cdb_values.specs.declared.rows.RowRef.TheVariants.{Base, Own}
use Rattle.cdb_values.specs.declared.rows.Version.{Version}
use Rattle.cdb_values.specs.declared.tables.TableDef.{TableDef}
use Rattle.cdb_values.specs.declared.values.Value.{Value}
use Rattle.key_code.specs.Codes.{IsRowValue}
use Rattle.table_store.specs.States.{Rise, AreVersions, IsState}
use Rattle.table_store.specs.Operations.{born}
use Rattle.table_store.proofs.OperationLemmas.{rise_without, all_filter}
use Rattle.table_edits.specs.Fits.{AreAllDoable}
use Rattle.table_edits.specs.Genids.{next_after}
use Rattle.table_edits.proofs.GenidLemmas.{next_is}
use Rattle.table_edits.proofs.ListLemmas.{all_set, all_map, all_end, all_or, all_behind, all_front}

abbrev Coded : Version → Type 0
Coded v = AllByRecursion IsRowValue v.row

rise_more : (vs : List Version) (a b : ℕ) → a ≤ b → Rise vs a → Rise vs b
rise_more [] a b h r = tt
rise_more (v ∷ vs) a b h r = (let l : v.genid < a = r.0 in omega (arith, l, h), r.1, rise_more vs a b h r.2)

rise_end : (vs : List Version) (next : ℕ) (row : List Value) → Rise vs next → Rise (vs ++ version next row ∷ []) (next + 1)
rise_end [] next row r = (omega arith, tt, tt)
rise_end (v ∷ vs) next row r =
    let below : v.genid < next = r.0 in
    (omega (arith, below), all_end (λ w. v.genid < w.genid) vs (version next row) r.1 below, rise_end vs next row r.2)

no_versions : (next : ℕ) → AreVersions next []
no_versions next = record { rise = tt; coded = tt }

more : (next : ℕ) (vs : List Version) → AreVersions next vs → AreVersions (next + 1) vs
more next vs h = record { rise = rise_more vs next (next + 1) (omega arith) h.rise; coded = h.coded }

end : (next : ℕ) (vs : List Version) (row : List Value) → AreVersions next vs → AllByRecursion IsRowValue row → AreVersions (next + 1) (vs ++ version next row ∷ [])
end next vs row h coded = record { rise = rise_end vs next row h.rise; coded = all_end Coded vs (version next row) h.coded coded }

less : (next genid : ℕ) (vs : List Version) → AreVersions next vs → AreVersions next (without genid vs)
less next genid vs h = record {
  rise = rise_without genid next vs h.rise;
  coded = all_filter Coded (λ w. not (w.genid == genid)) vs h.coded;
}

pub versions_at : (rows : Rows) (table : ℕ) → AllByRecursion (AreVersions rows.next) rows.tables → AreVersions rows.next (versions_of rows table)
versions_at rows table all = all_or (AreVersions rows.next) rows.tables table (no_versions rows.next) all

added_all : (rows : Rows) (place : ℕ) (row : List Value) → (place < length rows.tables → AllByRecursion IsRowValue row) → AllByRecursion (AreVersions rows.next) rows.tables
    → AllByRecursion (AreVersions (rows.next + 1)) (added rows place row).tables
added_all rows place row coded all =
    all_set (AreVersions (rows.next + 1)) rows.tables place (versions_of rows place ++ version rows.next row ∷ [])
    (all_map (AreVersions rows.next) (AreVersions (rows.next + 1)) rows.tables (more rows.next) all)
    (λ known. end rows.next (versions_of rows place) row (versions_at rows place all) (coded known))

taken_all : (rows : Rows) (place genid : ℕ) → AllByRecursion (AreVersions rows.next) rows.tables → AllByRecursion (AreVersions rows.next) (taken rows place genid).tables
taken_all rows place genid all =
    all_set (AreVersions rows.next) rows.tables place (without genid (versions_of rows place)) all
    (λ known. less rows.next genid (versions_of rows place) (versions_at rows place all))

-- rows that operations write to so many tables have codes
abbrev AllCoded : ℕ → ℕ → List RowOp → Type 0
AllCoded count next ops = (table : ℕ) → table < count → AllByRecursion Coded (born table next ops)

record IsKept (rows : Rows) (count : ℕ) : Type 0 where
  long : length rows.tables ≡ count
  versions : AllByRecursion (AreVersions rows.next) rows.tables

kept : (ops : List RowOp) (rows : Rows) (count : ℕ) → IsKept rows count → AllCoded count rows.next ops → IsKept (apply_all rows ops) count
kept [] rows count h coded = h
kept (Insert place row ∷ ops) rows count h coded =
    kept ops (added rows place row) count (record {
      long = length-set rows.tables place (versions_of rows place ++ version rows.next row ∷ []) ∙ h.long;
      versions = added_all rows place row
          (λ known. all_front Coded (place == place) (version rows.next row) (born place (rows.next + 1) ops) (eq-eqb place place refl)
          (coded place (subst (λ (n : ℕ). place < n) h.long known))) h.versions;
    }) (λ table known. all_behind Coded (place == table) (version rows.next row) (born table (rows.next + 1) ops) (coded table known))
kept (Update place (Base genid) old row ∷ ops) rows count h coded =
    let fewer = taken rows place genid in
    let short : length fewer.tables ≡ count = length-set rows.tables place (without genid (versions_of rows place)) ∙ h.long in
    kept ops (added fewer place row) count (record {
      long = length-set fewer.tables place (versions_of fewer place ++ version rows.next row ∷ []) ∙ short;
      versions = added_all fewer place row
          (λ known. all_front Coded (place == place) (version rows.next row) (born place (rows.next + 1) ops) (eq-eqb place place refl)
          (coded place (subst (λ (n : ℕ). place < n) short known))) (taken_all rows place genid h.versions);
    }) (λ table known. all_behind Coded (place == table) (version rows.next row) (born table (rows.next + 1) ops) (coded table known))
kept (Update place (Own write) old row ∷ ops) rows count h coded = kept ops rows count h coded
kept (Delete place (Base genid) old ∷ ops) rows count h coded =
    kept ops (taken rows place genid) count (record {
      long = length-set rows.tables place (without genid (versions_of rows place)) ∙ h.long;
      versions = taken_all rows place genid h.versions;
    }) coded
kept (Delete place (Own write) old ∷ ops) rows count h coded = kept ops rows count h coded

-- the state after operations
pub state_after : (tables : List TableDef) (rows : Rows) (ops : List RowOp) → IsState tables rows → AreAllDoable rows ops → next_after rows.next ops < 2 ^ 62
    → IsState tables (apply_all rows ops)
state_after tables rows ops state able small =
    let after = kept ops rows (length rows.tables) (record { long = refl; versions = state.versions }) (λ table known. (able table known).coded) in
    let next : (apply_all rows ops).next ≡ next_after rows.next ops = next_is ops rows in
    record { tables_are = after.long ∙ state.tables_are; next = omega (arith, next, small); versions = after.versions }
