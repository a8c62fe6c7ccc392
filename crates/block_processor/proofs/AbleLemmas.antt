-- Operations of a request that no entry touches can be done at the end of the log.
use Rattle.std.proofs.Common.{◌≡◌, ℕ, ◌+◌, ◌≤◌, ◌<◌, ◌^◌, ◌==◌, Bool, true, false, if◌then◌else◌, List, [], ◌∷◌, length, drop, Some, None, refl, subst, arith}
use Rattle.std.proofs.lemmas.Bool.{eqb-true, false≢true}
use Rattle.std.specs.List.{AllByRecursion, slice_get, list_all}
use Rattle.cdb_values.specs.Changes.{genid_item, taken_by}
use Rattle.cdb_values.specs.Good.{bytes_of_row, row_bytes}
use Rattle.cdb_values.specs.Rows.{version, versions_of, apply_all}
use Rattle.cdb_values.specs.declared.items.GenidItem.{GenidItem}
use Rattle.cdb_values.specs.declared.rows.RowOp.{RowOp}
use Rattle.cdb_values.specs.declared.rows.RowOp.TheVariants.{Insert, Update, Delete}
use Rattle.cdb_values.specs.declared.rows.RowRef.TheVariants.{Base, Own}
use Rattle.cdb_values.specs.declared.rows.Version.{Version}
use Rattle.cdb_values.specs.declared.tables.TableDef.{TableDef}
use Rattle.cdb_values.specs.declared.values.Value.{Value}
use Rattle.key_code.specs.Codes.{IsInRange, IsText, IsRowValue}
use Rattle.phys_log.specs.declared.entries.Entry.{Entry}
use Rattle.phys_log.specs.declared.entries.Entry.TheVariants.{Setup, Commit}
use Rattle.phys_log.specs.declared.requests.CommitRequest.{CommitRequest}
use Rattle.table_store.specs.Listings.{IsAmong}
use Rattle.table_store.specs.Operations.{gone, born}
use Rattle.table_edits.specs.Fits.{FitsAt, WritesFitting, AreAllDoable}
use Rattle.table_edits.proofs.FitLemmas.{short_value, fits_there}
use Rattle.table_edits.proofs.ListLemmas.{get_some}
use Rattle.log_rows.specs.History.{Ground, rows_over, rows_over_at, takes_in, tables_of, IsCommit}
use Rattle.log_rows.proofs.HistoryLemmas.{stays}
use Rattle.block_processor.specs.Able.{IsAble, is_commit}
use Rattle.block_processor.specs.Asked.{IsAsked, Writes}
use Rattle.block_processor.specs.Conflicts.{conflict_of}
use Rattle.block_processor.proofs.ConflictLemmas.{free_untaken, free_versions}
use Rattle.block_processor.proofs.OperationLemmas.{next_below}

-- what operations take away is named
named_if : (P : Version → Type 0) (t : Bool) (v : Version) (vs : List Version) → (t ≡ true → P v) → AllByRecursion P vs → AllByRecursion P (if t then v ∷ vs else vs)
named_if P true v vs h more = (h refl, more)
named_if P false v vs h more = more

gone_named : (ops : List RowOp) (table : ℕ) (used : List GenidItem) → AllByRecursion (λ i. IsAmong i used) (taken_by ops)
    → AllByRecursion (λ v. IsAmong (genid_item table v.genid) used) (gone table ops)
gone_named [] table used h = tt
gone_named (Insert place row ∷ ops) table used h = gone_named ops table used h
gone_named (Update place (Base genid) old row ∷ ops) table used h =
    named_if (λ v. IsAmong (genid_item table v.genid) used) (place == table) (version genid old) (gone table ops)
    (λ e. subst (λ (n : ℕ). IsAmong (genid_item n genid) used) (eqb-true place table e) h.0) (gone_named ops table used h.1)
gone_named (Update place (Own write) old row ∷ ops) table used h = gone_named ops table used h
gone_named (Delete place (Base genid) old ∷ ops) table used h =
    named_if (λ v. IsAmong (genid_item table v.genid) used) (place == table) (version genid old) (gone table ops)
    (λ e. subst (λ (n : ℕ). IsAmong (genid_item n genid) used) (eqb-true place table e) h.0) (gone_named ops table used h.1)
gone_named (Delete place (Own write) old ∷ ops) table used h = gone_named ops table used h

all_both : {A : Type 0} (P Q R : A → Type 0) (xs : List A) → ((x : A) → P x → Q x → R x) → AllByRecursion P xs → AllByRecursion Q xs → AllByRecursion R xs
all_both P Q R [] f p q = tt
all_both P Q R (x ∷ xs) f p q = (f x p.0 q.0, all_both P Q R xs f p.1 q.1)

coded_row : (row : List Value) → bytes_of_row row ≤ 1600 → AllByRecursion IsInRange row → AllByRecursion IsText row → AllByRecursion IsRowValue row
coded_row [] size ranges texts = tt
coded_row (v ∷ vs) size ranges texts =
    let k : row_bytes v + bytes_of_row vs ≤ 1600 = size in (
      record { written = record { range = ranges.0; short = short_value v (omega (arith, k)) }; text = texts.0 },
      coded_row vs (omega (arith, k)) ranges.1 texts.1,
    )

coded_there : (tables : List TableDef) (place other : ℕ) (table : TableDef) (row : List Value) → slice_get tables place ≡ Some table → (other == place) ≡ true
    → FitsAt tables other row → AllByRecursion IsInRange row → AllByRecursion IsText row → AllByRecursion IsRowValue row
coded_there tables place other table row at e fits ranges texts =
    coded_row row (fits_there tables place other table row at (eqb-true other place e) fits).size ranges texts

born_coded : (tables : List TableDef) (place : ℕ) (table : TableDef) → slice_get tables place ≡ Some table → (ops : List RowOp) (next : ℕ)
    → AllByRecursion (WritesFitting tables) ops → AllByRecursion (Writes IsInRange) ops → AllByRecursion (Writes IsText) ops
    → AllByRecursion (λ v. AllByRecursion IsRowValue v.row) (born place next ops)
born_coded tables place table at [] next fits ranges texts = tt
born_coded tables place table at (Insert other row ∷ ops) next fits ranges texts =
    named_if (λ v. AllByRecursion IsRowValue v.row) (other == place) (version next row) (born place (next + 1) ops)
    (λ e. coded_there tables place other table row at e fits.0 ranges.0 texts.0) (born_coded tables place table at ops (next + 1) fits.1 ranges.1 texts.1)
born_coded tables place table at (Update other (Base genid) old row ∷ ops) next fits ranges texts =
    named_if (λ v. AllByRecursion IsRowValue v.row) (other == place) (version next row) (born place (next + 1) ops)
    (λ e. coded_there tables place other table row at e fits.0 ranges.0 texts.0) (born_coded tables place table at ops (next + 1) fits.1 ranges.1 texts.1)
born_coded tables place table at (Update other (Own write) old row ∷ ops) next fits ranges texts =
    born_coded tables place table at ops next fits.1 ranges.1 texts.1
born_coded tables place table at (Delete other target old ∷ ops) next fits ranges texts =
    born_coded tables place table at ops next fits.1 ranges.1 texts.1

pub commits_all : (entries : List Entry) → list_all is_commit entries ≡ true → AllByRecursion IsCommit entries
commits_all [] h = tt
commits_all (Setup generation schema records ∷ es) h = absurd (false≢true h)
commits_all (Commit generation id begin level changes records ∷ es) h = (tt, commits_all es h)

-- the operations of a request, where the entries after its begin are those of transactions, and there is room for genids
pub able : (footing : Ground) (request : CommitRequest) (entries : List Entry) → IsAsked footing request entries → conflict_of request entries ≡ None
    → AllByRecursion IsCommit (drop request.begin entries) → AllByRecursion (Writes IsInRange) request.ops
    → (rows_over footing entries).next + length request.ops < 2 ^ 62 → IsAble footing request entries
able footing request entries asked free commits ranges room = record { doable = doable; room = room }
  where
    there : (table : ℕ) → AllByRecursion (λ v. IsAmong v (versions_of (rows_over footing entries) table)) (gone table request.ops)
    there table =
        all_both (λ v. IsAmong v (versions_of (rows_over_at footing entries request.begin) table)) (λ v. IsAmong (genid_item table v.genid) request.genids)
        (λ v. IsAmong v (versions_of (rows_over footing entries) table)) (gone table request.ops)
        (λ v here named. stays footing entries request.begin table v asked.begun.1 commits here
        (free_untaken request.begin (drop request.begin (takes_in entries)) request.genids (genid_item table v.genid) (free_versions request entries free) named))
        (asked.there table) (gone_named request.ops table request.genids asked.named)

    doable : AreAllDoable (rows_over footing entries) request.ops
    doable table within =
        let same : length (rows_over footing entries).tables ≡ length (tables_of entries) = asked.stands.state.tables_are in
        let found = get_some (tables_of entries) table (subst (λ (n : ℕ). table < n) same within) in
        let few : (apply_all (rows_over footing entries) request.ops).next ≤ (rows_over footing entries).next + length request.ops = next_below request.ops (rows_over footing entries) in
        record {
          there = there table;
          once = asked.once table;
          coded = born_coded (tables_of entries) table found.0 found.1 request.ops (rows_over footing entries).next asked.fits ranges asked.texts;
          next = omega (arith, few, room);
        }
