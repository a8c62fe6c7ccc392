-- The next entry of a log, by the records and the changes of a request's operations.
use Rattle.std.proofs.Common.{◌≡◌, ℕ, ◌+◌, ◌≤◌, ◌<◌, ◌^◌, List, [], ◌∷◌, ◌++◌, length, None, Some, sym, ap, ◌∙◌, subst}
use Rattle.page_store.specs.Image.{Image}
use Rattle.cdb_values.specs.Changes.{changes_of}
use Rattle.cdb_values.specs.Rows.{Rows, apply_all}
use Rattle.cdb_values.specs.declared.rows.Change.{Change}
use Rattle.cdb_values.specs.declared.tables.TableDef.{TableDef}
use Rattle.phys_log.specs.Logs.{pages_of, replayed, last_lsn_of, AreNext}
use Rattle.phys_log.specs.declared.entries.Entry.{Entry}
use Rattle.phys_log.specs.declared.entries.Entry.TheVariants as entry
use Rattle.phys_log.specs.declared.entries.LogRecord.{LogRecord}
use Rattle.phys_log.specs.declared.requests.CommitRequest.{CommitRequest}
use Rattle.phys_log.proofs.LogLaws.{pages_more}
use Rattle.table_store.specs.Stored.{Stands}
use Rattle.edit_records.specs.Alike.{AreAlike}
use Rattle.log_rows.proofs.RecordLemmas.{alike_genid, alike_count}
use Rattle.table_edits.specs.Answers.{AreWithin}
use Rattle.log_rows.specs.Applied.{apply_changes}
use Rattle.log_rows.specs.History.{Ground, rows_over, tables_of}
use Rattle.log_rows.proofs.HistoryLemmas.{rows_last}
use Rattle.log_rows.proofs.RowLemmas.{changes_make}
use Rattle.block_processor.specs.Conflicts.{conflict_of}
use Rattle.block_processor.specs.Decided.{broken_by, TellsDuplicate, IsNew, IsNextEntry}

pub next_is : (footing : Ground) (request : CommitRequest) (entries : List Entry) (generation : ℕ) (changes : List Change) (records : List LogRecord)
    → footing.position ≤ length entries → IsNew request entries → conflict_of request entries ≡ None → broken_by footing request entries ≡ None → changes ≡ changes_of request.ops (rows_over footing entries).next
    → AreNext (pages_of entries) (last_lsn_of entries + 1) records
    → Stands (replayed (pages_of entries) records) (tables_of entries) (apply_all (rows_over footing entries) request.ops)
    → AreWithin (pages_of entries) (replayed (pages_of entries) records)
    → IsNextEntry footing request entries generation (entry.Commit generation request.id request.begin request.level changes records)
next_is footing request entries generation changes records within fresh free kept made next stands below = record {
  fresh = fresh;
  free = free;
  kept = kept;
  records = records;
  made = ap (λ (cs : List Change). entry.Commit generation request.id request.begin request.level cs records) made;
  fits = next;
  stands = subst (λ (r : Rows). Stands (pages_of (entries ++ it ∷ [])) (tables_of entries) r) (sym rows_are)
      (subst (λ (f : ℕ → Image). Stands f (tables_of entries) (apply_all (rows_over footing entries) request.ops)) (sym (pages_more entries it)) stands);
  rows = rows_are;
  within = subst (λ (f : ℕ → Image). AreWithin (pages_of entries) f) (sym (pages_more entries it)) below;
}
  where
    it : Entry
    it = entry.Commit generation request.id request.begin request.level changes records

    rows_are : rows_over footing (entries ++ it ∷ []) ≡ apply_all (rows_over footing entries) request.ops
    rows_are = rows_last footing entries it within ∙ ap (apply_changes (rows_over footing entries)) made ∙ changes_make (rows_over footing entries) request.ops

-- pages with other LSNs are within the same
pub within_alike : (old new other : ℕ → Image) → AreAlike new other → AreWithin old new → AreWithin old other
within_alike old new other like below = record {
  genid = subst (λ (n : ℕ). n < 2 ^ 62) (sym (alike_genid new other like)) below.genid;
  count = λ few. subst (λ (n : ℕ). n < 2 ^ 62) (sym (alike_count new other like)) (below.count few);
}

-- a duplicate, whose table and key are told by equal numbers
pub duplicate_is : (footing : Ground) (request : CommitRequest) (entries : List Entry) (position table key place at : ℕ) → IsNew request entries → conflict_of request entries ≡ None
    → position ≡ length entries → broken_by footing request entries ≡ Some (record { table = place; key = at }) → table ≡ place → key ≡ at
    → TellsDuplicate footing request entries position table key
duplicate_is footing request entries position table key place at fresh free now broken t k =
    subst (λ (n : ℕ). TellsDuplicate footing request entries position n key) (sym t)
    (subst (λ (n : ℕ). TellsDuplicate footing request entries position place n) (sym k) (record { fresh = fresh; free = free; now = now; broken = broken }))

-- pages that are those of the log stand for its rows, with its schema
pub begun : (footing : Ground) (entries : List Entry) (schema : List TableDef) (pages : ℕ → Image) → schema ≡ tables_of entries → pages ≡ pages_of entries
    → Stands (pages_of entries) (tables_of entries) (rows_over footing entries) → Stands pages schema (rows_over footing entries)
begun footing entries schema pages tables same stands =
    subst (λ (t : List TableDef). Stands pages t (rows_over footing entries)) (sym tables)
    (subst (λ (f : ℕ → Image). Stands f (tables_of entries) (rows_over footing entries)) (sym same) stands)
