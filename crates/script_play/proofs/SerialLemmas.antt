-- Entries at level serializable are serial, since the rows at which a run begins are sound: the genids of a table's versions rise
-- below the next one, so each of them is that of one row.
use Rattle.std.proofs.Common.{◌≡◌, ℕ, zero, suc, ◌<◌, List, [], ◌∷◌, refl, sym, subst, unwrap_or, arith}
use Rattle.std.specs.Prelude.{slice_get}
use Rattle.std.specs.List.{AllByRecursion}
use Rattle.cdb_values.specs.Rows.{Rows, versions_of}
use Rattle.cdb_values.specs.declared.rows.Version.{Version}
use Rattle.cdb_values.specs.declared.tables.TableDef.{TableDef}
use Rattle.phys_log.specs.declared.entries.Entry.{Entry}
use Rattle.report_laws.proofs.SerialLaws.{entries_serial}
use Rattle.report_laws.specs.Lawful.{Lawful}
use Rattle.report_text.specs.declared.reports.Report.{Report}
use Rattle.script_form.specs.CanRun.{script_tables}
use Rattle.script_form.specs.declared.scripts.Script.{Script}
use Rattle.serial_laws.proofs.ReadingLemmas.{sql_reads}
use Rattle.session_language.proofs.SoundLaws.{no_rows_sound}
use Rattle.session_language.specs.Serial.{IsRowOf, IsSound}
use Rattle.sql_answer.specs.Language.{sql_binder}
use Rattle.table_store.specs.States.{AreVersions, Rise}
use Rattle.script_play.specs.Basis.{from_start}
use Rattle.script_play.specs.Ready.{CanBegin}
use Rattle.script_play.specs.Serial.{AreSerial}
use Rattle.script_play.specs.Start.{Start}

-- a version's genid is below the next one, and those of these that have it have its row
record IsOne (next : ℕ) (versions : List Version) (v : Version) : Type 0 where
  below : v.genid < next
  same : AllByRecursion (λ w. w.genid ≡ v.genid → w.row ≡ v.row) versions

-- versions of greater genids have it not
above : (v : Version) (versions : List Version) → AllByRecursion (λ w. v.genid < w.genid) versions
    → AllByRecursion (λ w. w.genid ≡ v.genid → w.row ≡ v.row) versions
above v [] later = tt
above v (w ∷ ws) later = let l : v.genid < w.genid = later.0 in (λ is. absurd (omega (arith, l, is)), above v ws later.1)

one_behind : (next : ℕ) (v : Version) (versions others : List Version) → AllByRecursion (λ w. v.genid < w.genid) others
    → AllByRecursion (IsOne next versions) others → AllByRecursion (IsOne next (v ∷ versions)) others
one_behind next v versions [] later ones = tt
one_behind next v versions (w ∷ ws) later ones =
    let l : v.genid < w.genid = later.0 in (
      record { below = ones.0.below; same = (λ is. absurd (omega (arith, l, is)), ones.0.same) },
      one_behind next v versions ws later.1 ones.1,
    )

each_one : (next : ℕ) (versions : List Version) → Rise versions next → AllByRecursion (IsOne next versions) versions
each_one next [] rise = tt
each_one next (v ∷ vs) rise =
    (record { below = rise.0; same = (λ is. refl, above v vs rise.1) }, one_behind next v vs vs rise.1 (each_one next vs rise.2))

-- the versions of a table, by its place
one_at : (next : ℕ) (tables : List (List Version)) (table : ℕ) → AllByRecursion (AreVersions next) tables
    → AllByRecursion (IsOne next (unwrap_or (slice_get tables table) [])) (unwrap_or (slice_get tables table) [])
one_at next [] table all = tt
one_at next (vs ∷ tables) zero all = each_one next vs all.0.rise
one_at next (vs ∷ tables) (suc table) all = one_at next tables table all.1

rows_of : (rows : Rows) (table : ℕ) (versions : List Version) → AllByRecursion (IsOne rows.next (versions_of rows table)) versions
    → AllByRecursion (λ v. IsRowOf rows table v.genid v.row) versions
rows_of rows table [] ones = tt
rows_of rows table (v ∷ vs) ones = (record { below = ones.0.below; same = ones.0.same }, rows_of rows table vs ones.1)

-- rows of rising genids are sound
rows_sound : (rows : Rows) → AllByRecursion (AreVersions rows.next) rows.tables → IsSound rows
rows_sound rows all table = rows_of rows table (versions_of rows table) (one_at rows.next rows.tables table all)

start_sound : (tables : List TableDef) (before : List Entry) (rows : Rows) → CanBegin tables before rows → IsSound rows
start_sound tables [] rows none = subst IsSound (sym none) (no_rows_sound [])
start_sound tables (e ∷ es) rows goes = rows_sound rows goes.stands.state.versions

-- the entries of a report of a run are serial
pub run_serial : (script : Script) (start : Start) (report : Report) → CanBegin (script_tables script) start.before start.rows
    → Lawful (from_start script start) report → AreSerial (from_start script start) report.entries
run_serial script start report begins lawful position session txn begin stands =
    entries_serial (from_start script start) report position session txn begin (sql_reads sql_binder (script_tables script))
    (start_sound (script_tables script) start.before start.rows begins) lawful stands
