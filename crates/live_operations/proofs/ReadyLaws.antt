-- A transaction that ran alone on a state that texts can be answered on can be done there and later, and leaves such
-- a state.
use Rattle.std.proofs.Common.{◌≡◌, ℕ, zero, suc, ◌+◌, ◌≤◌, ◌<◌, ◌==◌, List, [], ◌∷◌, ◌++◌, length, map, filter, Bool, true, false, cond, not, refl, sym, ◌∙◌, subst, arith, Some}
use Rattle.std.specs.Prelude.{slice_get, slice_set}
use Rattle.std.specs.List.{AllByRecursion}
use Rattle.std.proofs.lemmas.List.{length-map, length-set}
use Rattle.std.proofs.lemmas.Option.{same_Some}
use Rattle.cdb_values.specs.Good.{AllFit, FitsTable}
use Rattle.cdb_values.specs.Rows.{Rows, no_rows, version, versions_of, without, taken, added, apply_all}
use Rattle.cdb_values.specs.declared.limits.TheConstants.{MOST_NET_OPERATIONS}
use Rattle.cdb_values.specs.declared.rows.RowOp.{RowOp}
use Rattle.cdb_values.specs.declared.rows.RowOp.TheVariants.{Insert, Update, Delete}
use Rattle.cdb_values.specs.declared.rows.RowRef.TheVariants.{Base, Own}
use Rattle.cdb_values.specs.declared.rows.Version.{Version}
use Rattle.cdb_values.specs.declared.tables.TableDef.{TableDef}
use Rattle.cdb_values.specs.declared.values.Value.{Value}
use Rattle.key_code.specs.Codes.{IsRowValue}
use Rattle.query_laws.specs.Alone.{sql_language}
use Rattle.session_language.proofs.EachLaws.{all_append, all_map}
use Rattle.session_language.proofs.AllLaws.{all_got, all_exchanged, all_filtered}
use Rattle.session_language.specs.Language.{alone_from}
use Rattle.session_language.specs.Spelled.{IsToldRow, WritesRow, HaveRows, AreTexts}
use Rattle.sql_run.specs.Sound.{AreSound, IsSoundOp, IsSoundVersion}
use Rattle.table_store.specs.States.{Rise, AreVersions}
use Rattle.live_operations.specs.Coded.{WritesCoded, HaveCodes}
use Rattle.live_operations.specs.Live.{AreLive, rows_behind}
use Rattle.live_operations.specs.Ranged.{IsRanged, HaveRanged}
use Rattle.live_operations.specs.Ready.{AreTables, IsReady, ops_alone, ReadyFit, FitAreReady, AloneFit, AloneAreDoable, LaterAreDoable, NoRowsAreReady, StayReady, AloneAreFew, AloneDrawFew}
use Rattle.live_operations.proofs.CodedLaws.{born_coded, live_are_doable, sound_write_coded, sound_fit, texts_leave_sound, texts_leave_written}
use Rattle.live_operations.proofs.LiveLaws.{transaction_leaves_live}
use Rattle.live_operations.proofs.RangedLaws.{texts_leave_ranged}
use Rattle.live_operations.proofs.StatementLemmas.{text_leaves}
use Rattle.live_operations.proofs.StayLaws.{rising_are_distinct, live_stay_through}

abbrev IsCoded : Version → Type 0
IsCoded v = AllByRecursion IsRowValue v.row

-- ---- a transaction that runs alone

ranged_values : (row : List Value) → AllByRecursion IsRowValue row → IsRanged row
ranged_values [] all = tt
ranged_values (v ∷ vs) all = (all.0.written.range, ranged_values vs all.1)

ranged_rows : (vs : List Version) → AllByRecursion IsCoded vs → AllByRecursion (λ v. IsRanged v.row) vs
ranged_rows [] all = tt
ranged_rows (v ∷ vs) all = (ranged_values v.row all.0, ranged_rows vs all.1)

have_ranged : (next : ℕ) (versions : List (List Version)) → AllByRecursion (AreVersions next) versions → HaveRanged versions
have_ranged next [] all = tt
have_ranged next (vs ∷ others) all = (ranged_rows vs all.0.coded, have_ranged next others all.1)

module _ (tables : List TableDef) (rows : Rows) (texts : List (List ℕ)) (are : AreTables tables) (is : IsReady tables rows) where
  alone_live : AreLive rows.tables (ops_alone tables rows texts)
  alone_live = transaction_leaves_live tables rows.tables texts (rising_are_distinct rows.next rows.tables is.state.versions)

  pub alone_sound : AllByRecursion (IsSoundOp tables rows.next) (ops_alone tables rows texts)
  alone_sound = texts_leave_sound tables rows.tables [] texts rows.next are is.sound tt

  pub alone_written : AreTexts texts → AllByRecursion WritesRow (ops_alone tables rows texts)
  alone_written utf8 = texts_leave_written tables rows.tables [] texts utf8 is.told tt

  pub alone_coded : AreTexts texts → AllByRecursion WritesCoded (ops_alone tables rows texts)
  alone_coded utf8 =
      sound_write_coded tables rows.next (ops_alone tables rows texts) alone_sound (alone_written utf8)
      (texts_leave_ranged tables rows.tables [] texts (have_ranged rows.next rows.tables is.state.versions) tt)

  alone_codes : AreTexts texts → HaveCodes (ops_alone tables rows texts)
  alone_codes utf8 = born_coded (ops_alone tables rows texts) (alone_coded utf8)

pub alone_fit : AloneFit
alone_fit tables rows texts are is = sound_fit tables rows.next (ops_alone tables rows texts) (alone_sound tables rows texts are is)

pub alone_are_doable : AloneAreDoable
alone_are_doable tables rows texts are is utf8 small =
    live_are_doable rows (ops_alone tables rows texts) (alone_live tables rows texts are is) (λ table. alone_codes tables rows texts are is utf8 table rows.next) small

pub later_are_doable : LaterAreDoable
later_are_doable tables rows texts entries are is utf8 none small =
    let later : Rows = rows_behind rows entries in
    live_are_doable later (ops_alone tables rows texts) (live_stay_through rows (ops_alone tables rows texts) entries (alone_live tables rows texts are is) none)
    (λ table. alone_codes tables rows texts are is utf8 table later.next) small

-- ---- versions of one table

rise_more : (next : ℕ) (row : List Value) (vs : List Version) → Rise vs next → Rise (vs ++ version next row ∷ []) (next + 1)
rise_more next row [] rise = (omega arith, tt, tt)
rise_more next row (v ∷ vs) rise = (
  (let below : v.genid < next = rise.0 in omega (arith, below)),
  all_append (λ w. v.genid < w.genid) vs (version next row ∷ []) rise.1 (rise.0, tt),
  rise_more next row vs rise.2,
)

rise_later : (next : ℕ) (vs : List Version) → Rise vs next → Rise vs (next + 1)
rise_later next [] rise = tt
rise_later next (v ∷ vs) rise = ((let below : v.genid < next = rise.0 in omega (arith, below)), rise.1, rise_later next vs rise.2)

rise_filter : (test : Version → Bool) (next : ℕ) (vs : List Version) → Rise vs next → Rise (filter test vs) next
rise_filter test next [] rise = tt
rise_filter test next (v ∷ vs) rise = go (test v) (rise_filter test next vs rise.2)
  where
    go : (b : Bool) → Rise (filter test vs) next → Rise (cond b (v ∷ filter test vs) (filter test vs)) next
    go true later = (rise.0, all_filtered (λ w. v.genid < w.genid) test vs rise.1, later)
    go false later = later

-- ---- what each table has

-- the versions of all tables: they rise below the next genid, their rows have codes, and values that can be told
record AreWell (rows : Rows) : Type 0 where
  versions : AllByRecursion (AreVersions rows.next) rows.tables
  told : HaveRows rows.tables

added_well : (rows : Rows) (place : ℕ) (row : List Value) → AreWell rows → AllByRecursion IsRowValue row → IsToldRow row → AreWell (added rows place row)
added_well rows place row well coded told = record {
  versions = all_exchanged (AreVersions (rows.next + 1)) rows.tables place (versions_of rows place ++ version rows.next row ∷ [])
      (all_map (AreVersions rows.next) (AreVersions (rows.next + 1)) (λ vs are. record { rise = rise_later rows.next vs are.rise; coded = are.coded }) rows.tables well.versions)
      (record {
        rise = rise_more rows.next row (versions_of rows place) here.rise;
        coded = all_append IsCoded (versions_of rows place) (version rows.next row ∷ []) here.coded (coded, tt);
      });
  told = all_exchanged (AllByRecursion (λ v. IsToldRow v.row)) rows.tables place (versions_of rows place ++ version rows.next row ∷ []) well.told
      (all_append (λ v. IsToldRow v.row) (versions_of rows place) (version rows.next row ∷ []) (all_got (AllByRecursion (λ v. IsToldRow v.row)) rows.tables place [] well.told tt) (told, tt));
}
  where
    here : AreVersions rows.next (versions_of rows place)
    here = all_got (AreVersions rows.next) rows.tables place [] well.versions (record { rise = tt; coded = tt })

taken_well : (rows : Rows) (place genid : ℕ) → AreWell rows → AreWell (taken rows place genid)
taken_well rows place genid well = record {
  versions = all_exchanged (AreVersions rows.next) rows.tables place (without genid (versions_of rows place)) well.versions
      (record { rise = rise_filter other rows.next (versions_of rows place) here.rise; coded = all_filtered IsCoded other (versions_of rows place) here.coded });
  told = all_exchanged (AllByRecursion (λ v. IsToldRow v.row)) rows.tables place (without genid (versions_of rows place)) well.told
      (all_filtered (λ v. IsToldRow v.row) other (versions_of rows place) (all_got (AllByRecursion (λ v. IsToldRow v.row)) rows.tables place [] well.told tt));
}
  where
    other : Version → Bool
    other v = not (v.genid == genid)

    here : AreVersions rows.next (versions_of rows place)
    here = all_got (AreVersions rows.next) rows.tables place [] well.versions (record { rise = tt; coded = tt })

applied_well : (rows : Rows) (ops : List RowOp) → AreWell rows → AllByRecursion WritesCoded ops → AllByRecursion WritesRow ops → AreWell (apply_all rows ops)
applied_well rows [] well coded told = well
applied_well rows (Insert place row ∷ ops) well coded told = applied_well (added rows place row) ops (added_well rows place row well coded.0 told.0) coded.1 told.1
applied_well rows (Update place (Base genid) old row ∷ ops) well coded told =
    applied_well (added (taken rows place genid) place row) ops (added_well (taken rows place genid) place row (taken_well rows place genid well) coded.0 told.0) coded.1 told.1
applied_well rows (Update place (Own write) old row ∷ ops) well coded told = applied_well rows ops well coded.1 told.1
applied_well rows (Delete place (Base genid) old ∷ ops) well coded told = applied_well (taken rows place genid) ops (taken_well rows place genid well) coded.1 told.1
applied_well rows (Delete place (Own write) old ∷ ops) well coded told = applied_well rows ops well coded.1 told.1

-- ---- as many tables

applied_length : (rows : Rows) (ops : List RowOp) → length (apply_all rows ops).tables ≡ length rows.tables
applied_length rows [] = refl
applied_length rows (Insert place row ∷ ops) =
    applied_length (added rows place row) ops ∙ length-set rows.tables place (versions_of rows place ++ version rows.next row ∷ [])
applied_length rows (Update place (Base genid) old row ∷ ops) =
    let less : Rows = taken rows place genid in
    applied_length (added less place row) ops ∙ length-set less.tables place (versions_of less place ++ version rows.next row ∷ [])
    ∙ length-set rows.tables place (without genid (versions_of rows place))
applied_length rows (Update place (Own write) old row ∷ ops) = applied_length rows ops
applied_length rows (Delete place (Base genid) old ∷ ops) = applied_length (taken rows place genid) ops ∙ length-set rows.tables place (without genid (versions_of rows place))
applied_length rows (Delete place (Own write) old ∷ ops) = applied_length rows ops

-- ---- sound rows

sound_later : (tables : List TableDef) (next : ℕ) (versions : List (List Version)) → AreSound tables next versions → AreSound tables (next + 1) versions
sound_later [] next [] sound = tt
sound_later [] next (vs ∷ others) sound = absurd sound
sound_later (table ∷ tables) next [] sound = absurd sound
sound_later (table ∷ tables) next (vs ∷ others) sound =
    (all_map (IsSoundVersion table next) (IsSoundVersion table (next + 1)) (λ v is. (is.0, (let below : v.genid < next = is.1 in omega (arith, below)))) vs sound.0, sound_later tables next others sound.1)

-- one table has other versions, made of those that it had
sound_changed : (tables : List TableDef) (next : ℕ) (versions : List (List Version)) (place : ℕ) (table : TableDef) (change : List Version → List Version)
    → AreSound tables next versions → slice_get tables place ≡ Some table
    → ((vs : List Version) → AllByRecursion (IsSoundVersion table next) vs → AllByRecursion (IsSoundVersion table next) (change vs))
    → AreSound tables next (slice_set versions place (change (versions_of (record { tables = versions; next = next }) place)))
sound_changed [] next versions place table change sound at changes = absurd cc
sound_changed (first ∷ tables) next [] place table change sound at changes = absurd sound
sound_changed (first ∷ tables) next (vs ∷ others) zero table change sound at changes =
    let same : first ≡ table = same_Some first table at in
    (subst (λ t. AllByRecursion (IsSoundVersion t next) (change vs)) (sym same) (changes vs (subst (λ t. AllByRecursion (IsSoundVersion t next) vs) same sound.0)), sound.1)
sound_changed (first ∷ tables) next (vs ∷ others) (suc place) table change sound at changes = (sound.0, sound_changed tables next others place table change sound.1 at changes)

added_sound : (tables : List TableDef) (rows : Rows) (place : ℕ) (row : List Value) (table : TableDef) → AreSound tables rows.next rows.tables → slice_get tables place ≡ Some table
    → FitsTable table row → AreSound tables (rows.next + 1) (added rows place row).tables
added_sound tables rows place row table sound at fits =
    sound_changed tables (rows.next + 1) rows.tables place table (λ vs. vs ++ version rows.next row ∷ []) (sound_later tables rows.next rows.tables sound) at
    (λ vs all. all_append (IsSoundVersion table (rows.next + 1)) vs (version rows.next row ∷ []) all ((fits, omega arith), tt))

taken_sound : (tables : List TableDef) (rows : Rows) (place genid : ℕ) (table : TableDef) → AreSound tables rows.next rows.tables → slice_get tables place ≡ Some table
    → AreSound tables rows.next (taken rows place genid).tables
taken_sound tables rows place genid table sound at =
    sound_changed tables rows.next rows.tables place table (without genid) sound at (λ vs all. all_filtered (IsSoundVersion table rows.next) (λ v. not (v.genid == genid)) vs all)

applied_sound : (tables : List TableDef) (below : ℕ) (rows : Rows) (ops : List RowOp) → AreSound tables rows.next rows.tables → AllByRecursion (IsSoundOp tables below) ops
    → AreSound tables (apply_all rows ops).next (apply_all rows ops).tables
applied_sound tables below rows [] sound all = sound
applied_sound tables below rows (Insert place row ∷ ops) sound all =
    applied_sound tables below (added rows place row) ops (added_sound tables rows place row all.0.0 sound all.0.1 all.0.2) all.1
applied_sound tables below rows (Update place (Base genid) old row ∷ ops) sound all =
    applied_sound tables below (added (taken rows place genid) place row) ops
    (added_sound tables (taken rows place genid) place row all.0.0 (taken_sound tables rows place genid all.0.0 sound all.0.1) all.0.1 all.0.2) all.1
applied_sound tables below rows (Update place (Own write) old row ∷ ops) sound all = applied_sound tables below rows ops sound all.1
applied_sound tables below rows (Delete place (Base genid) old ∷ ops) sound all =
    applied_sound tables below (taken rows place genid) ops (taken_sound tables rows place genid all.0.0 sound all.0.1) all.1
applied_sound tables below rows (Delete place (Own write) old ∷ ops) sound all = applied_sound tables below rows ops sound all.1

-- ---- states

pub stay_ready : StayReady
stay_ready tables rows now texts are is here utf8 small =
    let ops : List RowOp = ops_alone tables rows texts in
    let well : AreWell (apply_all now ops) =
    applied_well now ops (record { versions = here.state.versions; told = here.told }) (alone_coded tables rows texts are is utf8) (alone_written tables rows texts are is utf8) in
    record {
      state = record { tables_are = applied_length now ops ∙ here.state.tables_are; next = small; versions = well.versions };
      sound = applied_sound tables rows.next now ops here.sound (alone_sound tables rows texts are is);
      told = well.told;
    }

none_sound : (tables : List TableDef) → AreSound tables 1 (map (λ _. []) tables)
none_sound [] = tt
none_sound (table ∷ tables) = (tt, none_sound tables)

none_well : (tables : List TableDef) → AreWell (no_rows tables)
none_well [] = record { versions = tt; told = tt }
none_well (table ∷ tables) =
    let later : AreWell (no_rows tables) = none_well tables in
    record { versions = (record { rise = tt; coded = tt }, later.versions); told = (tt, later.told) }

pub no_rows_are_ready : NoRowsAreReady
no_rows_are_ready tables = record {
  state = record { tables_are = length-map tables (λ _. []); next = omega arith; versions = (none_well tables).versions };
  sound = none_sound tables;
  told = (none_well tables).told;
}

-- ---- few genids

text_leaves_few : (tables : List TableDef) (versions : List (List Version)) (done : List RowOp) (text : List ℕ) → length done ≤ MOST_NET_OPERATIONS
    → length (sql_language.answer tables versions done text).ops ≤ MOST_NET_OPERATIONS
text_leaves_few tables versions done text few = text_leaves (λ ops. length ops ≤ MOST_NET_OPERATIONS) tables versions done text few (λ s means within. within)

texts_leave_few : (tables : List TableDef) (versions : List (List Version)) (done : List RowOp) (texts : List (List ℕ)) → length done ≤ MOST_NET_OPERATIONS
    → length (alone_from sql_language tables versions done texts).ops ≤ MOST_NET_OPERATIONS
texts_leave_few tables versions done [] few = few
texts_leave_few tables versions done (text ∷ texts) few =
    texts_leave_few tables versions (sql_language.answer tables versions done text).ops texts (text_leaves_few tables versions done text few)

pub alone_are_few : AloneAreFew
alone_are_few tables rows texts = texts_leave_few tables rows.tables [] texts (omega arith)

-- each operation draws a genid at most
draws : (rows : Rows) (ops : List RowOp) → (apply_all rows ops).next ≤ rows.next + length ops
draws rows [] = omega arith
draws rows (Insert place row ∷ ops) = let later = draws (added rows place row) ops in omega (arith, later)
draws rows (Update place (Base genid) old row ∷ ops) = let later = draws (added (taken rows place genid) place row) ops in omega (arith, later)
draws rows (Update place (Own write) old row ∷ ops) = let later = draws rows ops in omega (arith, later)
draws rows (Delete place (Base genid) old ∷ ops) = let later = draws (taken rows place genid) ops in omega (arith, later)
draws rows (Delete place (Own write) old ∷ ops) = let later = draws rows ops in omega (arith, later)

pub alone_draw_few : AloneDrawFew
alone_draw_few tables rows now texts =
    let drawn = draws now (ops_alone tables rows texts) in
    let few = alone_are_few tables rows texts in
    omega (arith, drawn, few)

-- ---- rows that fit

sound_fits : (tables : List TableDef) (next : ℕ) (versions : List (List Version)) → AreSound tables next versions → AllFit tables versions
sound_fits [] next [] sound = tt
sound_fits [] next (vs ∷ others) sound = absurd sound
sound_fits (table ∷ tables) next [] sound = absurd sound
sound_fits (table ∷ tables) next (vs ∷ others) sound =
    (all_map (IsSoundVersion table next) (λ v. FitsTable table v.row) (λ v is. is.0) vs sound.0, sound_fits tables next others sound.1)

versions_sound : (table : TableDef) (next : ℕ) (vs : List Version) → AllByRecursion (λ v. FitsTable table v.row) vs → Rise vs next → AllByRecursion (IsSoundVersion table next) vs
versions_sound table next [] fit rise = tt
versions_sound table next (v ∷ vs) fit rise = ((fit.0, rise.0), versions_sound table next vs fit.1 rise.2)

fits_sound : (tables : List TableDef) (next : ℕ) (versions : List (List Version)) → AllFit tables versions → AllByRecursion (AreVersions next) versions → AreSound tables next versions
fits_sound [] next [] fit are = tt
fits_sound [] next (vs ∷ others) fit are = absurd fit
fits_sound (table ∷ tables) next [] fit are = absurd fit
fits_sound (table ∷ tables) next (vs ∷ others) fit are = (versions_sound table next vs fit.0 are.0.rise, fits_sound tables next others fit.1 are.1)

pub ready_fit : ReadyFit
ready_fit tables rows is = sound_fits tables rows.next rows.tables is.sound

pub fit_are_ready : FitAreReady
fit_are_ready tables rows state fit told = record { state = state; sound = fits_sound tables rows.next rows.tables fit state.versions; told = told }
