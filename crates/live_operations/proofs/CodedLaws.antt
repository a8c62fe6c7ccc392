-- Operations that are live, sound, and of rows of the grammar with integers of 64 bits can be done on pages; and
-- texts one after the other leave sound operations that write such rows.
use Rattle.std.proofs.Common.{◌≡◌, ℕ, zero, suc, ◌+◌, ◌<◌, ◌≤◌, ◌==◌, length, List, [], ◌∷◌, Bool, true, false, cond, refl, sym, subst, arith, Option, Some}
use Rattle.std.specs.Prelude.{IfSome, slice_get}
use Rattle.std.specs.List.{AllByRecursion}
use Rattle.std.proofs.lemmas.Str.{IsUtf8-from_is_utf8}
use Rattle.cdb_values.specs.Good.{FitsTable, row_bytes, bytes_of_row}
use Rattle.cdb_values.specs.Rows.{version}
use Rattle.cdb_values.specs.Views.{IsBase}
use Rattle.cdb_values.specs.declared.limits.TheConstants.{MOST_ROW_BYTES}
use Rattle.cdb_values.specs.declared.rows.RowOp.{RowOp}
use Rattle.cdb_values.specs.declared.rows.RowOp.TheVariants.{Insert, Update, Delete}
use Rattle.cdb_values.specs.declared.rows.RowRef.{RowRef}
use Rattle.cdb_values.specs.declared.rows.RowRef.TheVariants.{Base, Own}
use Rattle.cdb_values.specs.declared.rows.Version.{Version}
use Rattle.cdb_values.specs.declared.tables.TableDef.{TableDef}
use Rattle.cdb_values.specs.declared.values.Value.{Value}
use Rattle.cdb_values.specs.declared.values.Value.TheVariants.{Null, Int, Text, Blob}
use Rattle.key_code.specs.Codes.{IsInRange, IsRowValue}
use Rattle.query_laws.specs.Alone.{sql_language}
use Rattle.session_language.specs.Spelled.{IsToldValue, IsToldRow, WritesRow}
use Rattle.sql_run.proofs.RowLaws.{leaves_such_rows}
use Rattle.sql_run.proofs.SoundLaws.{leaves_sound_ops}
use Rattle.sql_run.specs.Sound.{IsBelow, IsSoundOp}
use Rattle.table_edits.specs.Fits.{FitsTrees, FitsAt}
use Rattle.table_store.specs.Operations.{born}
use Rattle.live_operations.specs.Coded.{WritesCoded, HaveCodes, LiveAreDoable, SoundHaveCodes, SoundFit, SoundAreBased, TextsLeaveSound, TextsLeaveWritten}
use Rattle.live_operations.specs.Ranged.{IsRanged, WritesRanged}

pub live_are_doable : LiveAreDoable
live_are_doable rows ops live coded small table known = record { there = live.there table; once = live.once table; coded = coded table; next = small }

-- ---- rows with codes

value_coded : (v : Value) → IsInRange v → IsToldValue v → row_bytes v ≤ MOST_ROW_BYTES → IsRowValue v
value_coded Null range told short = record { written = record { range = tt; short = tt }; text = tt }
value_coded (Int n) range told short = record { written = record { range = range; short = tt }; text = tt }
value_coded (Text text) range told short =
    let most : MOST_ROW_BYTES ≡ 1600 = refl in
    record { written = record { range = tt; short = omega (arith, short, most) }; text = IsUtf8-from_is_utf8 text told }
value_coded (Blob blob) range told short =
    let most : MOST_ROW_BYTES ≡ 1600 = refl in
    record { written = record { range = tt; short = omega (arith, short, most) }; text = tt }

values_coded : (row : List Value) → IsRanged row → AllByRecursion IsToldValue row → bytes_of_row row ≤ MOST_ROW_BYTES → AllByRecursion IsRowValue row
values_coded [] ranged told short = tt
values_coded (v ∷ vs) ranged told short = (value_coded v ranged.0 told.0 (omega (arith, short)), values_coded vs ranged.1 told.1 (omega (arith, short)))

row_coded : (row : List Value) → IsRanged row → IsToldRow row → bytes_of_row row ≤ MOST_ROW_BYTES → AllByRecursion IsRowValue row
row_coded [] ranged told short = tt
row_coded (v ∷ vs) ranged told short = values_coded (v ∷ vs) ranged told short

abbrev AreCoded : List Version → Type 0
AreCoded versions = AllByRecursion (λ v. AllByRecursion IsRowValue v.row) versions

one_coded : (next : ℕ) (row : List Value) (here : Bool) (later : List Version) → AllByRecursion IsRowValue row → AreCoded later → AreCoded (cond here (version next row ∷ later) later)
one_coded next row true later is all = (is, all)
one_coded next row false later is all = all

pub sound_write_coded : (tables : List TableDef) (next : ℕ) (ops : List RowOp) → AllByRecursion (IsSoundOp tables next) ops → AllByRecursion WritesRow ops
    → AllByRecursion WritesRanged ops → AllByRecursion WritesCoded ops
sound_write_coded tables next [] sound told ranged = tt
sound_write_coded tables next (Insert place row ∷ ops) sound told ranged =
    (row_coded row ranged.0 told.0 sound.0.2.size, sound_write_coded tables next ops sound.1 told.1 ranged.1)
sound_write_coded tables next (Update place target old row ∷ ops) sound told ranged =
    (row_coded row ranged.0 told.0 sound.0.2.size, sound_write_coded tables next ops sound.1 told.1 ranged.1)
sound_write_coded tables next (Delete place target old ∷ ops) sound told ranged = (tt, sound_write_coded tables next ops sound.1 told.1 ranged.1)

pub born_coded : (ops : List RowOp) → AllByRecursion WritesCoded ops → HaveCodes ops
born_coded [] coded table next = tt
born_coded (Insert place row ∷ ops) coded table next = one_coded next row (place == table) (born table (next + 1) ops) coded.0 (born_coded ops coded.1 table (next + 1))
born_coded (Update place (Base genid) old row ∷ ops) coded table next =
    one_coded next row (place == table) (born table (next + 1) ops) coded.0 (born_coded ops coded.1 table (next + 1))
born_coded (Update place (Own write) old row ∷ ops) coded table next = born_coded ops coded.1 table next
born_coded (Delete place target old ∷ ops) coded table next = born_coded ops coded.1 table next

pub sound_have_codes : SoundHaveCodes
sound_have_codes tables next ops sound told ranged = born_coded ops (sound_write_coded tables next ops sound told ranged)

-- ---- rows that fit

row_fits : (tables : List TableDef) (place : ℕ) (table : TableDef) (row : List Value) → slice_get tables place ≡ Some table → FitsTable table row → FitsAt tables place row
row_fits tables place table row at fits =
    subst (λ (o : Option TableDef). IfSome o (λ t. FitsTrees t.keys row)) (sym at) (record { size = fits.size; keys = fits.keys })

pub sound_fit : SoundFit
sound_fit tables next [] sound = tt
sound_fit tables next (Insert place row ∷ ops) sound = (row_fits tables place sound.0.0 row sound.0.1 sound.0.2, sound_fit tables next ops sound.1)
sound_fit tables next (Update place target old row ∷ ops) sound = (row_fits tables place sound.0.0 row sound.0.1 sound.0.2, sound_fit tables next ops sound.1)
sound_fit tables next (Delete place target old ∷ ops) sound = (tt, sound_fit tables next ops sound.1)

-- ---- operations on the base

is_known : (tables : List TableDef) (place : ℕ) (table : TableDef) → slice_get tables place ≡ Some table → place < length tables
is_known [] place table at = absurd cc
is_known (first ∷ tables) zero table at = omega arith
is_known (first ∷ tables) (suc place) table at = let later = is_known tables place table at in omega (arith, later)

is_base : (next : ℕ) (target : RowRef) → IsBelow next target → IsBase next target
is_base next (Base genid) below = below
is_base next (Own write) below = below

pub sound_are_based : SoundAreBased
sound_are_based tables next [] sound = tt
sound_are_based tables next (Insert place row ∷ ops) sound = (is_known tables place sound.0.0 sound.0.1, sound_are_based tables next ops sound.1)
sound_are_based tables next (Update place target old row ∷ ops) sound =
    ((is_known tables place sound.0.0 sound.0.1, is_base next target sound.0.3), sound_are_based tables next ops sound.1)
sound_are_based tables next (Delete place target old ∷ ops) sound =
    ((is_known tables place sound.0.0 sound.0.1, is_base next target sound.0.2), sound_are_based tables next ops sound.1)

-- ---- texts one after the other

pub texts_leave_sound : TextsLeaveSound
texts_leave_sound tables versions done [] next distinct sound all = all
texts_leave_sound tables versions done (text ∷ texts) next distinct sound all =
    texts_leave_sound tables versions (sql_language.answer tables versions done text).ops texts next distinct sound
    (leaves_sound_ops tables versions done text next distinct sound all)

pub texts_leave_written : TextsLeaveWritten
texts_leave_written tables versions done [] utf8 have all = all
texts_leave_written tables versions done (text ∷ texts) utf8 have all =
    texts_leave_written tables versions (sql_language.answer tables versions done text).ops texts utf8.1 have
    (leaves_such_rows tables versions done text utf8.0 have all)
