-- Soundness: what is sound stays so later, and is as the layers below want it.
use Rattle.std.proofs.Common.{◌≡◌, ℕ, ◌+◌, ◌<◌, ◌≤◌, ◌||◌, ◌++◌, ◌∷◌, [], List, nat_le, refl, arith, length, map, zero, suc, Bool, true, false}
use Rattle.std.specs.Prelude.{slice_get, Some, None, if◌then◌else◌}
use Rattle.std.specs.List.{AllByRecursion}
use Rattle.cdb_values.specs.declared.rows.RowOp.{RowOp}
use Rattle.cdb_values.specs.declared.rows.RowOp.TheVariants.{Insert, Update, Delete}
use Rattle.cdb_values.specs.declared.rows.RowRef.{RowRef}
use Rattle.cdb_values.specs.declared.rows.RowRef.TheVariants.{Base, Own}
use Rattle.cdb_values.specs.declared.rows.Version.{Version}
use Rattle.cdb_values.specs.declared.tables.TableDef.{TableDef}
use Rattle.cdb_values.specs.Changes.{changes_of}
use Rattle.cdb_values.specs.Tables.{add_fault, are_bad_keys, has_twice, is_named, is_past_limits, is_unlawful}
use Rattle.cdb_values.specs.declared.schemas.AddFault.TheVariants.{Taken, Unlawful, Limit}
use Rattle.cdb_values.specs.declared.tables.ColumnDef.{ColumnDef}
use Rattle.cdb_values.specs.declared.tables.KeyDef.{KeyDef}
use Rattle.script_form.specs.CanRun.{AreTaken}
use Rattle.report_laws.specs.Outcome.{name_of_table}
use Rattle.script_play.specs.Decisions.{HasName}
use Rattle.session_language.specs.Spelled.{WritesRow, HaveRows}
use Rattle.script_play.specs.Ready.{AreKept, IsKeptOp}
use Rattle.sql_run.specs.Sound.{AreSound, HasDistinctColumns, IsSoundOp, IsSoundVersion, IsBelow}

-- versions below a next genid are below a later one
versions_later : (table : TableDef) (next next' : ℕ) (versions : List Version) → next ≤ next' → AllByRecursion (IsSoundVersion table next) versions → AllByRecursion (IsSoundVersion table next') versions
versions_later table next next' [] later all = tt
versions_later table next next' (v ∷ vs) later all =
    let below : v.genid < next = all.0.1 in
    let now : v.genid < next' = omega arith in
    ((all.0.0, now), versions_later table next next' vs later all.1)

pub sound_later : (tables : List TableDef) (next next' : ℕ) (versions : List (List Version)) → next ≤ next' → AreSound tables next versions → AreSound tables next' versions
sound_later [] next next' [] later sound = tt
sound_later [] next next' (vs ∷ others) later sound = absurd sound
sound_later (table ∷ tables) next next' [] later sound = absurd sound
sound_later (table ∷ tables) next next' (vs ∷ others) later sound = (versions_later table next next' vs later sound.0, sound_later tables next next' others later sound.1)

below_later : (next next' : ℕ) (target : RowRef) → next ≤ next' → IsBelow next target → IsBelow next' target
below_later next next' (Base genid) later below = omega arith
below_later next next' (Own write) later below = absurd below

pub op_later : (tables : List TableDef) (next next' : ℕ) (op : RowOp) → next ≤ next' → IsSoundOp tables next op → IsSoundOp tables next' op
op_later tables next next' (Insert place row) later sound = sound
op_later tables next next' (Update place target old row) later (table, at, fits, below) = (table, at, fits, below_later next next' target later below)
op_later tables next next' (Delete place target old) later (table, at, below) = (table, at, below_later next next' target later below)

pub ops_later : (tables : List TableDef) (next next' : ℕ) (ops : List RowOp) → next ≤ next' → AllByRecursion (IsSoundOp tables next) ops → AllByRecursion (IsSoundOp tables next') ops
ops_later tables next next' [] later all = tt
ops_later tables next next' (op ∷ ops) later all = (op_later tables next next' op later all.0, ops_later tables next next' ops later all.1)

-- tables without rows are sound
pub sound_none : (tables : List TableDef) (next : ℕ) → AreSound tables next (map (λ _. []) tables)
sound_none [] next = tt
sound_none (table ∷ tables) next = (tt, sound_none tables next)

-- a table's place is within the tables
pub place_within : (tables : List TableDef) (place : ℕ) (table : TableDef) → slice_get tables place ≡ Some table → place < length tables
place_within [] place table at = absurd cc
place_within (first ∷ tables) zero table at = omega arith
place_within (first ∷ tables) (suc place) table at = let within : place < length tables = place_within tables place table at in omega arith

name_at : (tables : List TableDef) (place : ℕ) (table : TableDef) → slice_get tables place ≡ Some table → (name : List ℕ) × (name_of_table tables place ≡ Some name)
name_at tables place table at = (table.name, rw at refl)

-- what sound operations change is of tables that have names
pub all_named : (tables : List TableDef) (next : ℕ) (ops : List RowOp) (genid : ℕ) → AllByRecursion (IsSoundOp tables next) ops → AllByRecursion (HasName tables) (changes_of ops genid)
all_named tables next [] genid all = tt
all_named tables next (Insert place row ∷ ops) genid ((table, at, fits), all) = (name_at tables place table at, all_named tables next ops (genid + 1) all)
all_named tables next (Update place (Base target) old row ∷ ops) genid ((table, at, fits, below), all) = (name_at tables place table at, all_named tables next ops (genid + 1) all)
all_named tables next (Update place (Own write) old row ∷ ops) genid all = all_named tables next ops genid all.1
all_named tables next (Delete place (Base target) old ∷ ops) genid ((table, at, below), all) = (name_at tables place table at, all_named tables next ops genid all)
all_named tables next (Delete place (Own write) old ∷ ops) genid all = all_named tables next ops genid all.1

-- a table that may be added has distinct names of columns
distinct_one : (before : List TableDef) (table : TableDef) → add_fault before table ≡ None → HasDistinctColumns table
distinct_one before table none = first columns keys (first (columns || keys) (are_bad_keys table.columns table.keys) (unlawful (is_named table.name (map (λ (t : TableDef). t.name) before)) (is_unlawful table) none))
  where
    columns : Bool
    columns = has_twice (map (λ (c : ColumnDef). c.name) table.columns)

    keys : Bool
    keys = has_twice (map (λ (k : KeyDef). k.name) table.keys)

    full : Bool
    full = nat_le 64 (length before) || is_past_limits table

    unlawful : (taken wrong : Bool) → (if taken then Some Taken else if wrong then Some Unlawful else if full then Some Limit else None) ≡ None → wrong ≡ false
    unlawful true wrong is = absurd cc
    unlawful false true is = absurd cc
    unlawful false false is = refl

    first : (a b : Bool) → (a || b) ≡ false → a ≡ false
    first true b is = absurd cc
    first false b is = refl

pub distinct : (before tables : List TableDef) → AreTaken before tables → AllByRecursion HasDistinctColumns tables
distinct before [] taken = tt
distinct before (table ∷ tables) taken = (distinct_one before table taken.0, distinct (before ++ table ∷ []) tables taken.1)

-- ---- with texts of UTF-8

pub rows_later : (tables : List TableDef) (next next' : ℕ) (versions : List (List Version)) → next ≤ next' → AreKept tables next versions → AreKept tables next' versions
rows_later tables next next' versions later kept = (sound_later tables next next' versions later kept.0, kept.1)

pub kept_later : (tables : List TableDef) (next next' : ℕ) (ops : List RowOp) → next ≤ next' → AllByRecursion (IsKeptOp tables next) ops → AllByRecursion (IsKeptOp tables next') ops
kept_later tables next next' [] later all = tt
kept_later tables next next' (op ∷ ops) later all = ((op_later tables next next' op later all.0.0, all.0.1), kept_later tables next next' ops later all.1)

-- operations that are sound, and whose rows have texts of UTF-8, are both
pub kept_both : (tables : List TableDef) (next : ℕ) (ops : List RowOp) → AllByRecursion (IsSoundOp tables next) ops → AllByRecursion WritesRow ops → AllByRecursion (IsKeptOp tables next) ops
kept_both tables next [] sound told = tt
kept_both tables next (op ∷ ops) sound told = ((sound.0, told.0), kept_both tables next ops sound.1 told.1)

pub kept_sound : (tables : List TableDef) (next : ℕ) (ops : List RowOp) → AllByRecursion (IsKeptOp tables next) ops → AllByRecursion (IsSoundOp tables next) ops
kept_sound tables next [] all = tt
kept_sound tables next (op ∷ ops) all = (all.0.0, kept_sound tables next ops all.1)

pub kept_told : (tables : List TableDef) (next : ℕ) (ops : List RowOp) → AllByRecursion (IsKeptOp tables next) ops → AllByRecursion WritesRow ops
kept_told tables next [] all = tt
kept_told tables next (op ∷ ops) all = (all.0.1, kept_told tables next ops all.1)

have_none : (tables : List TableDef) → HaveRows (map (λ _. []) tables)
have_none [] = tt
have_none (table ∷ tables) = (tt, have_none tables)

pub kept_none : (tables : List TableDef) (next : ℕ) → AreKept tables next (map (λ _. []) tables)
kept_none tables next = (sound_none tables next, have_none tables)
