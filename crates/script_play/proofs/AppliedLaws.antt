-- Sound operations keep sound rows sound.
use Rattle.std.proofs.Common.{◌≡◌, ℕ, ◌+◌, ◌<◌, ◌≤◌, ◌==◌, ◌++◌, ◌∷◌, [], List, Bool, true, false, filter, if◌then◌else◌, subst, arith, zero, suc, not}
use Rattle.std.specs.Prelude.{slice_get, slice_set, unwrap_or, Some}
use Rattle.std.specs.List.{AllByRecursion}
use Rattle.cdb_values.specs.Good.{FitsTable}
use Rattle.cdb_values.specs.Rows.{Rows, added, apply, apply_all, taken, version, versions_of, without}
use Rattle.cdb_values.specs.declared.rows.RowOp.{RowOp}
use Rattle.cdb_values.specs.declared.rows.RowOp.TheVariants.{Insert, Update, Delete}
use Rattle.cdb_values.specs.declared.rows.RowRef.TheVariants.{Base, Own}
use Rattle.cdb_values.specs.declared.rows.Version.{Version}
use Rattle.cdb_values.specs.declared.tables.TableDef.{TableDef}
use Rattle.cdb_values.specs.declared.values.Value.{Value}
use Rattle.report_laws.proofs.SpelledLaws.{apply_all_rows}
use Rattle.script_play.proofs.SoundLaws.{sound_later, kept_sound, kept_told}
use Rattle.script_play.specs.Ready.{AreKept, IsKeptOp}
use Rattle.sql_run.specs.Sound.{AreSound, IsSoundOp, IsSoundVersion}

all_append : {A : Type 0} (P : A → Type 0) (xs ys : List A) → AllByRecursion P xs → AllByRecursion P ys → AllByRecursion P (xs ++ ys)
all_append P [] ys first second = second
all_append P (x ∷ xs) ys first second = (first.0, all_append P xs ys first.1 second)

all_filter : {A : Type 0} (P : A → Type 0) (test : A → Bool) (xs : List A) → AllByRecursion P xs → AllByRecursion P (filter test xs)
all_filter P test [] all = tt
all_filter P test (x ∷ xs) all = pick (test x) (all_filter P test xs all.1)
  where
    pick : (b : Bool) → AllByRecursion P (filter test xs) → AllByRecursion P (if b then x ∷ filter test xs else filter test xs)
    pick true rest = (all.0, rest)
    pick false rest = rest

-- the versions of one of the tables
sound_at : (tables : List TableDef) (next : ℕ) (versions : List (List Version)) (place : ℕ) (table : TableDef) → AreSound tables next versions → slice_get tables place ≡ Some table
    → AllByRecursion (IsSoundVersion table next) (unwrap_or (slice_get versions place) [])
sound_at [] next versions place table sound at = absurd cc
sound_at (first ∷ tables) next [] place table sound at = absurd sound
sound_at (first ∷ tables) next (vs ∷ others) zero table sound at =
    let same : first ≡ table = cc in
    subst (λ (t : TableDef). AllByRecursion (IsSoundVersion t next) vs) same sound.0
sound_at (first ∷ tables) next (vs ∷ others) (suc place) table sound at = sound_at tables next others place table sound.1 at

-- other sound versions of one of the tables
pub placed_sound : (tables : List TableDef) (next : ℕ) (versions : List (List Version)) (place : ℕ) (table : TableDef) (vs : List Version) → AreSound tables next versions
    → slice_get tables place ≡ Some table → AllByRecursion (IsSoundVersion table next) vs → AreSound tables next (slice_set versions place vs)
placed_sound [] next versions place table vs sound at all = absurd cc
placed_sound (first ∷ tables) next [] place table vs sound at all = absurd sound
placed_sound (first ∷ tables) next (ws ∷ others) zero table vs sound at all =
    let same : table ≡ first = cc in
    (subst (λ (t : TableDef). AllByRecursion (IsSoundVersion t next) vs) same all, sound.1)
placed_sound (first ∷ tables) next (ws ∷ others) (suc place) table vs sound at all = (sound.0, placed_sound tables next others place table vs sound.1 at all)

pub added_sound : (tables : List TableDef) (rows : Rows) (place : ℕ) (row : List Value) (table : TableDef) → AreSound tables rows.next rows.tables → slice_get tables place ≡ Some table
    → FitsTable table row → AreSound tables (rows.next + 1) (added rows place row).tables
added_sound tables rows place row table sound at fits =
    let more : rows.next ≤ rows.next + 1 = omega arith in
    let below : rows.next < rows.next + 1 = omega arith in
    let later : AreSound tables (rows.next + 1) rows.tables = sound_later tables rows.next (rows.next + 1) rows.tables more sound in
    placed_sound tables (rows.next + 1) rows.tables place table (versions_of rows place ++ version rows.next row ∷ []) later at
    (all_append (IsSoundVersion table (rows.next + 1)) (versions_of rows place) (version rows.next row ∷ []) (sound_at tables (rows.next + 1) rows.tables place table later at) ((fits, below), tt))

pub taken_sound : (tables : List TableDef) (rows : Rows) (place genid : ℕ) (table : TableDef) → AreSound tables rows.next rows.tables → slice_get tables place ≡ Some table
    → AreSound tables rows.next (taken rows place genid).tables
taken_sound tables rows place genid table sound at =
    placed_sound tables rows.next rows.tables place table (without genid (versions_of rows place)) sound at
    (all_filter (IsSoundVersion table rows.next) (λ v. not (v.genid == genid)) (versions_of rows place) (sound_at tables rows.next rows.tables place table sound at))

-- rows that are sound, with a next genid that is no earlier
abbrev pub IsSoundFrom : List TableDef → ℕ → Rows → Type 0
IsSoundFrom tables next rows = AreSound tables rows.next rows.tables × (next ≤ rows.next)

-- one operation
pub one_applied : (tables : List TableDef) (rows : Rows) (next : ℕ) (op : RowOp) → AreSound tables rows.next rows.tables → IsSoundOp tables next op → IsSoundFrom tables rows.next (apply rows op)
one_applied tables rows next (Insert place row) sound (table, at, fits) = (added_sound tables rows place row table sound at fits, omega arith)
one_applied tables rows next (Update place (Base genid) old row) sound (table, at, fits, below) =
    (added_sound tables (taken rows place genid) place row table (taken_sound tables rows place genid table sound at) at fits, omega arith)
one_applied tables rows next (Update place (Own write) old row) sound (table, at, fits, below) = absurd below
one_applied tables rows next (Delete place (Base genid) old) sound (table, at, below) = (taken_sound tables rows place genid table sound at, omega arith)
one_applied tables rows next (Delete place (Own write) old) sound (table, at, below) = absurd below

still_later : (a b c : ℕ) → a ≤ b → b ≤ c → a ≤ c
still_later a b c first second = omega arith

-- operations that are sound at any next genid
pub applied_sound : (tables : List TableDef) (rows : Rows) (next : ℕ) (ops : List RowOp) → AreSound tables rows.next rows.tables → AllByRecursion (IsSoundOp tables next) ops
    → AreSound tables (apply_all rows ops).next (apply_all rows ops).tables × (rows.next ≤ (apply_all rows ops).next)
applied_sound tables rows next [] sound all = (sound, omega arith)
applied_sound tables rows next (op ∷ ops) sound all =
    let one : IsSoundFrom tables rows.next (apply rows op) = one_applied tables rows next op sound all.0 in
    let rest : IsSoundFrom tables (apply rows op).next (apply_all (apply rows op) ops) = applied_sound tables (apply rows op) next ops one.0 all.1 in
    (rest.0, still_later rows.next (apply rows op).next (apply_all (apply rows op) ops).next one.1 rest.1)

-- sound operations keep sound rows sound, and draw genids upwards
pub sound_applied : (tables : List TableDef) (rows : Rows) (ops : List RowOp) → AreSound tables rows.next rows.tables → AllByRecursion (IsSoundOp tables rows.next) ops
    → AreSound tables (apply_all rows ops).next (apply_all rows ops).tables × (rows.next ≤ (apply_all rows ops).next)
sound_applied tables rows ops sound all = applied_sound tables rows rows.next ops sound all

-- ---- with texts of UTF-8

-- kept operations keep rows kept, and draw genids upwards
pub kept_applied : (tables : List TableDef) (rows : Rows) (ops : List RowOp) → AreKept tables rows.next rows.tables → AllByRecursion (IsKeptOp tables rows.next) ops
    → AreKept tables (apply_all rows ops).next (apply_all rows ops).tables × (rows.next ≤ (apply_all rows ops).next)
kept_applied tables rows ops kept all =
    let sound : AreSound tables (apply_all rows ops).next (apply_all rows ops).tables × (rows.next ≤ (apply_all rows ops).next) = sound_applied tables rows ops kept.0 (kept_sound tables rows.next ops all) in
    ((sound.0, apply_all_rows rows ops kept.1 (kept_told tables rows.next ops all)), sound.1)
