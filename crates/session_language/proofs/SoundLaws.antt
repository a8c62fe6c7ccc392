-- Operations that name their targets' rows rightly go on to do so, and touch what their changes touch.
use Rattle.std.proofs.Common.{◌≡◌, ℕ, zero, suc, ◌+◌, ◌<◌, List, [], ◌∷◌, ◌++◌, refl, sym, ap, ◌∙◌, Bool, true, false, ◌&&◌, ◌||◌, eqb, unwrap_or, arith}
use Rattle.std.proofs.lemmas.Bool.{or_parts, cond_both, eqb-true}
use Rattle.std.specs.List.{AllByRecursion, filter, list_any, slice_get, slice_set}
use Rattle.cdb_values.specs.Changes.{changes_of}
use Rattle.cdb_values.specs.Rows.{Rows, no_rows, versions_of, without, taken, added, apply, apply_all, version}
use Rattle.cdb_values.specs.declared.items.Interval.{Interval}
use Rattle.cdb_values.specs.declared.rows.RowOp.{RowOp}
use Rattle.cdb_values.specs.declared.rows.RowOp.TheVariants as op
use Rattle.cdb_values.specs.declared.rows.RowRef.{RowRef}
use Rattle.cdb_values.specs.declared.rows.RowRef.TheVariants.{Base, Own}
use Rattle.cdb_values.specs.declared.rows.Version.{Version}
use Rattle.cdb_values.specs.declared.tables.TableDef.{TableDef}
use Rattle.cdb_values.specs.declared.values.Value.{Value}
use Rattle.session_language.specs.Intervals.{lies, lies_in, changes_touch, HoldsTheSame}
use Rattle.session_language.specs.Serial.{IsRowOf, IsTrueTarget, IsTrueOp, IsSound}
use Rattle.session_language.proofs.EachLaws.{all_append, all_map}
use Rattle.session_language.proofs.RowsLaws.{leaves, touches, untouched_stays}

pub all_filter : {A : Type 0} (P : A → Type 0) (p : A → Bool) (xs : List A) → AllByRecursion P xs → AllByRecursion P (filter p xs)
all_filter P p [] a = tt
all_filter P p (x ∷ xs) a = cond_both (p x) (x ∷ filter p xs) (filter p xs) (AllByRecursion P) (λ _. (a.0, all_filter P p xs a.1)) (λ _. all_filter P p xs a.1)

pub set_all : (P : Version → Type 0) (tables : List (List Version)) (t k : ℕ) (new : List Version) → (t ≡ k → AllByRecursion P (unwrap_or (slice_get tables t) []) → AllByRecursion P new) →
    AllByRecursion P (unwrap_or (slice_get tables k) []) → AllByRecursion P (unwrap_or (slice_get (slice_set tables t new) k) [])
set_all P [] t k new gives a = a
set_all P (vs ∷ tables) zero zero new gives a = gives refl a
set_all P (vs ∷ tables) zero (suc k) new gives a = a
set_all P (vs ∷ tables) (suc t) zero new gives a = a
set_all P (vs ∷ tables) (suc t) (suc k) new gives a = set_all P tables t k new (λ is. gives (ap suc is)) a

-- what holds of each version of a table holds after an operation, where it holds of the version that is added
pub taken_all : (P : Version → Type 0) (rows : Rows) (t genid k : ℕ) → AllByRecursion P (versions_of rows k) → AllByRecursion P (versions_of (taken rows t genid) k)
taken_all P rows t genid k a = set_all P rows.tables t k (without genid (versions_of rows t)) (λ _ a. all_filter P _ (versions_of rows t) a) a

pub added_all : (P : Version → Type 0) (rows : Rows) (t : ℕ) (row : List Value) (k : ℕ) → (t ≡ k → P (version rows.next row)) → AllByRecursion P (versions_of rows k) → AllByRecursion P (versions_of (added rows t row) k)
added_all P rows t row k new a = set_all P rows.tables t k (versions_of rows t ++ version rows.next row ∷ []) (λ is a. all_append P (versions_of rows t) (version rows.next row ∷ []) a (new is, tt)) a

pub taken_keeps : (rows : Rows) (t g table genid : ℕ) (old : List Value) → IsRowOf rows table genid old → IsRowOf (taken rows t g) table genid old
taken_keeps rows t g table genid old was = record { below = was.below; same = taken_all (λ v. v.genid ≡ genid → v.row ≡ old) rows t g table was.same }

pub added_keeps : (rows : Rows) (t : ℕ) (row : List Value) (table genid : ℕ) (old : List Value) → IsRowOf rows table genid old → IsRowOf (added rows t row) table genid old
added_keeps rows t row table genid old was =
    let below : genid < rows.next = was.below in
    record {
      below = omega (arith, below);
      same = added_all (λ v. v.genid ≡ genid → v.row ≡ old) rows t row table (λ _ is. absurd (omega (arith, below, is))) was.same;
    }

pub keeps : (rows : Rows) (o : RowOp) (table genid : ℕ) (old : List Value) → IsRowOf rows table genid old → IsRowOf (apply rows o) table genid old
keeps rows (op.Insert t row) table genid old was = added_keeps rows t row table genid old was
keeps rows (op.Update t (Base g) o row) table genid old was = added_keeps (taken rows t g) t row table genid old (taken_keeps rows t g table genid old was)
keeps rows (op.Update t (Own w) o row) table genid old was = was
keeps rows (op.Delete t (Base g) o) table genid old was = taken_keeps rows t g table genid old was
keeps rows (op.Delete t (Own w) o) table genid old was = was

-- an operation that names its target's row rightly does so after each other one
pub target_keeps : (rows : Rows) (o : RowOp) (table : ℕ) (target : RowRef) (old : List Value) → IsTrueTarget rows table target old → IsTrueTarget (apply rows o) table target old
target_keeps rows o table (Base genid) old was = keeps rows o table genid old was
target_keeps rows o table (Own write) old was = tt

pub op_keeps : (rows : Rows) (o p : RowOp) → IsTrueOp rows p → IsTrueOp (apply rows o) p
op_keeps rows o (op.Insert table row) was = tt
op_keeps rows o (op.Update table target old row) was = target_keeps rows o table target old was
op_keeps rows o (op.Delete table target old) was = target_keeps rows o table target old was

pub ops_keep : (rows : Rows) (os ps : List RowOp) → AllByRecursion (IsTrueOp rows) ps → AllByRecursion (IsTrueOp (apply_all rows os)) ps
ops_keep rows [] ps was = was
ops_keep rows (o ∷ os) ps was = ops_keep (apply rows o) os ps (all_map (IsTrueOp rows) (IsTrueOp (apply rows o)) (op_keeps rows o) ps was)

-- sound rows stay so
taken_sound : (rows : Rows) (t g : ℕ) → IsSound rows → IsSound (taken rows t g)
taken_sound rows t g sound table =
    all_map (λ v. IsRowOf rows table v.genid v.row) (λ v. IsRowOf (taken rows t g) table v.genid v.row) (λ v. taken_keeps rows t g table v.genid v.row) (versions_of (taken rows t g) table)
    (taken_all (λ v. IsRowOf rows table v.genid v.row) rows t g table (sound table))

pub new_same : (rows : Rows) (table : ℕ) (row : List Value) (vs : List Version) → AllByRecursion (λ v. IsRowOf rows table v.genid v.row) vs → AllByRecursion (λ v. v.genid ≡ rows.next → v.row ≡ row) vs
new_same rows table row [] a = tt
new_same rows table row (v ∷ vs) a = let below : v.genid < rows.next = a.0.below in (λ is. absurd (omega (arith, below, is)), new_same rows table row vs a.1)

added_sound : (rows : Rows) (t : ℕ) (row : List Value) → IsSound rows → IsSound (added rows t row)
added_sound rows t row sound table =
    added_all (λ v. IsRowOf (added rows t row) table v.genid v.row) rows t row table
    (λ is. record { below = omega arith; same = added_all (λ v. v.genid ≡ rows.next → v.row ≡ row) rows t row table (λ _ _. refl) (new_same rows table row (versions_of rows table) (sound table)) })
    (all_map (λ v. IsRowOf rows table v.genid v.row) (λ v. IsRowOf (added rows t row) table v.genid v.row) (λ v. added_keeps rows t row table v.genid v.row) (versions_of rows table) (sound table))

sound_step : (rows : Rows) (o : RowOp) → IsSound rows → IsSound (apply rows o)
sound_step rows (op.Insert t row) sound = added_sound rows t row sound
sound_step rows (op.Update t (Base g) o row) sound = added_sound (taken rows t g) t row (taken_sound rows t g sound)
sound_step rows (op.Update t (Own w) o row) sound = sound
sound_step rows (op.Delete t (Base g) o) sound = taken_sound rows t g sound
sound_step rows (op.Delete t (Own w) o) sound = sound

pub sound_stays : (rows : Rows) (os : List RowOp) → IsSound rows → IsSound (apply_all rows os)
sound_stays rows [] sound = sound
sound_stays rows (o ∷ os) sound = sound_stays (apply rows o) os (sound_step rows o sound)

-- a version that does not lie in a interval by the row that is named does not leave it
none_leaves : (tables : List TableDef) (interval : Interval) (genid : ℕ) (old : List Value) (vs : List Version) → AllByRecursion (λ v. v.genid ≡ genid → v.row ≡ old) vs → lies tables interval old ≡ false →
    list_any (λ v. eqb v.genid genid && lies tables interval v.row) vs ≡ false
none_leaves tables interval genid old [] a off = refl
none_leaves tables interval genid old (v ∷ vs) a off =
    ap (λ b. b || list_any (λ v. eqb v.genid genid && lies tables interval v.row) vs) (here (eqb v.genid genid) refl) ∙ none_leaves tables interval genid old vs a.1 off
  where
    here : (b : Bool) → eqb v.genid genid ≡ b → (eqb v.genid genid && lies tables interval v.row) ≡ false
    here false is = ap (λ b. b && lies tables interval v.row) is
    here true is =
        ap (λ b. b && lies tables interval v.row) is ∙ ap (lies tables interval) (a.0 (eqb-true v.genid genid is)) ∙ off

leaves_not : (tables : List TableDef) (interval : Interval) (rows : Rows) (table genid : ℕ) (old : List Value) → IsRowOf rows table genid old → lies_in tables interval table old ≡ false → leaves tables interval rows table genid ≡ false
leaves_not tables interval rows table genid old was off = step (eqb table interval.table) refl
  where
    step : (b : Bool) → eqb table interval.table ≡ b → leaves tables interval rows table genid ≡ false
    step false is = ap (λ b. b && list_any (λ v. eqb v.genid genid && lies tables interval v.row) (versions_of rows table)) is
    step true is =
        ap (λ b. b && list_any (λ v. eqb v.genid genid && lies tables interval v.row) (versions_of rows table)) is
        ∙ none_leaves tables interval genid old (versions_of rows table) was.same (sym (ap (λ b. b && lies tables interval old) is) ∙ off)

pub neither : (a b : Bool) → a ≡ false → b ≡ false → (a || b) ≡ false
neither a b x y = ap (λ c. c || b) x ∙ y

-- operations whose changes touch no interval by the rows that they name touch none
pub touches_not : (tables : List TableDef) (interval : Interval) (rows : Rows) (os : List RowOp) → AllByRecursion (IsTrueOp rows) os → changes_touch tables interval (changes_of os rows.next) ≡ false → touches tables interval rows os ≡ false
touches_not tables interval rows [] all is = refl
touches_not tables interval rows (o ∷ os) all is = one o all.0 is (touches_not tables interval (apply rows o) os (all_map (IsTrueOp rows) (IsTrueOp (apply rows o)) (op_keeps rows o) os all.1))
  where
    one : (o : RowOp) → IsTrueOp rows o → changes_touch tables interval (changes_of (o ∷ os) rows.next) ≡ false →
        (changes_touch tables interval (changes_of os (apply rows o).next) ≡ false → touches tables interval (apply rows o) os ≡ false) → touches tables interval rows (o ∷ os) ≡ false
    one (op.Insert table row) right is rest =
        let parts = or_parts (lies_in tables interval table row) (changes_touch tables interval (changes_of os (rows.next + 1))) is in
        neither (lies_in tables interval table row) (touches tables interval (added rows table row) os) parts.0 (rest parts.1)
    one (op.Update table (Base genid) old row) right is rest =
        let parts = or_parts (lies_in tables interval table old || lies_in tables interval table row) (changes_touch tables interval (changes_of os (rows.next + 1))) is in
        let here = or_parts (lies_in tables interval table old) (lies_in tables interval table row) parts.0 in
        neither (leaves tables interval rows table genid || lies_in tables interval table row) (touches tables interval (added (taken rows table genid) table row) os)
        (neither (leaves tables interval rows table genid) (lies_in tables interval table row) (leaves_not tables interval rows table genid old right here.0) here.1) (rest parts.1)
    one (op.Update table (Own write) old row) right is rest = rest is
    one (op.Delete table (Base genid) old) right is rest =
        let parts = or_parts (lies_in tables interval table old) (changes_touch tables interval (changes_of os rows.next)) is in
        neither (leaves tables interval rows table genid) (touches tables interval (taken rows table genid) os) (leaves_not tables interval rows table genid old right parts.0) (rest parts.1)
    one (op.Delete table (Own write) old) right is rest = rest is

pub no_rows_sound : (tables : List TableDef) → IsSound (no_rows tables)
no_rows_sound tables table = none_there tables table
  where
    none_there : (ts : List TableDef) (k : ℕ) → AllByRecursion (λ v. IsRowOf (no_rows tables) table v.genid v.row) (unwrap_or (slice_get (no_rows ts).tables k) [])
    none_there [] k = tt
    none_there (t ∷ ts) zero = tt
    none_there (t ∷ ts) (suc k) = none_there ts k

-- what an interval holds stays where the changes of operations do not touch it
pub unchanged_stays : (tables : List TableDef) (interval : Interval) (rows : Rows) (ops : List RowOp) → AllByRecursion (IsTrueOp rows) ops →
    changes_touch tables interval (changes_of ops rows.next) ≡ false → HoldsTheSame tables rows (apply_all rows ops) interval
unchanged_stays tables interval rows ops all off = untouched_stays tables interval rows ops (touches_not tables interval rows ops all off)
