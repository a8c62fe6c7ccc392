-- A table's versions are taken out of the list of tables, changed and put back.
use Rattle.std.proofs.Common.{◌≡◌, ℕ, ◌+◌, ◌<◌, ◌++◌, ◌∷◌, [], List, length, refl, sym, ◌∙◌, ap, subst}
use Rattle.std.specs.Prelude.{slice_set, slice_get, unwrap_or, Some}
use Rattle.std.proofs.Math.ListN.{length-set}
use Rattle.std.proofs.lemmas.List.{set-set, set-get_or, get_or-set_same}
use Rattle.std.proofs.lemmas.Option.{get_or_from_slice_get, slice_get-get_or}
use Rattle.cdb_values.specs.Rows.{Rows, without, taken, added, version}
use Rattle.cdb_values.specs.declared.rows.Version.{Version}
use Rattle.cdb_values.specs.declared.values.Value.{Value}

-- what is put back twice is what was put last
pub placed : (xs ys zs : List (List Version)) (i : ℕ) (a b : List Version) → ys ≡ slice_set xs i a → zs ≡ slice_set ys i b → zs ≡ slice_set xs i b
placed xs ys zs i a b first second = second ∙ ap (λ l. slice_set l i b) first ∙ set-set xs i a b

-- putting back what was there changes nothing
pub unplaced : (xs ys zs : List (List Version)) (i : ℕ) (a b : List Version) → slice_get xs i ≡ Some b → ys ≡ slice_set xs i a → zs ≡ slice_set ys i b → zs ≡ xs
unplaced xs ys zs i a b was first second =
    placed xs ys zs i a b first second ∙ subst (λ v. slice_set xs i v ≡ xs) (get_or_from_slice_get xs i b b was) (set-get_or xs i b)

-- what was put at a place stands there
pub get_placed : (xs : List (List Version)) (i : ℕ) (a : List Version) → i < length xs → slice_get (slice_set xs i a) i ≡ Some a
get_placed xs i a within = slice_get-get_or (slice_set xs i a) i a (rw (length-set xs i a) within) ∙ ap Some (get_or-set_same xs i a a within)

-- the rows with these tables and this next genid
abbrev pub rows_of : List (List Version) → ℕ → Rows
rows_of tables next = record { tables = tables; next = next }

-- the versions that were found at a place
pub found : (xs : List (List Version)) (i : ℕ) (vs : List Version) → slice_get xs i ≡ Some vs → unwrap_or (slice_get xs i) [] ≡ vs
found xs i vs was = ap (λ o. unwrap_or o []) was

pub added_is : (rows : Rows) (xs ys zs : List (List Version)) (next genid i : ℕ) (vs new : List Version) (row : List Value) → rows_of xs next ≡ rows
    → genid ≡ rows.next → slice_get xs i ≡ Some vs → ys ≡ slice_set xs i [] → zs ≡ slice_set ys i new → new ≡ vs ++ version genid row ∷ []
    → rows_of zs (genid + 1) ≡ added rows i row
added_is rows xs ys zs next genid i vs new row stands fresh was first second is =
    let P : Rows → Type 0 = λ r. genid ≡ r.next → rows_of zs (genid + 1) ≡ added r i row in
    subst P stands (λ g.
    let e : new ≡ unwrap_or (slice_get xs i) [] ++ version next row ∷ [] = is ∙ (λ j. sym (found xs i vs was) j ++ version (g j) row ∷ []) in
    let p : zs ≡ slice_set xs i (unwrap_or (slice_get xs i) [] ++ version next row ∷ []) = placed xs ys zs i [] new first second ∙ ap (λ v. slice_set xs i v) e in
    λ j. rows_of (p j) (g j + 1)) fresh

pub taken_is : (rows : Rows) (xs ys zs : List (List Version)) (next genid i : ℕ) (vs new : List Version) → rows_of xs next ≡ rows
    → slice_get xs i ≡ Some vs → ys ≡ slice_set xs i [] → zs ≡ slice_set ys i new → new ≡ without genid vs → rows_of zs next ≡ taken rows i genid
taken_is rows xs ys zs next genid i vs new stands was first second is =
    let P : Rows → Type 0 = λ r. rows_of zs next ≡ taken r i genid in
    let p : zs ≡ slice_set xs i (without genid (unwrap_or (slice_get xs i) [])) =
    placed xs ys zs i [] new first second ∙ ap (λ v. slice_set xs i v) (is ∙ ap (λ v. without genid v) (sym (found xs i vs was))) in
    subst P stands (ap (λ l. rows_of l next) p)

-- an update: the version is taken away, and then the row is added
pub replaced_is : (rows : Rows) (xs ys zs : List (List Version)) (next genid target i : ℕ) (vs new : List Version) (row : List Value) → rows_of xs next ≡ rows
    → i < length xs → genid ≡ rows.next → slice_get xs i ≡ Some vs → ys ≡ slice_set xs i [] → zs ≡ slice_set ys i new
    → new ≡ without target vs ++ version genid row ∷ [] → rows_of zs (genid + 1) ≡ added (taken rows i target) i row
replaced_is rows xs ys zs next genid target i vs new row stands within fresh was first second is =
    let ts : List (List Version) = slice_set xs i (without target (unwrap_or (slice_get xs i) [])) in
    let P : Rows → Type 0 = λ r. rows_of ts next ≡ taken r i target in
    let Q : Rows → Type 0 = λ r. genid ≡ r.next in
    let found_now : slice_get ts i ≡ Some (without target vs) = get_placed xs i (without target (unwrap_or (slice_get xs i) [])) within ∙ ap (λ v. Some (without target v)) (found xs i vs was) in
    let over : slice_set ys i new ≡ slice_set (slice_set ts i []) i new =
    ap (λ l. slice_set l i new) first ∙ set-set xs i [] new
    ∙ sym (ap (λ l. slice_set l i new) (set-set xs i (without target (unwrap_or (slice_get xs i) [])) []) ∙ set-set xs i [] new) in
    added_is (taken rows i target) ts (slice_set ts i []) zs next genid i (without target vs) new row (subst P stands refl) fresh found_now refl (second ∙ over) is
