-- What operations make of rows, and what they change.
use Rattle.std.proofs.Common.{◌≡◌, ◌∙◌, ℕ, ◌+◌, ◌++◌, ◌∷◌, [], List, append_assoc, refl, sym, ap}
use Rattle.std.specs.Prelude.{slice_get, slice_set, unwrap_or, Option, Some}
use Rattle.std.proofs.lemmas.List.{set-set}
use Rattle.cdb_values.specs.Changes.{changes_of}
use Rattle.cdb_values.specs.Rows.{Rows, added, apply, taken, version, without}
use Rattle.cdb_values.specs.declared.rows.Change.{Change}
use Rattle.cdb_values.specs.declared.rows.RowOp.{RowOp}
use Rattle.cdb_values.specs.declared.rows.RowOp.TheVariants.{Insert, Update, Delete}
use Rattle.cdb_values.specs.declared.rows.RowRef.TheVariants.{Base, Own}
use Rattle.cdb_values.specs.declared.rows.Version.{Version}
use Rattle.cdb_values.specs.declared.values.Value.{Value}

-- what an operation changes, before the others
changes_first : (rows : Rows) (op : RowOp) (more : List RowOp) → changes_of (op ∷ more) rows.next ≡ changes_of (op ∷ []) rows.next ++ changes_of more (apply rows op).next
changes_first rows (Insert table row) more = refl
changes_first rows (Update table (Base genid) old row) more = refl
changes_first rows (Update table (Own write) old row) more = refl
changes_first rows (Delete table (Base genid) old) more = refl
changes_first rows (Delete table (Own write) old) more = refl

-- changes so far, with those of one operation more
pub changes_then : (old new changes : List Change) (rows rows' : Rows) (op : RowOp) (more : List RowOp) → new ≡ old ++ changes_of (op ∷ []) rows.next → rows' ≡ apply rows op →
    old ++ changes_of (op ∷ more) rows.next ≡ changes → new ++ changes_of more rows'.next ≡ changes
changes_then old new changes rows rows' op more is at whole =
    ap (λ (r : Rows). new ++ changes_of more r.next) at
    ∙ ap (λ (cs : List Change). cs ++ changes_of more (apply rows op).next) is
    ∙ append_assoc old (changes_of (op ∷ []) rows.next) (changes_of more (apply rows op).next)
    ∙ ap (λ (cs : List Change). old ++ cs) (sym (changes_first rows op more))
    ∙ whole

-- ---- the versions of a table are taken out, changed and put back

abbrev rows_by : List (List Version) → ℕ → Rows
rows_by tables next = record { tables = tables; next = next }

there : (xs : List (List Version)) (i : ℕ) (vs : List Version) → slice_get xs i ≡ Some vs → vs ≡ unwrap_or (slice_get xs i) []
there xs i vs was = sym (ap (λ (o : Option (List Version)). unwrap_or o []) was)

put_back : (xs ys zs : List (List Version)) (i : ℕ) (new : List Version) → ys ≡ slice_set xs i [] → zs ≡ slice_set ys i new → zs ≡ slice_set xs i new
put_back xs ys zs i new out back = back ∙ ap (λ (l : List (List Version)). slice_set l i new) out ∙ set-set xs i [] new

pub added_is : (xs ys zs : List (List Version)) (next genid later i : ℕ) (vs new : List Version) (row copy : List Value) → genid ≡ next → later ≡ genid + 1 → copy ≡ row → slice_get xs i ≡ Some vs →
    ys ≡ slice_set xs i [] → new ≡ vs ++ version genid copy ∷ [] → zs ≡ slice_set ys i new → rows_by zs later ≡ added (rows_by xs next) i row
added_is xs ys zs next genid later i vs new row copy fresh after same was out is back =
    let tables : zs ≡ slice_set xs i (unwrap_or (slice_get xs i) [] ++ version next row ∷ []) =
    put_back xs ys zs i new out back ∙ ap (λ (l : List Version). slice_set xs i l) (is ∙ (λ j. there xs i vs was j ++ version (fresh j) (same j) ∷ [])) in
    let last : later ≡ next + 1 = after ∙ ap (λ (n : ℕ). n + 1) fresh in
    λ j. rows_by (tables j) (last j)

pub taken_is : (xs ys zs : List (List Version)) (next genid i : ℕ) (vs new : List Version) → slice_get xs i ≡ Some vs →
    ys ≡ slice_set xs i [] → new ≡ without genid vs → zs ≡ slice_set ys i new → rows_by zs next ≡ taken (rows_by xs next) i genid
taken_is xs ys zs next genid i vs new was out is back =
    ap (λ (l : List (List Version)). rows_by l next) (put_back xs ys zs i new out back ∙ ap (λ (l : List Version). slice_set xs i l) (is ∙ ap (without genid) (there xs i vs was)))
