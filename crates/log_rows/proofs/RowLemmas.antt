-- Changes: what they make of the rows, and which versions they leave.
use Rattle.std.proofs.Common.{◌≡◌, ℕ, zero, suc, ◌==◌, Bool, true, false, not, if◌then◌else◌, inl, inr, List, [], ◌∷◌, ◌++◌, unwrap_or, refl, sym, ap, ◌∙◌, subst}
use Rattle.std.proofs.lemmas.Bool.{ne_eqb, false≢true}
use Rattle.std.specs.List.{slice_get, slice_set, filter}
use Rattle.cdb_values.specs.Changes.{changes_of, genids_taken}
use Rattle.cdb_values.specs.Rows.{Rows, version, versions_of, without, taken, added, apply_all}
use Rattle.cdb_values.specs.declared.rows.Change.{Change}
use Rattle.cdb_values.specs.declared.rows.Change.TheVariants as change
use Rattle.cdb_values.specs.declared.rows.RowOp.{RowOp}
use Rattle.cdb_values.specs.declared.rows.RowOp.TheVariants.{Insert, Update, Delete}
use Rattle.cdb_values.specs.declared.rows.RowRef.TheVariants.{Base, Own}
use Rattle.cdb_values.specs.declared.rows.Version.{Version}
use Rattle.cdb_values.specs.declared.values.Value.{Value}
use Rattle.table_store.specs.Listings.{IsAmong}
use Rattle.table_store.proofs.AmongLaws.{among_left}
use Rattle.log_rows.specs.Applied.{placed, apply_changes}
use Rattle.log_rows.specs.History.{IsUntaken}

pub changes_make : (rows : Rows) (ops : List RowOp) → apply_changes rows (changes_of ops rows.next) ≡ apply_all rows ops
changes_make rows [] = refl
changes_make rows (Insert table row ∷ ops) = changes_make (added rows table row) ops
changes_make rows (Update table (Base genid) old row ∷ ops) = changes_make (added (taken rows table genid) table row) ops
changes_make rows (Update table (Own write) old row ∷ ops) = changes_make rows ops
changes_make rows (Delete table (Base genid) old ∷ ops) = changes_make (taken rows table genid) ops
changes_make rows (Delete table (Own write) old ∷ ops) = changes_make rows ops

among_filter : {A : Type 0} (test : A → Bool) (x : A) (xs : List A) → IsAmong x xs → test x ≡ true → IsAmong x (filter test xs)
among_filter test x [] h e = absurd h
among_filter test x (y ∷ ys) h e = go (test y) refl h (λ i. among_filter test x ys i e)
  where
    go : (t : Bool) → test y ≡ t → IsAmong x (y ∷ ys) → (IsAmong x ys → IsAmong x (filter test ys)) → IsAmong x (if t then y ∷ filter test ys else filter test ys)
    go true k (inl same) more = inl same
    go true k (inr i) more = inr (more i)
    go false k (inl same) more = absurd (false≢true (sym k ∙ (ap test (sym same) ∙ e)))
    go false k (inr i) more = more i

among_set : {A : Type 0} (xs : List (List A)) (i j : ℕ) (ws : List A) (x : A) → (i ≡ j → IsAmong x ws)
    → IsAmong x (unwrap_or (slice_get xs j) []) → IsAmong x (unwrap_or (slice_get (slice_set xs i ws) j) [])
among_set [] zero j ws x f h = h
among_set [] (suc i) j ws x f h = h
among_set (y ∷ ys) zero zero ws x f h = f refl
among_set (y ∷ ys) zero (suc j) ws x f h = h
among_set (y ∷ ys) (suc i) zero ws x f h = h
among_set (y ∷ ys) (suc i) (suc j) ws x f h = among_set ys i j ws x (λ e. f (ap (λ (n : ℕ). suc n) e)) h

placed_stays : (rows : Rows) (place genid : ℕ) (row : List Value) (table : ℕ) (v : Version) → IsAmong v (versions_of rows table)
    → IsAmong v (versions_of (placed rows place genid row) table)
placed_stays rows place genid row table v h =
    among_set rows.tables place table (versions_of rows place ++ version genid row ∷ []) v
    (λ e. among_left v (versions_of rows place) (version genid row ∷ []) (subst (λ (n : ℕ). IsAmong v (versions_of rows n)) (sym e) h)) h

taken_stays : (rows : Rows) (place genid table : ℕ) (v : Version) → (place ≡ table → genid ≡ v.genid → ⊥) → IsAmong v (versions_of rows table)
    → IsAmong v (versions_of (taken rows place genid) table)
taken_stays rows place genid table v off h =
    among_set rows.tables place table (without genid (versions_of rows place)) v
    (λ e. among_filter (λ (w : Version). not (w.genid == genid)) v (versions_of rows place) (subst (λ (n : ℕ). IsAmong v (versions_of rows n)) (sym e) h)
    (ap not (ne_eqb v.genid genid (λ same. off e (sym same))))) h

pub changes_stay : (changes : List Change) (rows : Rows) (table : ℕ) (v : Version) → IsUntaken table v.genid (genids_taken changes)
    → IsAmong v (versions_of rows table) → IsAmong v (versions_of (apply_changes rows changes) table)
changes_stay [] rows table v off h = h
changes_stay (change.Insert place genid row ∷ cs) rows table v off h =
    changes_stay cs (placed rows place genid row) table v off (placed_stays rows place genid row table v h)
changes_stay (change.Update place old_genid old genid row ∷ cs) rows table v off h =
    changes_stay cs (placed (taken rows place old_genid) place genid row) table v off.1
    (placed_stays (taken rows place old_genid) place genid row table v (taken_stays rows place old_genid table v off.0 h))
changes_stay (change.Delete place old_genid old ∷ cs) rows table v off h =
    changes_stay cs (taken rows place old_genid) table v off.1 (taken_stays rows place old_genid table v off.0 h)
