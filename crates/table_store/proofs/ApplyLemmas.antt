-- The versions of a table after operations: those that stay, and then those that they wrote.
use Rattle.std.proofs.Common.{◌≡◌, ℕ, zero, suc, ◌+◌, ◌≤◌, ◌<◌, ◌==◌, Bool, true, false, not, if◌then◌else◌, List, [], ◌∷◌, ◌++◌, length, unwrap_or, refl, sym, ap, ◌∙◌, subst, arith, append_assoc}
use Rattle.std.proofs.lemmas.List.{length-set}
use Rattle.std.proofs.lemmas.Bool.{eqb-true, false≢true}
use Rattle.std.specs.List.{AllByRecursion, slice_get, slice_set, filter}
use Rattle.cdb_values.specs.Rows.{Rows, versions_of, version, without, taken, added, apply, apply_all}
use Rattle.cdb_values.specs.declared.rows.RowOp.{RowOp}
use Rattle.cdb_values.specs.declared.rows.RowOp.TheVariants.{Insert, Update, Delete}
use Rattle.cdb_values.specs.declared.rows.RowRef.TheVariants.{Base, Own}
use Rattle.cdb_values.specs.declared.rows.Version.{Version}
use Rattle.cdb_values.specs.declared.values.Value.{Value}
use Rattle.table_store.specs.Operations.{gone, born}
use Rattle.table_store.proofs.ListingLaws.{without_all, differs}

get_here : {A : Type 0} (xs : List (List A)) (i : ℕ) (x : List A) → i < length xs → unwrap_or (slice_get (slice_set xs i x) i) [] ≡ x
get_here [] i x h = absurd (none i h)
  where
    none : (i : ℕ) → i < 0 → ⊥
    none i h = omega arith
get_here (y ∷ ys) zero x h = refl
get_here (y ∷ ys) (suc i) x h = get_here ys i x (omega arith)

get_beside : {A : Type 0} (xs : List (List A)) (i j : ℕ) (x : List A) → (i ≡ j → ⊥) → unwrap_or (slice_get (slice_set xs i x) j) [] ≡ unwrap_or (slice_get xs j) []
get_beside [] zero j x h = refl
get_beside [] (suc i) j x h = refl
get_beside (y ∷ ys) zero zero x h = absurd (h refl)
get_beside (y ∷ ys) zero (suc j) x h = refl
get_beside (y ∷ ys) (suc i) zero x h = refl
get_beside (y ∷ ys) (suc i) (suc j) x h = get_beside ys i j x (λ e. h (ap (λ (n : ℕ). suc n) e))

not_same : (a b : ℕ) → (a == b) ≡ false → a ≡ b → ⊥
not_same a b h e = grind arith

-- a version that stays stays at the end
withouts_end : (gs vs : List Version) (v : Version) → AllByRecursion (λ g. g.genid < v.genid) gs → without_all gs (vs ++ v ∷ []) ≡ without_all gs vs ++ v ∷ []
withouts_end [] vs v h = refl
withouts_end (g ∷ gs) vs v h = ap (without_all gs) (stays vs) ∙ withouts_end gs (without g.genid vs) v h.1
  where
    other : (m n : ℕ) → m < n → n ≡ m → ⊥
    other m n h e = omega arith

    stays : (ws : List Version) → without g.genid (ws ++ v ∷ []) ≡ without g.genid ws ++ v ∷ []
    stays [] = ap (λ (t : Bool). if t then v ∷ [] else []) (differs v.genid g.genid (other g.genid v.genid h.0))
    stays (w ∷ ws) = go (not (w.genid == g.genid)) (stays ws)
      where
        go : (t : Bool) → without g.genid (ws ++ v ∷ []) ≡ without g.genid ws ++ v ∷ []
            → (if t then w ∷ without g.genid (ws ++ v ∷ []) else without g.genid (ws ++ v ∷ [])) ≡ (if t then w ∷ without g.genid ws else without g.genid ws) ++ v ∷ []
        go true e = ap (λ (l : List Version). w ∷ l) e
        go false e = e

all_below : (gs : List Version) (m n : ℕ) → m ≤ n → AllByRecursion (λ (g : Version). g.genid < m) gs → AllByRecursion (λ (g : Version). g.genid < n) gs
all_below [] m n h a = tt
all_below (g ∷ gs) m n h a = (let here : g.genid < m = a.0 in omega arith, all_below gs m n h a.1)

append_nil : (vs : List Version) → vs ++ [] ≡ vs
append_nil [] = refl
append_nil (v ∷ vs) = ap (λ (l : List Version). v ∷ l) (append_nil vs)

-- one version more, and then the others
one_more : (gs vs bs : List Version) (v : Version) → AllByRecursion (λ g. g.genid < v.genid) gs → without_all gs (vs ++ v ∷ []) ++ bs ≡ without_all gs vs ++ v ∷ bs
one_more gs vs bs v h = ap (λ (l : List Version). l ++ bs) (withouts_end gs vs v h) ∙ append_assoc (without_all gs vs) (v ∷ []) bs

pub after_all : (ops : List RowOp) (rows : Rows) (table : ℕ) → table < length rows.tables → AllByRecursion (λ g. g.genid < rows.next) (gone table ops)
    → versions_of (apply_all rows ops) table ≡ without_all (gone table ops) (versions_of rows table) ++ born table rows.next ops
after_all [] rows table known below = sym (append_nil (versions_of rows table))
after_all (Insert place row ∷ ops) rows table known below = go (place == table) refl (after_all ops (added rows place row) table)
  where
    now : List Version
    now = versions_of rows place ++ version rows.next row ∷ []

    long : table < length (slice_set rows.tables place now)
    long = subst (λ (n : ℕ). table < n) (sym (length-set rows.tables place now)) known

    less : AllByRecursion (λ (g : Version). g.genid < rows.next + 1) (gone table ops)
    less = all_below (gone table ops) rows.next (rows.next + 1) (omega arith) below

    go : (t : Bool) → (place == table) ≡ t
        → (table < length (slice_set rows.tables place now) → AllByRecursion (λ (g : Version). g.genid < rows.next + 1) (gone table ops)
        → versions_of (apply_all (added rows place row) ops) table ≡ without_all (gone table ops) (versions_of (added rows place row) table) ++ born table (rows.next + 1) ops)
        → versions_of (apply_all (added rows place row) ops) table
        ≡ without_all (gone table ops) (versions_of rows table) ++ (if t then version rows.next row ∷ born table (rows.next + 1) ops else born table (rows.next + 1) ops)
    go true e ih =
        let same : place ≡ table = eqb-true place table e in
        let here : versions_of (added rows place row) table ≡ versions_of rows table ++ version rows.next row ∷ [] =
        subst (λ (n : ℕ). unwrap_or (slice_get (slice_set rows.tables n (versions_of rows n ++ version rows.next row ∷ [])) table) [] ≡ versions_of rows table ++ version rows.next row ∷ [])
        (sym same) (get_here rows.tables table (versions_of rows table ++ version rows.next row ∷ []) known) in
        ih long less ∙ ap (λ (l : List Version). without_all (gone table ops) l ++ born table (rows.next + 1) ops) here
        ∙ one_more (gone table ops) (versions_of rows table) (born table (rows.next + 1) ops) (version rows.next row) below
    go false e ih =
        ih long less ∙ ap (λ (l : List Version). without_all (gone table ops) l ++ born table (rows.next + 1) ops) (get_beside rows.tables place table now (not_same place table e))
after_all (Update place (Base genid) old row ∷ ops) rows table known below = go (place == table) refl below (after_all ops (added (taken rows place genid) place row) table)
  where
    fewer : List (List Version)
    fewer = slice_set rows.tables place (without genid (versions_of rows place))

    now : List Version
    now = versions_of (taken rows place genid) place ++ version rows.next row ∷ []

    shorter : table < length fewer
    shorter = subst (λ (n : ℕ). table < n) (sym (length-set rows.tables place (without genid (versions_of rows place)))) known

    long : table < length (slice_set fewer place now)
    long = subst (λ (n : ℕ). table < n) (sym (length-set fewer place now)) shorter

    go : (t : Bool) → (place == table) ≡ t → AllByRecursion (λ (g : Version). g.genid < rows.next) (if t then version genid old ∷ gone table ops else gone table ops)
        → (table < length (slice_set fewer place now) → AllByRecursion (λ (g : Version). g.genid < rows.next + 1) (gone table ops)
        → versions_of (apply_all (added (taken rows place genid) place row) ops) table
        ≡ without_all (gone table ops) (versions_of (added (taken rows place genid) place row) table) ++ born table (rows.next + 1) ops)
        → versions_of (apply_all (added (taken rows place genid) place row) ops) table
        ≡ without_all (if t then version genid old ∷ gone table ops else gone table ops) (versions_of rows table)
        ++ (if t then version rows.next row ∷ born table (rows.next + 1) ops else born table (rows.next + 1) ops)
    go true e below ih =
        let same : place ≡ table = eqb-true place table e in
        let less : versions_of (taken rows place genid) table ≡ without genid (versions_of rows table) =
        subst (λ (n : ℕ). unwrap_or (slice_get (slice_set rows.tables n (without genid (versions_of rows n))) table) [] ≡ without genid (versions_of rows table))
        (sym same) (get_here rows.tables table (without genid (versions_of rows table)) known) in
        let here : versions_of (added (taken rows place genid) place row) table ≡ versions_of (taken rows place genid) table ++ version rows.next row ∷ [] =
        subst (λ (n : ℕ). unwrap_or (slice_get (slice_set fewer n (versions_of (taken rows place genid) n ++ version rows.next row ∷ [])) table) []
        ≡ versions_of (taken rows place genid) table ++ version rows.next row ∷ [])
        (sym same) (get_here fewer table (versions_of (taken rows place genid) table ++ version rows.next row ∷ []) shorter) in
        ih long (all_below (gone table ops) rows.next (rows.next + 1) (omega arith) below.1)
        ∙ ap (λ (l : List Version). without_all (gone table ops) l ++ born table (rows.next + 1) ops) (here ∙ ap (λ (l : List Version). l ++ version rows.next row ∷ []) less)
        ∙ one_more (gone table ops) (without genid (versions_of rows table)) (born table (rows.next + 1) ops) (version rows.next row) below.1
    go false e below ih =
        let off = not_same place table e in
        ih long (all_below (gone table ops) rows.next (rows.next + 1) (omega arith) below)
        ∙ ap (λ (l : List Version). without_all (gone table ops) l ++ born table (rows.next + 1) ops)
        (get_beside fewer place table now off ∙ get_beside rows.tables place table (without genid (versions_of rows place)) off)
after_all (Update place (Own write) old row ∷ ops) rows table known below = after_all ops rows table known below
after_all (Delete place (Base genid) old ∷ ops) rows table known below = go (place == table) refl below (after_all ops (taken rows place genid) table)
  where
    now : List Version
    now = without genid (versions_of rows place)

    long : table < length (slice_set rows.tables place now)
    long = subst (λ (n : ℕ). table < n) (sym (length-set rows.tables place now)) known

    go : (t : Bool) → (place == table) ≡ t → AllByRecursion (λ (g : Version). g.genid < rows.next) (if t then version genid old ∷ gone table ops else gone table ops)
        → (table < length (slice_set rows.tables place now) → AllByRecursion (λ (g : Version). g.genid < rows.next) (gone table ops)
        → versions_of (apply_all (taken rows place genid) ops) table ≡ without_all (gone table ops) (versions_of (taken rows place genid) table) ++ born table rows.next ops)
        → versions_of (apply_all (taken rows place genid) ops) table
        ≡ without_all (if t then version genid old ∷ gone table ops else gone table ops) (versions_of rows table) ++ born table rows.next ops
    go true e below ih =
        let same : place ≡ table = eqb-true place table e in
        let less : versions_of (taken rows place genid) table ≡ without genid (versions_of rows table) =
        subst (λ (n : ℕ). unwrap_or (slice_get (slice_set rows.tables n (without genid (versions_of rows n))) table) [] ≡ without genid (versions_of rows table))
        (sym same) (get_here rows.tables table (without genid (versions_of rows table)) known) in
        ih long below.1 ∙ ap (λ (l : List Version). without_all (gone table ops) l ++ born table rows.next ops) less
    go false e below ih =
        ih long below ∙ ap (λ (l : List Version). without_all (gone table ops) l ++ born table rows.next ops)
        (get_beside rows.tables place table now (not_same place table e))
after_all (Delete place (Own write) old ∷ ops) rows table known below = after_all ops rows table known below
