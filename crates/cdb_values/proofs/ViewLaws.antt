-- One operation after the other: what a view shows is what the operations make of the rows.
use Rattle.std.proofs.Common.{◌≡◌, ℕ, ◌+◌, ◌<◌, ◌≤◌, ◌==◌, ◌++◌, ◌∷◌, [], List, Bool, true, false, ◌&&◌, ◌||◌, not, map, filter, refl, sym, ◌∙◌, ap, subst, length, append-nil, arith}
use Rattle.std.specs.Prelude.{slice_get, slice_set, unwrap_or, if◌then◌else◌}
use Rattle.std.proofs.lemmas.Bool.Decides.{nat_tests}
use Rattle.std.specs.List.{list_any, AllByRecursion}
use Rattle.std.proofs.Math.ListN.{length-set}
use Rattle.std.proofs.lemmas.List.{get_or-set_same, get_or-set_other}
use Rattle.std.proofs.lemmas.Option.{unwrap_or-slice_get}
use Rattle.cdb_values.specs.Rows.{Rows, versions_of, view, added, taken, takes, without, written, version}
use Rattle.cdb_values.specs.declared.rows.RowOp.{RowOp}
use Rattle.cdb_values.specs.declared.rows.RowOp.TheVariants.{Insert, Update, Delete}
use Rattle.cdb_values.specs.declared.rows.RowRef.TheVariants.{Base, Own}
use Rattle.cdb_values.specs.declared.rows.Version.{Version}
use Rattle.cdb_values.specs.declared.values.Value.{Value}
use Rattle.cdb_values.specs.Views.{IsOnBase, ViewIsApplied}

-- whether operations leave a version in its table
abbrev pub keeps : List RowOp → ℕ → Version → Bool
keeps ops table v = not (list_any (takes table v.genid) ops)

-- the rows of these versions that are kept
abbrev pub shown : (Version → Bool) → List Version → List (List Value)
shown keep vs = map (λ v. v.row) (filter keep vs)

shown_front : (keep : Version → Bool) (b : Bool) (x : Version) (vs : List Version) (rest more : List (List Value))
    → shown keep vs ++ rest ≡ more → map (λ (v : Version). v.row) (if b then x ∷ filter keep vs else filter keep vs) ++ rest ≡ (if b then x.row ∷ more else more)
shown_front keep true x vs rest more is = ap (λ l. x.row ∷ l) is
shown_front keep false x vs rest more is = is

-- a kept version at the end shows its row after the others
pub shown_added : (keep : Version → Bool) (vs : List Version) (v : Version) (rest : List (List Value)) → keep v ≡ true
    → shown keep (vs ++ v ∷ []) ++ rest ≡ shown keep vs ++ v.row ∷ rest
shown_added keep [] v rest kept = ap (λ b. map (λ (x : Version). x.row) (if b then v ∷ [] else []) ++ rest) kept
shown_added keep (x ∷ xs) v rest kept =
    shown_front keep (keep x) x (xs ++ v ∷ []) rest (shown keep xs ++ v.row ∷ rest) (shown_added keep xs v rest kept)
    ∙ sym (shown_front keep (keep x) x xs (v.row ∷ rest) (shown keep xs ++ v.row ∷ rest) refl)

other : {next : ℕ} (b : Bool) (genid later : ℕ) → genid < next → next ≤ later → b && (genid == later) ≡ false
other true genid later below above = grind (arith, nat_tests)
other false genid later below above = refl

-- where every version is kept, all are shown
pub shown_all : (vs : List Version) → shown (λ _. true) vs ≡ map (λ v. v.row) vs
shown_all [] = refl
shown_all (x ∷ xs) = ap (λ l. x.row ∷ l) (shown_all xs)

pub eq_flip : (a b : ℕ) → (a == b) ≡ (b == a)
eq_flip a b = grind (arith, nat_tests)

one_taken : (keep : Version → Bool) (x : Version) (a b : Bool) (ls rs : List Version) → a ≡ b → ls ≡ filter keep rs
    → (if not a && keep x then x ∷ ls else ls) ≡ filter keep (if not b then x ∷ rs else rs)
one_taken keep x a true ls rs same is = ap (λ c. if not c && keep x then x ∷ ls else ls) same ∙ is
one_taken keep x a false ls rs same is = ap (λ c. if not c && keep x then x ∷ ls else ls) same ∙ (λ j. if keep x then x ∷ is j else is j)

-- what is taken away first is not shown
pub shown_taken : (keep : Version → Bool) (genid : ℕ) (vs : List Version)
    → filter (λ (v : Version). not (genid == v.genid) && keep v) vs ≡ filter keep (without genid vs)
shown_taken keep genid [] = refl
shown_taken keep genid (x ∷ xs) =
    one_taken keep x (genid == x.genid) (x.genid == genid) (filter (λ (v : Version). not (genid == v.genid) && keep v) xs) (without genid xs)
    (eq_flip genid x.genid) (shown_taken keep genid xs)

-- operations on a base leave a later version alone
pub fresh_kept : (tables next later table : ℕ) (ops : List RowOp) → next ≤ later → AllByRecursion (IsOnBase tables next) ops → list_any (takes table later) ops ≡ false
fresh_kept tables next later table [] above all = refl
fresh_kept tables next later table (Insert place row ∷ ops) above all = fresh_kept tables next later table ops above all.1
fresh_kept tables next later table (Update place (Base genid) old row ∷ ops) above all =
    ap (λ b. b || list_any (takes table later) ops) (other (place == table) genid later all.0.1 above) ∙ fresh_kept tables next later table ops above all.1
fresh_kept tables next later table (Update place (Own write) old row ∷ ops) above all = absurd all.0.1
fresh_kept tables next later table (Delete place (Base genid) old ∷ ops) above all =
    ap (λ b. b || list_any (takes table later) ops) (other (place == table) genid later all.0.1 above) ∙ fresh_kept tables next later table ops above all.1
fresh_kept tables next later table (Delete place (Own write) old ∷ ops) above all = absurd all.0.1

pub placed_here : (xs : List (List Version)) (i : ℕ) (a : List Version) → i < length xs → unwrap_or (slice_get (slice_set xs i a) i) [] ≡ a
placed_here xs i a within = unwrap_or-slice_get (slice_set xs i a) i [] ∙ get_or-set_same xs i a [] within

pub placed_there : (xs : List (List Version)) (i j : ℕ) (a : List Version) → (j ≡ i → ⊥) → unwrap_or (slice_get (slice_set xs i a) j) [] ≡ unwrap_or (slice_get xs j) []
placed_there xs i j a apart = unwrap_or-slice_get (slice_set xs i a) j [] ∙ get_or-set_other xs i j a [] apart ∙ sym (unwrap_or-slice_get xs j [])

pub same_place : (a b : ℕ) → (a == b) ≡ true → a ≡ b
same_place a b is = grind (arith, nat_tests)

pub other_place : (a b : ℕ) → (a == b) ≡ false → b ≡ a → ⊥
other_place a b is same = grind (arith, nat_tests)

-- an insert shows its row after the others
insert_step : (rows : Rows) (place : ℕ) (row : List Value) (ops : List RowOp) (table : ℕ) (here : Bool) → (place == table) ≡ here → place < length rows.tables
    → list_any (takes table rows.next) ops ≡ false → view (added rows place row) ops table ≡ view rows (Insert place row ∷ ops) table
insert_step rows place row ops table true is within fresh =
    let v : Version = version rows.next row in
    let at : versions_of (added rows place row) table ≡ versions_of rows table ++ v ∷ [] =
    subst (λ k. versions_of (added rows place row) k ≡ versions_of rows k ++ v ∷ []) (same_place place table is)
    (placed_here rows.tables place (versions_of rows place ++ v ∷ []) within) in
    ap (λ l. shown (keeps ops table) l ++ written table ops) at
    ∙ shown_added (keeps ops table) (versions_of rows table) v (written table ops) (ap not fresh)
    ∙ ap (λ b. shown (keeps ops table) (versions_of rows table) ++ (if b then row ∷ written table ops else written table ops)) (sym is)
insert_step rows place row ops table false is within fresh =
    let v : Version = version rows.next row in
    ap (λ l. shown (keeps ops table) l ++ written table ops) (placed_there rows.tables place table (versions_of rows place ++ v ∷ []) (other_place place table is))
    ∙ ap (λ b. shown (keeps ops table) (versions_of rows table) ++ (if b then row ∷ written table ops else written table ops)) (sym is)

pub neither : (a b : Bool) → not (a || b) ≡ not a && not b
neither true b = refl
neither false b = refl

-- a version that is taken away is not shown
taken_step : (rows : Rows) (place genid : ℕ) (ops : List RowOp) (table : ℕ) (here : Bool) → (place == table) ≡ here → place < length rows.tables
    → filter (λ (v : Version). not (((place == table) && (genid == v.genid)) || list_any (takes table v.genid) ops)) (versions_of rows table)
    ≡ filter (keeps ops table) (versions_of (taken rows place genid) table)
taken_step rows place genid ops table true is within =
    let vs : List Version = versions_of rows table in
    let at : versions_of (taken rows place genid) table ≡ without genid vs =
    subst (λ k. versions_of (taken rows place genid) k ≡ without genid (versions_of rows k)) (same_place place table is)
    (placed_here rows.tables place (without genid (versions_of rows place)) within) in
    ap (λ b. filter (λ (v : Version). not ((b && (genid == v.genid)) || list_any (takes table v.genid) ops)) vs) is
    ∙ (λ j. filter (λ (v : Version). neither (genid == v.genid) (list_any (takes table v.genid) ops) j) vs)
    ∙ shown_taken (keeps ops table) genid vs ∙ ap (filter (keeps ops table)) (sym at)
taken_step rows place genid ops table false is within =
    ap (λ b. filter (λ (v : Version). not ((b && (genid == v.genid)) || list_any (takes table v.genid) ops)) (versions_of rows table)) is
    ∙ ap (filter (keeps ops table)) (sym (placed_there rows.tables place table (without genid (versions_of rows place)) (other_place place table is)))

later_base : (genid next next' : ℕ) → genid < next → next ≤ next' → genid < next'
later_base genid next next' below above = omega arith

at_least : (n : ℕ) → n ≤ n
at_least n = omega arith

one_later : (n : ℕ) → n ≤ n + 1
one_later n = omega arith

-- what is on a base is on one with as many tables and a later next genid
still_on_base : (tables tables' next next' : ℕ) (ops : List RowOp) → tables ≡ tables' → next ≤ next' → AllByRecursion (IsOnBase tables next) ops → AllByRecursion (IsOnBase tables' next') ops
still_on_base tables tables' next next' [] same above all = tt
still_on_base tables tables' next next' (Insert place row ∷ ops) same above all =
    (subst (λ n. place < n) same all.0, still_on_base tables tables' next next' ops same above all.1)
still_on_base tables tables' next next' (Update place (Base genid) old row ∷ ops) same above all =
    ((subst (λ n. place < n) same all.0.0, later_base genid next next' all.0.1 above), still_on_base tables tables' next next' ops same above all.1)
still_on_base tables tables' next next' (Update place (Own write) old row ∷ ops) same above all = absurd all.0.1
still_on_base tables tables' next next' (Delete place (Base genid) old ∷ ops) same above all =
    ((subst (λ n. place < n) same all.0.0, later_base genid next next' all.0.1 above), still_on_base tables tables' next next' ops same above all.1)
still_on_base tables tables' next next' (Delete place (Own write) old ∷ ops) same above all = absurd all.0.1

-- what operations on a base show is what they make of it
pub view_applied : (rows : Rows) (ops : List RowOp) (table : ℕ) → ViewIsApplied rows ops table
view_applied rows [] table all = append-nil (shown (λ _. true) (versions_of rows table)) ∙ shown_all (versions_of rows table)
view_applied rows (Insert place row ∷ ops) table all =
    let fresh = fresh_kept (length rows.tables) rows.next rows.next table ops (at_least rows.next) all.1 in
    sym (insert_step rows place row ops table (place == table) refl all.0 fresh)
    ∙ view_applied (added rows place row) ops table
    (still_on_base (length rows.tables) (length (added rows place row).tables) rows.next (rows.next + 1) ops (sym (length-set rows.tables place _)) (one_later rows.next) all.1)
view_applied rows (Delete place (Base genid) old ∷ ops) table all =
    ap (λ l. map (λ (v : Version). v.row) l ++ written table ops) (taken_step rows place genid ops table (place == table) refl all.0.0)
    ∙ view_applied (taken rows place genid) ops table
    (still_on_base (length rows.tables) (length (taken rows place genid).tables) rows.next rows.next ops (sym (length-set rows.tables place _)) (at_least rows.next) all.1)
view_applied rows (Delete place (Own write) old ∷ ops) table all = absurd all.0.1
view_applied rows (Update place (Base genid) old row ∷ ops) table all =
    let mid : Rows = taken rows place genid in
    let long : length rows.tables ≡ length mid.tables = sym (length-set rows.tables place (without genid (versions_of rows place))) in
    let fresh = fresh_kept (length rows.tables) rows.next rows.next table ops (at_least rows.next) all.1 in
    ap (λ l. map (λ (v : Version). v.row) l ++ written table (Insert place row ∷ ops)) (taken_step rows place genid ops table (place == table) refl all.0.0)
    ∙ sym (insert_step mid place row ops table (place == table) refl (subst (λ n. place < n) long all.0.0) fresh)
    ∙ view_applied (added mid place row) ops table
    (still_on_base (length rows.tables) (length (added mid place row).tables) rows.next (rows.next + 1) ops (long ∙ sym (length-set mid.tables place _)) (one_later rows.next) all.1)
view_applied rows (Update place (Own write) old row ∷ ops) table all = absurd all.0.1
