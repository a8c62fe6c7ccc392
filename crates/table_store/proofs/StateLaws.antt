-- At most one state stands for given pages.
use Rattle.std.proofs.Common.{◌≡◌, ◌⊎◌, inl, inr, ℕ, zero, suc, ◌+◌, ◌^◌, ◌≤◌, ◌<◌, List, [], ◌∷◌, ◌++◌, length, map, Option, Some, None, unwrap_or, refl, sym, ap, ◌∙◌, subst, arith}
use Rattle.std.specs.List.{AllByRecursion, slice_get}
use Rattle.byteorder.specs.Endian.{big_bytes}
use Rattle.page_store.specs.Image.{Image}
use Rattle.cdb_values.specs.Rows.{Rows, versions_of}
use Rattle.cdb_values.specs.declared.rows.Version.{Version}
use Rattle.cdb_values.specs.declared.tables.TableDef.{TableDef}
use Rattle.cdb_values.specs.declared.tables.KeyDef.{KeyDef}
use Rattle.cdb_values.specs.declared.values.Value.{Value}
use Rattle.key_code.specs.Codes.{row_code, row_value, IsRowValue, HasRowCode}
use Rattle.key_code.proofs.ValueLaws.{row_tells}
use Rattle.key_code.proofs.JoinedLaws.{row_begins}
use Rattle.table_store.specs.Forests.{Pair, Forest}
use Rattle.table_store.specs.Plans.{Planned, key_trees, plan_from}
use Rattle.table_store.specs.Listings.{IsAmong, pair_of_version, Lists, AreLists}
use Rattle.table_store.specs.States.{Rise, AreVersions, IsState}
use Rattle.table_store.specs.Stored.{Stands}
use Rattle.table_store.proofs.AmongLaws.{among_left, among_right, among_all}
use Rattle.table_store.proofs.ListingLaws.{genid_tells}
use Rattle.table_store.proofs.ForestLaws.{one_forest}

pub no_value : (v : Value) (rest : List ℕ) → row_value v ++ rest ≡ [] → ⊥
no_value v rest e = row_begins v rest e

pub rows_tell : (xs ys : List Value) → AllByRecursion IsRowValue xs → AllByRecursion IsRowValue ys → row_code xs ≡ row_code ys → xs ≡ ys
rows_tell [] [] h k e = refl
rows_tell [] (y ∷ ys) h k e = absurd (no_value y (row_code ys) (sym e))
rows_tell (x ∷ xs) [] h k e = absurd (no_value x (row_code xs) e)
rows_tell (x ∷ xs) (y ∷ ys) h k e =
    let t = row_tells x y (row_code xs) (row_code ys) h.0.written k.0.written e in
    ap (λ (v : Value). v ∷ xs) t.0 ∙ ap (λ (l : List Value). y ∷ l) (rows_tell xs ys h.1 k.1 t.1)

pub version_is : (v w : Version) → v.genid ≡ w.genid → v.row ≡ w.row → v ≡ w
version_is v w e f = ap (λ (g : ℕ). record { genid = g; row = v.row }) e ∙ ap (λ (r : List Value). record { genid = w.genid; row = r }) f

pub row_pair_tells : (v w : Version) → v.genid < 2 ^ 64 → w.genid < 2 ^ 64 → AllByRecursion IsRowValue v.row → AllByRecursion IsRowValue w.row
    → pair_of_version None v ≡ pair_of_version None w → v ≡ w
row_pair_tells v w h k c d e =
    version_is v w (genid_tells v.genid w.genid h k (ap (λ (p : Pair). p.0) e)) (rows_tell v.row w.row c d (ap (λ (p : Pair). p.1) e))

-- rising versions with the same members are the same list
pub rise_below : (v : Version) (vs : List Version) (next : ℕ) → Rise vs next → IsAmong v vs → v.genid < next
rise_below v [] next h i = absurd i
rise_below v (w ∷ ws) next h (inl e) = subst (λ (u : Version). u.genid < next) (sym e) h.0
rise_below v (w ∷ ws) next h (inr i) = rise_below v ws next h.2 i

pub rise_same : (vs ws : List Version) (next : ℕ) → Rise vs next → Rise ws next → ((v : Version) → IsAmong v vs → IsAmong v ws)
    → ((v : Version) → IsAmong v ws → IsAmong v vs) → vs ≡ ws
rise_same [] [] next h k to from = refl
rise_same [] (w ∷ ws) next h k to from = absurd (from w (inl refl))
rise_same (v ∷ vs) [] next h k to from = absurd (to v (inl refl))
rise_same (v ∷ vs) (w ∷ ws) next h k to from =
    let same : v ≡ w = first (to v (inl refl)) (from w (inl refl)) in
    ap (λ (x : Version). x ∷ vs) same
    ∙ ap (λ (l : List Version). w ∷ l) (rise_same vs ws next h.2 k.2 (λ u i. later u i same (to u (inr i))) (λ u i. earlier u i same (from u (inr i))))
  where
    crossed : (m n : ℕ) → m < n → n < m → ⊥
    crossed m n h k = omega arith

    itself : (m n : ℕ) → m < n → m ≡ n → ⊥
    itself m n h e = omega arith

    first : IsAmong v (w ∷ ws) → IsAmong w (v ∷ vs) → v ≡ w
    first (inl e) j = e
    first (inr i) (inl e) = sym e
    first (inr i) (inr j) = absurd (crossed w.genid v.genid (among_all (λ (u : Version). w.genid < u.genid) v ws k.1 i) (among_all (λ (u : Version). v.genid < u.genid) w vs h.1 j))

    later : (u : Version) → IsAmong u vs → v ≡ w → IsAmong u (w ∷ ws) → IsAmong u ws
    later u i same (inr j) = j
    later u i same (inl e) = absurd (itself v.genid u.genid (among_all (λ (x : Version). v.genid < x.genid) u vs h.1 i) (ap (λ (x : Version). x.genid) (same ∙ sym e)))

    earlier : (u : Version) → IsAmong u ws → v ≡ w → IsAmong u (v ∷ vs) → IsAmong u vs
    earlier u i same (inr j) = j
    earlier u i same (inl e) = absurd (itself w.genid u.genid (among_all (λ (x : Version). w.genid < x.genid) u ws k.1 i) (ap (λ (x : Version). x.genid) (sym same ∙ sym e)))

listed_in : (vs ws : List Version) (next : ℕ) (list : List Pair) → next < 2 ^ 64 → AreVersions next vs → AreVersions next ws → Lists None vs list → Lists None ws list
    → (v : Version) → IsAmong v vs → IsAmong v ws
listed_in vs ws next list small a b h k v i =
    let m = k.only (pair_of_version None v) (h.all v i) in
    let below : v.genid < next = rise_below v vs next a.rise i in
    let under : m.0.genid < next = rise_below m.0 ws next b.rise m.1 in
    let same : v ≡ m.0 =
    row_pair_tells v m.0 (omega (arith, small, below)) (omega (arith, small, under)) (among_all (λ (u : Version). AllByRecursion IsRowValue u.row) v vs a.coded i)
    (among_all (λ (u : Version). AllByRecursion IsRowValue u.row) m.0 ws b.coded m.1) m.2 in
    subst (λ (u : Version). IsAmong u ws) (sym same) m.1

pub same_versions : (vs ws : List Version) (next : ℕ) (list : List Pair) → next < 2 ^ 64 → AreVersions next vs → AreVersions next ws
    → Lists None vs list → Lists None ws list → vs ≡ ws
same_versions vs ws next list small a b h k =
    rise_same vs ws next a.rise b.rise (listed_in vs ws next list small a b h k) (listed_in ws vs next list small b a k h)

-- what two states say of the lists of one plan
same_length : (a b : Rows) (plan : List Planned) (xs ys : List (List Pair)) → AreLists a plan xs → AreLists b plan ys → length xs ≡ length ys
same_length a b [] [] [] h k = refl
same_length a b [] [] (y ∷ ys) h k = absurd k
same_length a b [] (x ∷ xs) ys h k = absurd h
same_length a b (p ∷ ps) [] ys h k = absurd h
same_length a b (p ∷ ps) (x ∷ xs) [] h k = absurd k
same_length a b (p ∷ ps) (x ∷ xs) (y ∷ ys) h k = ap (λ (n : ℕ). suc n) (same_length a b ps xs ys h.1 k.1)

pub record BothList (a b : Rows) (p : Planned) : Type 0 where
  pub list : List Pair
  pub first : Lists p.key (versions_of a p.table) list
  pub second : Lists p.key (versions_of b p.table) list

both_list : (a b : Rows) (plan : List Planned) (lists : List (List Pair)) (p : Planned) → AreLists a plan lists → AreLists b plan lists → IsAmong p plan → BothList a b p
both_list a b [] [] p h k i = absurd i
both_list a b [] (x ∷ xs) p h k i = absurd i
both_list a b (q ∷ qs) [] p h k i = absurd h
both_list a b (q ∷ qs) (x ∷ xs) p h k (inl e) = subst (λ (r : Planned). BothList a b r) (sym e) (record { list = x; first = h.0; second = k.0 })
both_list a b (q ∷ qs) (x ∷ xs) p h k (inr i) = both_list a b qs xs p h.1 k.1 i

planned : (place n : ℕ) (tables : List TableDef) → n < length tables → (t : ℕ) → t ≡ place + n → IsAmong (record { table = t; key = None }) (plan_from place tables)
planned place n [] h t e = absurd (none n h)
  where
    none : (n : ℕ) → n < 0 → ⊥
    none n h = omega arith
planned place zero (table ∷ tables) h t e = inl (let same : t ≡ place = omega arith in ap (λ (n : ℕ). record { table = n; key = None }) same)
planned place (suc n) (table ∷ tables) h t e =
    let next : t ≡ suc place + n = omega arith in
    inr (among_right (record { table = t; key = None }) (key_trees place table.keys) (plan_from (suc place) tables)
    (planned (suc place) n tables (omega arith) t next))

pub all_at : (P : List Version → Type 0) (xs : List (List Version)) (t : ℕ) → t < length xs → AllByRecursion P xs → P (unwrap_or (slice_get xs t) [])
all_at P [] t h a = absurd (none t h)
  where
    none : (n : ℕ) → n < 0 → ⊥
    none n h = omega arith
all_at P (x ∷ xs) zero h a = a.0
all_at P (x ∷ xs) (suc t) h a = all_at P xs t (omega arith) a.1

pub same_tables : (xs ys : List (List Version)) → length xs ≡ length ys
    → ((t : ℕ) → t < length xs → unwrap_or (slice_get xs t) [] ≡ unwrap_or (slice_get ys t) []) → xs ≡ ys
same_tables [] [] e h = refl
same_tables [] (y ∷ ys) e h = absurd (none (length ys) e)
  where
    none : (n : ℕ) → 0 ≡ suc n → ⊥
    none n e = omega arith
same_tables (x ∷ xs) [] e h = absurd (none (length xs) e)
  where
    none : (n : ℕ) → suc n ≡ 0 → ⊥
    none n e = omega arith
same_tables (x ∷ xs) (y ∷ ys) e h =
    ap (λ (l : List Version). l ∷ xs) (h 0 (omega arith))
    ∙ ap (λ (l : List (List Version)). y ∷ l) (same_tables xs ys (omega arith) (λ t k. h (suc t) (omega arith)))

pub one_state : (pages : ℕ → Image) (tables : List TableDef) (a b : Rows) → Stands pages tables a → Stands pages tables b → a ≡ b
one_state pages tables a b s t =
    let lists : s.lists ≡ t.lists = (one_forest pages 1 s.owns t.owns s.lists t.lists (same_length a b (plan_from 0 tables) s.lists t.lists s.listed t.listed) s.forest.trees t.forest.trees).1 in
    let listed : AreLists a (plan_from 0 tables) t.lists = subst (λ (l : List (List Pair)). AreLists a (plan_from 0 tables) l) lists s.listed in
    let next : a.next ≡ b.next = sym s.genid ∙ t.genid in
    let long : length a.tables ≡ length b.tables = s.state.tables_are ∙ sym t.state.tables_are in
    ap (λ (l : List (List Version)). record { tables = l; next = a.next }) (same_tables a.tables b.tables long (λ n h. table n h listed next))
    ∙ ap (λ (n : ℕ). record { tables = b.tables; next = n }) next
  where
    table : (n : ℕ) → n < length a.tables → AreLists a (plan_from 0 tables) t.lists → a.next ≡ b.next → versions_of a n ≡ versions_of b n
    table n h listed next =
        let known : n < length tables = subst (λ (k : ℕ). n < k) s.state.tables_are h in
        let other : n < length b.tables = subst (λ (k : ℕ). n < k) (sym t.state.tables_are) known in
        let both = both_list a b (plan_from 0 tables) t.lists (record { table = n; key = None }) listed t.listed (planned 0 n tables known n (omega arith)) in
        same_versions (versions_of a n) (versions_of b n) a.next both.list s.state.next (all_at (AreVersions a.next) a.tables n h s.state.versions)
        (subst (λ (k : ℕ). AreVersions k (versions_of b n)) (sym next) (all_at (AreVersions b.next) b.tables n other t.state.versions)) both.first both.second
