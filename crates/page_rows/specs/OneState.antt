-- Pages stand for one state at most: the list of the rows' tree of a table is that of the pages alone, and tells the
-- versions of the table.
use Rattle.std.proofs.Common.{◌≡◌, inl, inr, ℕ, ◌+◌, ◌^◌, ◌<◌, List, [], ◌∷◌, ◌++◌, length, take, None, refl, sym, ap, ◌∙◌, subst, arith}
use Rattle.std.proofs.lemmas.List.{append-nil}
use Rattle.std.specs.List.{AllByRecursion}
use Rattle.byteorder.specs.Endian.{big_number, big_bytes}
use Rattle.byteorder.specs.Numbers.{big_number-reads_back}
use Rattle.page_store.specs.Image.{Image}
use Rattle.btree_index.proofs.TreeLaws.{one_list}
use Rattle.cdb_values.specs.Rows.{Rows, version, versions_of}
use Rattle.cdb_values.specs.declared.rows.Version.{Version}
use Rattle.cdb_values.specs.declared.tables.TableDef.{TableDef}
use Rattle.cdb_values.specs.declared.values.Value.{Value}
use Rattle.key_code.specs.Codes.{row_code, IsRowValue}
use Rattle.key_code.proofs.ValueLaws.{row_tells}
use Rattle.key_code.proofs.JoinedLaws.{row_begins}
use Rattle.table_store.specs.Forests.{Pair}
use Rattle.table_store.specs.Plans.{plan_from}
use Rattle.table_store.specs.Listings.{IsAmong, pair_of_version, Lists}
use Rattle.table_store.specs.Readings.{IsReadable}
use Rattle.table_store.specs.Stored.{Stands}
use Rattle.page_rows.specs.Picks.{Ascend}
use Rattle.page_rows.specs.Listed.{IsTreeOf, tree_of, AreReadable, versions_readable, rows_planned}
use Rattle.table_store.proofs.AmongLaws.{among_all}
use Rattle.table_store.proofs.StateLaws.{same_tables}

-- the code of a row tells it, and the bytes of a genid tell it
pub rows_tell : (xs ys : List Value) → AllByRecursion IsRowValue xs → AllByRecursion IsRowValue ys → row_code xs ≡ row_code ys → xs ≡ ys
rows_tell [] [] h k e = refl
rows_tell [] (y ∷ ys) h k e = absurd (row_begins y (row_code ys) (sym e))
rows_tell (x ∷ xs) [] h k e = absurd (row_begins x (row_code xs) e)
rows_tell (x ∷ xs) (y ∷ ys) h k e =
    let t = row_tells x y (row_code xs) (row_code ys) h.0.written k.0.written e in
    ap (λ (v : Value). v ∷ xs) t.0 ∙ ap (λ (l : List Value). y ∷ l) (rows_tell xs ys h.1 k.1 t.1)

pub genid_read : (g : ℕ) (rest : List ℕ) (genid : ℕ) → g < 2 ^ 64 → genid < 2 ^ 64 → big_bytes 8 g ++ rest ≡ big_bytes 8 genid → g ≡ genid
genid_read g rest genid h k e =
    sym (big_number-reads_back 8 g rest h) ∙ ap (big_number 8) (e ∙ sym (append-nil (big_bytes 8 genid))) ∙ big_number-reads_back 8 genid [] k

-- versions by rising genids with the same members are the same list
ascend_same : (vs ws : List Version) → Ascend vs → Ascend ws → ((v : Version) → IsAmong v vs → IsAmong v ws) → ((v : Version) → IsAmong v ws → IsAmong v vs) → vs ≡ ws
ascend_same [] [] h k to from = refl
ascend_same [] (w ∷ ws) h k to from = absurd (from w (inl refl))
ascend_same (v ∷ vs) [] h k to from = absurd (to v (inl refl))
ascend_same (v ∷ vs) (w ∷ ws) h k to from =
    let same : v ≡ w = first (to v (inl refl)) (from w (inl refl)) in
    ap (λ (x : Version). x ∷ vs) same
    ∙ ap (λ (l : List Version). w ∷ l) (ascend_same vs ws h.1 k.1 (λ u i. later u i same (to u (inr i))) (λ u i. earlier u i same (from u (inr i))))
  where
    crossed : (m n : ℕ) → m < n → n < m → ⊥
    crossed m n h k = omega arith

    itself : (m n : ℕ) → m < n → m ≡ n → ⊥
    itself m n h e = omega arith

    first : IsAmong v (w ∷ ws) → IsAmong w (v ∷ vs) → v ≡ w
    first (inl e) j = e
    first (inr i) (inl e) = sym e
    first (inr i) (inr j) = absurd (crossed w.genid v.genid (among_all (λ (u : Version). w.genid < u.genid) v ws k.0 i) (among_all (λ (u : Version). v.genid < u.genid) w vs h.0 j))

    later : (u : Version) → IsAmong u vs → v ≡ w → IsAmong u (w ∷ ws) → IsAmong u ws
    later u i same (inr j) = j
    later u i same (inl e) = absurd (itself v.genid u.genid (among_all (λ (x : Version). v.genid < x.genid) u vs h.0 i) (ap (λ (x : Version). x.genid) (same ∙ sym e)))

    earlier : (u : Version) → IsAmong u ws → v ≡ w → IsAmong u (v ∷ vs) → IsAmong u vs
    earlier u i same (inr j) = j
    earlier u i same (inl e) = absurd (itself w.genid u.genid (among_all (λ (x : Version). w.genid < x.genid) u ws k.0 i) (ap (λ (x : Version). x.genid) (sym same ∙ sym e)))

-- a pair of the rows' tree tells its version
pair_tells : (v w : Version) → IsReadable v → IsReadable w → pair_of_version None v ≡ pair_of_version None w → v ≡ w
pair_tells v w h k e =
    let genid : v.genid ≡ w.genid = genid_read v.genid [] w.genid h.genid k.genid (append-nil (big_bytes 8 v.genid) ∙ ap (λ (p : Pair). p.0) e) in
    let row = rows_tell v.row w.row h.row k.row (ap (λ (p : Pair). p.1) e) in
    ap (λ (n : ℕ). version n v.row) genid ∙ ap (version w.genid) row

listed_in : (vs ws : List Version) (list : List Pair) → AreReadable vs → AreReadable ws → Lists None vs list → Lists None ws list
    → (v : Version) → IsAmong v vs → IsAmong v ws
listed_in vs ws list a b h k v i =
    let m = k.only (pair_of_version None v) (h.all v i) in
    let same : v ≡ m.0 = pair_tells v m.0 (among_all IsReadable v vs a.each i) (among_all IsReadable m.0 ws b.each m.1) m.2 in
    subst (λ (u : Version). IsAmong u ws) (sym same) m.1

-- the versions of a table are those of the pages alone
one_table : (pages : ℕ → Image) (tables : List TableDef) (a b : Rows) (table : ℕ) → Stands pages tables a → Stands pages tables b → table < length tables
    → versions_of a table ≡ versions_of b table
one_table pages tables a b table s t h =
    let at = length (plan_from 0 (take table tables)) in
    let there = rows_planned 0 table table tables h (omega arith) in
    let x : IsTreeOf pages (1 + at) None (versions_of a table) = tree_of pages tables a at (1 + at) (record { table = table; key = None }) s there refl in
    let y : IsTreeOf pages (1 + at) None (versions_of b table) = tree_of pages tables b at (1 + at) (record { table = table; key = None }) t there refl in
    let same : x.list ≡ y.list = one_list pages (1 + at) x.list y.list x.tree y.tree in
    let first : Lists None (versions_of a table) y.list = subst (λ (l : List Pair). Lists None (versions_of a table) l) same x.lists in
    let p = versions_readable pages tables a table s in
    let q = versions_readable pages tables b table t in
    ascend_same (versions_of a table) (versions_of b table) p.ascend q.ascend
    (listed_in (versions_of a table) (versions_of b table) y.list p q first y.lists)
    (listed_in (versions_of b table) (versions_of a table) y.list q p y.lists first)

pub one_state : (pages : ℕ → Image) (tables : List TableDef) (a b : Rows) → Stands pages tables a → Stands pages tables b → a ≡ b
one_state pages tables a b s t =
    let next : a.next ≡ b.next = sym s.genid ∙ t.genid in
    let long : length a.tables ≡ length b.tables = s.state.tables_are ∙ sym t.state.tables_are in
    ap (λ (l : List (List Version)). record { tables = l; next = a.next })
    (same_tables a.tables b.tables long (λ n h. one_table pages tables a b n s t (subst (λ (k : ℕ). n < k) s.state.tables_are h)))
    ∙ ap (λ (n : ℕ). record { tables = b.tables; next = n }) next
