-- The rows' tree of a table in pages that stand: where its root is, and that it has the pairs of the versions in order.
use Rattle.std.proofs.Common.{◌≡◌, inl, inr, ℕ, zero, suc, ◌+◌, ◌%◌, ◌^◌, ◌<◌, Bool, true, not, ◌&&◌, if◌then◌else◌, List, [], ◌∷◌, ◌++◌, map, take, length, Some, None, refl, sym, ap, ◌∙◌, subst, arith, append_assoc, length-append}
use Rattle.std.proofs.Math.Nat.{mod-eq_of_lt}
use Rattle.std.proofs.lemmas.Bool.{false≢true}
use Rattle.std.proofs.lemmas.List.{append-nil}
use Rattle.std.proofs.lemmas.Option.{none-some, same_Some}
use Rattle.std.specs.List.{AllByRecursion, slice_get}
use Rattle.std.specs.Ordering.{nat_cmp, ordering_then, is_lt}
use Rattle.std.specs.declared.cmp.Ordering.{Ordering}
use Rattle.std.specs.declared.cmp.Ordering.TheVariants.{Less, Equal}
use Rattle.std.specs.Cmp.Lexicographic.{slice_cmp}
use Rattle.byteorder.specs.Endian.{big_number, big_bytes}
use Rattle.byteorder.specs.Numbers.{big_number-reads_back, length-bytes_high_first}
use Rattle.page_store.specs.Image.{Image}
use Rattle.page_workspace.specs.Spare.{IsIn}
use Rattle.btree_index.specs.Keys.{Key, before}
use Rattle.btree_index.specs.Pairs.{between}
use Rattle.btree_index.specs.Cells.{key_of_cell}
use Rattle.btree_index.specs.Trees.{TreeList, cells_of, leaves, top, pair_of}
use Rattle.btree_index.proofs.KeyLaws.{irreflexive, not_back, none_before_empty}
use Rattle.cdb_values.specs.Rows.{Rows, version, versions_of}
use Rattle.cdb_values.specs.declared.rows.Version.{Version}
use Rattle.cdb_values.specs.declared.tables.TableDef.{TableDef}
use Rattle.cdb_values.specs.declared.values.Value.{Value}
use Rattle.key_code.specs.Codes.{row_value, IsRowValue}
use Rattle.key_code.specs.Reads.{Decodes}
use Rattle.key_code.proofs.NumberLaws.{less, digits_order}
use Rattle.table_store.specs.Forests.{Pair, IsTree, AreTrees}
use Rattle.table_store.specs.Plans.{Planned, key_trees, plan_from}
use Rattle.table_store.specs.Listings.{IsAmong, pair_of_version, Lists, AreLists}
use Rattle.table_store.specs.States.{Rise, AreVersions}
use Rattle.table_store.specs.Stored.{Stands}
use Rattle.table_store.specs.Readings.{IsReadable, row_pairs, IsReading}
use Rattle.table_store.proofs.AmongLaws.{among_all, all_among}
use Rattle.table_store.proofs.ForestLaws.{tree_at, joined_own}
use Rattle.table_store.proofs.StateLaws.{rise_below, rows_tell, all_at}
use Rattle.table_store.proofs.RisingLaws.{Rises, cells_rise}

-- where the rows' tree of a table stands in the plan
pub get_behind : {A : Type 0} (xs ys : List A) (n m : ℕ) → n ≡ length xs + m → slice_get (xs ++ ys) n ≡ slice_get ys m
get_behind [] ys n m e = let f : n ≡ 0 + m = e in let same : n ≡ m = omega arith in ap (slice_get ys) same
get_behind (x ∷ xs) ys zero m e = absurd (none (length xs) m e)
  where
    none : (k m : ℕ) → 0 ≡ suc k + m → ⊥
    none k m e = omega arith
get_behind (x ∷ xs) ys (suc n) m e = get_behind xs ys n m (omega arith)

rows_planned : (place t at : ℕ) (tables : List TableDef) → t < length tables → at ≡ place + t
    → slice_get (plan_from place tables) (length (plan_from place (take t tables))) ≡ Some (record { table = at; key = None })
rows_planned place t at [] h e = absurd (none t h)
  where
    none : (n : ℕ) → n < 0 → ⊥
    none n h = omega arith
rows_planned place zero at (table ∷ tables) h e =
    let same : place ≡ at = omega arith in ap (λ (n : ℕ). Some (record { table = n; key = None })) same
rows_planned place (suc t) at (table ∷ tables) h e =
    let next : at ≡ suc place + t = omega arith in
    get_behind (key_trees place table.keys) (plan_from (suc place) tables)
    (length (key_trees place table.keys ++ plan_from (suc place) (take t tables))) (length (plan_from (suc place) (take t tables)))
    (length-append (key_trees place table.keys) (plan_from (suc place) (take t tables)))
    ∙ rows_planned (suc place) t at tables (omega arith) next

-- the tree at a place of the plan
pub record IsPlanned (rows : Rows) (owns : List (List ℕ)) (lists : List (List Pair)) (at : ℕ) (p : Planned) : Type 0 where
  pub own : List ℕ
  pub list : List Pair
  pub own_is : slice_get owns at ≡ Some own
  pub list_is : slice_get lists at ≡ Some list
  pub listed : Lists p.key (versions_of rows p.table) list

pub planned_at : (pages : ℕ → Image) (root : ℕ) (rows : Rows) (plan : List Planned) (owns : List (List ℕ)) (lists : List (List Pair)) (at : ℕ) (p : Planned)
    → slice_get plan at ≡ Some p → AreTrees pages root owns lists → AreLists rows plan lists → IsPlanned rows owns lists at p
planned_at pages root rows [] owns lists at p e t h = absurd (none-some p e)
planned_at pages root rows (q ∷ qs) owns [] at p e t h = absurd h
planned_at pages root rows (q ∷ qs) [] (l ∷ ls) at p e t h = absurd t
planned_at pages root rows (q ∷ qs) (o ∷ os) (l ∷ ls) zero p e t h =
    record {
      own = o;
      list = l;
      own_is = refl;
      list_is = refl;
      listed = subst (λ (r : Planned). Lists r.key (versions_of rows r.table) l) (same_Some q p e) h.0;
    }
planned_at pages root rows (q ∷ qs) (o ∷ os) (l ∷ ls) (suc at) p e t h =
    let i = planned_at pages (suc root) rows qs os ls at p e t.1 h.1 in
    record { own = i.own; list = i.list; own_is = i.own_is; list_is = i.list_is; listed = i.listed }

-- each pair's key is before those of all later ones
abbrev pub AreRising : List Pair → Type 0
AreRising [] = Unit {0}
AreRising (p ∷ ps) = AllByRecursion (λ (q : Pair). before p.0 q.0 ≡ true) ps × AreRising ps

pairs_rise : (cells : List (List ℕ)) → Rises cells → AreRising (map pair_of cells)
pairs_rise [] h = tt
pairs_rise (c ∷ cs) h = (each cs h.0, pairs_rise cs h.1)
  where
    each : (ds : List (List ℕ)) → AllByRecursion (λ d. before (key_of_cell c) (key_of_cell d) ≡ true) ds
        → AllByRecursion (λ (q : Pair). before (key_of_cell c) q.0 ≡ true) (map pair_of ds)
    each [] a = tt
    each (d ∷ ds) a = (a.0, each ds a.1)

-- genids are in the order of their bytes
pub genid_before : (a b : ℕ) → a < b → b < 2 ^ 64 → before (big_bytes 8 a) (big_bytes 8 b) ≡ true
unfolding before
genid_before a b h k =
    let high : b < 256 ^ 8 = k in
    let low : a < 256 ^ 8 = omega (arith, h, high) in
    let first : a % 256 ^ 8 ≡ a = mod-eq_of_lt low in
    let second : b % 256 ^ 8 ≡ b = mod-eq_of_lt high in
    let plain : slice_cmp nat_cmp (big_bytes 8 a) (big_bytes 8 b) ≡ slice_cmp nat_cmp (big_bytes 8 a ++ []) (big_bytes 8 b ++ []) =
    ap (λ (l : List ℕ). slice_cmp nat_cmp l (big_bytes 8 b)) (sym (append-nil (big_bytes 8 a)))
    ∙ ap (slice_cmp nat_cmp (big_bytes 8 a ++ [])) (sym (append-nil (big_bytes 8 b))) in
    let numbers : nat_cmp (a % 256 ^ 8) (b % 256 ^ 8) ≡ Less =
    ap (λ (n : ℕ). nat_cmp n (b % 256 ^ 8)) first ∙ ap (nat_cmp a) second ∙ less a b h in
    ap is_lt (plain ∙ digits_order 8 a b [] [] ∙ ap (λ (o : Ordering). ordering_then o Equal) numbers)

pub versions_rise : (vs : List Version) (next : ℕ) → next < 2 ^ 64 → Rise vs next → AreRising (row_pairs vs)
versions_rise [] next small h = tt
versions_rise (v ∷ vs) next small h = (each vs h.1 h.2, versions_rise vs next small h.2)
  where
    each : (ws : List Version) → AllByRecursion (λ w. v.genid < w.genid) ws → Rise ws next
        → AllByRecursion (λ (q : Pair). before (big_bytes 8 v.genid) q.0 ≡ true) (row_pairs ws)
    each [] a r = tt
    each (w ∷ ws) a r =
        (genid_before v.genid w.genid a.0 (let below : w.genid < next = r.0 in omega (arith, below, small)), each ws a.1 r.2)

-- rising pairs with the same members are the same list
pub pairs_same : (ps qs : List Pair) → AreRising ps → AreRising qs → ((p : Pair) → IsAmong p ps → IsAmong p qs) → ((p : Pair) → IsAmong p qs → IsAmong p ps)
    → ps ≡ qs
pairs_same [] [] h k to from = refl
pairs_same [] (q ∷ qs) h k to from = absurd (from q (inl refl))
pairs_same (p ∷ ps) [] h k to from = absurd (to p (inl refl))
pairs_same (p ∷ ps) (q ∷ qs) h k to from =
    let same : p ≡ q = first (to p (inl refl)) (from q (inl refl)) in
    ap (λ (x : Pair). x ∷ ps) same
    ∙ ap (λ (l : List Pair). q ∷ l) (pairs_same ps qs h.1 k.1 (λ u i. later u i same (to u (inr i))) (λ u i. earlier u i same (from u (inr i))))
  where
    itself : (x y : Key) → before x y ≡ true → x ≡ y → ⊥
    itself x y b e = false≢true (sym (irreflexive y) ∙ ap (λ (z : Key). before z y) (sym e) ∙ b)

    first : IsAmong p (q ∷ qs) → IsAmong q (p ∷ ps) → p ≡ q
    first (inl e) j = e
    first (inr i) (inl e) = sym e
    first (inr i) (inr j) =
        absurd (false≢true (sym (not_back p.0 q.0 (among_all (λ (u : Pair). before p.0 u.0 ≡ true) q ps h.0 j))
        ∙ among_all (λ (u : Pair). before q.0 u.0 ≡ true) p qs k.0 i))

    later : (u : Pair) → IsAmong u ps → p ≡ q → IsAmong u (q ∷ qs) → IsAmong u qs
    later u i same (inr j) = j
    later u i same (inl e) =
        absurd (itself p.0 u.0 (among_all (λ (x : Pair). before p.0 x.0 ≡ true) u ps h.0 i) (ap (λ (x : Pair). x.0) (same ∙ sym e)))

    earlier : (u : Pair) → IsAmong u qs → p ≡ q → IsAmong u (p ∷ ps) → IsAmong u ps
    earlier u i same (inr j) = j
    earlier u i same (inl e) =
        absurd (itself q.0 u.0 (among_all (λ (x : Pair). before q.0 x.0 ≡ true) u qs k.0 i) (ap (λ (x : Pair). x.0) (sym same ∙ sym e)))

pub among_pairs : (v : Version) (vs : List Version) → IsAmong v vs → IsAmong (pair_of_version None v) (row_pairs vs)
among_pairs v [] i = absurd i
among_pairs v (w ∷ ws) (inl e) = inl (ap (pair_of_version None) e)
among_pairs v (w ∷ ws) (inr i) = inr (among_pairs v ws i)

pub record IsPairOf (p : Pair) (vs : List Version) : Type 0 where
  pub found : Version
  pub among : IsAmong found vs
  pub is : p ≡ pair_of_version None found

pub pair_of_some : (p : Pair) (vs : List Version) → IsAmong p (row_pairs vs) → IsPairOf p vs
pair_of_some p [] i = absurd i
pair_of_some p (v ∷ vs) (inl e) = record { found = v; among = inl refl; is = e }
pair_of_some p (v ∷ vs) (inr i) = let m = pair_of_some p vs i in record { found = m.found; among = inr m.among; is = m.is }

-- the list of a rows' tree is that of its versions in order
rows_list : (pages : ℕ → Image) (root next : ℕ) (own : List ℕ) (list : List Pair) (versions : List Version) → IsTree pages root own list
    → Lists None versions list → next < 2 ^ 64 → AreVersions next versions → list ≡ row_pairs versions
rows_list pages root next own list versions t h small are =
    pairs_same list (row_pairs versions)
    (subst AreRising (ap (map pair_of) t.holds.is ∙ t.pairs) (pairs_rise (cells_of pages (leaves pages t.height (top root))) (cells_rise pages (leaves pages t.height (top root)) t.holds.fenced)))
    (versions_rise versions next small are.rise)
    (λ p i. (let m = h.only p i in subst (λ (q : Pair). IsAmong q (row_pairs versions)) (sym m.2) (among_pairs m.0 versions m.1)))
    (λ p i. (let m = pair_of_some p versions i in subst (λ (q : Pair). IsAmong q list) (sym m.is) (h.all m.found m.among)))

-- the whole of a list
between_all : (list : List Pair) → between [] None list ≡ list
between_all [] = refl
between_all (p ∷ ps) =
    ap (λ (t : Bool). if not t && true then p ∷ between [] None ps else between [] None ps) (none_before_empty p.0)
    ∙ ap (λ (l : List Pair). p ∷ l) (between_all ps)

-- what is to be read of a table
pub record IsToRead (pages : ℕ → Image) (root : ℕ) (versions : List Version) : Type 0 where
  pub tree : TreeList pages root (row_pairs versions)
  pub pairs : between [] None (row_pairs versions) ≡ row_pairs versions
  pub readable : AllByRecursion IsReadable versions

pub to_read : (pages : ℕ → Image) (tables : List TableDef) (rows : Rows) (table root : ℕ) → Stands pages tables rows → table < length tables
    → root ≡ 1 + length (plan_from 0 (take table tables)) → IsToRead pages root (versions_of rows table)
to_read pages tables rows table root s known e =
    let at = length (plan_from 0 (take table tables)) in
    let place : IsPlanned rows s.owns s.lists at (record { table = table; key = None }) =
    planned_at pages 1 rows (plan_from 0 tables) s.owns s.lists at (record { table = table; key = None })
    (rows_planned 0 table table tables known (omega arith)) s.forest.trees s.listed in
    let tree : IsTree pages root place.own place.list =
    tree_at pages 1 at root s.owns s.lists place.own place.list place.own_is place.list_is e s.forest.trees in
    let there : table < length rows.tables = subst (λ (n : ℕ). table < n) (sym s.state.tables_are) known in
    let are : AreVersions rows.next (versions_of rows table) = all_at (AreVersions rows.next) rows.tables table there s.state.versions in
    let list : place.list ≡ row_pairs (versions_of rows table) =
    rows_list pages root rows.next place.own place.list (versions_of rows table) tree place.listed s.state.next are in
    record {
      tree = record {
        height = tree.height;
        cells = tree.cells;
        holds = tree.holds;
        off_meta = λ i. s.forest.off_meta (joined_own 0 at s.owns place.own place.own_is (subst (λ (l : List ℕ). IsIn 0 l) tree.own_is i));
        pairs = tree.pairs ∙ list;
      };
      pairs = between_all (row_pairs (versions_of rows table));
      readable = all_among IsReadable (versions_of rows table) (λ v i. record {
        genid = let below : v.genid < rows.next = rise_below v (versions_of rows table) rows.next are.rise i in omega (arith, below, s.state.next);
        row = among_all (λ (w : Version). AllByRecursion IsRowValue w.row) v (versions_of rows table) are.coded i;
      });
    }

-- the first pair of a list, and the others
abbrev first_or : Pair → List Pair → Pair
first_or p [] = p
first_or p (q ∷ qs) = q

abbrev others_of : List Pair → List Pair
others_of [] = []
others_of (q ∷ qs) = qs

pub no_pair : (p : Pair) (ps : List Pair) → p ∷ ps ≡ [] → ⊥
no_pair p ps e = none (length ps) (ap length e)
  where
    none : (n : ℕ) → suc n ≡ 0 → ⊥
    none n e = omega arith

-- one pair more is read
pub reading_more : (rest after : List Pair) (p : Pair) (found more versions : List Version) → rest ≡ p ∷ after
    → ((v : Version) → IsReadable v → p ≡ pair_of_version None v → more ≡ found ++ v ∷ []) → IsReading rest found versions → IsReading after more versions
reading_more rest after p found more versions e read r = go r.left r.whole r.readable (sym e ∙ r.pairs_are)
  where
    go : (left : List Version) → found ++ left ≡ versions → AllByRecursion IsReadable left → p ∷ after ≡ row_pairs left → IsReading after more versions
    go [] whole readable is = absurd (no_pair p after is)
    go (v ∷ vs) whole readable is = record {
      left = vs;
      whole = ap (λ (l : List Version). l ++ vs) (read v readable.0 (ap (first_or p) is)) ∙ append_assoc found (v ∷ []) vs ∙ whole;
      readable = readable.1;
      pairs_are = ap others_of is;
    }

pub reading_ends : (rest : List Pair) (found versions : List Version) → rest ≡ [] → IsReading rest found versions → found ≡ versions
reading_ends rest found versions e r = go r.left r.whole (sym r.pairs_are ∙ e)
  where
    go : (left : List Version) → found ++ left ≡ versions → row_pairs left ≡ [] → found ≡ versions
    go [] whole is = sym (append-nil found) ∙ whole
    go (v ∷ vs) whole is = absurd (no_pair (pair_of_version None v) (row_pairs vs) is)

-- one pair
genid_read : (g : ℕ) (rest : List ℕ) (v : Version) → g < 2 ^ 64 → v.genid < 2 ^ 64 → big_bytes 8 g ++ rest ≡ big_bytes 8 v.genid → g ≡ v.genid
genid_read g rest v h k e =
    sym (big_number-reads_back 8 g rest h) ∙ ap (big_number 8) (e ∙ sym (append-nil (big_bytes 8 v.genid))) ∙ big_number-reads_back 8 v.genid [] k

pub version_read : (g : ℕ) (rest : List ℕ) (values : List Value) (pair : Pair) (v : Version) → g < 2 ^ 64 → big_bytes 8 g ++ rest ≡ pair.0
    → Decodes row_value IsRowValue (Some values) pair.1 → IsReadable v → pair ≡ pair_of_version None v → version g values ≡ v
version_read g rest values pair v h e d r is =
    let genid : g ≡ v.genid = genid_read g rest v h r.genid (e ∙ ap (λ (p : Pair). p.0) is) in
    let row : values ≡ v.row = rows_tell values v.row d.0 r.row (d.1 ∙ ap (λ (p : Pair). p.1) is) in
    ap (λ (n : ℕ). version n values) genid ∙ ap (version v.genid) row

pub too_short : (pair : Pair) (v : Version) → length pair.0 < 8 → pair ≡ pair_of_version None v → ⊥
too_short pair v short is =
    let long : length pair.0 ≡ 8 = ap (λ (p : Pair). length p.0) is ∙ length-bytes_high_first 8 v.genid in
    omega (arith, short, long)

pub no_row : (pair : Pair) (v : Version) → Decodes row_value IsRowValue None pair.1 → IsReadable v → pair ≡ pair_of_version None v → ⊥
no_row pair v d r is = d v.row r.row (sym (ap (λ (p : Pair). p.1) is))
