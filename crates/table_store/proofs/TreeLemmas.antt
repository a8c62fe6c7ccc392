-- What becomes of one tree when operations are done on it: first all that goes is taken out, then all that comes is put in.
use Rattle.std.proofs.Common.{◌≡◌, ◌⊎◌, inl, inr, ℕ, zero, suc, ◌+◌, ◌<◌, ◌==◌, Bool, true, false, not, ◌&&◌, if◌then◌else◌, List, [], ◌∷◌, ◌++◌, length, map, Option, Some, None, refl, sym, ap, ◌∙◌, subst, arith, append_assoc}
use Rattle.std.proofs.lemmas.Option.{none-some, same_Some}
use Rattle.std.proofs.lemmas.Bool.{false≢true}
use Rattle.std.specs.List.{AllByRecursion, list_any}
use Rattle.std.specs.Option.{is_some}
use Rattle.std.specs.Ordering.{is_eq}
use Rattle.std.proofs.lemmas.Map.Text.{is_eq-slice_cmp}
use Rattle.std.proofs.lemmas.Slice.Eq.{bytes_eq-Decides}
use Rattle.std.specs.Str.{bytes_eq}
use Rattle.byteorder.specs.Endian.{big_bytes}
use Rattle.btree_index.specs.Keys.{Key, same_key}
use Rattle.btree_index.specs.Pairs.{value_at, with_pair}
use Rattle.cdb_values.specs.Good.{key_of, same_values, is_key_taken, are_apart, breaks}
use Rattle.cdb_values.specs.Rows.{without}
use Rattle.cdb_values.specs.declared.rows.Version.{Version}
use Rattle.cdb_values.specs.declared.tables.KeyDef.{KeyDef}
use Rattle.key_code.specs.Codes.{key_code}
use Rattle.table_store.specs.Forests.{Pair}
use Rattle.table_store.specs.Listings.{IsAmong, pair_of_version, keyed, Lists}
use Rattle.table_store.specs.States.{Rise}
use Rattle.table_store.specs.Operations.{put_all, removed, NoTwice, breaks_in}
use Rattle.table_store.proofs.AmongLaws.{among_left, among_right, among_either, among_all, value_none, value_some}
use Rattle.table_store.proofs.ListingLaws.{without_all, IsSmall, OneEach, OneGenid, one_without, lists_put, put_lists, pair_tells, genid_tells, tail_tells, removed_lists, each_removed}
use Rattle.table_store.proofs.BrokenLaws.{Ranged, same_pair, any_none, put_none, put_some}
use Rattle.byteorder.specs.Numbers.{length-bytes_high_first}
use Rattle.std.specs.List.{filter}

-- each version that comes has a greater genid than those that are there, and than those that came before
abbrev pub Later : List Version → List Version → Type 0
Later before [] = Unit {0}
Later before (v ∷ vs) = AllByRecursion (λ w. w.genid < v.genid) before × Later (before ++ v ∷ []) vs

-- a tree that is not of a unique key has no key twice
pub put_fine : (key : Option KeyDef) (born before : List Version) (list : List Pair)
    → ((v w : Version) → IsSmall v → IsSmall w → same_key (pair_of_version key v).0 (pair_of_version key w).0 ≡ true → v.genid ≡ w.genid)
    → Lists key before list → AllByRecursion IsSmall before → AllByRecursion IsSmall born → Later before born → put_all key born list ≡ None → ⊥
put_fine key [] before list tells h s b later none = none-some list (sym none)
put_fine key (v ∷ vs) before list tells h s b later none = go (is_some (value_at code list)) refl none (put_fine key vs)
  where
    code : Key
    code = (pair_of_version key v).0

    next : List Pair
    next = with_pair code (pair_of_version key v).1 list

    all_end : (ws : List Version) → AllByRecursion IsSmall ws → AllByRecursion IsSmall (ws ++ v ∷ [])
    all_end [] a = (b.0, tt)
    all_end (w ∷ ws) a = (a.0, all_end ws a.1)

    not_less : (m n : ℕ) → m < n → n ≡ m → ⊥
    not_less m n h e = omega arith

    clash : (p : Pair) → IsAmong p list → same_key code p.0 ≡ true → ⊥
    clash p i same =
        let m = h.only p i in
        not_less m.0.genid v.genid (among_all (λ (w : Version). w.genid < v.genid) m.0 before later.0 m.1)
        (tells v m.0 b.0 (among_all IsSmall m.0 before s m.1) (ap (λ (q : Pair). same_key code q.0) (sym m.2) ∙ same))

    go : (t : Bool) → is_some (value_at code list) ≡ t → (if t then None else put_all key vs next) ≡ None
        → ((before : List Version) (list : List Pair)
        → ((v w : Version) → IsSmall v → IsSmall w → same_key (pair_of_version key v).0 (pair_of_version key w).0 ≡ true → v.genid ≡ w.genid)
        → Lists key before list → AllByRecursion IsSmall before → AllByRecursion IsSmall vs → Later before vs → put_all key vs list ≡ None → ⊥) → ⊥
    go true some none more = let found = value_some code list some in clash found.0 found.1 found.2
    go false some none more = more (before ++ v ∷ []) next tells (lists_put key before v list h) (all_end before s) b.1 later.1 none

-- a tree of a unique key whose list stands keeps its key
pub listed_apart : (key : KeyDef) (all before rest : List Version) (list : List Pair) → key.unique ≡ true → Lists (Some key) all list → OneEach list
    → OneGenid all → AllByRecursion Ranged all → ((v : Version) → IsAmong v before → IsAmong v all) → ((v : Version) → IsAmong v rest → IsAmong v all)
    → Later before rest → are_apart key before rest ≡ true
listed_apart key all before [] list e h each ones r a b later = refl
listed_apart key all before (v ∷ vs) list e h each ones r a b later =
    ap (λ (t : Bool). not t && are_apart key (before ++ v ∷ []) vs) (any_none (λ (w : Version). same_values (key_of key v.row) (key_of key w.row)) before free)
    ∙ listed_apart key all (before ++ v ∷ []) vs list e h each ones r wider (λ w i. b w (inr i)) later.1
  where
    here : IsAmong v all
    here = b v (inl refl)

    wider : (w : Version) → IsAmong w (before ++ v ∷ []) → IsAmong w all
    wider w i = go (among_either w before (v ∷ []) i)
      where
        go : IsAmong w before ⊎ IsAmong w (v ∷ []) → IsAmong w all
        go (inl j) = a w j
        go (inr (inl same)) = subst (λ (u : Version). IsAmong u all) (sym same) here
        go (inr (inr f)) = absurd f

    not_less : (m n : ℕ) → m < n → n ≡ m → ⊥
    not_less m n h e = omega arith

    free : (w : Version) → IsAmong w before → same_values (key_of key v.row) (key_of key w.row) ≡ false
    free w i = sym (same_pair key v w e (among_all Ranged v all r here) (among_all Ranged w all r (a w i))) ∙ go (same_key (pair_of_version (Some key) v).0 (pair_of_version (Some key) w).0) refl
      where
        go : (t : Bool) → same_key (pair_of_version (Some key) v).0 (pair_of_version (Some key) w).0 ≡ t → same_key (pair_of_version (Some key) v).0 (pair_of_version (Some key) w).0 ≡ false
        go false k = k
        go true k =
            absurd (not_less w.genid v.genid (among_all (λ (u : Version). u.genid < v.genid) w before later.0 i)
            (pair_tells (Some key) v w (ones.small v here) (ones.small w (a w i))
            (each.one (pair_of_version (Some key) v) (pair_of_version (Some key) w) (h.all v here) (h.all w (a w i)) k)))

pub apart_append : (key : KeyDef) (before xs ys : List Version) → are_apart key before (xs ++ ys) ≡ (are_apart key before xs && are_apart key (before ++ xs) ys)
apart_append key before [] ys = ap (λ (l : List Version). are_apart key l ys) (sym (append_nil before))
  where
    append_nil : (vs : List Version) → vs ++ [] ≡ vs
    append_nil [] = refl
    append_nil (v ∷ vs) = ap (λ (l : List Version). v ∷ l) (append_nil vs)
apart_append key before (x ∷ xs) ys =
    ap (λ (t : Bool). not (is_key_taken key x.row before) && t)
    (apart_append key (before ++ x ∷ []) xs ys ∙ ap (λ (l : List Version). are_apart key (before ++ x ∷ []) xs && are_apart key l ys) (append_assoc before (x ∷ []) xs))
    ∙ and_assoc (not (is_key_taken key x.row before)) (are_apart key (before ++ x ∷ []) xs) (are_apart key (before ++ x ∷ xs) ys)
  where
    and_assoc : (a b c : Bool) → (a && (b && c)) ≡ ((a && b) && c)
    and_assoc true b c = refl
    and_assoc false b c = refl

same_is : (a b : Key) → same_key a b ≡ true → a ≡ b
unfolding same_key
same_is a b h = (bytes_eq-Decides a b).0 (sym (is_eq-slice_cmp a b) ∙ h)

-- the keys of the rows' tree and of a key that is not unique tell the genid
rows_tell : (v w : Version) → IsSmall v → IsSmall w → same_key (pair_of_version None v).0 (pair_of_version None w).0 ≡ true → v.genid ≡ w.genid
rows_tell v w h k e = genid_tells v.genid w.genid h k (same_is (big_bytes 8 v.genid) (big_bytes 8 w.genid) e)

other_key : (key : KeyDef) (v : Version) → key.unique ≡ false → (pair_of_version (Some key) v).0 ≡ key_code (key_of key v.row) ++ big_bytes 8 v.genid
other_key key v e = ap (λ (t : Bool). (keyed t (key_code (key_of key v.row)) (big_bytes 8 v.genid)).0) e

others_tell : (key : KeyDef) → key.unique ≡ false → (v w : Version) → IsSmall v → IsSmall w → same_key (pair_of_version (Some key) v).0 (pair_of_version (Some key) w).0 ≡ true → v.genid ≡ w.genid
others_tell key u v w h k e =
    let same : key_code (key_of key v.row) ++ big_bytes 8 v.genid ≡ key_code (key_of key w.row) ++ big_bytes 8 w.genid =
    sym (other_key key v u) ∙ same_is (pair_of_version (Some key) v).0 (pair_of_version (Some key) w).0 e ∙ other_key key w u in
    let long : length (big_bytes 8 v.genid) ≡ length (big_bytes 8 w.genid) = length-bytes_high_first 8 v.genid ∙ sym (length-bytes_high_first 8 w.genid) in
    genid_tells v.genid w.genid h k (tail_tells (key_code (key_of key v.row)) (key_code (key_of key w.row)) (big_bytes 8 v.genid) (big_bytes 8 w.genid) long same)

-- what a tree is changed by: its versions, those that go, and those that come
pub record Change (key : Option KeyDef) (versions gone born : List Version) (list : List Pair) : Type 0 where
  pub lists : Lists key versions list
  pub each : OneEach list
  pub ones : OneGenid versions
  pub there : AllByRecursion (λ v. IsAmong v versions) gone
  pub once : NoTwice gone
  pub small : AllByRecursion IsSmall (without_all gone versions)
  pub ranged : AllByRecursion Ranged (without_all gone versions)
  pub rising : Later [] (without_all gone versions)
  pub born_small : AllByRecursion IsSmall born
  pub born_ranged : AllByRecursion Ranged born
  pub born_later : Later (without_all gone versions) born

one_withouts : (gone versions : List Version) → OneGenid versions → OneGenid (without_all gone versions)
one_withouts [] versions h = h
one_withouts (g ∷ gs) versions h = one_withouts gs (without g.genid versions) (one_without g.genid versions h)

-- put in whole, the tree lists the versions that are there afterwards, and they keep its key
pub tree_kept : (key : Option KeyDef) (versions gone born : List Version) (list after : List Pair) → Change key versions gone born list
    → put_all key born (removed key gone list) ≡ Some after
    → Lists key (without_all gone versions ++ born) after × (breaks_in key (without_all gone versions ++ born) ≡ false)
tree_kept key versions gone born list after c put =
    let left = without_all gone versions in
    let lists : Lists key left (removed key gone list) = removed_lists key gone versions list c.lists c.each c.ones c.there c.once in
    (put_lists key born left (removed key gone list) after lists put, kept key lists put)
  where
    left : List Version
    left = without_all gone versions

    kept : (k : Option KeyDef) → Lists k left (removed key gone list) → put_all k born (removed key gone list) ≡ Some after → breaks_in k (left ++ born) ≡ false
    kept None lists put = refl
    kept (Some k) lists put = go k.unique refl
      where
        go : (t : Bool) → k.unique ≡ t → (t && not (are_apart k [] (left ++ born))) ≡ false
        go false e = refl
        go true e =
            ap not
            (apart_append k [] left born
            ∙ ap (λ (t : Bool). t && are_apart k left born)
            (listed_apart k left [] left (removed key gone list) e lists (each_removed key gone list c.each) (one_withouts gone versions c.ones) c.ranged
            (λ v i. absurd i) (λ v i. i) c.rising)
            ∙ put_some k born left (removed key gone list) after e lists c.ranged c.born_ranged put)

-- not put in whole, those versions break its key
pub tree_broken : (key : Option KeyDef) (versions gone born : List Version) (list : List Pair) → Change key versions gone born list
    → put_all key born (removed key gone list) ≡ None → breaks_in key (without_all gone versions ++ born) ≡ true
tree_broken key versions gone born list c none =
    broken key (removed_lists key gone versions list c.lists c.each c.ones c.there c.once) none
  where
    left : List Version
    left = without_all gone versions

    and_false : (t : Bool) → (t && false) ≡ false
    and_false true = refl
    and_false false = refl

    broken : (k : Option KeyDef) → Lists k left (removed key gone list) → put_all k born (removed key gone list) ≡ None → breaks_in k (left ++ born) ≡ true
    broken None lists none =
        absurd (put_fine None born left (removed key gone list) rows_tell lists c.small c.born_small c.born_later none)
    broken (Some k) lists none = go k.unique refl
      where
        go : (t : Bool) → k.unique ≡ t → (t && not (are_apart k [] (left ++ born))) ≡ true
        go false e = absurd (put_fine (Some k) born left (removed key gone list) (others_tell k e) lists c.small c.born_small c.born_later none)
        go true e =
            ap not
            (apart_append k [] left born
            ∙ ap (λ (t : Bool). are_apart k [] left && t) (put_none k born left (removed key gone list) e lists c.ranged c.born_ranged none)
            ∙ and_false (are_apart k [] left))
