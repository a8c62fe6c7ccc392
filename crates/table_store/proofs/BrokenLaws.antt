-- The keys that versions break, told by the list of a tree.
use Rattle.std.proofs.Common.{◌≡◌, ◌⊎◌, inl, inr, ℕ, zero, suc, ◌+◌, ◌<◌, Bool, true, false, not, ◌&&◌, ◌||◌, if◌then◌else◌, List, [], ◌∷◌, ◌++◌, map, Option, Some, None, unwrap_or, refl, sym, ap, ◌∙◌, subst, arith, append_assoc}
use Rattle.std.proofs.lemmas.Option.{none-some, same_Some}
use Rattle.std.proofs.lemmas.Bool.{false≢true}
use Rattle.std.specs.List.{AllByRecursion, slice_get, list_any}
use Rattle.std.specs.Option.{is_some}
use Rattle.std.specs.Ordering.{is_eq}
use Rattle.byteorder.specs.Endian.{big_bytes}
use Rattle.btree_index.specs.Keys.{Key, same_key}
use Rattle.btree_index.specs.Pairs.{value_at, with_pair}
use Rattle.cdb_values.specs.Good.{key_of, same_values, is_key_taken, are_apart, breaks}
use Rattle.cdb_values.specs.declared.rows.Version.{Version}
use Rattle.cdb_values.specs.declared.tables.KeyDef.{KeyDef}
use Rattle.cdb_values.specs.declared.values.Value.{Value}
use Rattle.cdb_values.specs.declared.values.Value.TheVariants.{Null}
use Rattle.key_code.specs.Codes.{key_code, IsInRange}
use Rattle.key_code.proofs.JoinedLaws.{key_order}
use Rattle.table_store.specs.Forests.{Pair}
use Rattle.table_store.specs.Listings.{IsAmong, pair_of_version, keyed, Lists}
use Rattle.table_store.specs.Operations.{put_all}
use Rattle.table_store.proofs.AmongLaws.{among_left, among_right, among_either, among_all, value_none, value_some}
use Rattle.table_store.proofs.ListingLaws.{OneEach, OneGenid, lists_put, pair_tells}

abbrev pub Ranged : Version → Type 0
Ranged v = AllByRecursion IsInRange v.row

value_ranged : (row : List Value) (column : ℕ) → AllByRecursion IsInRange row → IsInRange (unwrap_or (slice_get row column) Null)
value_ranged [] column h = tt
value_ranged (v ∷ vs) zero h = h.0
value_ranged (v ∷ vs) (suc column) h = value_ranged vs column h.1

columns_ranged : (row : List Value) (columns : List ℕ) → AllByRecursion IsInRange row → AllByRecursion IsInRange (map (λ column. unwrap_or (slice_get row column) Null) columns)
columns_ranged row [] h = tt
columns_ranged row (c ∷ cs) h = (value_ranged row c h, columns_ranged row cs h)

-- codes are the same where the values are
pub same_code : (key : KeyDef) (v w : Version) → Ranged v → Ranged w
    → same_key (key_code (key_of key v.row)) (key_code (key_of key w.row)) ≡ same_values (key_of key v.row) (key_of key w.row)
unfolding same_key
same_code key v w h k = ap is_eq (key_order (key_of key v.row) (key_of key w.row) (columns_ranged v.row key.columns h) (columns_ranged w.row key.columns k))

unique_key : (key : KeyDef) (v : Version) → key.unique ≡ true → (pair_of_version (Some key) v).0 ≡ key_code (key_of key v.row)
unique_key key v e = ap (λ (t : Bool). (keyed t (key_code (key_of key v.row)) (big_bytes 8 v.genid)).0) e

-- so the keys of a unique key's tree are the same where the values are
pub same_pair : (key : KeyDef) (v w : Version) → key.unique ≡ true → Ranged v → Ranged w
    → same_key (pair_of_version (Some key) v).0 (pair_of_version (Some key) w).0 ≡ same_values (key_of key v.row) (key_of key w.row)
same_pair key v w e h k =
    ap (λ (c : Key). same_key c (pair_of_version (Some key) w).0) (unique_key key v e) ∙ ap (same_key (key_code (key_of key v.row))) (unique_key key w e)
    ∙ same_code key v w h k

pub any_none : {A : Type 0} (test : A → Bool) (xs : List A) → ((x : A) → IsAmong x xs → test x ≡ false) → list_any test xs ≡ false
any_none test [] h = refl
any_none test (x ∷ xs) h = go (test x) (h x (inl refl)) (any_none test xs (λ y i. h y (inr i)))
  where
    go : (t : Bool) → t ≡ false → list_any test xs ≡ false → (t || list_any test xs) ≡ false
    go true e k = absurd (false≢true (sym e))
    go false e k = k

pub any_some : {A : Type 0} (test : A → Bool) (x : A) (xs : List A) → IsAmong x xs → test x ≡ true → list_any test xs ≡ true
any_some test x [] i e = absurd i
any_some test x (y ∷ ys) i e = go (test y) refl i (λ j. any_some test x ys j e)
  where
    go : (t : Bool) → test y ≡ t → IsAmong x (y ∷ ys) → (IsAmong x ys → list_any test ys ≡ true) → (t || list_any test ys) ≡ true
    go true k i more = refl
    go false k (inl same) more = absurd (false≢true (sym k ∙ ap test (sym same) ∙ e))
    go false k (inr j) more = more j

pub and_false : (t : Bool) → (t && false) ≡ false
and_false true = refl
and_false false = refl

-- a key that is there already is broken
pub put_none : (key : KeyDef) (born before : List Version) (list : List Pair) → key.unique ≡ true → Lists (Some key) before list
    → AllByRecursion Ranged before → AllByRecursion Ranged born → put_all (Some key) born list ≡ None → are_apart key before born ≡ false
put_none key [] before list e h r s none = absurd (none-some list (sym none))
put_none key (v ∷ vs) before list e h r s none = go (is_some (value_at code list)) refl none (put_none key vs)
  where
    code : Key
    code = (pair_of_version (Some key) v).0

    next : List Pair
    next = with_pair code (pair_of_version (Some key) v).1 list

    all_end : (ws : List Version) → AllByRecursion Ranged ws → AllByRecursion Ranged (ws ++ v ∷ [])
    all_end [] a = (s.0, tt)
    all_end (w ∷ ws) a = (a.0, all_end ws a.1)

    taken : (p : Pair) → IsAmong p list → same_key code p.0 ≡ true → is_key_taken key v.row before ≡ true
    taken p i same =
        let m = h.only p i in
        any_some (λ (w : Version). same_values (key_of key v.row) (key_of key w.row)) m.0 before m.1
        (sym (same_pair key v m.0 e s.0 (among_all Ranged m.0 before r m.1)) ∙ ap (λ (q : Pair). same_key code q.0) (sym m.2) ∙ same)

    go : (t : Bool) → is_some (value_at code list) ≡ t → (if t then None else put_all (Some key) vs next) ≡ None
        → ((before : List Version) (list : List Pair) → key.unique ≡ true → Lists (Some key) before list → AllByRecursion Ranged before
        → AllByRecursion Ranged vs → put_all (Some key) vs list ≡ None → are_apart key before vs ≡ false)
        → are_apart key before (v ∷ vs) ≡ false
    go true some none more =
        let found = value_some code list some in
        ap (λ (t : Bool). not t && are_apart key (before ++ v ∷ []) vs) (taken found.0 found.1 found.2)
    go false some none more =
        ap (λ (t : Bool). not (is_key_taken key v.row before) && t) (more (before ++ v ∷ []) next e (lists_put (Some key) before v list h) (all_end before r) s.1 none)
        ∙ and_false (not (is_key_taken key v.row before))

none_is : {A : Type 0} (o : Option A) → is_some o ≡ false → o ≡ None
none_is None e = refl
none_is (Some x) e = absurd (false≢true (sym e))

-- and one that is there nowhere is kept
pub put_some : (key : KeyDef) (born before : List Version) (list after : List Pair) → key.unique ≡ true → Lists (Some key) before list
    → AllByRecursion Ranged before → AllByRecursion Ranged born → put_all (Some key) born list ≡ Some after → are_apart key before born ≡ true
put_some key [] before list after e h r s put = refl
put_some key (v ∷ vs) before list after e h r s put = go (is_some (value_at code list)) refl put (put_some key vs)
  where
    code : Key
    code = (pair_of_version (Some key) v).0

    next : List Pair
    next = with_pair code (pair_of_version (Some key) v).1 list

    all_end : (ws : List Version) → AllByRecursion Ranged ws → AllByRecursion Ranged (ws ++ v ∷ [])
    all_end [] a = (s.0, tt)
    all_end (w ∷ ws) a = (a.0, all_end ws a.1)

    free : value_at code list ≡ None → is_key_taken key v.row before ≡ false
    free none = any_none (λ (w : Version). same_values (key_of key v.row) (key_of key w.row)) before
        (λ w i. sym (same_pair key v w e s.0 (among_all Ranged w before r i)) ∙ value_none code (pair_of_version (Some key) w) list none (h.all w i))

    go : (t : Bool) → is_some (value_at code list) ≡ t → (if t then None else put_all (Some key) vs next) ≡ Some after
        → ((before : List Version) (list after : List Pair) → key.unique ≡ true → Lists (Some key) before list → AllByRecursion Ranged before
        → AllByRecursion Ranged vs → put_all (Some key) vs list ≡ Some after → are_apart key before vs ≡ true)
        → are_apart key before (v ∷ vs) ≡ true
    go true some put more = absurd (none-some after put)
    go false some put more =
        ap (λ (t : Bool). not t && are_apart key (before ++ v ∷ []) vs) (free (none_is (value_at code list) some))
        ∙ more (before ++ v ∷ []) next after e (lists_put (Some key) before v list h) (all_end before r) s.1 put
