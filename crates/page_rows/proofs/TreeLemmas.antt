-- What a tree of pages that stand for a state lists, and what the rows' tree has of a genid.
use Rattle.std.proofs.Common.{◌≡◌, inl, inr, ℕ, ◌%◌, ◌^◌, ◌<◌, Bool, true, false, if◌then◌else◌, List, [], ◌∷◌, ◌++◌, Some, None, refl, sym, ap, ◌∙◌}
use Rattle.std.proofs.Math.Nat.{mod-eq_of_lt}
use Rattle.std.proofs.lemmas.Bool.{false≢true}
use Rattle.std.proofs.lemmas.List.{append-nil}
use Rattle.std.proofs.lemmas.Option.{none-some, same_Some}
use Rattle.std.proofs.lemmas.Cmp.{nat_list_cmp_total, tied_itself}
use Rattle.std.specs.Ordering.{nat_cmp, ordering_then, is_eq}
use Rattle.std.specs.declared.cmp.Ordering.{Ordering}
use Rattle.std.specs.declared.cmp.Ordering.TheVariants.{Equal}
use Rattle.std.specs.Cmp.Lexicographic.{slice_cmp}
use Rattle.byteorder.specs.Endian.{big_bytes}
use Rattle.btree_index.specs.Keys.{Key, same_key}
use Rattle.btree_index.specs.Pairs.{value_at}
use Rattle.cdb_values.specs.Rows.{version}
use Rattle.cdb_values.specs.declared.rows.Version.{Version}
use Rattle.cdb_values.specs.declared.values.Value.{Value}
use Rattle.key_code.specs.Codes.{row_value, row_code, IsRowValue}
use Rattle.key_code.specs.Reads.{Decodes}
use Rattle.key_code.proofs.NumberLaws.{Trichotomy, trichotomy, less, greater, digits_order, before as is_less, same as is_same, after as is_more}
use Rattle.table_store.specs.Forests.{Pair}
use Rattle.table_store.specs.Listings.{IsAmong, pair_of_version, Lists}
use Rattle.table_store.specs.Readings.{IsReadable}
use Rattle.page_rows.specs.Picks.{of_genid}
use Rattle.page_rows.specs.Listed.{AreReadable}
use Rattle.page_rows.specs.OneState.{rows_tell}
use Rattle.table_store.proofs.AmongLaws.{among_all}
use Rattle.page_rows.proofs.PickLemmas.{only_one, not_one}

-- keys of genids
genid_order : (a b : ℕ) → a < 2 ^ 64 → b < 2 ^ 64 → slice_cmp nat_cmp (big_bytes 8 a) (big_bytes 8 b) ≡ ordering_then (nat_cmp a b) Equal
genid_order a b h k =
    let high : b < 256 ^ 8 = k in
    let low : a < 256 ^ 8 = h in
    let first : a % 256 ^ 8 ≡ a = mod-eq_of_lt low in
    let second : b % 256 ^ 8 ≡ b = mod-eq_of_lt high in
    ap (λ (l : List ℕ). slice_cmp nat_cmp l (big_bytes 8 b)) (sym (append-nil (big_bytes 8 a)))
    ∙ ap (slice_cmp nat_cmp (big_bytes 8 a ++ [])) (sym (append-nil (big_bytes 8 b)))
    ∙ digits_order 8 a b [] []
    ∙ ap (λ (o : Ordering). ordering_then o Equal) (ap (λ (n : ℕ). nat_cmp n (b % 256 ^ 8)) first ∙ ap (nat_cmp a) second)

genid_same : (a b : ℕ) → a < 2 ^ 64 → b < 2 ^ 64 → same_key (big_bytes 8 a) (big_bytes 8 b) ≡ true → a ≡ b
unfolding same_key
genid_same a b h k e = go (trichotomy a b)
  where
    order : is_eq (ordering_then (nat_cmp a b) Equal) ≡ true
    order = sym (ap is_eq (genid_order a b h k)) ∙ e

    go : Trichotomy a b → a ≡ b
    go (is_less l) = absurd (false≢true (sym (ap (λ (o : Ordering). is_eq (ordering_then o Equal)) (less a b l)) ∙ order))
    go (is_same s) = s
    go (is_more l) = absurd (false≢true (sym (ap (λ (o : Ordering). is_eq (ordering_then o Equal)) (greater a b l)) ∙ order))

itself : (key : Key) → same_key key key ≡ true
unfolding same_key
itself key = ap is_eq (tied_itself nat_list_cmp_total key)

-- the value of a key is that of a pair with this key
record IsValueOf (key : Key) (value : List ℕ) (list : List Pair) : Type 0 where
  pair : Pair
  among : IsAmong pair list
  same : same_key key pair.0 ≡ true
  is : pair.1 ≡ value

deeper : (key : Key) (value : List ℕ) (x : Pair) (xs : List Pair) → IsValueOf key value xs → IsValueOf key value (x ∷ xs)
deeper key value x xs m = record { pair = m.pair; among = inr m.among; same = m.same; is = m.is }

value_some : (key : Key) (value : List ℕ) (list : List Pair) → value_at key list ≡ Some value → IsValueOf key value list
value_some key value [] e = absurd (none-some value e)
value_some key value (x ∷ xs) e = go (same_key key x.0) refl e (value_some key value xs)
  where
    go : (t : Bool) → same_key key x.0 ≡ t → (if t then Some x.1 else value_at key xs) ≡ Some value
        → (value_at key xs ≡ Some value → IsValueOf key value xs) → IsValueOf key value (x ∷ xs)
    go true k e more = record { pair = x; among = inl refl; same = k; is = same_Some x.1 value e }
    go false k e more = deeper key value x xs (more e)

value_none : (key : Key) (p : Pair) (list : List Pair) → value_at key list ≡ None → IsAmong p list → same_key key p.0 ≡ true → ⊥
value_none key p [] none i same = absurd i
value_none key p (x ∷ xs) none i same = go (same_key key x.0) refl none i (value_none key p xs)
  where
    go : (t : Bool) → same_key key x.0 ≡ t → (if t then Some x.1 else value_at key xs) ≡ None → IsAmong p (x ∷ xs)
        → (value_at key xs ≡ None → IsAmong p xs → same_key key p.0 ≡ true → ⊥) → ⊥
    go true e none i more = none-some x.1 (sym none)
    go false e none (inl here) more = false≢true (sym e ∙ (ap (λ (q : Pair). same_key key q.0) (sym here) ∙ same))
    go false e none (inr i) more = more none i same

-- the version whose pair has the key of a genid
record IsOf (genid : ℕ) (value : List ℕ) (versions : List Version) : Type 0 where
  found : Version
  among : IsAmong found versions
  genid_is : found.genid ≡ genid
  value_is : row_code found.row ≡ value
  readable : IsReadable found

of_value : (genid : ℕ) (value : List ℕ) (versions : List Version) (list : List Pair) → genid < 2 ^ 64 → AreReadable versions → Lists None versions list
    → value_at (big_bytes 8 genid) list ≡ Some value → IsOf genid value versions
of_value genid value versions list small r h e =
    let m = value_some (big_bytes 8 genid) value list e in
    let w = h.only m.pair m.among in
    let read : IsReadable w.0 = among_all IsReadable w.0 versions r.each w.1 in
    let key : same_key (big_bytes 8 genid) (big_bytes 8 w.0.genid) ≡ true = ap (λ (p : Pair). same_key (big_bytes 8 genid) p.0) (sym w.2) ∙ m.same in
    record {
      found = w.0;
      among = w.1;
      genid_is = sym (genid_same genid w.0.genid small read.genid key);
      value_is = ap (λ (p : Pair). p.1) (sym w.2) ∙ m.is;
      readable = read;
    }

-- what is found of a genid, and what is read of it
pub genid_found : (genid : ℕ) (value : List ℕ) (row : List Value) (versions : List Version) (list : List Pair) → genid < 2 ^ 64 → AreReadable versions
    → Lists None versions list → Some value ≡ value_at (big_bytes 8 genid) list → Decodes row_value IsRowValue (Some row) value
    → version genid row ∷ [] ≡ of_genid genid versions
genid_found genid value row versions list small r h e d =
    let m = of_value genid value versions list small r h (sym e) in
    let row_is : m.found.row ≡ row = rows_tell m.found.row row m.readable.row d.0 (m.value_is ∙ sym d.1) in
    let same : m.found ≡ version genid row = ap (λ (n : ℕ). version n m.found.row) m.genid_is ∙ ap (version genid) row_is in
    ap (λ (v : Version). v ∷ []) (sym same) ∙ sym (only_one m.found versions r.ascend m.among) ∙ ap (λ (n : ℕ). of_genid n versions) m.genid_is

pub genid_unread : (genid : ℕ) (value : List ℕ) (versions : List Version) (list : List Pair) → genid < 2 ^ 64 → AreReadable versions
    → Lists None versions list → Some value ≡ value_at (big_bytes 8 genid) list → Decodes row_value IsRowValue None value → ⊥
genid_unread genid value versions list small r h e d =
    let m = of_value genid value versions list small r h (sym e) in
    d m.found.row m.readable.row m.value_is

pub genid_lost : (genid : ℕ) (versions : List Version) (list : List Pair) → Lists None versions list
    → None ≡ value_at (big_bytes 8 genid) list → [] ≡ of_genid genid versions
genid_lost genid versions list h e = sym (not_one genid versions (λ v i same.
    value_none (big_bytes 8 genid) (pair_of_version None v) list (sym e) (h.all v i)
    (ap (λ (n : ℕ). same_key (big_bytes 8 genid) (big_bytes 8 n)) same ∙ itself (big_bytes 8 genid))))
