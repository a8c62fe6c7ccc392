-- The list of one tree, when versions go and others come.
use Rattle.std.proofs.Common.{◌≡◌, ◌⊎◌, inl, inr, ℕ, zero, suc, ◌+◌, ◌^◌, ◌<◌, ◌==◌, Bool, true, false, not, if◌then◌else◌, List, [], ◌∷◌, ◌++◌, length, map, Option, Some, None, refl, sym, ap, ◌∙◌, subst, arith, append_assoc, length-append}
use Rattle.std.proofs.lemmas.Option.{none-some, same_Some}
use Rattle.std.proofs.lemmas.Bool.{false≢true}
use Rattle.std.specs.List.{AllByRecursion}
use Rattle.std.specs.Option.{is_some}
use Rattle.std.specs.Ordering.{is_eq}
use Rattle.std.proofs.lemmas.Cmp.{nat_list_cmp_total, tied_itself}
use Rattle.byteorder.specs.Endian.{big_number, big_bytes}
use Rattle.byteorder.specs.Numbers.{big_number-reads_back, length-bytes_high_first}
use Rattle.btree_index.specs.Keys.{Key, same_key}
use Rattle.btree_index.specs.Pairs.{value_at, with_pair, without_key}
use Rattle.cdb_values.specs.Good.{key_of}
use Rattle.cdb_values.specs.Rows.{without}
use Rattle.cdb_values.specs.declared.rows.Version.{Version}
use Rattle.cdb_values.specs.declared.tables.KeyDef.{KeyDef}
use Rattle.key_code.specs.Codes.{key_code, row_code}
use Rattle.key_code.proofs.ValueLaws.{front_tells}
use Rattle.table_store.specs.Forests.{Pair}
use Rattle.table_store.specs.Listings.{IsAmong, pair_of_version, keyed, Lists}
use Rattle.table_store.specs.Operations.{removed, put_all, NoTwice}
use Rattle.table_store.proofs.AmongLaws.{among_left, among_right, among_either, among_all, among_filter, filter_among, with_among, among_with, without_among, among_without, value_none, value_some}

-- versions without those of these genids
abbrev pub without_all : List Version → List Version → List Version
without_all [] versions = versions
without_all (g ∷ gs) versions = without_all gs (without g.genid versions)

abbrev pub IsSmall : Version → Type 0
IsSmall v = v.genid < 2 ^ 64

-- bytes of a genid tell it
pub genid_tells : (a b : ℕ) → a < 2 ^ 64 → b < 2 ^ 64 → big_bytes 8 a ≡ big_bytes 8 b → a ≡ b
genid_tells a b h k e =
    sym (big_number-reads_back 8 a [] h) ∙ ap (λ (l : List ℕ). big_number 8 (l ++ [])) e ∙ big_number-reads_back 8 b [] k

-- what is before as many bytes
pub tail_tells : (xs ys ps qs : List ℕ) → length ps ≡ length qs → xs ++ ps ≡ ys ++ qs → ps ≡ qs
tail_tells xs ys ps qs e h =
    let all : length (xs ++ ps) ≡ length (ys ++ qs) = ap length h in
    let a = length-append xs ps in
    let b = length-append ys qs in
    let same : length xs ≡ length ys = omega (arith, all, a, b, e) in
    (front_tells xs ys ps qs same h).1

pub keyed_tells : (unique : Bool) (c d g h : List ℕ) → length g ≡ length h → keyed unique c g ≡ keyed unique d h → g ≡ h
keyed_tells true c d g h e same = ap (λ (p : Pair). p.1) same
keyed_tells false c d g h e same = tail_tells c d g h e (ap (λ (p : Pair). p.0) same)

pub pair_tells : (key : Option KeyDef) (v w : Version) → IsSmall v → IsSmall w → pair_of_version key v ≡ pair_of_version key w → v.genid ≡ w.genid
pair_tells None v w h k e = genid_tells v.genid w.genid h k (ap (λ (p : Pair). p.0) e)
pair_tells (Some key) v w h k e =
    let same : length (big_bytes 8 v.genid) ≡ length (big_bytes 8 w.genid) = length-bytes_high_first 8 v.genid ∙ sym (length-bytes_high_first 8 w.genid) in
    genid_tells v.genid w.genid h k (keyed_tells key.unique (key_code (key_of key v.row)) (key_code (key_of key w.row)) (big_bytes 8 v.genid) (big_bytes 8 w.genid) same e)

-- one pair for each key
pub record OneEach (list : List Pair) : Type 0 where
  pub one : (p q : Pair) → IsAmong p list → IsAmong q list → same_key p.0 q.0 ≡ true → p ≡ q

-- one version for each genid, all of 64 bits
pub record OneGenid (versions : List Version) : Type 0 where
  pub one : (v w : Version) → IsAmong v versions → IsAmong w versions → v.genid ≡ w.genid → v ≡ w
  pub small : (v : Version) → IsAmong v versions → IsSmall v

pub one_without : (genid : ℕ) (versions : List Version) → OneGenid versions → OneGenid (without genid versions)
one_without genid versions h =
    let test : Version → Bool = λ v. not (v.genid == genid) in
    record {
      one = λ v w i j e. h.one v w (among_filter test v versions i).0 (among_filter test w versions j).0 e;
      small = λ v i. h.small v (among_filter test v versions i).0;
    }

pub each_without : (key : Key) (list : List Pair) → OneEach list → OneEach (without_key key list)
each_without key list h = record {
  one = λ p q i j e. h.one p q (without_among key p list i).0 (without_among key q list j).0 e;
}

-- a version comes
pub lists_put : (key : Option KeyDef) (versions : List Version) (v : Version) (list : List Pair) → Lists key versions list
    → Lists key (versions ++ v ∷ []) (with_pair (pair_of_version key v).0 (pair_of_version key v).1 list)
lists_put key versions v list h = record {
  all = λ w i. among_with (pair_of_version key v).0 (pair_of_version key v).1 (pair_of_version key w) list (go w (among_either w versions (v ∷ []) i));
  only = λ p i. back p (with_among (pair_of_version key v).0 (pair_of_version key v).1 p list i);
}
  where
    go : (w : Version) → IsAmong w versions ⊎ IsAmong w (v ∷ []) → (pair_of_version key w ≡ pair_of_version key v) ⊎ IsAmong (pair_of_version key w) list
    go w (inl i) = inr (h.all w i)
    go w (inr (inl e)) = inl (ap (pair_of_version key) e)
    go w (inr (inr f)) = absurd f

    back : (p : Pair) → (p ≡ pair_of_version key v) ⊎ IsAmong p list → (w : Version) × IsAmong w (versions ++ v ∷ []) × (p ≡ pair_of_version key w)
    back p (inl e) = (v, among_right v versions (v ∷ []) (inl refl), e)
    back p (inr i) = let m = h.only p i in (m.0, among_left m.0 versions (v ∷ []) m.1, m.2)

pub differs : (a b : ℕ) → (a ≡ b → ⊥) → (not (a == b)) ≡ true
differs a b h = grind arith

pub differ : (a b : ℕ) → (not (a == b)) ≡ true → a ≡ b → ⊥
differ a b h e = grind arith

key_itself : (a : Key) → same_key a a ≡ true
unfolding same_key
key_itself a = ap is_eq (tied_itself nat_list_cmp_total a)

pub same_itself : (a b : Key) → a ≡ b → same_key a b ≡ true
same_itself a b e = subst (λ (k : Key). same_key a k ≡ true) e (key_itself a)

-- a version goes
pub lists_gone : (key : Option KeyDef) (versions : List Version) (v : Version) (list : List Pair) → Lists key versions list → OneEach list → OneGenid versions
    → IsAmong v versions → Lists key (without v.genid versions) (without_key (pair_of_version key v).0 list)
lists_gone key versions v list h each ones there = record {
  all = λ w i. (
      let m = among_filter test w versions i in
      among_without (pair_of_version key v).0 (pair_of_version key w) list (h.all w m.0) (other w m.0 m.1 (same_key (pair_of_version key v).0 (pair_of_version key w).0) refl));
  only = λ p i. (
      let m = without_among (pair_of_version key v).0 p list i in
      let o = h.only p m.0 in
      (o.0, filter_among test o.0 versions o.1 (differs o.0.genid v.genid (λ e. stays p o.0 o.1 o.2 m.1 e)), o.2));
}
  where
    test : Version → Bool
    test w = not (w.genid == v.genid)

    other : (w : Version) → IsAmong w versions → test w ≡ true → (t : Bool) → same_key (pair_of_version key v).0 (pair_of_version key w).0 ≡ t
        → same_key (pair_of_version key v).0 (pair_of_version key w).0 ≡ false
    other w i d false e = e
    other w i d true e =
        absurd (differ w.genid v.genid d (sym (pair_tells key v w (ones.small v there) (ones.small w i)
        (each.one (pair_of_version key v) (pair_of_version key w) (h.all v there) (h.all w i) e))))

    stays : (p : Pair) (w : Version) → IsAmong w versions → p ≡ pair_of_version key w → same_key (pair_of_version key v).0 p.0 ≡ false → w.genid ≡ v.genid → ⊥
    stays p w i is off e =
        let same : w ≡ v = ones.one w v i there e in
        let keys : (pair_of_version key v).0 ≡ p.0 = ap (λ (x : Version). (pair_of_version key x).0) (sym same) ∙ sym (ap (λ (q : Pair). q.0) is) in
        false≢true (sym off ∙ same_itself (pair_of_version key v).0 p.0 keys)

-- all that go
pub removed_lists : (key : Option KeyDef) (gone versions : List Version) (list : List Pair) → Lists key versions list → OneEach list → OneGenid versions
    → AllByRecursion (λ v. IsAmong v versions) gone → NoTwice gone → Lists key (without_all gone versions) (removed key gone list)
removed_lists key [] versions list h each ones there apart = h
removed_lists key (g ∷ gs) versions list h each ones there apart =
    removed_lists key gs (without g.genid versions) (without_key (pair_of_version key g).0 list) (lists_gone key versions g list h each ones there.0)
    (each_without (pair_of_version key g).0 list each) (one_without g.genid versions ones) (still gs apart.0 there.1) apart.1
  where
    still : (vs : List Version) → AllByRecursion (λ w. w.genid ≡ g.genid → ⊥) vs → AllByRecursion (λ v. IsAmong v versions) vs
        → AllByRecursion (λ v. IsAmong v (without g.genid versions)) vs
    still [] off all = tt
    still (v ∷ vs) off all =
        (filter_among (λ (w : Version). not (w.genid == g.genid)) v versions all.0 (differs v.genid g.genid off.0), still vs off.1 all.1)

pub each_removed : (key : Option KeyDef) (gone : List Version) (list : List Pair) → OneEach list → OneEach (removed key gone list)
each_removed key [] list h = h
each_removed key (g ∷ gs) list h = each_removed key gs (without_key (pair_of_version key g).0 list) (each_without (pair_of_version key g).0 list h)

-- all that come
pub put_lists : (key : Option KeyDef) (born versions : List Version) (list after : List Pair) → Lists key versions list → put_all key born list ≡ Some after
    → Lists key (versions ++ born) after
put_lists key [] versions list after h put =
    subst (λ (vs : List Version). Lists key vs after) (sym (append_nil versions)) (subst (λ (l : List Pair). Lists key versions l) (same_Some list after put) h)
  where
    append_nil : (vs : List Version) → vs ++ [] ≡ vs
    append_nil [] = refl
    append_nil (v ∷ vs) = ap (λ (l : List Version). v ∷ l) (append_nil vs)
put_lists key (v ∷ vs) versions list after h put = go (is_some (value_at (pair_of_version key v).0 list)) put (put_lists key vs)
  where
    next : List Pair
    next = with_pair (pair_of_version key v).0 (pair_of_version key v).1 list

    go : (t : Bool) → (if t then None else put_all key vs next) ≡ Some after
        → ((versions : List Version) (list after : List Pair) → Lists key versions list → put_all key vs list ≡ Some after → Lists key (versions ++ vs) after)
        → Lists key (versions ++ v ∷ vs) after
    go true put more = absurd (none-some after put)
    go false put more =
        subst (λ (l : List Version). Lists key l after) (append_assoc versions (v ∷ []) vs)
        (more (versions ++ v ∷ []) next after (lists_put key versions v list h) put)
