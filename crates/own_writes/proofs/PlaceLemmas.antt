-- What is asked of the writes at all places is asked of all writes.
use Rattle.std.proofs.Common.{◌≡◌, ℕ, zero, suc, ◌+◌, ◌<◌, ◌≤◌, List, [], ◌∷◌, Bool, true, false, refl, sym, ap, subst, ◌∙◌, length, arith}
use Rattle.std.proofs.lemmas.Bool.Decides.{nat_tests}
use Rattle.std.proofs.lemmas.Option.{slice_get_within}
use Rattle.std.specs.BTreeSet.{BTreeSet}
use Rattle.std.specs.List.{list_any}
use Rattle.std.specs.Prelude.{slice_get, nat_lt, ◌==◌, ◌&&◌, ◌||◌, Some, None, if◌then◌else◌}
use Rattle.cdb_values.specs.Rows.{row_written, takes}
use Rattle.cdb_values.specs.declared.rows.RowOp.{RowOp}
use Rattle.cdb_values.specs.declared.rows.RowOp.TheVariants.{Insert, Update, Delete}
use Rattle.cdb_values.specs.declared.rows.RowRef.TheVariants.{Base, Own}
use Rattle.cdb_values.specs.declared.values.Value.{Value}
use Rattle.own_writes.specs.Kept.{AreKept, HasColumns, IsMarked, has, stamp_at}
use Rattle.own_writes.specs.Marks.{genid_mark}
use Rattle.own_writes.proofs.MarkLemmas.{is_no}

pub none_of : (p : RowOp → Bool) (ops : List RowOp) → ((k : ℕ) (op : RowOp) → slice_get ops k ≡ Some op → p op ≡ false) → list_any p ops ≡ false
none_of p [] none = refl
none_of p (op ∷ ops) none =
    ap (λ b. b || list_any p ops) (none 0 op refl) ∙ none_of p ops (λ k o is. none (suc k) o is)

pub one_of : (p : RowOp → Bool) (ops : List RowOp) (k : ℕ) (op : RowOp) → slice_get ops k ≡ Some op → p op ≡ true → list_any p ops ≡ true
one_of p [] k op is is_so = cc
one_of p (x ∷ ops) zero op is is_so = ap (λ b. b || list_any p ops) (subst (λ (o : RowOp). p o ≡ true) (same x op is) is_so)
  where
    same : (x op : RowOp) → Some x ≡ Some op → op ≡ x
    same x op is = cc
one_of p (x ∷ ops) (suc k) op is is_so = or_yes (p x) (list_any p ops) (one_of p ops k op is is_so)
  where
    or_yes : (a b : Bool) → b ≡ true → (a || b) ≡ true
    or_yes true b is_so = refl
    or_yes false b is_so = is_so

both : (a b : ℕ) (c d : ℕ) → ((a == b) && (c == d)) ≡ true → (a ≡ b) × (c ≡ d)
both a b c d is_so = (grind (arith, nat_tests, is_so), grind (arith, nat_tests, is_so))

target_passed : (marks : BTreeSet ℕ) (stamp place table genid target : ℕ) → has marks (genid_mark place target) stamp ≡ true →
    has marks (genid_mark table genid) stamp ≡ false → ((place == table) && (target == genid)) ≡ false
target_passed marks stamp place table genid target marked none = is_no ((place == table) && (target == genid)) (λ is_so. never (both place table target genid is_so))
  where
    never : (place ≡ table) × (target ≡ genid) → ⊥
    never (p, t) =
        let moved : has marks (genid_mark table genid) stamp ≡ true
        = subst (λ (n : ℕ). has marks (genid_mark table n) stamp ≡ true) t (subst (λ (n : ℕ). has marks (genid_mark n target) stamp ≡ true) p marked) in
        cc

-- a write whose marks are in, and which has not that of a version, takes it not
pub take_passed : (marks : BTreeSet ℕ) (stamp table genid : ℕ) (op : RowOp) → IsMarked marks stamp op →
    has marks (genid_mark table genid) stamp ≡ false → takes table genid op ≡ false
take_passed marks stamp table genid (Insert place row) marked none = refl
take_passed marks stamp table genid (Update place (Base target) old row) marked none = target_passed marks stamp place table genid target marked.0 none
take_passed marks stamp table genid (Update place (Own number) old row) marked none = refl
take_passed marks stamp table genid (Delete place (Base target) old) marked none = target_passed marks stamp place table genid target marked none
take_passed marks stamp table genid (Delete place (Own number) old) marked none = refl

below : (a b : ℕ) → nat_lt a b ≡ true → a < b
below a b test = grind (arith, nat_tests, test)

not_below : (a b : ℕ) → nat_lt a b ≡ false → b ≤ a
not_below a b test = grind (arith, nat_tests, test)

-- the places that are passed over are of writes that are marked
pub is_within : (from to count k : ℕ) → (from ≤ count → to ≤ count) → (count ≤ from → to ≡ from) → from ≤ k → k < to → k < count
is_within from to count k within behind later before = go (nat_lt from count) refl
  where
    go : (b : Bool) → nat_lt from count ≡ b → k < count
    go true test =
        let first : from < count = below from count test in
        let last : to ≤ count = within (omega (arith, first)) in
        omega (arith, before, last)
    go false test =
        let same : to ≡ from = behind (not_below from count test) in
        absurd (omega (arith, later, before, same))

-- no write of the places before takes the version away, and none of those that are passed over
pub passed_till : (ops : List RowOp) (stamps : List ℕ) (marks : BTreeSet ℕ) (table genid mark from to : ℕ) → AreKept ops stamps marks → mark ≡ genid_mark table genid →
    ((k : ℕ) (op : RowOp) → k < from → slice_get ops k ≡ Some op → takes table genid op ≡ false) →
    (from ≤ length stamps → to ≤ length stamps) → (length stamps ≤ from → to ≡ from) →
    ((k : ℕ) → from ≤ k → k < to → k < length stamps → has marks mark (stamp_at stamps k) ≡ false) →
    (k : ℕ) (op : RowOp) → k < to → slice_get ops k ≡ Some op → takes table genid op ≡ false
passed_till ops stamps marks table genid mark from to kept same before within behind passed k op here is = go (nat_lt k from) refl
  where
    go : (b : Bool) → nat_lt k from ≡ b → takes table genid op ≡ false
    go true test = before k op (below k from test) is
    go false test =
        let later : from ≤ k = not_below k from test in
        let marked : k < length stamps = is_within from to (length stamps) k within behind later here in
        take_passed marks (stamp_at stamps k) table genid op (kept.marked k op marked is)
        (subst (λ (m : ℕ). has marks m (stamp_at stamps k) ≡ false) same (passed k later here marked))

-- and not the write of the next place, which is asked
pub one_more : (p : RowOp → Bool) (ops : List RowOp) (at : ℕ) (op : RowOp) → slice_get ops at ≡ Some op → p op ≡ false →
    ((k : ℕ) (o : RowOp) → k < at → slice_get ops k ≡ Some o → p o ≡ false) → (k : ℕ) (o : RowOp) → k < at + 1 → slice_get ops k ≡ Some o → p o ≡ false
one_more p ops at op there left_it before k o here is = go (nat_lt k at) refl
  where
    go : (b : Bool) → nat_lt k at ≡ b → p o ≡ false
    go true test = before k o (below k at test) is
    go false test =
        let least : at ≤ k = not_below k at test in
        let same : k ≡ at = omega (arith, least, here) in
        let alike : Some op ≡ Some o = sym there ∙ ap (slice_get ops) (sym same) ∙ is in
        let one : op ≡ o = cc in
        subst (λ (x : RowOp). p x ≡ false) one left_it

-- where all places are passed, no write is left
pub none_left : (p : RowOp → Bool) (ops : List RowOp) (at : ℕ) → length ops ≤ at → ((k : ℕ) (o : RowOp) → k < at → slice_get ops k ≡ Some o → p o ≡ false) → list_any p ops ≡ false
none_left p ops at past before = none_of p ops (λ k o is. before k o (within k o is) is)
  where
    within : (k : ℕ) (o : RowOp) → slice_get ops k ≡ Some o → k < at
    within k o is = let l : k < length ops = slice_get_within ops k o is in omega (arith, l, past)

pub past_end : (at count : ℕ) → false ≡ nat_lt at count → count ≤ at
past_end at count test = not_below at count (sym test)

at_place : (marks : BTreeSet ℕ) (stamp table place : ℕ) (written row : List Value) → HasColumns marks stamp place written → (if place == table then Some written else None) ≡ Some row →
    HasColumns marks stamp table row
at_place marks stamp table place written row marked is = go (place == table) refl is
  where
    go : (b : Bool) → (place == table) ≡ b → (if b then Some written else None) ≡ Some row → HasColumns marks stamp table row
    go true test one =
        let same : place ≡ table = grind (arith, nat_tests, test) in
        let alike : written ≡ row = cc in
        subst (λ (r : List Value). HasColumns marks stamp table r) alike (subst (λ (n : ℕ). HasColumns marks stamp n written) same marked)
    go false test one = cc

-- a write whose marks are in has those of the columns of the row that it writes
pub written_has : (marks : BTreeSet ℕ) (stamp table : ℕ) (op : RowOp) (row : List Value) → IsMarked marks stamp op → row_written table op ≡ Some row → HasColumns marks stamp table row
written_has marks stamp table (Insert place written) row marked is = at_place marks stamp table place written row marked is
written_has marks stamp table (Update place target old written) row marked is = at_place marks stamp table place written row marked.1 is
written_has marks stamp table (Delete place target old) row marked is = cc
