-- Writes that are added, marked and taken out leave the others their stamps and their marks.
use Rattle.std.proofs.Common.{◌≡◌, ℕ, zero, suc, ◌+◌, ◌<◌, ◌≤◌, List, [], ◌∷◌, ◌++◌, Bool, true, false, refl, sym, ap, subst, ◌∙◌, length, get_or, take, drop, arith}
use Rattle.std.proofs.lemmas.Bool.Decides.{nat_tests}
use Rattle.std.proofs.lemmas.List.Edits.{length-remove, get_or-remove_below, get_or-remove_above}
use Rattle.std.proofs.lemmas.Option.{slice_get_within}
use Rattle.std.specs.BTreeSet.{BTreeSet}
use Rattle.std.specs.List.{remove}
use Rattle.std.specs.Prelude.{slice_get, nat_lt, if◌then◌else◌, Some}
use Rattle.cdb_values.specs.declared.rows.RowOp.{RowOp}
use Rattle.cdb_values.specs.declared.rows.RowOp.TheVariants.{Insert, Update, Delete}
use Rattle.cdb_values.specs.declared.rows.RowRef.{RowRef}
use Rattle.cdb_values.specs.declared.rows.RowRef.TheVariants.{Base, Own}
use Rattle.cdb_values.specs.declared.values.Value.{Value}
use Rattle.own_writes.specs.Kept.{AreKept, HasColumns, HasTarget, IsMarked, Keeps, KeepsOthers, Rise, stamp_at}
use Rattle.own_writes.specs.Marks.{column_mark, genid_mark, key_of}

below : (a b : ℕ) → nat_lt a b ≡ true → a < b
below a b test = grind (arith, nat_tests, test)

not_below : (a b : ℕ) → nat_lt a b ≡ false → b ≤ a
not_below a b test = grind (arith, nat_tests, test)

pub never_falls : (stamps : List ℕ) → Rise stamps → (i j : ℕ) → i ≤ j → j < length stamps → get_or stamps i 0 ≤ get_or stamps j 0
never_falls stamps rise i j order within = go (nat_lt i j) refl
  where
    go : (b : Bool) → nat_lt i j ≡ b → get_or stamps i 0 ≤ get_or stamps j 0
    go true test = let less : get_or stamps i 0 < get_or stamps j 0 = rise i j (below i j test) within in omega (arith, less)
    go false test =
        let least : j ≤ i = not_below i j test in
        let same : i ≡ j = omega (arith, least, order) in
        let alike : get_or stamps i 0 ≡ get_or stamps j 0 = ap (λ n. get_or stamps n 0) same in
        omega (arith, alike)

-- a write that is marked stays so where nothing is gone
target_more : (old new : BTreeSet ℕ) (stamp table : ℕ) (target : RowRef) → Keeps old new → HasTarget old stamp table target → HasTarget new stamp table target
target_more old new stamp table (Base genid) keeps marked = keeps (key_of (genid_mark table genid) stamp) marked
target_more old new stamp table (Own number) keeps marked = tt

columns_more : (old new : BTreeSet ℕ) (stamp table : ℕ) (row : List Value) → Keeps old new → HasColumns old stamp table row → HasColumns new stamp table row
columns_more old new stamp table row keeps marked column value is = keeps (key_of (column_mark table column value) stamp) (marked column value is)

pub marked_more : (old new : BTreeSet ℕ) (stamp : ℕ) (op : RowOp) → Keeps old new → IsMarked old stamp op → IsMarked new stamp op
marked_more old new stamp (Insert table row) keeps marked = columns_more old new stamp table row keeps marked
marked_more old new stamp (Update table target before row) keeps marked =
    (target_more old new stamp table target keeps marked.0, columns_more old new stamp table row keeps marked.1)
marked_more old new stamp (Delete table target before) keeps marked = target_more old new stamp table target keeps marked

-- and where only marks of another stamp are gone
target_other : (old new : BTreeSet ℕ) (gone stamp table : ℕ) (target : RowRef) → KeepsOthers gone old new → stamp < 4294967296 → (stamp ≡ gone → ⊥) →
    HasTarget old stamp table target → HasTarget new stamp table target
target_other old new gone stamp table (Base genid) keeps small apart marked = keeps (genid_mark table genid) stamp small apart marked
target_other old new gone stamp table (Own number) keeps small apart marked = tt

columns_other : (old new : BTreeSet ℕ) (gone stamp table : ℕ) (row : List Value) → KeepsOthers gone old new → stamp < 4294967296 → (stamp ≡ gone → ⊥) →
    HasColumns old stamp table row → HasColumns new stamp table row
columns_other old new gone stamp table row keeps small apart marked column value is = keeps (column_mark table column value) stamp small apart (marked column value is)

pub marked_other : (old new : BTreeSet ℕ) (gone stamp : ℕ) (op : RowOp) → KeepsOthers gone old new → stamp < 4294967296 → (stamp ≡ gone → ⊥) → IsMarked old stamp op → IsMarked new stamp op
marked_other old new gone stamp (Insert table row) keeps small apart marked = columns_other old new gone stamp table row keeps small apart marked
marked_other old new gone stamp (Update table target before row) keeps small apart marked =
    (target_other old new gone stamp table target keeps small apart marked.0, columns_other old new gone stamp table row keeps small apart marked.1)
marked_other old new gone stamp (Delete table target before) keeps small apart marked = target_other old new gone stamp table target keeps small apart marked

pub kept_more : (ops : List RowOp) (stamps : List ℕ) (old new : BTreeSet ℕ) → Keeps old new → AreKept ops stamps old → AreKept ops stamps new
kept_more ops stamps old new keeps kept = record {
  few = kept.few;
  rise = kept.rise;
  small = kept.small;
  marked = λ k op within is. marked_more old new (stamp_at stamps k) op keeps (kept.marked k op within is);
}

-- ---- writes more, which are not marked

op_front : (ops more : List RowOp) (k : ℕ) → k < length ops → slice_get (ops ++ more) k ≡ slice_get ops k
op_front [] more k within = absurd (omega (arith, within))
op_front (o ∷ ops) more zero within = refl
op_front (o ∷ ops) more (suc k) within = op_front ops more k (omega (arith, within))

no_shorter : (ops more : List RowOp) → length ops ≤ length (ops ++ more)
no_shorter [] more = omega arith
no_shorter (o ∷ ops) more = let rest : length ops ≤ length (ops ++ more) = no_shorter ops more in omega (arith, rest)

pub kept_all : (ops more : List RowOp) (stamps : List ℕ) (marks : BTreeSet ℕ) → AreKept ops stamps marks → AreKept (ops ++ more) stamps marks
kept_all ops more stamps marks kept = record {
  few = let few : length stamps ≤ length ops = kept.few in let longer : length ops ≤ length (ops ++ more) = no_shorter ops more in omega (arith, few, longer);
  rise = kept.rise;
  small = kept.small;
  marked = λ k op within is.
      let few : length stamps ≤ length ops = kept.few in
      kept.marked k op within (sym (op_front ops more k (omega (arith, few, within))) ∙ is);
}

-- ---- one write more that is marked

get_front : (stamps : List ℕ) (stamp k : ℕ) → k < length stamps → stamp_at (stamps ++ stamp ∷ []) k ≡ stamp_at stamps k
get_front [] stamp k within = absurd (omega (arith, within))
get_front (s ∷ stamps) stamp zero within = refl
get_front (s ∷ stamps) stamp (suc k) within = get_front stamps stamp k (omega (arith, within))

get_last : (stamps : List ℕ) (stamp k : ℕ) → k ≡ length stamps → stamp_at (stamps ++ stamp ∷ []) k ≡ stamp
get_last [] stamp zero is = refl
get_last [] stamp (suc k) is = absurd (omega (arith, is))
get_last (s ∷ stamps) stamp zero is = absurd (omega (arith, is))
get_last (s ∷ stamps) stamp (suc k) is = get_last stamps stamp k (omega (arith, is))

one_longer : (stamps : List ℕ) (stamp : ℕ) → length (stamps ++ stamp ∷ []) ≡ length stamps + 1
one_longer [] stamp = refl
one_longer (s ∷ stamps) stamp = let next : length (stamps ++ stamp ∷ []) ≡ length stamps + 1 = one_longer stamps stamp in omega (arith, next)

pub kept_marked : (ops : List RowOp) (stamps : List ℕ) (old new : BTreeSet ℕ) (op : RowOp) (stamp : ℕ) → AreKept ops stamps old → Keeps old new → IsMarked new stamp op →
    slice_get ops (length stamps) ≡ Some op → stamp < 4294967296 → ((k : ℕ) → k < length stamps → stamp_at stamps k < stamp) → AreKept ops (stamps ++ stamp ∷ []) new
kept_marked ops stamps old new op stamp kept keeps marked there small above = record {
  few =
      let inside : length stamps < length ops = slice_get_within ops (length stamps) op there in
      let e : length (stamps ++ stamp ∷ []) ≡ length stamps + 1 = one_longer stamps stamp in
      omega (arith, inside, e);
  rise = λ i j order within. risen i j order within (nat_lt j (length stamps)) refl;
  small = λ k within. few k within (nat_lt k (length stamps)) refl;
  marked = λ k o within is. each k o within is (nat_lt k (length stamps)) refl;
}
  where
    last : (k : ℕ) → k < length (stamps ++ stamp ∷ []) → nat_lt k (length stamps) ≡ false → k ≡ length stamps
    last k within test =
        let e : length (stamps ++ stamp ∷ []) ≡ length stamps + 1 = one_longer stamps stamp in
        let least : length stamps ≤ k = not_below k (length stamps) test in
        omega (arith, e, least, within)

    risen : (i j : ℕ) → i < j → j < length (stamps ++ stamp ∷ []) → (b : Bool) → nat_lt j (length stamps) ≡ b → stamp_at (stamps ++ stamp ∷ []) i < stamp_at (stamps ++ stamp ∷ []) j
    risen i j order within true test =
        let inside : j < length stamps = below j (length stamps) test in
        let first : stamp_at (stamps ++ stamp ∷ []) i ≡ stamp_at stamps i = get_front stamps stamp i (omega (arith, order, inside)) in
        let second : stamp_at (stamps ++ stamp ∷ []) j ≡ stamp_at stamps j = get_front stamps stamp j inside in
        let less : stamp_at stamps i < stamp_at stamps j = kept.rise i j order inside in
        omega (arith, first, second, less)
    risen i j order within false test =
        let is : j ≡ length stamps = last j within test in
        let inside : i < length stamps = omega (arith, is, order) in
        let first : stamp_at (stamps ++ stamp ∷ []) i ≡ stamp_at stamps i = get_front stamps stamp i inside in
        let second : stamp_at (stamps ++ stamp ∷ []) j ≡ stamp = get_last stamps stamp j is in
        let less : stamp_at stamps i < stamp = above i inside in
        omega (arith, first, second, less)

    few : (k : ℕ) → k < length (stamps ++ stamp ∷ []) → (b : Bool) → nat_lt k (length stamps) ≡ b → stamp_at (stamps ++ stamp ∷ []) k < 4294967296
    few k within true test =
        let inside : k < length stamps = below k (length stamps) test in
        let e : stamp_at (stamps ++ stamp ∷ []) k ≡ stamp_at stamps k = get_front stamps stamp k inside in
        let less : stamp_at stamps k < 4294967296 = kept.small k inside in
        omega (arith, e, less)
    few k within false test =
        let e : stamp_at (stamps ++ stamp ∷ []) k ≡ stamp = get_last stamps stamp k (last k within test) in
        omega (arith, e, small)

    each : (k : ℕ) (o : RowOp) → k < length (stamps ++ stamp ∷ []) → slice_get ops k ≡ Some o → (b : Bool) → nat_lt k (length stamps) ≡ b → IsMarked new (stamp_at (stamps ++ stamp ∷ []) k) o
    each k o within is true test =
        let inside : k < length stamps = below k (length stamps) test in
        subst (λ (s : ℕ). IsMarked new s o) (sym (get_front stamps stamp k inside))
        (marked_more old new (stamp_at stamps k) o keeps (kept.marked k o inside is))
    each k o within is false test =
        let place : k ≡ length stamps = last k within test in
        let alike : Some op ≡ Some o = sym there ∙ ap (slice_get ops) (sym place) ∙ is in
        let one : op ≡ o = cc in
        subst (λ (x : RowOp). IsMarked new (stamp_at (stamps ++ stamp ∷ []) k) x) one
        (subst (λ (s : ℕ). IsMarked new s op) (sym (get_last stamps stamp k place)) marked)

-- ---- one write less

next : (n : ℕ) → suc n + 1 ≡ suc (n + 1)
next n = omega arith

abbrev left_of : List RowOp → ℕ → ℕ → List RowOp
left_of ops at n = take at ops ++ drop n ops

op_before : (ops : List RowOp) (at k : ℕ) → k < at → slice_get (take at ops ++ drop (at + 1) ops) k ≡ slice_get ops k
op_before ops zero k less = absurd (omega (arith, less))
op_before [] (suc at) k less = ap (λ n. slice_get (left_of [] (suc at) n) k) (next at)
op_before (x ∷ ops) (suc at) zero less = refl
op_before (x ∷ ops) (suc at) (suc k) less =
    ap (λ n. slice_get (take (suc at) (x ∷ ops) ++ drop n (x ∷ ops)) (suc k)) (next at) ∙ op_before ops at k (omega (arith, less))

op_behind : (ops : List RowOp) (at k : ℕ) → at ≤ k → slice_get (take at ops ++ drop (at + 1) ops) k ≡ slice_get ops (suc k)
op_behind [] zero k least = refl
op_behind [] (suc at) k least = ap (λ n. slice_get (left_of [] (suc at) n) k) (next at)
op_behind (x ∷ ops) zero k least = refl
op_behind (x ∷ ops) (suc at) zero least = absurd (omega (arith, least))
op_behind (x ∷ ops) (suc at) (suc k) least =
    ap (λ n. slice_get (take (suc at) (x ∷ ops) ++ drop n (x ∷ ops)) (suc k)) (next at) ∙ op_behind ops at k (omega (arith, least))

op_shorter : (ops : List RowOp) (at : ℕ) → at < length ops → length (take at ops ++ drop (at + 1) ops) + 1 ≡ length ops
op_shorter [] at within = absurd (omega (arith, within))
op_shorter (x ∷ ops) zero within = omega arith
op_shorter (x ∷ ops) (suc at) within =
    let less : length (take at ops ++ drop (at + 1) ops) + 1 ≡ length ops = op_shorter ops at (omega (arith, within)) in
    ap (λ n. length (take (suc at) (x ∷ ops) ++ drop n (x ∷ ops)) + 1) (next at) ∙ omega (arith, less)

-- stamps without the one of a place, as `Vec::remove` leaves them
pub record IsWithout (stamps : List ℕ) (at : ℕ) (left : List ℕ) : Type 0 where
  pub shorter : length left + 1 ≡ length stamps
  pub before : (k : ℕ) → k < at → stamp_at left k ≡ stamp_at stamps k
  pub behind : (k : ℕ) → at ≤ k → k < length left → stamp_at left k ≡ stamp_at stamps (k + 1)

pub kept_removed : (ops : List RowOp) (stamps left : List ℕ) (old new : BTreeSet ℕ) (at : ℕ) → AreKept ops stamps old → at < length stamps →
    IsWithout stamps at left → KeepsOthers (stamp_at stamps at) old new → AreKept (take at ops ++ drop (at + 1) ops) left new
kept_removed ops stamps left old new at kept within without keeps = record {
  few = no_more;
  rise = λ i j order inside. risen i j order inside (nat_lt i at) (nat_lt j at) refl refl;
  small = λ k inside. few k inside (nat_lt k at) refl;
  marked = λ k o inside is. each k o inside is (nat_lt k at) refl;
}
  where
    shorter : length left + 1 ≡ length stamps
    shorter = without.shorter

    no_more : length left ≤ length (take at ops ++ drop (at + 1) ops)
    no_more =
        let few : length stamps ≤ length ops = kept.few in
        let less : length (take at ops ++ drop (at + 1) ops) + 1 ≡ length ops = op_shorter ops at (omega (arith, within, few)) in
        omega (arith, shorter, few, less)

    risen : (i j : ℕ) → i < j → j < length left → (a b : Bool) → nat_lt i at ≡ a → nat_lt j at ≡ b → stamp_at left i < stamp_at left j
    risen i j order inside true true first second =
        let e : stamp_at left i ≡ stamp_at stamps i = without.before i (below i at first) in
        let f : stamp_at left j ≡ stamp_at stamps j = without.before j (below j at second) in
        let less : stamp_at stamps i < stamp_at stamps j = kept.rise i j order (omega (arith, inside, shorter)) in
        omega (arith, e, f, less)
    risen i j order inside true false first second =
        let e : stamp_at left i ≡ stamp_at stamps i = without.before i (below i at first) in
        let f : stamp_at left j ≡ stamp_at stamps (j + 1) = without.behind j (not_below j at second) inside in
        let less : stamp_at stamps i < stamp_at stamps (j + 1) = kept.rise i (j + 1) (omega (arith, order)) (omega (arith, inside, shorter)) in
        omega (arith, e, f, less)
    risen i j order inside false true first second =
        let least : at ≤ i = not_below i at first in
        let most : j < at = below j at second in
        absurd (omega (arith, least, most, order))
    risen i j order inside false false first second =
        let e : stamp_at left i ≡ stamp_at stamps (i + 1) = without.behind i (not_below i at first) (omega (arith, order, inside)) in
        let f : stamp_at left j ≡ stamp_at stamps (j + 1) = without.behind j (not_below j at second) inside in
        let less : stamp_at stamps (i + 1) < stamp_at stamps (j + 1) = kept.rise (i + 1) (j + 1) (omega (arith, order)) (omega (arith, inside, shorter)) in
        omega (arith, e, f, less)

    few : (k : ℕ) → k < length left → (b : Bool) → nat_lt k at ≡ b → stamp_at left k < 4294967296
    few k inside true test =
        let e : stamp_at left k ≡ stamp_at stamps k = without.before k (below k at test) in
        let less : stamp_at stamps k < 4294967296 = kept.small k (omega (arith, inside, shorter)) in
        omega (arith, e, less)
    few k inside false test =
        let e : stamp_at left k ≡ stamp_at stamps (k + 1) = without.behind k (not_below k at test) inside in
        let less : stamp_at stamps (k + 1) < 4294967296 = kept.small (k + 1) (omega (arith, inside, shorter)) in
        omega (arith, e, less)

    each : (k : ℕ) (o : RowOp) → k < length left → slice_get (take at ops ++ drop (at + 1) ops) k ≡ Some o → (b : Bool) → nat_lt k at ≡ b → IsMarked new (stamp_at left k) o
    each k o inside is true test =
        let less : k < at = below k at test in
        let rises : stamp_at stamps k < stamp_at stamps at = kept.rise k at less within in
        subst (λ (s : ℕ). IsMarked new s o) (sym (without.before k less))
        (marked_other old new (stamp_at stamps at) (stamp_at stamps k) o keeps (kept.small k (omega (arith, inside, shorter)))
        (λ (e : stamp_at stamps k ≡ stamp_at stamps at). omega (arith, e, rises)) (kept.marked k o (omega (arith, inside, shorter)) (sym (op_before ops at k less) ∙ is)))
    each k o inside is false test =
        let least : at ≤ k = not_below k at test in
        let rises : stamp_at stamps at < stamp_at stamps (k + 1) = kept.rise at (k + 1) (omega (arith, least)) (omega (arith, inside, shorter)) in
        let one : suc k ≡ k + 1 = omega arith in
        subst (λ (s : ℕ). IsMarked new s o) (sym (without.behind k least inside))
        (marked_other old new (stamp_at stamps at) (stamp_at stamps (k + 1)) o keeps (kept.small (k + 1) (omega (arith, inside, shorter)))
        (λ (e : stamp_at stamps (k + 1) ≡ stamp_at stamps at). omega (arith, e, rises))
        (kept.marked (k + 1) o (omega (arith, inside, shorter)) (ap (slice_get ops) (sym one) ∙ sym (op_behind ops at k least) ∙ is)))

-- a write that is not marked is taken out behind those that are
pub kept_behind : (ops : List RowOp) (stamps : List ℕ) (marks : BTreeSet ℕ) (at : ℕ) → AreKept ops stamps marks → length stamps ≤ at → at < length ops → AreKept (take at ops ++ drop (at + 1) ops) stamps marks
kept_behind ops stamps marks at kept behind within = record {
  few = let less : length (take at ops ++ drop (at + 1) ops) + 1 ≡ length ops = op_shorter ops at within in omega (arith, less, behind, within);
  rise = kept.rise;
  small = kept.small;
  marked = λ k op inside is. kept.marked k op inside (sym (op_before ops at k (omega (arith, inside, behind))) ∙ is);
}

-- ---- what the code does

pub kept_if : (b : Bool) (ops more now : List RowOp) (stamps : List ℕ) (marks : BTreeSet ℕ) → AreKept ops stamps marks → now ≡ (if b then ops ++ more else ops) → AreKept now stamps marks
kept_if true ops more now stamps marks kept is = subst (λ (l : List RowOp). AreKept l stamps marks) (sym is) (kept_all ops more stamps marks kept)
kept_if false ops more now stamps marks kept is = subst (λ (l : List RowOp). AreKept l stamps marks) (sym is) kept

pub marked_if : (b : Bool) (ops : List RowOp) (stamps now : List ℕ) (old new : BTreeSet ℕ) (op : RowOp) (stamp : ℕ) → AreKept ops stamps old → Keeps old new → IsMarked new stamp op →
    slice_get ops (length stamps) ≡ Some op → stamp < 4294967296 → ((k : ℕ) → k < length stamps → stamp_at stamps k < stamp) →
    now ≡ (if b then stamps ++ stamp ∷ [] else stamps) → AreKept ops now new
marked_if true ops stamps now old new op stamp kept keeps marked there small above is =
    subst (λ (l : List ℕ). AreKept ops l new) (sym is) (kept_marked ops stamps old new op stamp kept keeps marked there small above)
marked_if false ops stamps now old new op stamp kept keeps marked there small above is =
    subst (λ (l : List ℕ). AreKept ops l new) (sym is) (kept_more ops stamps old new keeps kept)

pub longer_if : (b : Bool) (stamps now : List ℕ) (stamp : ℕ) → now ≡ (if b then stamps ++ stamp ∷ [] else stamps) → b ≡ true → length stamps < length now
longer_if true stamps now stamp is added =
    let e : length now ≡ length (stamps ++ stamp ∷ []) = ap length is in
    let f : length (stamps ++ stamp ∷ []) ≡ length stamps + 1 = one_longer stamps stamp in
    omega (arith, e, f)
longer_if false stamps now stamp is added = cc

any_default : (stamps : List ℕ) (at d e : ℕ) → at < length stamps → get_or stamps at d ≡ get_or stamps at e
any_default [] at d e within = absurd (omega (arith, within))
any_default (s ∷ stamps) zero d e within = refl
any_default (s ∷ stamps) (suc at) d e within = any_default stamps at d e (omega (arith, within))

pub without_one : (stamps : List ℕ) (at : ℕ) → at < length stamps → IsWithout stamps at (remove stamps at)
without_one stamps at within = record {
  shorter = length-remove stamps at within;
  before = λ k less. get_or-remove_below stamps at 0 k less within;
  behind = λ k least inside. get_or-remove_above stamps at 0 k least within;
}

-- a write is taken out with its stamp and its marks
pub kept_out : (ops : List RowOp) (stamps : List ℕ) (old new : BTreeSet ℕ) (at stamp : ℕ) (ops_left : List RowOp) (left : List ℕ) → AreKept ops stamps old → at < length stamps →
    stamp ≡ get_or stamps at stamp → ops_left ≡ take at ops ++ drop (at + 1) ops → left ≡ remove stamps at → KeepsOthers stamp old new → AreKept ops_left left new
kept_out ops stamps old new at stamp ops_left left kept within is ops_is left_is keeps =
    let same : stamp ≡ stamp_at stamps at = is ∙ any_default stamps at stamp 0 within in
    subst (λ (l : List RowOp). AreKept l left new) (sym ops_is)
    (subst (λ (l : List ℕ). AreKept (take at ops ++ drop (at + 1) ops) l new) (sym left_is)
    (kept_removed ops stamps (remove stamps at) old new at kept within (without_one stamps at within) (subst (λ (s : ℕ). KeepsOthers s old new) same keeps)))

pub small_out : (ops : List RowOp) (stamps : List ℕ) (marks : BTreeSet ℕ) (at stamp : ℕ) → AreKept ops stamps marks → at < length stamps → stamp ≡ get_or stamps at stamp → stamp < 4294967296
small_out ops stamps marks at stamp kept within is =
    let same : stamp ≡ stamp_at stamps at = is ∙ any_default stamps at stamp 0 within in
    let few : stamp_at stamps at < 4294967296 = kept.small at within in
    omega (arith, same, few)
