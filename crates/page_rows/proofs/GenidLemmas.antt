-- The genids that pairs of a key's tree name.
use Rattle.std.proofs.Common.{◌≡◌, ◌⊎◌, inl, inr, ℕ, zero, suc, ◌<◌, List, [], ◌∷◌, ◌++◌, length, sym, ap, subst, arith, length-append}
use Rattle.std.specs.List.{AllByRecursion, AllPairs, Contains, slice_index_or}
use Rattle.std.specs.List.Sorted.{IsStrictlyIncreasing}
use Rattle.std.proofs.lemmas.List.Kept.{AllPairs-from_increasing}
use Rattle.byteorder.specs.Endian.{big_bytes}
use Rattle.byteorder.specs.Numbers.{length-bytes_high_first}
use Rattle.page_workspace.specs.Spare.{IsIn}
use Rattle.key_code.proofs.ValueLaws.{front_tells}
use Rattle.table_store.specs.Forests.{Pair}
use Rattle.table_store.specs.Listings.{IsAmong}
use Rattle.page_rows.specs.Picks.{AreRising}

-- numbers in order, by place and by recursion
each_above : (x : ℕ) (ns : List ℕ) → ((k d : ℕ) → k < length ns → x < slice_index_or ns k d) → AllByRecursion (λ n. x < n) ns
each_above x [] h = tt
each_above x (n ∷ ns) h = (h 0 0 (omega arith), each_above x ns (λ k d l. h (suc k) d (omega arith)))

pairs_rise : (ns : List ℕ) → AllPairs (λ a b. a < b) ns → AreRising ns
pairs_rise [] h = tt
pairs_rise (n ∷ ns) h =
    (each_above n ns (λ k d l. h 0 (suc k) d (omega arith) (omega arith)), pairs_rise ns (λ i j d l m. h (suc i) (suc j) d (omega arith) (omega arith)))

pub increasing_rise : (ns : List ℕ) → IsStrictlyIncreasing ns → AreRising ns
increasing_rise ns h = pairs_rise ns (AllPairs-from_increasing ns h)

pub in_contains : (x : ℕ) (ns : List ℕ) → IsIn x ns → Contains ns x
in_contains x [] i = absurd i
in_contains x (n ∷ ns) (inl e) = (0, omega arith, sym e)
in_contains x (n ∷ ns) (inr i) = let m = in_contains x ns i in (suc m.0, (let l : m.0 < length ns = m.1 in omega arith), m.2)

pub contains_in : (x : ℕ) (ns : List ℕ) → Contains ns x → IsIn x ns
contains_in x ns c = go ns c.0 c.1 c.2
  where
    go : (ns : List ℕ) (k : ℕ) → k < length ns → slice_index_or ns k x ≡ x → IsIn x ns
    go [] k l e = absurd (none k l)
      where
        none : (k : ℕ) → k < 0 → ⊥
        none k l = omega arith
    go (n ∷ ns) zero l e = inl (sym e)
    go (n ∷ ns) (suc k) l e = inr (go ns k (omega arith) e)

pub genid_long : (genid : ℕ) → length (big_bytes 8 genid) ≡ 8
genid_long genid = length-bytes_high_first 8 genid

-- the end of bytes, as long as the end of equal bytes
pub same_end : (xs ys front end : List ℕ) → length ys ≡ length end → xs ++ ys ≡ front ++ end → ys ≡ end
same_end xs ys front end e h =
    let all : length (xs ++ ys) ≡ length (front ++ end) = ap length h in
    let a = length-append xs ys in
    let b = length-append front end in
    let same : length xs ≡ length front = omega (arith, all, a, b, e) in
    (front_tells xs front ys end same h).1

-- a pair of a list is the first, or one of the others
pub first_or_later : (p q : Pair) (rest after : List Pair) → rest ≡ q ∷ after → IsAmong p rest → (q ≡ p) ⊎ IsAmong p after
first_or_later p q rest after e i = go (subst (λ (l : List Pair). IsAmong p l) e i)
  where
    go : IsAmong p (q ∷ after) → (q ≡ p) ⊎ IsAmong p after
    go (inl same) = inl (sym same)
    go (inr j) = inr j

pub none_left : (p : Pair) (rest : List Pair) → rest ≡ [] → IsAmong p rest → ⊥
none_left p rest e i = subst (λ (l : List Pair). IsAmong p l) e i
