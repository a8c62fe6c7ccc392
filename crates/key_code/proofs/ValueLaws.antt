-- The laws of one value's code.
use Rattle.std.proofs.Common.{◌≡◌, ℕ, ◌%◌, ◌^◌, ◌<◌, ℤ, pos, negsuc, ◌<ℤ◌, List, [], ◌∷◌, ◌++◌, length, refl, sym, ap, ◌∙◌, append_assoc, arith}
use Rattle.std.proofs.Math.Nat.{mod-eq_of_lt}
use Rattle.std.proofs.lemmas.Int.{ints}
use Rattle.std.proofs.lemmas.Cmp.{int_ranked}
use Rattle.std.specs.Int.{bytes_high_first}
use Rattle.std.specs.declared.cmp.Ordering.{Ordering}
use Rattle.std.specs.declared.cmp.Ordering.TheVariants.{Less, Equal, Greater}
use Rattle.std.specs.Ordering.{nat_cmp, int_cmp, ordering_then, MatchOrdering}
use Rattle.byteorder.specs.Endian.{big_bytes, big_from}
use Rattle.byteorder.specs.Numbers.{big_number-reads_back, length-bytes_high_first}
use Rattle.cdb_values.specs.Order.{rank, value_order}
use Rattle.cdb_values.specs.declared.values.Value.{Value}
use Rattle.cdb_values.specs.declared.values.Value.TheVariants.{Null, Int, Text, Blob}
use Rattle.key_code.specs.Codes.{lifted, complement, escaped, ended, counted, key_value, row_value, IsInRange, HasRowCode}
use Rattle.key_code.proofs.NumberLaws.{byte_order, less, greater, equal, digits_order}
use Rattle.key_code.proofs.EscapeLemmas.{escaped_tells, escaped_order}

-- lists of one length that begin two equal lists
pub front_tells : (xs ys ps qs : List ℕ) → length xs ≡ length ys → xs ++ ps ≡ ys ++ qs → (xs ≡ ys) × (ps ≡ qs)
front_tells [] [] ps qs n h = (refl, h)
front_tells [] (y ∷ ys) ps qs n h = absurd (omega arith)
front_tells (x ∷ xs) [] ps qs n h = absurd (omega arith)
front_tells (x ∷ xs) (y ∷ ys) ps qs n h =
    let first : x ≡ y = cc in
    let both = front_tells xs ys ps qs (omega arith) (cc) in
    (ap (λ z. z ∷ xs) first ∙ ap (λ l. y ∷ l) both.0, both.1)

-- the bytes of a number tell it and what is behind them
pub digits_tell : (n x y : ℕ) (ps qs : List ℕ) → x < 256 ^ n → y < 256 ^ n → bytes_high_first n x ++ ps ≡ bytes_high_first n y ++ qs
    → (x ≡ y) × (ps ≡ qs)
digits_tell n x y ps qs hx hy h =
    let same : x ≡ y = sym (big_number-reads_back n x ps hx) ∙ ap (λ (l : List ℕ). big_from 0 n l) h ∙ big_number-reads_back n y qs hy in
    let len : length (bytes_high_first n x) ≡ length (bytes_high_first n y) = length-bytes_high_first n x ∙ sym (length-bytes_high_first n y) in
    let both = front_tells (bytes_high_first n x) (bytes_high_first n y) ps qs len h in
    (same, both.1)

-- integers of 64 bits, moved up
pub lifted_fits : (x : ℤ) → IsInRange (Int x) → lifted x < 2 ^ 64
lifted_fits (pos n) h = omega arith
lifted_fits (negsuc n) h = omega arith

pub lifted_tells : (x y : ℤ) → IsInRange (Int x) → IsInRange (Int y) → lifted x ≡ lifted y → x ≡ y
lifted_tells (pos m) (pos n) h k e = ap pos (omega arith)
lifted_tells (pos m) (negsuc n) h k e = absurd (omega arith)
lifted_tells (negsuc m) (pos n) h k e = absurd (omega arith)
lifted_tells (negsuc m) (negsuc n) h k e = ap negsuc (omega arith)

lifted_lt : (x y : ℤ) → IsInRange (Int x) → IsInRange (Int y) → x <ℤ y → lifted x < lifted y
lifted_lt (pos m) (pos n) h k lt = omega (arith, ints)
lifted_lt (pos m) (negsuc n) h k lt = absurd (omega (arith, ints))
lifted_lt (negsuc m) (pos n) h k lt = omega arith
lifted_lt (negsuc m) (negsuc n) h k lt = omega (arith, ints)

pub lifted_order : (x y : ℤ) → IsInRange (Int x) → IsInRange (Int y) → nat_cmp (lifted x) (lifted y) ≡ int_cmp x y
lifted_order x y h k = go (int_cmp x y) (int_ranked x y (int_cmp x y) refl)
  where
    go : (o : Ordering) → MatchOrdering o (x <ℤ y) (x ≡ y) (y <ℤ x) → nat_cmp (lifted x) (lifted y) ≡ o
    go Less lt = less (lifted x) (lifted y) (lifted_lt x y h k lt)
    go Equal e = equal (lifted x) (lifted y) (ap lifted e)
    go Greater gt = greater (lifted x) (lifted y) (lifted_lt y x k h gt)

-- integers of 64 bits in two's complement
pub complement_fits : (x : ℤ) → IsInRange (Int x) → complement x < 2 ^ 64
complement_fits (pos n) h = omega arith
complement_fits (negsuc n) h = omega arith

pub complement_tells : (x y : ℤ) → IsInRange (Int x) → IsInRange (Int y) → complement x ≡ complement y → x ≡ y
complement_tells (pos m) (pos n) h k e = ap pos (omega arith)
complement_tells (pos m) (negsuc n) h k e = absurd (omega arith)
complement_tells (negsuc m) (pos n) h k e = absurd (omega arith)
complement_tells (negsuc m) (negsuc n) h k e = ap negsuc (omega arith)

-- the first byte of a code
unfoldable pub first : List ℕ → ℕ
first [] = 0
first (b ∷ _) = b

key_first : (v : Value) (ps : List ℕ) → first (key_value v ++ ps) ≡ rank v
unfolding first
key_first Null ps = refl
key_first (Int x) ps = refl
key_first (Text t) ps = refl
key_first (Blob b) ps = refl

row_first : (v : Value) (ps : List ℕ) → first (row_value v ++ ps) ≡ rank v
unfolding first
row_first Null ps = refl
row_first (Int x) ps = refl
row_first (Text t) ps = refl
row_first (Blob b) ps = refl

-- an ended code with something behind it
pub ended-behind : (t ps : List ℕ) → ended t ++ ps ≡ escaped t ++ (0 ∷ 0 ∷ ps)
ended-behind t ps = append_assoc (escaped t) (0 ∷ 0 ∷ []) ps

pub ended_tells : (t u ps qs : List ℕ) → ended t ++ ps ≡ ended u ++ qs → (t ≡ u) × (ps ≡ qs)
ended_tells t u ps qs h = escaped_tells t u ps qs (sym (ended-behind t ps) ∙ h ∙ ended-behind u qs)

-- a key's value is told by its code, with what is behind it
pub key_tells : (v w : Value) (ps qs : List ℕ) → IsInRange v → IsInRange w → key_value v ++ ps ≡ key_value w ++ qs → (v ≡ w) × (ps ≡ qs)
key_tells Null Null ps qs r s h = (refl, cc)
key_tells (Int x) (Int y) ps qs r s h =
    let behind : big_bytes 8 (lifted x) ++ ps ≡ big_bytes 8 (lifted y) ++ qs = cc in
    let both = digits_tell 8 (lifted x) (lifted y) ps qs (lifted_fits x r) (lifted_fits y s) behind in
    (ap Int (lifted_tells x y r s both.0), both.1)
key_tells (Text t) (Text u) ps qs r s h =
    let behind : ended t ++ ps ≡ ended u ++ qs = cc in
    let both = ended_tells t u ps qs behind in (ap Text both.0, both.1)
key_tells (Blob t) (Blob u) ps qs r s h =
    let behind : ended t ++ ps ≡ ended u ++ qs = cc in
    let both = ended_tells t u ps qs behind in (ap Blob both.0, both.1)
key_tells v w ps qs r s h =
    let e : rank v ≡ rank w = sym (key_first v ps) ∙ ap first h ∙ key_first w qs in absurd (omega arith)

-- bytes behind their length are told, with what is behind them
pub counted_tells : (t u ps qs : List ℕ) → length t < 2 ^ 32 → length u < 2 ^ 32
    → counted t ++ ps ≡ counted u ++ qs → (t ≡ u) × (ps ≡ qs)
counted_tells t u ps qs ht hu h =
    let moved : big_bytes 4 (length t) ++ (t ++ ps) ≡ big_bytes 4 (length u) ++ (u ++ qs) =
    sym (append_assoc (big_bytes 4 (length t)) t ps) ∙ h ∙ append_assoc (big_bytes 4 (length u)) u qs in
    let both = digits_tell 4 (length t) (length u) (t ++ ps) (u ++ qs) ht hu moved in
    front_tells t u ps qs both.0 both.1

-- a row's value is told by its code, with what is behind it
pub row_tells : (v w : Value) (ps qs : List ℕ) → HasRowCode v → HasRowCode w → row_value v ++ ps ≡ row_value w ++ qs → (v ≡ w) × (ps ≡ qs)
row_tells Null Null ps qs r s h = (refl, cc)
row_tells (Int x) (Int y) ps qs r s h =
    let behind : big_bytes 8 (complement x) ++ ps ≡ big_bytes 8 (complement y) ++ qs = cc in
    let both = digits_tell 8 (complement x) (complement y) ps qs (complement_fits x r.range) (complement_fits y s.range) behind in
    (ap Int (complement_tells x y r.range s.range both.0), both.1)
row_tells (Text t) (Text u) ps qs r s h =
    let behind : counted t ++ ps ≡ counted u ++ qs = cc in
    let both = counted_tells t u ps qs r.short s.short behind in (ap Text both.0, both.1)
row_tells (Blob t) (Blob u) ps qs r s h =
    let behind : counted t ++ ps ≡ counted u ++ qs = cc in
    let both = counted_tells t u ps qs r.short s.short behind in (ap Blob both.0, both.1)
row_tells v w ps qs r s h =
    let e : rank v ≡ rank w = sym (row_first v ps) ∙ ap first h ∙ row_first w qs in absurd (omega arith)

-- the code of a key's value keeps the order
pub key_keeps : (v w : Value) (ps qs : List ℕ) → IsInRange v → IsInRange w
    → byte_order (key_value v ++ ps) (key_value w ++ qs) ≡ ordering_then (value_order v w) (byte_order ps qs)
key_keeps (Int x) (Int y) ps qs r s =
    let ex : lifted x % 256 ^ 8 ≡ lifted x = mod-eq_of_lt (lifted_fits x r) in
    let ey : lifted y % 256 ^ 8 ≡ lifted y = mod-eq_of_lt (lifted_fits y s) in
    digits_order 8 (lifted x) (lifted y) ps qs
    ∙ ap (λ o. ordering_then o (byte_order ps qs))
    (ap (λ z. nat_cmp z (lifted y % 256 ^ 8)) ex ∙ ap (nat_cmp (lifted x)) ey ∙ lifted_order x y r s)
key_keeps (Text t) (Text u) ps qs r s =
    ap (λ l. byte_order l (ended u ++ qs)) (ended-behind t ps)
    ∙ ap (byte_order (escaped t ++ (0 ∷ 0 ∷ ps))) (ended-behind u qs) ∙ escaped_order t u ps qs
key_keeps (Blob t) (Blob u) ps qs r s =
    ap (λ l. byte_order l (ended u ++ qs)) (ended-behind t ps)
    ∙ ap (byte_order (escaped t ++ (0 ∷ 0 ∷ ps))) (ended-behind u qs) ∙ escaped_order t u ps qs
key_keeps Null Null ps qs r s = refl
key_keeps Null (Int _) ps qs r s = refl
key_keeps Null (Text _) ps qs r s = refl
key_keeps Null (Blob _) ps qs r s = refl
key_keeps (Int _) Null ps qs r s = refl
key_keeps (Int _) (Text _) ps qs r s = refl
key_keeps (Int _) (Blob _) ps qs r s = refl
key_keeps (Text _) Null ps qs r s = refl
key_keeps (Text _) (Int _) ps qs r s = refl
key_keeps (Text _) (Blob _) ps qs r s = refl
key_keeps (Blob _) Null ps qs r s = refl
key_keeps (Blob _) (Int _) ps qs r s = refl
key_keeps (Blob _) (Text _) ps qs r s = refl
