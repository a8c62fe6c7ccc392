-- Numbers: where none stands, and the digits of one of 16 bytes.
use Rattle.std.proofs.Common.{◌≡◌, ℕ, zero, suc, ◌+◌, ◌*◌, ◌^◌, ◌<◌, ◌≤◌, List, [], ◌∷◌, ◌++◌, length, slice_index, refl, sym, ap, ◌∙◌, subst, arith, length-append}
use Rattle.std.proofs.Math.Nat.{add-mul, mul-le-mul_right}
use Rattle.std.proofs.lemmas.List.{append-nil}
use Rattle.std.specs.Int.{byte_at, bytes_high_first}
use Rattle.byteorder.specs.Endian.{big_bytes, big_from}
use Rattle.byteorder.specs.Numbers.{length-bytes_high_first, big_from-cons, big_from-lt, big_number-reads_back}
use Rattle.key_code.proofs.NumberLaws.{before, same, after, trichotomy}
use Rattle.key_code.proofs.ValueLaws.{digits_tell}
use Rattle.frame_code.specs.Codes.{number, two_bytes, sixteen_bytes}
use Rattle.frame_code.specs.Spelled.{IsNumber, IsTwoBytes, IsSixteenBytes}
use Rattle.frame_code.specs.Tells.{Lacks, Begins}

-- too few bytes for a number
pub no_digits : (k : ℕ) (Has : ℕ → Type 0) (bytes : List ℕ) → length bytes < k → Lacks (big_bytes k) Has bytes
no_digits k Has bytes short v rest h e =
    let digits : length (big_bytes k v) ≡ k = length-bytes_high_first k v in
    let all : length (big_bytes k v ++ rest) ≡ length bytes = ap length e in
    let parts : length (big_bytes k v ++ rest) ≡ length (big_bytes k v) + length rest = length-append (big_bytes k v) rest in
    omega arith

pub no_number : (bytes : List ℕ) → length bytes < 8 → Lacks number IsNumber bytes
no_number bytes short = no_digits 8 IsNumber bytes short

pub no_two_bytes : (bytes : List ℕ) → length bytes < 2 → Lacks two_bytes IsTwoBytes bytes
no_two_bytes bytes short = no_digits 2 IsTwoBytes bytes short

pub no_sixteen_bytes : (bytes : List ℕ) → length bytes < 16 → Lacks sixteen_bytes IsSixteenBytes bytes
no_sixteen_bytes bytes short = no_digits 16 IsSixteenBytes bytes short

-- a number that is too great
pub great_number : (n : ℕ) (rest bytes : List ℕ) → 2 ^ 62 ≤ n → n < 2 ^ 64 → big_bytes 8 n ++ rest ≡ bytes → Lacks number IsNumber bytes
great_number n rest bytes great fits here v more h e =
    let v_fits : v < 256 ^ 8 = omega arith in
    let n_fits : n < 256 ^ 8 = omega arith in
    let both = digits_tell 8 v n more rest v_fits n_fits (e ∙ sym here) in
    let same : v ≡ n = both.0 in
    omega arith

-- a digit and what is below its place
one_place : (a b r s c : ℕ) → r < c → s < c → a * c + r ≡ b * c + s → (a ≡ b) × (r ≡ s)
one_place a b r s c hr hs e = elim (trichotomy a b) [
  | before h ↦
      let up : (a + 1) * c ≤ b * c = mul-le-mul_right c (omega arith) in
      let d : (a + 1) * c ≡ a * c + 1 * c = add-mul a 1 c in
      absurd (omega arith)
  | same h ↦
      let d : a * c ≡ b * c = ap (λ (z : ℕ). z * c) h in
      let left : r ≡ s = omega arith in
      (h, left)
  | after h ↦
      let up : (b + 1) * c ≤ a * c = mul-le-mul_right c (omega arith) in
      let d : (b + 1) * c ≡ b * c + 1 * c = add-mul b 1 c in
      absurd (omega arith)
]

-- each of these is a byte
abbrev pub AreBytes : List ℕ → Type 0
AreBytes xs = (k : ℕ) → slice_index xs k < 256

-- bytes that are one number are the same
same_digits : (n : ℕ) (xs ys : List ℕ) → length xs ≡ n → length ys ≡ n → AreBytes xs → AreBytes ys
    → big_from 0 n xs ≡ big_from 0 n ys → xs ≡ ys
same_digits zero [] [] hx hy px py e = refl
same_digits zero [] (y ∷ ys) hx hy px py e = absurd (omega arith)
same_digits zero (x ∷ xs) ys hx hy px py e = absurd (omega arith)
same_digits (suc n) [] ys hx hy px py e = absurd (omega arith)
same_digits (suc n) (x ∷ xs) [] hx hy px py e = absurd (omega arith)
same_digits (suc n) (x ∷ xs) (y ∷ ys) hx hy px py e =
    let lx : big_from 0 n xs < 256 ^ n = big_from-lt 0 n xs (λ k. px (suc k)) in
    let ly : big_from 0 n ys < 256 ^ n = big_from-lt 0 n ys (λ k. py (suc k)) in
    let mx : big_from 1 n (x ∷ xs) ≡ big_from 0 n xs = big_from-cons 0 n x xs in
    let my : big_from 1 n (y ∷ ys) ≡ big_from 0 n ys = big_from-cons 0 n y ys in
    let moved : x * 256 ^ n + big_from 0 n xs ≡ y * 256 ^ n + big_from 0 n ys =
    ap (λ (r : ℕ). x * 256 ^ n + r) (sym mx) ∙ e ∙ ap (λ (r : ℕ). y * 256 ^ n + r) my in
    let parts = one_place x y (big_from 0 n xs) (big_from 0 n ys) (256 ^ n) lx ly moved in
    ap (λ (z : ℕ). z ∷ xs) parts.0
    ∙ ap (λ (l : List ℕ). y ∷ l) (same_digits n xs ys (omega arith) (omega arith) (λ k. px (suc k)) (λ k. py (suc k)) parts.1)

byte_fits : (k x : ℕ) → byte_at k x < 256
byte_fits zero x = omega arith
byte_fits (suc k) x = omega arith

digits_fit : (n x : ℕ) → AreBytes (bytes_high_first n x)
digits_fit zero x zero = omega arith
digits_fit zero x (suc k) = omega arith
digits_fit (suc n) x zero = byte_fits n x
digits_fit (suc n) x (suc k) = digits_fit n x k

-- the digits of the number in some bytes are these bytes
digits_of_number : (n : ℕ) (xs : List ℕ) → length xs ≡ n → AreBytes xs → big_bytes n (big_from 0 n xs) ≡ xs
digits_of_number n xs h fits =
    let small : big_from 0 n xs < 256 ^ n = big_from-lt 0 n xs fits in
    let bare : big_bytes n (big_from 0 n xs) ++ [] ≡ big_bytes n (big_from 0 n xs) = append-nil (big_bytes n (big_from 0 n xs)) in
    let back : big_from 0 n (big_bytes n (big_from 0 n xs) ++ []) ≡ big_from 0 n xs = big_number-reads_back n (big_from 0 n xs) [] small in
    same_digits n (big_bytes n (big_from 0 n xs)) xs (length-bytes_high_first n (big_from 0 n xs)) h (digits_fit n (big_from 0 n xs)) fits
    (ap (λ (l : List ℕ). big_from 0 n l) (sym bare) ∙ back)

-- a front of bytes
front_fits : (xs rest : List ℕ) → AreBytes (xs ++ rest) → AreBytes xs
front_fits [] rest fits zero = omega arith
front_fits [] rest fits (suc k) = omega arith
front_fits (x ∷ xs) rest fits zero = fits zero
front_fits (x ∷ xs) rest fits (suc k) = front_fits xs rest (λ j. fits (suc j)) k

digits_begin : (k n : ℕ) (xs rest bytes : List ℕ) → n ≡ big_from 0 k xs → length xs ≡ k → AreBytes bytes → bytes ≡ xs ++ rest
    → (n < 256 ^ k) × (big_bytes k n ++ rest ≡ bytes)
digits_begin k n xs rest bytes is h fits e =
    let mine : AreBytes xs = front_fits xs rest (subst AreBytes e fits) in
    let small : big_from 0 k xs < 256 ^ k = big_from-lt 0 k xs mine in (
      subst (λ (m : ℕ). m < 256 ^ k) (sym is) small,
      ap (λ (m : ℕ). big_bytes k m ++ rest) is ∙ ap (λ (l : List ℕ). l ++ rest) (digits_of_number k xs h mine) ∙ sym e,
    )

pub sixteen_begin : (n : ℕ) (xs rest bytes : List ℕ) → n ≡ big_from 0 16 xs → length xs ≡ 16 → AreBytes bytes → bytes ≡ xs ++ rest
    → Begins sixteen_bytes IsSixteenBytes n rest bytes
sixteen_begin n xs rest bytes is h fits e = digits_begin 16 n xs rest bytes is h fits e
