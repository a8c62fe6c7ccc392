-- How long codes are.
use Rattle.std.proofs.Common.{◌≡◌, ℕ, zero, suc, ◌+◌, false, cond, List, [], ◌∷◌, length, refl, eqb, count_by, length-append, arith}
use Rattle.std.proofs.lemmas.Bool.Decides.{nat_tests}
use Rattle.std.proofs.lemmas.List.Sums.{sum_by-cons}
use Rattle.std.specs.Int.{bytes_high_first}
use Rattle.byteorder.specs.Numbers.{length-bytes_high_first}
use Rattle.cdb_values.specs.Good.{key_bytes, row_bytes, bytes_of_key, bytes_of_row}
use Rattle.cdb_values.specs.declared.values.Value.{Value}
use Rattle.cdb_values.specs.declared.values.Value.TheVariants.{Null, Int, Text, Blob}
use Rattle.key_code.specs.Codes.{lifted, complement, escaped, ended, counted, key_value, row_value, key_code, row_code}

length-escaped : (bytes : List ℕ) → length (escaped bytes) ≡ length bytes + count_by (λ b. eqb b 0) bytes
length-escaped [] = refl
length-escaped (zero ∷ bytes) =
    let more = sum_by-cons (λ (b : ℕ). cond (eqb b 0) 1 0) 0 bytes in omega (arith, length-escaped bytes, more)
length-escaped (suc b ∷ bytes) =
    let other : eqb (suc b) 0 ≡ false = grind (arith, nat_tests) in
    let one : ◌≡◌ {A = ℕ} (cond (eqb (suc b) 0) 1 0) 0 = rw other refl in
    let more = sum_by-cons (λ (b : ℕ). cond (eqb b 0) 1 0) (suc b) bytes in omega (arith, length-escaped bytes, more, one)

length-ended : (bytes : List ℕ) → 1 + length (ended bytes) ≡ 3 + length bytes + count_by (λ b. eqb b 0) bytes
length-ended bytes = omega (arith, length-escaped bytes, length-append (escaped bytes) (0 ∷ 0 ∷ []))

length-counted : (bytes : List ℕ) → length (counted bytes) ≡ 4 + length bytes
length-counted bytes = omega (arith, length-append (bytes_high_first 4 (length bytes)) bytes, length-bytes_high_first 4 (length bytes))

length-key_value : (value : Value) → length (key_value value) ≡ key_bytes value
length-key_value Null = refl
length-key_value (Int x) = omega (arith, length-bytes_high_first 8 (lifted x))
length-key_value (Text text) = omega (arith, length-ended text)
length-key_value (Blob blob) = omega (arith, length-ended blob)

length-row_value : (value : Value) → length (row_value value) ≡ row_bytes value
length-row_value Null = refl
length-row_value (Int x) = omega (arith, length-bytes_high_first 8 (complement x))
length-row_value (Text text) = omega (arith, length-counted text)
length-row_value (Blob blob) = omega (arith, length-counted blob)

pub length-key_code : (values : List Value) → length (key_code values) ≡ bytes_of_key values
length-key_code [] = refl
length-key_code (v ∷ vs) = omega (arith, length-append (key_value v) (key_code vs), length-key_value v, length-key_code vs)

pub length-row_code : (values : List Value) → length (row_code values) ≡ bytes_of_row values
length-row_code [] = refl
length-row_code (v ∷ vs) = omega (arith, length-append (row_value v) (row_code vs), length-row_value v, length-row_code vs)

-- no values have no bytes
pub no_key_bytes : (values : List Value) → length values ≡ 0 → bytes_of_key values ≡ 0
no_key_bytes [] h = refl
no_key_bytes (v ∷ vs) h = absurd (omega arith)

pub no_row_bytes : (values : List Value) → length values ≡ 0 → bytes_of_row values ≡ 0
no_row_bytes [] h = refl
no_row_bytes (v ∷ vs) h = absurd (omega arith)
