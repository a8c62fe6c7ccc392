-- The readers of integers, values and rows are exact.
use Rattle.std.proofs.Common.{◌≡◌, ℕ, zero, suc, ◌-◌, ◌^◌, ◌≤◌, List, [], ◌∷◌, ◌++◌, length, Option, Some, None, Bool, true, false, refl, sym, ap, subst, ◌∙◌, append_assoc, arith, lit<, ◌⊎◌, inl, inr, ◌||◌, length-append}
use Rattle.std.specs.Prelude.{ℤ, pos, negsuc, codes}
use Rattle.std.specs.Fmt.{decimal, signed_decimal}
use Rattle.std.specs.List.{AllByRecursion}
use Rattle.std.specs.Str.{is_utf8}
use Rattle.std.proofs.lemmas.Option.{some_pair_parts, same_Some}
use Rattle.cdb_values.specs.declared.values.Value.{Value}
use Rattle.cdb_values.specs.declared.values.Value.TheVariants.{Null, Int, Text, Blob}
use Rattle.byte_words.specs.Words.{is_digit, ◌>>=◌}
use Rattle.report_text.specs.Grammar.{IsValue, IsRow}
use Rattle.report_text.specs.Text.{quoted, hexadecimal, value_text, values_text, more_values}
use Rattle.report_read.specs.Reading.{Read, behind_word, as_of, led, minus, number_within, negative_at, integer_at, plain_value_at, text_at, blob_at, value_at, with_first, more_values_at, values_at}
use Rattle.report_read.proofs.ReaderLaws.{Exact, Sound, next_is, next_none, bind_some, word_found, word_again, exact_after, exact_only, sound_of, sound_as, sound_either, sound_word}
use Rattle.report_read.proofs.NumberLemmas.{exact_number, no_word_here}
use Rattle.report_read.proofs.CodedLaws.{is_quote, exact_quoted, exact_hexadecimal}

-- ---- integers

abbrev pub IsInt : ℤ → Type 0
IsInt z = IsValue (Int z)

pub led_some : {A : Type 0} (o : Option (List ℕ)) (next : List ℕ → Read A) (other : Read A) (y : A × List ℕ) → led o next other ≡ Some y → ((k : List ℕ) × (o ≡ Some k) × (next k ≡ Some y)) ⊎ (other ≡ Some y)
led_some None next other y h = inr h
led_some (Some k) next other y h = inl (k, refl, h)

minus_is : (n : ℕ) (z : ℤ) → n ≤ 2 ^ 63 → minus n ≡ Some z → (signed_decimal z ≡ 45 ∷ decimal n) × IsInt z
minus_is zero z small h = absurd cc
minus_is (suc n) z small h = let P : ℤ → Type 0 = λ v. (signed_decimal v ≡ 45 ∷ decimal (suc n)) × IsInt v in subst P (same_Some (negsuc n) z h) (refl, omega arith)

abbrev IntAt : List ℕ → ℤ → List ℕ → Type 0
IntAt bytes z rest = (bytes ≡ signed_decimal z ++ rest) × IsInt z

negative_found : (bytes k : List ℕ) (z : ℤ) (rest : List ℕ) → behind_word (45 ∷ []) bytes ≡ Some k → negative_at k ≡ Some (z, rest) → IntAt bytes z rest
unfolding negative_at
negative_found bytes k z rest w h =
    let p = bind_some (number_within (2 ^ 63) k) (λ x. minus x.0 >>= (λ v. Some (v, x.1))) (z, rest) h in
    let q = bind_some (minus p.0.0) (λ v. Some (v, p.0.1)) (z, rest) p.2 in
    let same = some_pair_parts q.0 z p.0.1 rest q.2 in
    let f = (exact_number (2 ^ 63) (lit< tt)).found k p.0.0 p.0.1 p.1 in
    let m = minus_is p.0.0 q.0 f.1 q.1 in
    (word_found (45 ∷ []) bytes k w ∙ ap (λ l. 45 ∷ l) f.0 ∙ ap (λ l. l ++ p.0.1) (sym m.0) ∙ ap (λ v. signed_decimal v ++ p.0.1) same.0 ∙ ap (λ l. signed_decimal z ++ l) same.1, subst IsInt same.0 m.1)

positive_found : (bytes : List ℕ) (z : ℤ) (rest : List ℕ) → as_of pos (number_within (2 ^ 63 - 1)) bytes ≡ Some (z, rest) → IntAt bytes z rest
positive_found bytes z rest h = (sound_as pos signed_decimal IsInt (sound_of (exact_number (2 ^ 63 - 1) (lit< tt))) (λ n. refl) (λ n is. omega (arith, is))).found bytes z rest h

integer_found : (bytes : List ℕ) (z : ℤ) (rest : List ℕ) → integer_at bytes ≡ Some (z, rest) → IntAt bytes z rest
unfolding integer_at
integer_found bytes z rest h = elim (led_some (behind_word (45 ∷ []) bytes) negative_at (as_of pos (number_within (2 ^ 63 - 1)) bytes) (z, rest) h) [
  | inl k ↦ negative_found bytes k.0 z rest k.1 k.2
  | inr k ↦ positive_found bytes z rest k
]

integer_again : (z : ℤ) (rest : List ℕ) → IsInt z → next_is is_digit rest ≡ false → integer_at (signed_decimal z ++ rest) ≡ Some (z, rest)
unfolding integer_at negative_at
integer_again (pos n) rest is stops =
    let none = no_word_here 45 [] n rest (omega (arith, is)) refl in
    let read = (exact_number (2 ^ 63 - 1) (lit< tt)).again n rest (omega (arith, is)) stops in
    rw (none, read) refl
integer_again (negsuc n) rest is stops =
    let some = word_again (45 ∷ []) (decimal (suc n) ++ rest) in
    let read = (exact_number (2 ^ 63) (lit< tt)).again (suc n) rest (omega (arith, is)) stops in
    rw (some, read) refl

pub exact_integer : Exact signed_decimal IsInt is_digit integer_at
exact_integer = record { found = λ bytes z rest h. integer_found bytes z rest h; again = λ z rest is stops. integer_again z rest is stops }

-- ---- values

sound_plain : Sound value_text IsValue plain_value_at
unfolding plain_value_at
sound_plain = record { found = λ bytes v rest h. (sound_either (sound_word (codes "null") Null value_text IsValue refl tt) (sound_as Int value_text IsValue (sound_of exact_integer) (λ z. refl) (λ z is. is))).found bytes v rest h }

sound_text : Sound value_text IsValue text_at
unfolding text_at
sound_text = record { found = λ bytes v rest h. (sound_as Text value_text IsValue (sound_of (exact_only is_utf8 (exact_after (39 ∷ []) exact_quoted))) (λ t. refl) (λ t is. is.1)).found bytes v rest h }

sound_blob : Sound value_text IsValue blob_at
unfolding blob_at
sound_blob = record { found = λ bytes v rest h. (sound_as Blob value_text IsValue (sound_of (exact_after (120 ∷ 39 ∷ []) exact_hexadecimal)) (λ b. refl) (λ b is. is)).found bytes v rest h }

value_found : (bytes : List ℕ) (v : Value) (rest : List ℕ) → value_at bytes ≡ Some (v, rest) → (bytes ≡ value_text v ++ rest) × IsValue v
unfolding value_at
value_found bytes v rest h = (sound_either sound_plain (sound_either sound_text sound_blob)).found bytes v rest h

-- a byte that goes on with some value
abbrev pub in_value : ℕ → Bool
in_value b = is_digit b || is_quote b

or_parts : (a b : Bool) → (a || b) ≡ false → (a ≡ false) × (b ≡ false)
or_parts true b h = absurd cc
or_parts false b h = (refl, h)

no_digit_next : (rest : List ℕ) → next_is in_value rest ≡ false → next_is is_digit rest ≡ false
no_digit_next [] h = refl
no_digit_next (b ∷ rest) h = (or_parts (is_digit b) (is_quote b) h).0

no_quote_next : (rest : List ℕ) → next_is in_value rest ≡ false → next_is is_quote rest ≡ false
no_quote_next [] h = refl
no_quote_next (b ∷ rest) h = (or_parts (is_digit b) (is_quote b) h).1

no_null : (z : ℤ) (rest : List ℕ) → IsInt z → behind_word (codes "null") (signed_decimal z ++ rest) ≡ None
unfolding behind_word
no_null (pos n) rest is = no_word_here 110 (117 ∷ 108 ∷ 108 ∷ []) n rest (omega (arith, is)) refl
no_null (negsuc n) rest is = refl

text_again : (text rest : List ℕ) → is_utf8 text ≡ true → next_is is_quote rest ≡ false → text_at (39 ∷ (quoted text ++ rest)) ≡ Some (Text text, rest)
unfolding text_at
text_again text rest is stops = ap (λ o. o >>= (λ x. Some (Text x.0, x.1))) ((exact_only is_utf8 (exact_after (39 ∷ []) exact_quoted)).again text rest (tt, is) stops)

blob_again : (blob rest : List ℕ) → IsValue (Blob blob) → blob_at (120 ∷ 39 ∷ (hexadecimal blob ++ rest)) ≡ Some (Blob blob, rest)
unfolding blob_at
blob_again blob rest is = ap (λ o. o >>= (λ x. Some (Blob x.0, x.1))) ((exact_after (120 ∷ 39 ∷ []) exact_hexadecimal).again blob rest is (next_none rest))

plain_text : (bytes : List ℕ) → plain_value_at (39 ∷ bytes) ≡ None
unfolding plain_value_at integer_at behind_word number_within
plain_text bytes = refl

plain_blob : (bytes : List ℕ) → plain_value_at (120 ∷ bytes) ≡ None
unfolding plain_value_at integer_at behind_word number_within
plain_blob bytes = refl

text_blob : (bytes : List ℕ) → text_at (120 ∷ bytes) ≡ None
unfolding text_at behind_word
text_blob bytes = refl

null_again : (rest : List ℕ) → plain_value_at (codes "null" ++ rest) ≡ Some (Null, rest)
unfolding plain_value_at behind_word
null_again rest = refl

int_again : (z : ℤ) (rest : List ℕ) → IsInt z → next_is is_digit rest ≡ false → plain_value_at (signed_decimal z ++ rest) ≡ Some (Int z, rest)
unfolding plain_value_at
int_again z rest is stops = let none = no_null z rest is in let read = integer_again z rest is stops in rw (none, read) refl

value_again : (v : Value) (rest : List ℕ) → IsValue v → next_is in_value rest ≡ false → value_at (value_text v ++ rest) ≡ Some (v, rest)
unfolding value_at
value_again Null rest is stops = let e = null_again rest in rw e refl
value_again (Int z) rest is stops = let e = int_again z rest is (no_digit_next rest stops) in rw e refl
value_again (Text t) rest is stops = let none = plain_text (quoted t ++ rest) in let some = text_again t rest is (no_quote_next rest stops) in rw (none, some) refl
value_again (Blob b) rest is stops = let none = plain_blob (39 ∷ (hexadecimal b ++ rest)) in let other = text_blob (39 ∷ (hexadecimal b ++ rest)) in let some = blob_again b rest is in rw (none, other, some) refl

pub exact_value : Exact value_text IsValue in_value value_at
exact_value = record { found = λ bytes v rest h. value_found bytes v rest h; again = λ v rest is stops. value_again v rest is stops }

-- ---- rows

more_found : (n : ℕ) (bytes : List ℕ) (vs : List Value) (rest : List ℕ) → more_values_at n bytes ≡ Some (vs, rest) → (bytes ≡ more_values vs ++ rest) × AllByRecursion IsValue vs
unfolding more_values_at
more_found zero bytes vs rest h =
    let same = some_pair_parts [] vs bytes rest h in
    (same.1 ∙ ap (λ u. more_values u ++ rest) same.0, subst (λ u. AllByRecursion IsValue u) same.0 tt)
more_found (suc n) bytes vs rest h = elim (led_some (behind_word (124 ∷ []) bytes) (λ k. value_at k >>= (λ v. with_first v.0 (more_values_at n v.1))) (Some ([], bytes)) (vs, rest) h) [
  | inl k ↦
      let p = bind_some (value_at k.0) (λ v. with_first v.0 (more_values_at n v.1)) (vs, rest) k.2 in
      let q = bind_some (more_values_at n p.0.1) (λ us. Some (p.0.0 ∷ us.0, us.1)) (vs, rest) p.2 in
      let same = some_pair_parts (p.0.0 ∷ q.0.0) vs q.0.1 rest q.2 in
      let f = value_found k.0 p.0.0 p.0.1 p.1 in
      let m = more_found n p.0.1 q.0.0 q.0.1 q.1 in
      let whole : bytes ≡ more_values (p.0.0 ∷ q.0.0) ++ q.0.1 =
      word_found (124 ∷ []) bytes k.0 k.1 ∙ ap (λ l. 124 ∷ l) (f.0 ∙ ap (λ l. value_text p.0.0 ++ l) m.0 ∙ sym (append_assoc (value_text p.0.0) (more_values q.0.0) q.0.1)) in
      (whole ∙ ap (λ u. more_values u ++ q.0.1) same.0 ∙ ap (λ l. more_values vs ++ l) same.1, subst (λ u. AllByRecursion IsValue u) same.0 (f.1, m.1))
  | inr k ↦
      let same = some_pair_parts [] vs bytes rest k in
      (same.1 ∙ ap (λ u. more_values u ++ rest) same.0, subst (λ u. AllByRecursion IsValue u) same.0 tt)
]

pub values_found : (bytes : List ℕ) (row : List Value) (rest : List ℕ) → values_at bytes ≡ Some (row, rest) → (bytes ≡ values_text row ++ rest) × IsRow row
unfolding values_at
values_found bytes row rest h =
    let p = bind_some (value_at bytes) (λ v. with_first v.0 (more_values_at (length v.1) v.1)) (row, rest) h in
    let q = bind_some (more_values_at (length p.0.1) p.0.1) (λ us. Some (p.0.0 ∷ us.0, us.1)) (row, rest) p.2 in
    let same = some_pair_parts (p.0.0 ∷ q.0.0) row q.0.1 rest q.2 in
    let f = value_found bytes p.0.0 p.0.1 p.1 in
    let m = more_found (length p.0.1) p.0.1 q.0.0 q.0.1 q.1 in
    let whole : bytes ≡ values_text (p.0.0 ∷ q.0.0) ++ q.0.1 = f.0 ∙ ap (λ l. value_text p.0.0 ++ l) m.0 ∙ sym (append_assoc (value_text p.0.0) (more_values q.0.0) q.0.1) in
    (whole ∙ ap (λ u. values_text u ++ q.0.1) same.0 ∙ ap (λ l. values_text row ++ l) same.1, subst IsRow same.0 (f.1, m.1))

no_value_next : (vs : List Value) (rest : List ℕ) → next_is in_value (more_values vs ++ (10 ∷ rest)) ≡ false
no_value_next [] rest = refl
no_value_next (v ∷ vs) rest = refl

more_again : (n : ℕ) (vs : List Value) (rest : List ℕ) → length vs ≤ n → AllByRecursion IsValue vs → more_values_at n (more_values vs ++ (10 ∷ rest)) ≡ Some (vs, 10 ∷ rest)
unfolding more_values_at behind_word
more_again zero [] rest h is = refl
more_again zero (v ∷ vs) rest h is = absurd (omega arith)
more_again (suc n) [] rest h is = refl
more_again (suc n) (v ∷ vs) rest h is =
    let regrouped = append_assoc (value_text v) (more_values vs) (10 ∷ rest) in
    let one = value_again v (more_values vs ++ (10 ∷ rest)) is.0 (no_value_next vs rest) in
    let others = more_again n vs rest (omega arith) is.1 in
    rw (regrouped, one, others) refl

long_enough : (vs : List Value) (rest : List ℕ) → length vs ≤ length (more_values vs ++ (10 ∷ rest))
long_enough [] rest = omega arith
long_enough (v ∷ vs) rest =
    let more = long_enough vs rest in
    let whole = length-append (more_values (v ∷ vs)) (10 ∷ rest) in
    let inner = length-append (more_values vs) (10 ∷ rest) in
    let first = length-append (value_text v) (more_values vs) in
    omega arith

pub values_again : (row : List Value) (rest : List ℕ) → IsRow row → values_at (values_text row ++ (10 ∷ rest)) ≡ Some (row, 10 ∷ rest)
unfolding values_at
values_again [] rest is = absurd is
values_again (v ∷ vs) rest is =
    let regrouped = append_assoc (value_text v) (more_values vs) (10 ∷ rest) in
    let one = value_again v (more_values vs ++ (10 ∷ rest)) is.0 (no_value_next vs rest) in
    let others = more_again (length (more_values vs ++ (10 ∷ rest))) vs rest (long_enough vs rest) is.1 in
    rw (regrouped, one, others) refl
