-- Numbers and names: the front of bytes, the value of digits, and the exact readers.
use Rattle.std.proofs.Common.{rules, ◌≡◌, ℕ, zero, suc, ◌+◌, ◌-◌, ◌*◌, ◌^◌, ◌≤◌, ◌<◌, List, [], ◌∷◌, ◌++◌, length, get_or, Some, None, Bool, true, false, eqb, refl, sym, ap, subst, ◌∙◌, arith, lit<, ◌&&◌, ◌||◌, not}
use Rattle.std.specs.Prelude.{nat_le}
use Rattle.std.specs.Fmt.{decimal}
use Rattle.std.specs.List.{list_all}
use Rattle.std.proofs.lemmas.Bool.{eqb-true, eq-eqb, ne_eqb, leb-true, le-leb}
use Rattle.std.proofs.lemmas.Option.{some_pair_parts, same_Some}
use Rattle.std.proofs.lemmas.Str.Parse.{IsNumeralModel, numerals_by_fold}
use Rattle.std.proofs.lemmas.Fmt.{digits_decimal, digits_value-decimal, decimal-digits_value, decimal_digit, decimal_nonempty, first_decimal}
use Rattle.byte_words.specs.Words.{is_digit, front, behind, is_numeral, value_from, at_most, numeral_of}
use Rattle.byte_words.specs.Names.{is_name_byte, begins_lower, IsName}
use Rattle.report_read.specs.Reading.{behind_word, number_within, number_at, name_of, name_at}
use Rattle.report_read.proofs.ReaderLaws.{Exact, next_is, bind_some, guard_some}

-- ---- the front of bytes

pub front_behind : (test : ℕ → Bool) (bytes : List ℕ) → bytes ≡ front test bytes ++ behind test bytes
front_behind test [] = refl
front_behind test (b ∷ bytes) = go (test b) refl (front_behind test bytes)
  where
    go : (t : Bool) → test b ≡ t → bytes ≡ front test bytes ++ behind test bytes → b ∷ bytes ≡ front test (b ∷ bytes) ++ behind test (b ∷ bytes)
    go true h more = rw h (ap (λ l. b ∷ l) more)
    go false h more = rw h refl

pub front_passes : (test : ℕ → Bool) (bytes : List ℕ) → list_all test (front test bytes) ≡ true
front_passes test [] = refl
front_passes test (b ∷ bytes) = go (test b) refl (front_passes test bytes)
  where
    go : (t : Bool) → test b ≡ t → list_all test (front test bytes) ≡ true → list_all test (front test (b ∷ bytes)) ≡ true
    go true h more = rw (h, h) more
    go false h more = rw h refl

and_both : (a b : Bool) → (a && b) ≡ true → (a ≡ true) × (b ≡ true)
and_both true b h = (refl, h)
and_both false b h = absurd cc

front_stops : (test : ℕ → Bool) (rest : List ℕ) → next_is test rest ≡ false → (front test rest ≡ []) × (behind test rest ≡ rest)
front_stops test [] h = (refl, refl)
front_stops test (b ∷ rest) h = (rw h refl, rw h refl)

pub front_again : (test : ℕ → Bool) (word rest : List ℕ) → list_all test word ≡ true → next_is test rest ≡ false → (front test (word ++ rest) ≡ word) × (behind test (word ++ rest) ≡ rest)
front_again test [] rest all stops = front_stops test rest stops
front_again test (b ∷ word) rest all stops =
    let parts = and_both (test b) (list_all test word) all in
    let more = front_again test word rest parts.1 stops in
    let here = parts.0 in
    (rw here (ap (λ l. b ∷ l) more.0), rw here more.1)

-- ---- numbers

own : IsNumeralModel (λ ds. list_all is_digit ds ≡ true) (value_from 0)
own = numerals_by_fold _ (search rules) value_from (search rules)

numeral_long : (ds : List ℕ) → is_numeral ds ≡ true → 0 < length ds
numeral_long [] h = absurd cc
numeral_long (d ∷ ds) h = omega arith

or_other : (a b : Bool) → (not a || b) ≡ true → a ≡ true → b ≡ true
or_other true b h e = h
or_other false b h e = absurd cc

numeral_first : (ds : List ℕ) → is_numeral ds ≡ true → get_or ds 0 0 ≡ 48 → length ds ≡ 1
numeral_first [] h e = absurd cc
numeral_first (d ∷ ds) h e =
    let k = or_other (eqb d 48) (eqb (length ds) 0) h (eq-eqb d 48 e) in
    let none = eqb-true (length ds) 0 k in
    omega (arith, none)

not_first : (d : ℕ) (ds : List ℕ) → 48 < d → is_numeral (d ∷ ds) ≡ true
not_first d ds more = let e = ne_eqb d 48 (λ h. omega arith) in rw e refl

first_more : (ds : List ℕ) → 48 < get_or ds 0 0 → is_numeral ds ≡ true
first_more [] h = absurd (omega arith)
first_more (d ∷ ds) h = not_first d ds h

decimal_numeral : (n : ℕ) → n < 2 ^ 64 → is_numeral (decimal n) ≡ true
decimal_numeral zero h = rw (decimal_digit 0 (lit< tt)) refl
decimal_numeral (suc n) h = first_more (decimal (suc n)) (first_decimal (suc n) (omega arith) h)

-- the digits of a number
pub decimal_digits : (n : ℕ) → n < 2 ^ 64 → list_all is_digit (decimal n) ≡ true
decimal_digits n h = digits_decimal own n h

digit_first : (ds : List ℕ) → list_all is_digit ds ≡ true → 0 < length ds → (d : ℕ) × (others : List ℕ) × (ds ≡ d ∷ others) × (is_digit d ≡ true)
digit_first [] all long = absurd (omega arith)
digit_first (d ∷ ds) all long = (d, ds, refl, (and_both (is_digit d) (list_all is_digit ds) all).0)

other_byte : (w d : ℕ) → is_digit w ≡ false → is_digit d ≡ true → w ≡ d → ⊥
other_byte w d no_digit digit e = let h : is_digit w ≡ true = subst (λ (x : ℕ). is_digit x ≡ true) (sym e) digit in absurd cc

-- a word whose first byte is no digit does not begin a number
pub no_word_here : (w : ℕ) (word : List ℕ) (n : ℕ) (rest : List ℕ) → n < 2 ^ 64 → is_digit w ≡ false → behind_word (w ∷ word) (decimal n ++ rest) ≡ None
unfolding behind_word
no_word_here w word n rest fits other =
    let f = digit_first (decimal n) (decimal_digits n fits) (decimal_nonempty n fits) in
    let e = ne_eqb w f.0 (other_byte w f.0 other f.3) in
    rw (f.2, e) refl

at_most_is : (most v n : ℕ) → at_most most v ≡ Some n → (v ≤ most) × (v ≡ n)
at_most_is most v n h =
    let g = guard_some (nat_le v most) (Some v) n h in
    (leb-true v most g.0, same_Some v n g.1)

at_most_again : (most n : ℕ) → n ≤ most → at_most most n ≡ Some n
at_most_again most n h = let e = le-leb n most h in rw e refl

pub exact_number : (most : ℕ) → most < 2 ^ 64 → Exact decimal (λ n. n ≤ most) is_digit (number_within most)
unfolding number_within
exact_number most small = record {
  found = λ bytes n rest h.
      let ds = front is_digit bytes in
      let p = bind_some (numeral_of most ds) (λ v. Some (v, behind is_digit bytes)) (n, rest) h in
      let same = some_pair_parts p.0 n (behind is_digit bytes) rest p.2 in
      let g = guard_some (is_numeral ds) (at_most most (value_from 0 ds)) p.0 p.1 in
      let v = at_most_is most (value_from 0 ds) p.0 g.1 in
      let within : value_from 0 ds ≤ most = v.0 in
      let spelled : decimal (value_from 0 ds) ≡ ds = decimal-digits_value own ds (front_passes is_digit bytes) (numeral_long ds g.0) (numeral_first ds g.0) (omega arith) in
      let number : value_from 0 ds ≡ n = v.1 ∙ same.0 in
      (front_behind is_digit bytes ∙ ap (λ l. l ++ behind is_digit bytes) (sym spelled) ∙ ap (λ k. decimal k ++ behind is_digit bytes) number ∙ ap (λ k. decimal n ++ k) same.1, subst (λ k. k ≤ most) number within);
  again = λ n rest is stops.
      let fits : n < 2 ^ 64 = omega arith in
      let f = front_again is_digit (decimal n) rest (decimal_digits n fits) stops in
      let before = f.0 in
      let after = f.1 in
      let numeral = decimal_numeral n fits in
      let value : value_from 0 (decimal n) ≡ n = digits_value-decimal own n fits in
      let limit = at_most_again most n is in
      rw (before, after, numeral, value, limit) refl;
}

pub exact_whole : Exact decimal (λ n. n < 2 ^ 64) is_digit number_at
unfolding number_at
exact_whole = record {
  found = λ bytes n rest h. let f = (exact_number (2 ^ 64 - 1) (lit< tt)).found bytes n rest h in (f.0, omega (arith, f.1));
  again = λ n rest is stops. (exact_number (2 ^ 64 - 1) (lit< tt)).again n rest (omega arith) stops;
}

-- ---- names

name_is : (word name : List ℕ) → name_of word ≡ Some name → (begins_lower word ≡ true) × (length word ≤ 32) × (word ≡ name)
name_is word name h =
    let g = guard_some (begins_lower word && nat_le (length word) 32) (Some word) name h in
    let parts = and_both (begins_lower word) (nat_le (length word) 32) g.0 in
    (parts.0, leb-true (length word) 32 parts.1, same_Some word name g.1)

name_again : (name : List ℕ) → IsName name → name_of name ≡ Some name
name_again name is = let b = is.begun in let s = le-leb (length name) 32 is.short in rw (b, s) refl

pub exact_name : Exact (λ name. name) IsName is_name_byte name_at
unfolding name_at
exact_name = record {
  found = λ bytes name rest h.
      let word = front is_name_byte bytes in
      let p = bind_some (name_of word) (λ n. Some (n, behind is_name_byte bytes)) (name, rest) h in
      let same = some_pair_parts p.0 name (behind is_name_byte bytes) rest p.2 in
      let n = name_is word p.0 p.1 in
      let is : IsName word = record { bytes = front_passes is_name_byte bytes; begun = n.0; short = n.1 } in
      (front_behind is_name_byte bytes ∙ ap (λ l. l ++ behind is_name_byte bytes) (n.2 ∙ same.0) ∙ ap (λ k. name ++ k) same.1, subst IsName (n.2 ∙ same.0) is);
  again = λ name rest is stops.
      let f = front_again is_name_byte name rest is.bytes stops in
      let before = f.0 in
      let after = f.1 in
      let n = name_again name is in
      rw (before, after, n) refl;
}
