-- The readers of texts and blobs are exact.
use Rattle.std.proofs.Common.{◌≡◌, ℕ, ◌+◌, ◌-◌, ◌*◌, ◌/◌, ◌%◌, ◌≤◌, ◌<◌, List, [], ◌∷◌, ◌++◌, Option, Some, None, Bool, true, false, cond, eqb, refl, sym, ap, subst, ◌∙◌, arith, ◌⊎◌, inl, inr, ◌&&◌}
use Rattle.std.specs.Prelude.{nat_le}
use Rattle.std.specs.List.{AllByRecursion}
use Rattle.std.proofs.lemmas.Bool.{leb-true, le-leb, lt-leb, lt-ltb, le-ltb, cases_lt, ne_eqb}
use Rattle.std.proofs.lemmas.Bool.Decides.{eqb_tells}
use Rattle.std.proofs.lemmas.Option.{some_pair_parts, same_Some}
use Rattle.byte_words.specs.Words.{is_digit, ◌>>=◌}
use Rattle.report_text.specs.Text.{quoted, hex_digit, hexadecimal}
use Rattle.report_read.specs.Reading.{Read, put, quoted_at, hexadecimal_at, digit_value, byte_of}
use Rattle.report_read.proofs.CodedLemmas.{quoted_byte, hexadecimal_end, hexadecimal_digits, hexadecimal_odd}
use Rattle.report_read.proofs.ReaderLaws.{Exact, next_is, no_byte, bind_some, guard_some}

-- ---- texts

abbrev pub is_quote : ℕ → Bool
is_quote b = eqb b 39

twice : (bytes : List ℕ) → quoted_at (39 ∷ 39 ∷ bytes) ≡ put 39 (quoted_at bytes)
unfolding quoted_at
twice bytes = refl

once : (bytes : List ℕ) → next_is is_quote bytes ≡ false → quoted_at (39 ∷ bytes) ≡ Some ([], bytes)
unfolding quoted_at
once [] stops = refl
once (c ∷ bytes) stops = rw stops refl

nothing : (t rest : List ℕ) → quoted_at [] ≡ Some (t, rest) → [] ≡ quoted t ++ rest
unfolding quoted_at
nothing t rest h = absurd cc

put_parts : (b : ℕ) (read : Read (List ℕ)) (t rest : List ℕ) → put b read ≡ Some (t, rest) → (u : List ℕ) × (read ≡ Some (u, rest)) × (b ∷ u ≡ t)
put_parts b None t rest h = absurd cc
put_parts b (Some x) t rest h =
    let same = some_pair_parts (b ∷ x.0) t x.1 rest h in
    (x.0, ap (λ k. Some (x.0, k)) same.1, same.0)

quoted_other : (b : ℕ) (bs : List ℕ) → (b ≡ 39 → ⊥) → quoted (b ∷ bs) ≡ b ∷ quoted bs
quoted_other b bs other = let e = ne_eqb b 39 other in rw e refl

found_once : (bytes t rest : List ℕ) → next_is is_quote bytes ≡ false → quoted_at (39 ∷ bytes) ≡ Some (t, rest) → 39 ∷ bytes ≡ quoted t ++ rest
found_once bytes t rest stops h =
    let same = some_pair_parts [] t bytes rest (sym (once bytes stops) ∙ h) in
    ap (λ k. 39 ∷ k) same.1 ∙ ap (λ u. quoted u ++ rest) same.0

found_twice : (bytes t rest : List ℕ) → ((u k : List ℕ) → quoted_at bytes ≡ Some (u, k) → bytes ≡ quoted u ++ k) → quoted_at (39 ∷ 39 ∷ bytes) ≡ Some (t, rest) → 39 ∷ 39 ∷ bytes ≡ quoted t ++ rest
found_twice bytes t rest more h =
    let p = put_parts 39 (quoted_at bytes) t rest (sym (twice bytes) ∙ h) in
    ap (λ l. 39 ∷ 39 ∷ l) (more p.0 rest p.1) ∙ ap (λ u. quoted u ++ rest) p.2

found_byte : (b : ℕ) (bytes t rest : List ℕ) → (b ≡ 39 → ⊥) → ((u k : List ℕ) → quoted_at bytes ≡ Some (u, k) → bytes ≡ quoted u ++ k) → quoted_at (b ∷ bytes) ≡ Some (t, rest) → b ∷ bytes ≡ quoted t ++ rest
found_byte b bytes t rest other more h =
    let p = put_parts b (quoted_at bytes) t rest (sym (quoted_byte b bytes other) ∙ h) in
    ap (λ l. b ∷ l) (more p.0 rest p.1) ∙ ap (λ l. l ++ rest) (sym (quoted_other b p.0 other)) ∙ ap (λ u. quoted u ++ rest) p.2

abbrev FoundAt : List ℕ → Type 0
FoundAt bytes = (t rest : List ℕ) → quoted_at bytes ≡ Some (t, rest) → bytes ≡ quoted t ++ rest

move_first : (a b : ℕ) (bytes : List ℕ) → b ≡ a → FoundAt (a ∷ bytes) → FoundAt (b ∷ bytes)
move_first a b bytes e f = subst (λ (x : ℕ). FoundAt (x ∷ bytes)) (sym e) f

quoted_found : (bytes : List ℕ) → FoundAt bytes
quoted_found [] = λ t rest h. nothing t rest h
quoted_found (b ∷ []) = elim (eqb_tells b 39) [
  | inl e ↦ move_first 39 b [] e.1 (λ t rest h. found_once [] t rest refl h)
  | inr e ↦ λ t rest h. found_byte b [] t rest e.1 (λ u k g. nothing u k g) h
]
quoted_found (b ∷ c ∷ bytes) = elim (eqb_tells b 39) [
  | inl e ↦ move_first 39 b (c ∷ bytes) e.1 (elim (eqb_tells c 39) [
    | inl f ↦ subst (λ (x : ℕ). FoundAt (39 ∷ x ∷ bytes)) (sym f.1) (λ t rest h. found_twice bytes t rest (λ u k g. quoted_found bytes u k g) h)
    | inr f ↦ λ t rest h. found_once (c ∷ bytes) t rest f.0 h
  ])
  | inr e ↦ λ t rest h. found_byte b (c ∷ bytes) t rest e.1 (λ u k g. quoted_found (c ∷ bytes) u k g) h
]

quoted_again : (t rest : List ℕ) → next_is is_quote rest ≡ false → quoted_at (quoted t ++ rest) ≡ Some (t, rest)
quoted_again [] rest stops = once rest stops
quoted_again (b ∷ t) rest stops = elim (eqb_tells b 39) [
  | inl e ↦ subst (λ (x : ℕ). quoted_at (quoted (x ∷ t) ++ rest) ≡ Some (x ∷ t, rest)) (sym e.1) (twice (quoted t ++ rest) ∙ ap (put 39) (quoted_again t rest stops))
  | inr e ↦ ap (λ l. quoted_at (l ++ rest)) (quoted_other b t e.1) ∙ quoted_byte b (quoted t ++ rest) e.1 ∙ ap (put b) (quoted_again t rest stops)
]

pub exact_quoted : Exact quoted (λ t. Unit {0}) is_quote quoted_at
exact_quoted = record {
  found = λ bytes t rest h. (quoted_found bytes t rest h, tt);
  again = λ t rest is stops. quoted_again t rest stops;
}

-- ---- blobs

and_parts : (a b : Bool) → (a && b) ≡ true → (a ≡ true) × (b ≡ true)
and_parts true b h = (refl, h)
and_parts false b h = absurd cc

choice : {A : Type 0} (t : Bool) (o p : Option A) (y : A) → cond t o p ≡ Some y → ((t ≡ true) × (o ≡ Some y)) ⊎ ((t ≡ false) × (p ≡ Some y))
choice true o p y h = inl (refl, h)
choice false o p y h = inr (refl, h)

low_digit : (n : ℕ) → n < 10 → hex_digit n ≡ 48 + n
low_digit n h = let e = lt-ltb n 10 h in rw e refl

high_digit : (n : ℕ) → 10 ≤ n → hex_digit n ≡ 87 + n
high_digit n h = let e = le-ltb n 10 h in rw e refl

digit_found : (d n : ℕ) → digit_value d ≡ Some n → (hex_digit n ≡ d) × (n < 16)
digit_found d n h = elim (choice (is_digit d) (Some (d - 48)) (cond (nat_le 97 d && nat_le d 102) (Some (d - 87)) None) n h) [
  | inl k ↦
      let b = and_parts (nat_le 48 d) (nat_le d 57) k.0 in
      let low : 48 ≤ d = leb-true 48 d b.0 in
      let top : d ≤ 57 = leb-true d 57 b.1 in
      let e : d - 48 ≡ n = same_Some (d - 48) n k.1 in
      let s : n < 10 = omega arith in
      let r : 48 + n ≡ d = omega arith in
      (low_digit n s ∙ r, omega arith)
  | inr k ↦
      let g = guard_some (nat_le 97 d && nat_le d 102) (Some (d - 87)) n k.1 in
      let b = and_parts (nat_le 97 d) (nat_le d 102) g.0 in
      let low : 97 ≤ d = leb-true 97 d b.0 in
      let top : d ≤ 102 = leb-true d 102 b.1 in
      let e : d - 87 ≡ n = same_Some (d - 87) n g.1 in
      let s : 10 ≤ n = omega arith in
      let r : 87 + n ≡ d = omega arith in
      (high_digit n s ∙ r, omega arith)
]

low_value : (n : ℕ) → n < 10 → digit_value (48 + n) ≡ Some n
low_value n h =
    let a = le-leb 48 (48 + n) (omega arith) in
    let b = le-leb (48 + n) 57 (omega arith) in
    let e : 48 + n - 48 ≡ n = omega arith in
    rw (a, b) (ap (λ k. Some k) e)

high_value : (n : ℕ) → 10 ≤ n → n < 16 → digit_value (87 + n) ≡ Some n
high_value n h k =
    let a = le-leb 48 (87 + n) (omega arith) in
    let b = lt-leb (87 + n) 57 (omega arith) in
    let c = le-leb 97 (87 + n) (omega arith) in
    let d = le-leb (87 + n) 102 (omega arith) in
    let e : 87 + n - 87 ≡ n = omega arith in
    rw (a, b, c, d) (ap (λ k. Some k) e)

digit_again : (n : ℕ) → n < 16 → digit_value (hex_digit n) ≡ Some n
digit_again n h = elim (cases_lt n 10) [
  | inl k ↦ ap digit_value (low_digit n k) ∙ low_value n k
  | inr k ↦ ap digit_value (high_digit n k) ∙ high_value n k h
]

byte_found : (a b x : ℕ) → byte_of a b ≡ Some x → (hex_digit (x / 16) ≡ a) × (hex_digit (x % 16) ≡ b) × (x < 256)
byte_found a b x h =
    let p = bind_some (digit_value a) (λ h. digit_value b >>= (λ l. Some (16 * h + l))) x h in
    let q = bind_some (digit_value b) (λ l. Some (16 * p.0 + l)) x p.2 in
    let e : 16 * p.0 + q.0 ≡ x = same_Some (16 * p.0 + q.0) x q.2 in
    let high = digit_found a p.0 p.1 in
    let low = digit_found b q.0 q.1 in
    let small : p.0 < 16 = high.1 in
    let less : q.0 < 16 = low.1 in
    let above : x / 16 ≡ p.0 = omega arith in
    let below : x % 16 ≡ q.0 = omega arith in
    (ap hex_digit above ∙ high.0, ap hex_digit below ∙ low.0, omega arith)

byte_again : (x : ℕ) → x < 256 → byte_of (hex_digit (x / 16)) (hex_digit (x % 16)) ≡ Some x
byte_again x h =
    let high = digit_again (x / 16) (omega arith) in
    let low = digit_again (x % 16) (omega arith) in
    let e : 16 * (x / 16) + x % 16 ≡ x = omega arith in
    rw (high, low) (ap (λ k. Some k) e)

abbrev IsBlob : List ℕ → Type 0
IsBlob blob = AllByRecursion (λ b. b < 256) blob

abbrev HexAt : List ℕ → Type 0
HexAt bytes = (blob rest : List ℕ) → hexadecimal_at bytes ≡ Some (blob, rest) → (bytes ≡ hexadecimal blob ++ rest) × IsBlob blob

hex_end : (bytes : List ℕ) → HexAt (39 ∷ bytes)
hex_end bytes blob rest h =
    let same = some_pair_parts [] blob bytes rest (sym (hexadecimal_end bytes) ∙ h) in
    (ap (λ k. 39 ∷ k) same.1 ∙ ap (λ u. hexadecimal u ++ rest) same.0, subst IsBlob same.0 tt)

hex_nothing : HexAt []
unfolding hexadecimal_at
hex_nothing blob rest h = absurd cc

hex_odd : (b : ℕ) → (b ≡ 39 → ⊥) → HexAt (b ∷ [])
hex_odd b other blob rest h = let none = sym (hexadecimal_odd b other) ∙ h in absurd cc

hex_pair_at : (b c : ℕ) (bytes : List ℕ) → (b ≡ 39 → ⊥) → hexadecimal_at (b ∷ c ∷ bytes) ≡ (byte_of b c >>= (λ x. put x (hexadecimal_at bytes)))
unfolding hexadecimal_at
hex_pair_at b c bytes other = let e = ne_eqb b 39 other in rw e refl

hex_digits : (b c : ℕ) (bytes : List ℕ) → (b ≡ 39 → ⊥) → HexAt bytes → HexAt (b ∷ c ∷ bytes)
hex_digits b c bytes other more blob rest h =
    let p = bind_some (byte_of b c) (λ x. put x (hexadecimal_at bytes)) (blob, rest) (sym (hex_pair_at b c bytes other) ∙ h) in
    let q = put_parts p.0 (hexadecimal_at bytes) blob rest p.2 in
    let d = byte_found b c p.0 p.1 in
    let m = more q.0 rest q.1 in
    (ap (λ x. x ∷ c ∷ bytes) (sym d.0) ∙ ap (λ x. hex_digit (p.0 / 16) ∷ x ∷ bytes) (sym d.1) ∙ ap (λ l. hex_digit (p.0 / 16) ∷ hex_digit (p.0 % 16) ∷ l) m.0 ∙ ap (λ u. hexadecimal u ++ rest) q.2, subst IsBlob q.2 (d.2, m.1))

move_hex : (b : ℕ) (bytes : List ℕ) → b ≡ 39 → HexAt (b ∷ bytes)
move_hex b bytes e = subst (λ (x : ℕ). HexAt (x ∷ bytes)) (sym e) (hex_end bytes)

hexadecimal_found : (bytes : List ℕ) → HexAt bytes
hexadecimal_found [] = hex_nothing
hexadecimal_found (b ∷ []) = elim (eqb_tells b 39) [ inl e ↦ move_hex b [] e.1 | inr e ↦ hex_odd b e.1 ]
hexadecimal_found (b ∷ c ∷ bytes) = elim (eqb_tells b 39) [ inl e ↦ move_hex b (c ∷ bytes) e.1 | inr e ↦ hex_digits b c bytes e.1 (hexadecimal_found bytes) ]

digit_no_quote : (n : ℕ) → n < 16 → hex_digit n ≡ 39 → ⊥
digit_no_quote n h e = elim (cases_lt n 10) [
  | inl k ↦ let l = low_digit n k in omega arith
  | inr k ↦ let l = high_digit n k in omega arith
]

hexadecimal_again : (blob rest : List ℕ) → IsBlob blob → hexadecimal_at (hexadecimal blob ++ rest) ≡ Some (blob, rest)
hexadecimal_again [] rest is = hexadecimal_end rest
hexadecimal_again (x ∷ blob) rest is =
    let high : x / 16 < 16 = let small : x < 256 = is.0 in omega arith in
    hexadecimal_digits (hex_digit (x / 16)) (hex_digit (x % 16)) x (hexadecimal blob ++ rest) (λ e. digit_no_quote (x / 16) high e) (byte_again x is.0) ∙ ap (put x) (hexadecimal_again blob rest is.1)

pub exact_hexadecimal : Exact hexadecimal (λ blob. AllByRecursion (λ b. b < 256) blob) no_byte hexadecimal_at
exact_hexadecimal = record {
  found = λ bytes blob rest h. hexadecimal_found bytes blob rest h;
  again = λ blob rest is stops. hexadecimal_again blob rest is;
}
