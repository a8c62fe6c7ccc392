-- The tokens of a text that is UTF-8: a text between quotes is UTF-8, and a blob is of bytes.
use Rattle.std.proofs.Common.{◌≡◌, ℕ, zero, suc, ◌+◌, ◌*◌, ◌<◌, ◌≤◌, ◌==◌, List, [], ◌∷◌, ◌++◌, length, map, get_or, Bool, true, false, cond, ltb, leb, ◌&&◌, ◌||◌, not, ◌⊎◌, inl, inr, refl, sym, ap, subst, append_assoc, append-nil, arith, Option, Some, None, lit<}
use Rattle.std.specs.Prelude.{option_map, option_and_then}
use Rattle.std.specs.Char.{is_ascii_digit, is_ascii_alphabetic, is_ascii_hexdigit, digit_value}
use Rattle.std.specs.List.{AllByRecursion}
use Rattle.std.specs.Str.{is_utf8, IsUtf8, IsAscii}
use Rattle.std.proofs.Math.Seq.{take-append_seam, drop-append_seam, get_or-append_seam}
use Rattle.std.proofs.lemmas.Bool.{and_parts, or_cases, leb-true, ltb-true, eqb-true, agree_below_at}
use Rattle.std.proofs.lemmas.List.{length-append}
use Rattle.std.proofs.lemmas.Option.{same_Some}
use Rattle.std.proofs.lemmas.Str.{is_utf8-from_IsUtf8, IsUtf8-append, IsUtf8-from_ascii, IsUtf8-take, IsUtf8-drop, IsUtf8-past_char, IsCharBoundary-before_ascii, encode_ascii}
use Rattle.sql_tokens.specs.Letters.{is_blank, is_word_start, is_word_byte, is_quote, is_x, Each, hex_digit, hex_byte}
use Rattle.sql_tokens.specs.Signs.{SpellsSign}
use Rattle.sql_tokens.specs.Spot.{Spot, token_of}
use Rattle.sql_tokens.specs.Token.{IsToken}
use Rattle.sql_tokens.specs.Tokens.{Tokens, no_more, a_blank, a_token, none_begins}
use Rattle.sql_tokens.specs.Values.{quoted, SpellsHex}
use Rattle.sql_tokens.specs.declared.kinds.Sign.{Sign}
use Rattle.sql_tokens.specs.declared.kinds.Sign.TheVariants as sign
use Rattle.sql_tokens.specs.declared.kinds.Token.{Token}
use Rattle.sql_tokens.specs.declared.kinds.Token.TheVariants as token

-- a token that holds text, or bytes
abbrev pub IsFine : Token → Type 0
IsFine (token.Keyword k) = Unit {0}
IsFine (token.Name n) = Unit {0}
IsFine (token.Number n) = Unit {0}
IsFine (token.Text cs) = is_utf8 cs ≡ true
IsFine (token.Blob bs) = AllByRecursion (λ b. b < 256) bs
IsFine (token.Sign s) = Unit {0}
IsFine token.Unknown = Unit {0}

-- ---- text at ASCII bytes

past_ascii : (b : ℕ) (rest : List ℕ) → b < 128 → IsUtf8 (b ∷ rest) → IsUtf8 rest
past_ascii b rest low is = IsUtf8-past_char (b ∷ rest) rest b is (ap (λ (l : List ℕ). l ++ rest) (sym (encode_ascii b low)))

seam_within : (xs ys : List ℕ) (b : ℕ) → length xs < length (xs ++ b ∷ ys)
seam_within xs ys b = let all : length (xs ++ b ∷ ys) ≡ length xs + length (b ∷ ys) = length-append xs (b ∷ ys) in omega arith

-- an ASCII byte stands between two texts
around_ascii : (xs ys : List ℕ) (b : ℕ) → b < 128 → IsUtf8 (xs ++ b ∷ ys) → IsUtf8 xs × IsUtf8 ys
around_ascii xs ys b low is =
    let at : get_or (xs ++ b ∷ ys) (length xs) 0 < 128 = subst (λ (n : ℕ). n < 128) (sym (get_or-append_seam xs b ys 0)) low in
    let cut = IsCharBoundary-before_ascii (xs ++ b ∷ ys) (length xs) (seam_within xs ys b) at in (
      subst IsUtf8 (take-append_seam xs (b ∷ ys)) (IsUtf8-take (xs ++ b ∷ ys) (length xs) is cut),
      past_ascii b ys low (subst IsUtf8 (drop-append_seam xs (b ∷ ys)) (IsUtf8-drop (xs ++ b ∷ ys) (length xs) is cut)),
    )

-- ASCII bytes in front of a text
past_all : (w rest : List ℕ) → AllByRecursion (λ b. b < 128) w → IsUtf8 (w ++ rest) → IsUtf8 rest
past_all [] rest low is = is
past_all (b ∷ w) rest low is = past_all w rest low.1 (past_ascii b (w ++ rest) low.0 is)

-- a quote is text
quote_is : IsUtf8 (39 ∷ [])
quote_is = IsUtf8-from_ascii (39 ∷ []) each
  where
    each : IsAscii (39 ∷ [])
    each zero = lit< tt
    each (suc i) = lit< tt

-- ---- the bytes of tokens

low_until : (low high b : ℕ) → high < 128 → (leb low b && leb b high) ≡ true → b < 128
low_until low high b small is = let below : b ≤ high = leb-true b high (and_parts (leb low b) (leb b high) is).1 in omega arith

digit_is_low : (b : ℕ) → is_ascii_digit b ≡ true → b < 128
digit_is_low b is = low_until 48 57 b (lit< tt) is

letter_is_low : (b : ℕ) → is_ascii_alphabetic b ≡ true → b < 128
letter_is_low b is = go (or_cases (leb 65 b && leb b 90) (leb 97 b && leb b 122) is)
  where
    go : ((leb 65 b && leb b 90) ≡ true) ⊎ ((leb 97 b && leb b 122) ≡ true) → b < 128
    go (inl upper) = low_until 65 90 b (lit< tt) upper
    go (inr lower) = low_until 97 122 b (lit< tt) lower

is_low_at : (b n : ℕ) → n < 128 → (b == n) ≡ true → b < 128
is_low_at b n small is = let same : b ≡ n = eqb-true b n is in omega arith

word_is_low : (b : ℕ) → is_word_byte b ≡ true → b < 128
word_is_low b is = go (or_cases (is_word_start b) (is_ascii_digit b) is)
  where
    start : (is_ascii_alphabetic b ≡ true) ⊎ ((b == 95) ≡ true) → b < 128
    start (inl letter) = letter_is_low b letter
    start (inr line) = is_low_at b 95 (lit< tt) line

    go : (is_word_start b ≡ true) ⊎ (is_ascii_digit b ≡ true) → b < 128
    go (inl begins) = start (or_cases (is_ascii_alphabetic b) (b == 95) begins)
    go (inr digit) = digit_is_low b digit

all_low : (p : ℕ → Bool) (w : List ℕ) → ((b : ℕ) → p b ≡ true → b < 128) → Each p w → AllByRecursion (λ b. b < 128) w
all_low p [] low each = tt
all_low p (b ∷ w) low each = (low b each.0, all_low p w low each.1)

blank_is_low : (b : ℕ) → is_blank b ≡ true → b < 128
blank_is_low b is = go (or_cases (b == 32) (b == 9) is)
  where
    go : ((b == 32) ≡ true) ⊎ ((b == 9) ≡ true) → b < 128
    go (inl space) = is_low_at b 32 (lit< tt) space
    go (inr tab) = is_low_at b 9 (lit< tt) tab

x_is_low : (b : ℕ) → is_x b ≡ true → b < 128
x_is_low b is = go (or_cases (b == 120) (b == 88) is)
  where
    go : ((b == 120) ≡ true) ⊎ ((b == 88) ≡ true) → b < 128
    go (inl small) = is_low_at b 120 (lit< tt) small
    go (inr large) = is_low_at b 88 (lit< tt) large

sign_is_low : (s : Sign) (w : List ℕ) → SpellsSign s w → AllByRecursion (λ b. b < 128) w
sign_is_low sign.Open w is = subst (AllByRecursion (λ b. b < 128)) (sym is) (lit< tt, tt)
sign_is_low sign.Close w is = subst (AllByRecursion (λ b. b < 128)) (sym is) (lit< tt, tt)
sign_is_low sign.Comma w is = subst (AllByRecursion (λ b. b < 128)) (sym is) (lit< tt, tt)
sign_is_low sign.Dot w is = subst (AllByRecursion (λ b. b < 128)) (sym is) (lit< tt, tt)
sign_is_low sign.Semicolon w is = subst (AllByRecursion (λ b. b < 128)) (sym is) (lit< tt, tt)
sign_is_low sign.Star w is = subst (AllByRecursion (λ b. b < 128)) (sym is) (lit< tt, tt)
sign_is_low sign.Equal w is = subst (AllByRecursion (λ b. b < 128)) (sym is) (lit< tt, tt)
sign_is_low sign.NotEqual w (inl is) = subst (AllByRecursion (λ b. b < 128)) (sym is) (lit< tt, (lit< tt, tt))
sign_is_low sign.NotEqual w (inr is) = subst (AllByRecursion (λ b. b < 128)) (sym is) (lit< tt, (lit< tt, tt))
sign_is_low sign.Less w is = subst (AllByRecursion (λ b. b < 128)) (sym is) (lit< tt, tt)
sign_is_low sign.LessEqual w is = subst (AllByRecursion (λ b. b < 128)) (sym is) (lit< tt, (lit< tt, tt))
sign_is_low sign.Greater w is = subst (AllByRecursion (λ b. b < 128)) (sym is) (lit< tt, tt)
sign_is_low sign.GreaterEqual w is = subst (AllByRecursion (λ b. b < 128)) (sym is) (lit< tt, (lit< tt, tt))
sign_is_low sign.Plus w is = subst (AllByRecursion (λ b. b < 128)) (sym is) (lit< tt, tt)
sign_is_low sign.Minus w is = subst (AllByRecursion (λ b. b < 128)) (sym is) (lit< tt, tt)

-- ---- what stands between quotes

undone : (front cs rest : List ℕ) → IsUtf8 (front ++ (quoted cs ++ rest)) → IsUtf8 (front ++ cs) × IsUtf8 rest
undone front [] rest is =
    let both = around_ascii front rest 39 (lit< tt) is in
    (subst IsUtf8 (sym (append-nil front)) both.0, both.1)
undone front (c ∷ cs) rest is = go (is_quote c) refl (undone [] cs rest) (undone (front ++ c ∷ []) cs rest) is
  where
    go : (b : Bool) → is_quote c ≡ b → (IsUtf8 (quoted cs ++ rest) → IsUtf8 cs × IsUtf8 rest)
        → (IsUtf8 ((front ++ c ∷ []) ++ (quoted cs ++ rest)) → IsUtf8 ((front ++ c ∷ []) ++ cs) × IsUtf8 rest)
        → IsUtf8 (front ++ (cond b (c ∷ c ∷ quoted cs) (c ∷ quoted cs) ++ rest)) → IsUtf8 (front ++ c ∷ cs) × IsUtf8 rest
    go true quote alone behind is =
        let same : c ≡ 39 = eqb-true c 39 quote in
        let low : c < 128 = omega arith in
        let both = around_ascii front (c ∷ (quoted cs ++ rest)) c low is in
        let inner = alone (past_ascii c (quoted cs ++ rest) low both.1) in
        let one : IsUtf8 (c ∷ []) = subst (λ (n : ℕ). IsUtf8 (n ∷ [])) (sym same) quote_is in
        (IsUtf8-append front (c ∷ cs) both.0 (IsUtf8-append (c ∷ []) cs one inner.0), inner.1)
    go false other alone behind is =
        let inner = behind (subst IsUtf8 (sym (append_assoc front (c ∷ []) (quoted cs ++ rest))) is) in
        (subst IsUtf8 (append_assoc front (c ∷ []) cs) inner.0, inner.1)

-- ---- blobs

hex_low : (b : ℕ) → is_ascii_hexdigit b ≡ true → b < 128
hex_low b is = go (or_cases ((leb 48 b && leb b 57) || (leb 65 b && leb b 70)) (leb 97 b && leb b 102) is)
  where
    first : ((leb 48 b && leb b 57) ≡ true) ⊎ ((leb 65 b && leb b 70) ≡ true) → b < 128
    first (inl digit) = low_until 48 57 b (lit< tt) digit
    first (inr upper) = low_until 65 70 b (lit< tt) upper

    go : (((leb 48 b && leb b 57) || (leb 65 b && leb b 70)) ≡ true) ⊎ ((leb 97 b && leb b 102) ≡ true) → b < 128
    go (inl more) = first (or_cases (leb 48 b && leb b 57) (leb 65 b && leb b 70) more)
    go (inr lower) = low_until 97 102 b (lit< tt) lower

hex_value : (b : ℕ) → is_ascii_hexdigit b ≡ true → digit_value b < 16
hex_value b is =
    let agrees : (not (is_ascii_hexdigit b) || ltb (digit_value b) 16) ≡ true
    = agree_below_at (λ n. not (is_ascii_hexdigit n) || ltb (digit_value n) 16) (λ n. true) 128 b refl (hex_low b is) in
    let small : ltb (digit_value b) 16 ≡ true = subst (λ (t : Bool). (not t || ltb (digit_value b) 16) ≡ true) is agrees in
    ltb-true (digit_value b) 16 small

digit_is : (b v : ℕ) → hex_digit b ≡ Some v → (b < 128) × (v < 16)
digit_is b v is = go (is_ascii_hexdigit b) refl is
  where
    go : (t : Bool) → is_ascii_hexdigit b ≡ t → cond t (Some (digit_value b)) None ≡ Some v → (b < 128) × (v < 16)
    go true digit same = (hex_low b digit, subst (λ (n : ℕ). n < 16) (same_Some (digit_value b) v same) (hex_value b digit))
    go false other same = absurd cc

byte_is : (high low v : ℕ) → hex_byte high low ≡ Some v → (high < 128) × (low < 128) × (v < 256)
byte_is high low v is = go (hex_digit high) refl is
  where
    both : (h : ℕ) → hex_digit high ≡ Some h → (o : Option ℕ) → hex_digit low ≡ o → option_map (λ l. 16 * h + l) o ≡ Some v → (high < 128) × (low < 128) × (v < 256)
    both h first None second same = absurd cc
    both h first (Some l) second same =
        let upper = digit_is high h first in
        let lower = digit_is low l second in
        let sum : 16 * h + l ≡ v = same_Some (16 * h + l) v same in
        let a : h < 16 = upper.1 in
        let b : l < 16 = lower.1 in
        (upper.0, lower.0, omega arith)

    go : (o : Option ℕ) → hex_digit high ≡ o → option_and_then (λ h. option_map (λ l. 16 * h + l) (hex_digit low)) o ≡ Some v → (high < 128) × (low < 128) × (v < 256)
    go None first same = absurd cc
    go (Some h) first same = both h first (hex_digit low) refl same

hex_is : (digits bs : List ℕ) → SpellsHex digits bs → AllByRecursion (λ b. b < 128) digits × AllByRecursion (λ b. b < 256) bs
hex_is [] [] spells = (tt, tt)
hex_is [] (b ∷ bs) spells = absurd spells
hex_is (high ∷ []) bs spells = absurd spells
hex_is (high ∷ low ∷ digits) [] spells = absurd spells
hex_is (high ∷ low ∷ digits) (b ∷ bs) spells =
    let one = byte_is high low b spells.0 in
    let rest = hex_is digits bs spells.1 in
    ((one.0, (one.1, rest.0)), (one.2, rest.1))

low_append : (xs ys : List ℕ) → AllByRecursion (λ b. b < 128) xs → AllByRecursion (λ b. b < 128) ys → AllByRecursion (λ b. b < 128) (xs ++ ys)
low_append [] ys first second = second
low_append (x ∷ xs) ys first second = (first.0, low_append xs ys first.1 second)

-- ---- tokens

fine_token : (t : Token) (w rest : List ℕ) → IsToken t w rest → IsUtf8 (w ++ rest) → IsFine t × IsUtf8 rest
fine_token (token.Keyword k) w rest is utf8 = (tt, past_all w rest (all_low is_word_byte w word_is_low is.word.each) utf8)
fine_token (token.Name n) w rest is utf8 = (tt, past_all w rest (all_low is_word_byte w word_is_low is.word.each) utf8)
fine_token (token.Number n) w rest is utf8 = (tt, past_all w rest (all_low is_ascii_digit w digit_is_low is.each) utf8)
fine_token (token.Text cs) w rest is utf8 =
    let at : IsUtf8 (39 ∷ (quoted cs ++ rest)) = subst (λ (l : List ℕ). IsUtf8 (l ++ rest)) is.spelled utf8 in
    let parts = undone [] cs rest (past_ascii 39 (quoted cs ++ rest) (lit< tt) at) in
    (is_utf8-from_IsUtf8 cs parts.0, parts.1)
fine_token (token.Blob bs) w rest is utf8 =
    let hex = hex_is is.digits bs is.each in
    let low : AllByRecursion (λ b. b < 128) (is.x ∷ 39 ∷ (is.digits ++ 39 ∷ []))
    = (x_is_low is.x is.is_x, (lit< tt, low_append is.digits (39 ∷ []) hex.0 (lit< tt, tt))) in
    (hex.1, past_all w rest (subst (AllByRecursion (λ b. b < 128)) (sym is.spelled) low) utf8)
fine_token (token.Sign s) w rest is utf8 = (tt, past_all w rest (sign_is_low s w is.spelled) utf8)
fine_token token.Unknown w rest is utf8 = absurd is

-- the tokens of a text that is UTF-8
pub fine_tokens : (at : ℕ) (bs : List ℕ) (ss : List Spot) → Tokens at bs ss → IsUtf8 bs → AllByRecursion IsFine (map token_of ss)
fine_tokens at bs ss (no_more _) utf8 = tt
fine_tokens at bs ss (a_blank _ b cs vs blank tokens) utf8 = fine_tokens (at + 1) cs vs tokens (past_ascii b cs (blank_is_low b blank) utf8)
fine_tokens at bs ss (a_token _ _ t w rest vs splits is tokens) utf8 =
    let one = fine_token t w rest is (subst IsUtf8 splits utf8) in
    (one.0, fine_tokens (at + length w) rest vs tokens one.1)
fine_tokens at bs ss (none_begins _ b cs blank none) utf8 = (tt, tt)
