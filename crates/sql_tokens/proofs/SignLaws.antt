-- Signs: what the step over a sign finds is the longest sign, and each sign is found.
use Rattle.std.proofs.Common.{◌≡◌, ℕ, ◌<◌, ◌≤◌, Bool, true, false, cond, List, [], ◌∷◌, ◌++◌, length, Option, Some, None, refl, sym, ◌∙◌, ap, subst, arith, inl, inr}
use Rattle.std.specs.Char.{is_ascii_digit}
use Rattle.sql_tokens.specs.Letters.{is_x, is_word_start, is_quote}
use Rattle.sql_tokens.specs.Signs.{SpellsSign, IsSign}
use Rattle.sql_tokens.specs.Reading.{long_sign, short_sign}
use Rattle.sql_tokens.specs.declared.kinds.Sign.{Sign}
use Rattle.sql_tokens.specs.declared.kinds.Sign.TheVariants as sign
use Rattle.sql_tokens.proofs.BasicLaws.{either_way}

-- a sign is one byte or two
pub sign_size : (s : Sign) (w : List ℕ) → SpellsSign s w → (0 < length w) × (length w ≤ 2)
sign_size sign.Open w h = let e : length w ≡ 1 = ap length h in (omega arith, omega arith)
sign_size sign.Close w h = let e : length w ≡ 1 = ap length h in (omega arith, omega arith)
sign_size sign.Comma w h = let e : length w ≡ 1 = ap length h in (omega arith, omega arith)
sign_size sign.Dot w h = let e : length w ≡ 1 = ap length h in (omega arith, omega arith)
sign_size sign.Semicolon w h = let e : length w ≡ 1 = ap length h in (omega arith, omega arith)
sign_size sign.Star w h = let e : length w ≡ 1 = ap length h in (omega arith, omega arith)
sign_size sign.Equal w h = let e : length w ≡ 1 = ap length h in (omega arith, omega arith)
sign_size sign.NotEqual w (inl h) = let e : length w ≡ 2 = ap length h in (omega arith, omega arith)
sign_size sign.NotEqual w (inr h) = let e : length w ≡ 2 = ap length h in (omega arith, omega arith)
sign_size sign.Less w h = let e : length w ≡ 1 = ap length h in (omega arith, omega arith)
sign_size sign.LessEqual w h = let e : length w ≡ 2 = ap length h in (omega arith, omega arith)
sign_size sign.Greater w h = let e : length w ≡ 1 = ap length h in (omega arith, omega arith)
sign_size sign.GreaterEqual w h = let e : length w ≡ 2 = ap length h in (omega arith, omega arith)
sign_size sign.Plus w h = let e : length w ≡ 1 = ap length h in (omega arith, omega arith)
sign_size sign.Minus w h = let e : length w ≡ 1 = ap length h in (omega arith, omega arith)

-- the sign that one byte spells is found, and the sign that two bytes spell
abbrev short_of : List ℕ → Option Sign
short_of [] = None
short_of (a ∷ []) = short_sign a
short_of (a ∷ b ∷ bs) = None

abbrev long_of : List ℕ → Option Sign
long_of [] = None
long_of (a ∷ []) = None
long_of (a ∷ b ∷ bs) = long_sign a b

pub short_is_found : (s : Sign) (a : ℕ) → SpellsSign s (a ∷ []) → short_sign a ≡ Some s
short_is_found sign.Open a h = ap short_of h
short_is_found sign.Close a h = ap short_of h
short_is_found sign.Comma a h = ap short_of h
short_is_found sign.Dot a h = ap short_of h
short_is_found sign.Semicolon a h = ap short_of h
short_is_found sign.Star a h = ap short_of h
short_is_found sign.Equal a h = ap short_of h
short_is_found sign.NotEqual a (inl h) = cc
short_is_found sign.NotEqual a (inr h) = cc
short_is_found sign.Less a h = ap short_of h
short_is_found sign.LessEqual a h = cc
short_is_found sign.Greater a h = ap short_of h
short_is_found sign.GreaterEqual a h = cc
short_is_found sign.Plus a h = ap short_of h
short_is_found sign.Minus a h = ap short_of h

pub long_is_found : (s : Sign) (a b : ℕ) → SpellsSign s (a ∷ b ∷ []) → long_sign a b ≡ Some s
long_is_found sign.Open a b h = cc
long_is_found sign.Close a b h = cc
long_is_found sign.Comma a b h = cc
long_is_found sign.Dot a b h = cc
long_is_found sign.Semicolon a b h = cc
long_is_found sign.Star a b h = cc
long_is_found sign.Equal a b h = cc
long_is_found sign.NotEqual a b (inl h) = ap long_of h
long_is_found sign.NotEqual a b (inr h) = ap long_of h
long_is_found sign.Less a b h = cc
long_is_found sign.LessEqual a b h = ap long_of h
long_is_found sign.Greater a b h = cc
long_is_found sign.GreaterEqual a b h = ap long_of h
long_is_found sign.Plus a b h = cc
long_is_found sign.Minus a b h = cc

-- what is found is spelled so
leaf : (w v : List ℕ) (made s : Sign) → w ≡ v → SpellsSign made v → Some made ≡ Some s → SpellsSign s w
leaf w v made s e h k = let m : made ≡ s = cc in subst (λ x. SpellsSign x w) m (subst (SpellsSign made) (sym e) h)

none : {P : Type 0} (s : Sign) → None ≡ Some s → P
none s h = cc

one_byte : (a k : ℕ) (made s : Sign) → SpellsSign made (k ∷ []) → a ≡ k → Some made ≡ Some s → SpellsSign s (a ∷ [])
one_byte a k made s h e = leaf (a ∷ []) (k ∷ []) made s (ap (λ x. x ∷ []) e) h

two_bytes : (a b j k : ℕ) (made s : Sign) → SpellsSign made (j ∷ k ∷ []) → a ≡ j → b ≡ k → Some made ≡ Some s → SpellsSign s (a ∷ b ∷ [])
two_bytes a b j k made s h e f = leaf (a ∷ b ∷ []) (j ∷ k ∷ []) made s (ap (λ x. x ∷ b ∷ []) e ∙ ap (λ x. j ∷ x ∷ []) f) h

pub short_is_spelled : (a : ℕ) (s : Sign) → short_sign a ≡ Some s → SpellsSign s (a ∷ [])
short_is_spelled a s =
    either_way a 40 _ _ s (one_byte a 40 sign.Open s refl) (
    either_way a 41 _ _ s (one_byte a 41 sign.Close s refl) (
    either_way a 44 _ _ s (one_byte a 44 sign.Comma s refl) (
    either_way a 46 _ _ s (one_byte a 46 sign.Dot s refl) (
    either_way a 59 _ _ s (one_byte a 59 sign.Semicolon s refl) (
    either_way a 42 _ _ s (one_byte a 42 sign.Star s refl) (
    either_way a 61 _ _ s (one_byte a 61 sign.Equal s refl) (
    either_way a 60 _ _ s (one_byte a 60 sign.Less s refl) (
    either_way a 62 _ _ s (one_byte a 62 sign.Greater s refl) (
    either_way a 43 _ _ s (one_byte a 43 sign.Plus s refl) (
    either_way a 45 _ _ s (one_byte a 45 sign.Minus s refl) (
    none s)))))))))))

pub long_is_spelled : (a b : ℕ) (s : Sign) → long_sign a b ≡ Some s → SpellsSign s (a ∷ b ∷ [])
long_is_spelled a b s =
    either_way a 60 _ _ s (λ e. either_way b 61 _ _ s (two_bytes a b 60 61 sign.LessEqual s refl e) (either_way b 62 _ _ s (two_bytes a b 60 62 sign.NotEqual s (inl refl) e) (none s)))
    (either_way a 62 _ _ s (λ e. either_way b 61 _ _ s (two_bytes a b 62 61 sign.GreaterEqual s refl e) (none s))
    (either_way a 33 _ _ s (λ e. either_way b 61 _ _ s (two_bytes a b 33 61 sign.NotEqual s (inr refl) e) (none s))
    (none s)))

-- two bytes that spell a sign, whatever stands behind them
pub long_is_sign : (a b : ℕ) (s : Sign) (rest : List ℕ) → long_sign a b ≡ Some s → IsSign s (a ∷ b ∷ []) rest
long_is_sign a b s rest h = record {
  spelled = long_is_spelled a b s h;
  longest = λ longer c more after e k. let n : length (a ∷ b ∷ c ∷ more) ≤ 2 = (sign_size longer (a ∷ b ∷ c ∷ more) k).1 in absurd (omega arith);
}

-- one byte that spells a sign, where it spells none with the next
pub short_is_sign : (a : ℕ) (s : Sign) (rest : List ℕ) → short_sign a ≡ Some s → ((b : ℕ) (more : List ℕ) → rest ≡ b ∷ more → long_sign a b ≡ None) → IsSign s (a ∷ []) rest
short_is_sign a s rest h alone = record {
  spelled = short_is_spelled a s h;
  longest = λ longer c more after e k. go longer c more after e k;
}
  where
    go : (longer : Sign) (c : ℕ) (more after : List ℕ) → rest ≡ (c ∷ more) ++ after → SpellsSign longer (a ∷ c ∷ more) → ⊥
    go longer c [] after e k = let n : None ≡ Some longer = sym (alone c after e) ∙ long_is_found longer a c k in (cc)
    go longer c (d ∷ more) after e k = let n : length (a ∷ c ∷ d ∷ more) ≤ 2 = (sign_size longer (a ∷ c ∷ d ∷ more) k).1 in absurd (omega arith)

-- a sign's first byte begins no other kind of token
abbrev pub sign_byte : ℕ → Bool
sign_byte a = cond (is_x a) false (cond (is_word_start a) false (cond (is_ascii_digit a) false (cond (is_quote a) false true)))

abbrev pub sign_head : List ℕ → Bool
sign_head [] = false
sign_head (a ∷ w) = sign_byte a

pub sign_begins : (s : Sign) (w : List ℕ) → SpellsSign s w → sign_head w ≡ true
sign_begins sign.Open w h = ap sign_head h
sign_begins sign.Close w h = ap sign_head h
sign_begins sign.Comma w h = ap sign_head h
sign_begins sign.Dot w h = ap sign_head h
sign_begins sign.Semicolon w h = ap sign_head h
sign_begins sign.Star w h = ap sign_head h
sign_begins sign.Equal w h = ap sign_head h
sign_begins sign.NotEqual w (inl h) = ap sign_head h
sign_begins sign.NotEqual w (inr h) = ap sign_head h
sign_begins sign.Less w h = ap sign_head h
sign_begins sign.LessEqual w h = ap sign_head h
sign_begins sign.Greater w h = ap sign_head h
sign_begins sign.GreaterEqual w h = ap sign_head h
sign_begins sign.Plus w h = ap sign_head h
sign_begins sign.Minus w h = ap sign_head h
