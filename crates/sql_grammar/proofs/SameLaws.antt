-- The tests of a token by the code's own comparison of two words or two signs.
use Rattle.std.proofs.Common.{◌≡◌, ◌≢◌, ℕ, ◌^◌, ◌<◌, ◌≤◌, Bool, true, false, cond, nat_eq, nat_le, nat_lt, length, refl, sym, ap₂, ◌∙◌, ne_eqb, arith}
use denote.Enum.Bare.{sameb}
use denote.Enum.Declared.{tag_of}
use Rattle.sql_tokens.specs.contracts.kinds.Keyword.{the_type}
use Rattle.sql_tokens.specs.contracts.kinds.Sign.{the_type as the_sign_type}
use Rattle.sql_tokens.specs.declared.kinds.Keyword.{Keyword}
use Rattle.sql_tokens.specs.declared.kinds.Keyword.TheVariants as words
use Rattle.sql_tokens.specs.declared.kinds.Sign.{Sign}
use Rattle.sql_tokens.specs.declared.kinds.Sign.TheVariants as sign
use Rattle.sql_tokens.specs.declared.kinds.Token.{Token}
use Rattle.sql_tokens.specs.declared.kinds.Token.TheVariants as token
use Rattle.sql_grammar.specs.Words.{code, keyword, sign_code, sign_is}

code_tag : (a : Keyword) → code a ≡ tag_of the_type a
code_tag words.All = refl
code_tag _ = refl

as_test : (b : Bool) → cond b true false ≡ b
as_test true = refl
as_test false = refl

pub keyword_test : (a b : Keyword) → sameb the_type a b ≡ keyword b (token.Keyword a)
unfolding keyword
keyword_test a b = sym (as_test (nat_eq (code a) (code b)) ∙ ap₂ nat_eq (code_tag a) (code_tag b))

pub sign_test : (a b : Sign) → sameb the_sign_type a b ≡ sign_is b (token.Sign a)
unfolding sign_is
sign_test sign.Open sign.Open = refl
sign_test sign.Open _ = refl
sign_test sign.Close sign.Open = refl
sign_test sign.Close _ = refl
sign_test sign.Comma sign.Open = refl
sign_test sign.Comma _ = refl
sign_test sign.Dot sign.Open = refl
sign_test sign.Dot _ = refl
sign_test sign.Semicolon sign.Open = refl
sign_test sign.Semicolon _ = refl
sign_test sign.Star sign.Open = refl
sign_test sign.Star _ = refl
sign_test sign.Equal sign.Open = refl
sign_test sign.Equal _ = refl
sign_test sign.NotEqual sign.Open = refl
sign_test sign.NotEqual _ = refl
sign_test sign.Less sign.Open = refl
sign_test sign.Less _ = refl
sign_test sign.LessEqual sign.Open = refl
sign_test sign.LessEqual _ = refl
sign_test sign.Greater sign.Open = refl
sign_test sign.Greater _ = refl
sign_test sign.GreaterEqual sign.Open = refl
sign_test sign.GreaterEqual _ = refl
sign_test sign.Plus sign.Open = refl
sign_test sign.Plus _ = refl
sign_test sign.Minus sign.Open = refl
sign_test sign.Minus _ = refl

-- Words have the kinds below 46, and signs those from 50 to 63.
code_below : (b : Keyword) → code b < 46
code_below words.All = omega arith
code_below _ = omega arith

sign_from : (b : Sign) → 50 ≤ sign_code b
sign_from sign.Open = omega arith
sign_from _ = omega arith

sign_below : (b : Sign) → sign_code b < 64
sign_below sign.Open = omega arith
sign_below _ = omega arith

differ : (n m : ℕ) → n ≢ m → cond (nat_eq n m) true false ≡ false
differ n m h = as_test (nat_eq n m) ∙ ne_eqb n m h

chosen : (b : Bool) (n m k : ℕ) → n ≢ k → m ≢ k → cond (nat_eq (cond b n m) k) true false ≡ false
chosen true n m k h j = differ n k h
chosen false n m k h j = differ m k j

pub no_keyword : (t : Token) (b : Keyword) → ((k : Keyword) → t ≡ token.Keyword k → ⊥) → false ≡ keyword b t
unfolding keyword
no_keyword (token.Keyword k) b h = absurd (h k refl)
no_keyword (token.Name n) b h = sym (chosen (nat_le (length n) 32) 70 80 (code b) (let l = code_below b in omega arith) (let l = code_below b in omega arith))
no_keyword (token.Number n) b h = sym (chosen (nat_lt n (2 ^ 63)) 71 74 (code b) (let l = code_below b in omega arith) (let l = code_below b in omega arith))
no_keyword (token.Text n) b h = sym (differ 72 (code b) (let l = code_below b in omega arith))
no_keyword (token.Blob n) b h = sym (differ 73 (code b) (let l = code_below b in omega arith))
no_keyword (token.Sign s) b h = sym (differ (sign_code s) (code b) (let l = code_below b in let m = sign_from s in omega arith))
no_keyword token.Unknown b h = sym (differ 80 (code b) (let l = code_below b in omega arith))

pub no_sign : (t : Token) (b : Sign) → ((s : Sign) → t ≡ token.Sign s → ⊥) → false ≡ sign_is b t
unfolding sign_is
no_sign (token.Sign s) b h = absurd (h s refl)
no_sign (token.Name n) b h = sym (chosen (nat_le (length n) 32) 70 80 (sign_code b) (let l = sign_below b in omega arith) (let l = sign_below b in omega arith))
no_sign (token.Number n) b h = sym (chosen (nat_lt n (2 ^ 63)) 71 74 (sign_code b) (let l = sign_below b in omega arith) (let l = sign_below b in omega arith))
no_sign (token.Text n) b h = sym (differ 72 (sign_code b) (let l = sign_below b in omega arith))
no_sign (token.Blob n) b h = sym (differ 73 (sign_code b) (let l = sign_below b in omega arith))
no_sign (token.Keyword k) b h = sym (differ (code k) (sign_code b) (let l = sign_from b in let m = code_below k in omega arith))
no_sign token.Unknown b h = sym (differ 80 (sign_code b) (let l = sign_below b in omega arith))
