-- The kind of each token, a number, and what single tokens mean. A word of more than 32 bytes is no name, and a number
-- from 2 ^ 63 on is a number only directly after a minus, where it may be 2 ^ 63: each has a kind of its own.
use Rattle.std.specs.Prelude.{ℕ, pos, neg_ℤ, ◌^◌, Bool, cond, [], ◌∷◌, length, nat_le, nat_lt, Option, Some, None}
use Rattle.grammar_forms.specs.Kinds.{of}
use Rattle.sql_tokens.specs.declared.kinds.Keyword.{Keyword}
use Rattle.sql_tokens.specs.declared.kinds.Keyword.TheVariants as word
use Rattle.sql_tokens.specs.declared.kinds.Sign.{Sign}
use Rattle.sql_tokens.specs.declared.kinds.Sign.TheVariants as sign
use Rattle.sql_tokens.specs.declared.kinds.Token.{Token}
use Rattle.sql_tokens.specs.declared.kinds.Token.TheVariants as token
use Rattle.sql_grammar.specs.Trees.{Name, Constant, IntValue, TextValue, BlobValue}

-- reserved words have the kinds below 46
abbrev pub code : Keyword → ℕ
code word.All = 0
code word.And = 1
code word.As = 2
code word.Asc = 3
code word.Begin = 4
code word.Blob = 5
code word.By = 6
code word.Commit = 7
code word.Count = 8
code word.Create = 9
code word.Delete = 10
code word.Desc = 11
code word.From = 12
code word.Group = 13
code word.Insert = 14
code word.Int = 15
code word.Integer = 16
code word.Into = 17
code word.Is = 18
code word.Key = 19
code word.Limit = 20
code word.Lost = 21
code word.Max = 22
code word.Min = 23
code word.NoMajority = 24
code word.Not = 25
code word.Null = 26
code word.Or = 27
code word.Order = 28
code word.Pk = 29
code word.Primary = 30
code word.Rollback = 31
code word.Select = 32
code word.Selectv = 33
code word.Serializable = 34
code word.Set = 35
code word.Snapshot = 36
code word.Sum = 37
code word.Table = 38
code word.Text = 39
code word.TooOld = 40
code word.Transaction = 41
code word.Unique = 42
code word.Update = 43
code word.Values = 44
code word.Where = 45

-- signs have the kinds from 50 on
abbrev pub sign_code : Sign → ℕ
sign_code sign.Open = 50
sign_code sign.Close = 51
sign_code sign.Comma = 52
sign_code sign.Dot = 53
sign_code sign.Semicolon = 54
sign_code sign.Star = 55
sign_code sign.Equal = 56
sign_code sign.NotEqual = 57
sign_code sign.Less = 58
sign_code sign.LessEqual = 59
sign_code sign.Greater = 60
sign_code sign.GreaterEqual = 61
sign_code sign.Plus = 62
sign_code sign.Minus = 63

abbrev pub a_name : ℕ
a_name = 70

abbrev pub a_number : ℕ
a_number = 71

abbrev pub a_text : ℕ
a_text = 72

abbrev pub a_blob : ℕ
a_blob = 73

-- a number from 2 ^ 63 on
abbrev pub a_large : ℕ
a_large = 74

-- the kind that stands in no production
abbrev pub no_kind : ℕ
no_kind = 80

abbrev pub kind : Token → ℕ
kind (token.Keyword k) = code k
kind (token.Name n) = cond (nat_le (length n) 32) a_name no_kind
kind (token.Number n) = cond (nat_lt n (2 ^ 63)) a_number a_large
kind (token.Text t) = a_text
kind (token.Blob b) = a_blob
kind (token.Sign s) = sign_code s
kind token.Unknown = no_kind

-- the token is this reserved word, or this sign
unfoldable pub keyword : Keyword → Token → Bool
keyword k = of kind (code k ∷ [])

unfoldable pub sign_is : Sign → Token → Bool
sign_is s = of kind (sign_code s ∷ [])

-- a name: a word that is not reserved, of at most 32 bytes
abbrev pub name_of : Token → Option Name
name_of (token.Name n) = cond (nat_le (length n) 32) (Some n) None
name_of _ = None

-- a number, a text or a blob
abbrev pub constant_of : Token → Option Constant
constant_of (token.Number n) = cond (nat_lt n (2 ^ 63)) (Some (IntValue (pos n))) None
constant_of (token.Text t) = Some (TextValue t)
constant_of (token.Blob b) = Some (BlobValue b)
constant_of _ = None

-- the number behind a minus
abbrev pub negated : Token → Option Constant
negated (token.Number n) = cond (nat_le n (2 ^ 63)) (Some (IntValue (neg_ℤ (pos n)))) None
negated _ = None

abbrev pub limit_of : Token → Option ℕ
limit_of (token.Number n) = cond (nat_lt n (2 ^ 63)) (Some n) None
limit_of _ = None
