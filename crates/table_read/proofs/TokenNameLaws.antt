-- The names of tokens: the bytes of a word that is not reserved, folded to lower case.
use Rattle.std.proofs.Common.{◌≡◌, ℕ, ◌+◌, ◌≤◌, Bool, true, false, ◌&&◌, ◌||◌, ◌==◌, List, [], ◌∷◌, length, map, codes, bytes_eq, refl, sym, ◌∙◌, ap, ap₂, arith}
use Rattle.std.specs.Char.{to_ascii_lowercase}
use Rattle.std.specs.List.{list_all, AllByRecursion}
use Rattle.std.proofs.lemmas.Bool.Decides.{nat_tests}
use Rattle.std.proofs.lemmas.Slice.Eq.{bytes_eq-Decides}
use Rattle.byte_words.specs.Names.{is_name_byte, begins_lower}
use Rattle.byte_words.specs.Words.{is_lower}
use Rattle.sql_tokens.specs.Letters.{is_word_byte, is_word_start, next_is, Each}
use Rattle.sql_tokens.specs.Spot.{Spot, token_of}
use Rattle.sql_tokens.specs.Token.{IsToken, IsName}
use Rattle.sql_tokens.specs.Tokens.{Tokens, no_more, a_blank, a_token, none_begins}
use Rattle.sql_tokens.specs.Words.{folded}
use Rattle.sql_tokens.specs.declared.kinds.Keyword.TheVariants.{All}
use Rattle.sql_tokens.specs.declared.kinds.Token.{Token}
use Rattle.sql_tokens.specs.declared.kinds.Token.TheVariants as token

-- a name of at most 32 bytes that a token may have
pub record IsTokenName (name : List ℕ) : Type 0 where
  pub bytes : list_all is_name_byte name ≡ true
  pub begun : begins_lower name ≡ true
  pub short : length name ≤ 32
  pub free : bytes_eq (codes "all") name ≡ false

folded_byte : (b : ℕ) → is_word_byte b ≡ true → is_name_byte (to_ascii_lowercase b) ≡ true
folded_byte b h = grind (arith, nat_tests)

folded_start : (b : ℕ) → is_word_start b ≡ true → (is_lower (to_ascii_lowercase b) || (to_ascii_lowercase b == 95)) ≡ true
folded_start b h = grind (arith, nat_tests)

folded_bytes : (w : List ℕ) → Each is_word_byte w → list_all is_name_byte (folded w) ≡ true
folded_bytes [] each = refl
folded_bytes (b ∷ w) each = ap₂ (λ one all. one && all) (folded_byte b each.0) (folded_bytes w each.1)

folded_begun : (w : List ℕ) → next_is is_word_start w ≡ true → begins_lower (folded w) ≡ true
folded_begun [] h = h
folded_begun (b ∷ w) h = folded_start b h

not_equal : (a b : List ℕ) → (b ≡ a → ⊥) → bytes_eq a b ≡ false
not_equal a b differ = go (bytes_eq a b) refl
  where
    go : (same : Bool) → bytes_eq a b ≡ same → same ≡ false
    go true e = absurd (differ (sym ((bytes_eq-Decides a b).0 e)))
    go false e = refl

is_token_name : (n w rest : List ℕ) → IsName n w rest → length n ≤ 32 → IsTokenName n
is_token_name n w rest h short = record {
  bytes = ap (list_all is_name_byte) h.spelled ∙ folded_bytes w h.word.each;
  begun = ap begins_lower h.spelled ∙ folded_begun w h.word.begins;
  short = short;
  free = not_equal (codes "all") n (h.free All);
}

-- a token whose name, where it has one that is not too long, has a property
abbrev pub Named : (List ℕ → Type 0) → Token → Type 0
Named P (token.Keyword k) = Unit {0}
Named P (token.Name n) = length n ≤ 32 → P n
Named P (token.Number n) = Unit {0}
Named P (token.Text cs) = Unit {0}
Named P (token.Blob bs) = Unit {0}
Named P (token.Sign s) = Unit {0}
Named P token.Unknown = Unit {0}

token_named : (P : List ℕ → Type 0) → ((name : List ℕ) → IsTokenName name → P name) → (t : Token) (w rest : List ℕ) → IsToken t w rest → Named P t
token_named P all (token.Keyword k) w rest h = tt
token_named P all (token.Name n) w rest h = λ short. all n (is_token_name n w rest h short)
token_named P all (token.Number n) w rest h = tt
token_named P all (token.Text cs) w rest h = tt
token_named P all (token.Blob bs) w rest h = tt
token_named P all (token.Sign s) w rest h = tt
token_named P all token.Unknown w rest h = tt

-- what holds of all names that a token may have holds of the names of a text's tokens
pub tokens_named : (P : List ℕ → Type 0) → ((name : List ℕ) → IsTokenName name → P name) → (at : ℕ) (bs : List ℕ) (ss : List Spot) → Tokens at bs ss → AllByRecursion (Named P) (map token_of ss)
tokens_named P all at bs ss (no_more _) = tt
tokens_named P all at bs ss (a_blank _ b cs us h d) = tokens_named P all (at + 1) cs us d
tokens_named P all at bs ss (a_token _ _ t w rest us e h d) = (token_named P all t w rest h, tokens_named P all (at + length w) rest us d)
tokens_named P all at bs ss (none_begins _ b cs h n) = (tt, tt)
