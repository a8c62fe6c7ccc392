-- The definition of a table that a text spells, as a function of the text. The text is cut into its tokens: blanks are
-- passed over, and each token goes as far as its own rule says; where no token begins, the last one is `Unknown`. All the
-- tokens have to be a definition.
use Rattle.std.specs.Prelude.{ℕ, zero, suc, List, [], ◌∷◌, length, drop, Option, Some, None, if◌then◌else◌}
use Rattle.grammar_forms.specs.Forms.{ReadOutcome, Read, Refused}
use Rattle.sql_tokens.specs.Letters.{is_blank}
use Rattle.sql_tokens.specs.Reading.{next}
use Rattle.sql_tokens.specs.declared.kinds.Token.{Token}
use Rattle.sql_tokens.specs.declared.kinds.Token.TheVariants.{Unknown}
use Rattle.sql_grammar.specs.Trees.{Definition}
use Rattle.sql_grammar.specs.Readers.{create_r}

-- what is made of a value, or another value where there is none
abbrev pub where_found : {A B : Type 0} → Option A → B → (A → B) → B
where_found None none some = none
where_found (Some x) none some = some x

-- the token at the front of these bytes, and then those of the bytes behind it
abbrev pub with_token : (List ℕ → List Token) → List ℕ → List Token
with_token behind bytes = where_found (next bytes) (Unknown ∷ []) (λ found. found.token ∷ behind (drop found.size bytes))

-- the tokens of bytes that are at most so many
abbrev pub tokens_within : ℕ → List ℕ → List Token
tokens_within zero bytes = []
tokens_within (suc most) [] = []
tokens_within (suc most) (b ∷ bs) =
    if is_blank b then tokens_within most bs else with_token (tokens_within most) (b ∷ bs)

abbrev pub tokens_of : List ℕ → List Token
tokens_of text = tokens_within (length text) text

-- what was read, where no token is left
abbrev pub all_of : {T A : Type 0} → ReadOutcome T A → Option A
all_of (Read x []) = Some x
all_of (Read x (t ∷ ts)) = None
all_of (Refused ts) = None

-- the definition that a text spells
unfoldable pub definition_of : List ℕ → Option Definition
definition_of text = all_of (create_r (tokens_of text))
