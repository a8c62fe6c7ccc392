-- What a text spells, and where one that spells nothing is refused. The offset is that of the first token with which
-- the tokens so far begin no statement, or the text's length where the tokens end too early. A byte that begins no
-- token is itself a token, which stands in no rule, so it is told by the same rule.
use Rattle.std.specs.Prelude.{◌≡◌, ℕ, List, [], ◌∷◌, ◌++◌, length, map, Result, Ok, Err}
use Rattle.grammar_forms.specs.Forms.{Spelling}
use Rattle.grammar_forms.specs.Faults.{IsFault}
use Rattle.sql_tokens.specs.declared.kinds.Token.{Token}
use Rattle.sql_tokens.specs.Spot.{Spot, token_of}
use Rattle.sql_tokens.specs.Tokens.{Tokens}
use Rattle.sql_reader.specs.declared.ReadStop.{ReadStop}
use Rattle.sql_reader.specs.declared.ReadStop.TheVariants as stops

-- the text's tokens, all of them, spell x
pub record Spells {A : Type 0} (S : Spelling Token A) (text : List ℕ) (x : A) : Type 0 where
  pub spots : List Spot
  pub are : Tokens 0 text spots
  pub spelled : S x (map token_of spots)

-- where the first of these tokens begins, or the end
abbrev pub offset_of : List Spot → ℕ → ℕ
offset_of [] end = end
offset_of (s ∷ ss) end = s.place

-- the text is refused at this offset
pub record IsRefusedAt {A : Type 0} (S : Spelling Token A) (text : List ℕ) (at : ℕ) : Type 0 where
  pub before : List Spot
  pub rest : List Spot
  pub are : Tokens 0 text (before ++ rest)
  pub fault : IsFault S (map token_of before) (map token_of rest)
  pub place : at ≡ offset_of rest (length text)

-- a refusal stands at its place; want of memory is free
abbrev pub StopsRight : {A : Type 0} → Spelling Token A → List ℕ → ReadStop → Type 0
StopsRight S text stops.NoMemory = Unit {0}
StopsRight S text (stops.Syntax at) = IsRefusedAt S text at

-- the answer where the text spells x: that, or no memory
abbrev pub ReadsAs : {X A : Type 0} → (X → A) → A → Result X ReadStop → Type 0
ReadsAs value x (Ok y) = value y ≡ x
ReadsAs value x (Err stops.NoMemory) = Unit {0}
ReadsAs value x (Err (stops.Syntax at)) = ⊥

-- the answer where the text is refused at this offset: that, or no memory
abbrev pub Refuses : {X : Type 0} → ℕ → Result X ReadStop → Type 0
Refuses at (Ok y) = ⊥
Refuses at (Err stops.NoMemory) = Unit {0}
Refuses at (Err (stops.Syntax found)) = found ≡ at
