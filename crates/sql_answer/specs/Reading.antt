-- What a text reads as: one statement, or the offset at which it is refused; and what it is to
-- transactions.
--
-- The text is cut into tokens, and the reader of statements reads them all. A text that is refused
-- is refused at the first token with which the tokens so far begin no statement, or at its end.
use Rattle.std.specs.Prelude.{ℕ, zero, suc, ◌+◌, ◌-◌, Bool, true, false, List, [], ◌∷◌, length, drop, map, Option, Some, None, Result, Ok, Err}
use Rattle.cdb_values.specs.declared.rows.Level.TheVariants.{Snapshot, Serializable}
use Rattle.grammar_forms.specs.Forms.{ReadOutcome, Read, Refused, only}
use Rattle.session_language.specs.Language.{Kind, BeginText, CommitText, RollbackText, LevelText, OtherText}
use Rattle.sql_grammar.specs.Readers.{statement_r}
use Rattle.sql_grammar.specs.Trees.{Statement, BeginIt, CommitIt, RollbackIt, SnapshotIt, SerializableIt, InsertInto, UpdateOf, DeleteFrom, SelectOf}
use Rattle.sql_reader.specs.Promise.{offset_of}
use Rattle.sql_tokens.specs.Letters.{is_blank}
use Rattle.sql_tokens.specs.Reading.{next}
use Rattle.sql_tokens.specs.Spot.{Spot, spot, token_of}
use Rattle.sql_tokens.specs.declared.kinds.Token.{Token}
use Rattle.sql_tokens.specs.declared.kinds.Token.TheVariants as token

-- the token at the front of bytes, with how many of them it takes; nothing where none begins
abbrev pub first_token : List ℕ → Option (Token × ℕ)
first_token bytes = elim (next bytes) [ None ↦ None | Some found ↦ Some (found.token, found.size) ]

-- the spots from a token on, where `later` gives those of what stands behind it
abbrev pub spots_by : ℕ → List ℕ → (ℕ → List ℕ → List Spot) → Option (Token × ℕ) → List Spot
spots_by at bytes later None = spot at token.Unknown ∷ []
spots_by at bytes later (Some found) = spot at found.0 ∷ later (at + found.1) (drop found.1 bytes)

-- the spots of bytes that begin with a blank, or with none
abbrev pub spots_behind : ℕ → ℕ → List ℕ → (ℕ → List ℕ → List Spot) → Bool → List Spot
spots_behind at byte bytes later true = later (at + 1) bytes
spots_behind at byte bytes later false = spots_by at (byte ∷ bytes) later (first_token (byte ∷ bytes))

-- the spots of bytes that stand from a place on, of so many bytes at most
abbrev pub spots_within : ℕ → ℕ → List ℕ → List Spot
spots_within zero at bytes = []
spots_within (suc most) at [] = []
spots_within (suc most) at (byte ∷ bytes) = spots_behind at byte bytes (spots_within most) (is_blank byte)

-- the tokens of a text, each with its place
unfoldable pub spots_of : List ℕ → List Spot
spots_of text = spots_within (length text) 0 text

-- the last spots, as many as these tokens
abbrev pub spots_left : List Spot → List Token → List Spot
spots_left spots tokens = drop (length spots - length tokens) spots

-- what the reader's outcome on all tokens comes to: a value, or the place of the first token that is left
abbrev pub verdict : {A : Type 0} → List Spot → ℕ → ReadOutcome Token A → Result A ℕ
verdict spots end (Read value rest) = Ok value
verdict spots end (Refused rest) = Err (offset_of (spots_left spots rest) end)

-- the statement that a text reads as, or the offset at which it is refused
unfoldable pub reading : List ℕ → Result Statement ℕ
reading text = verdict (spots_of text) (length text) (only (statement_r (map token_of (spots_of text))))

-- what a statement is to transactions
abbrev pub kind_of : Statement → Kind
kind_of BeginIt = BeginText
kind_of CommitIt = CommitText
kind_of RollbackIt = RollbackText
kind_of SnapshotIt = LevelText Snapshot
kind_of SerializableIt = LevelText Serializable
kind_of (InsertInto table columns rows) = OtherText
kind_of (UpdateOf table settings filter) = OtherText
kind_of (DeleteFrom table filter) = OtherText
kind_of (SelectOf query) = OtherText

abbrev pub kind_by : Result Statement ℕ → Kind
kind_by (Ok statement) = kind_of statement
kind_by (Err at) = OtherText

-- what a text is to transactions: one that is refused begins, ends and sets nothing
unfoldable pub kind_of_text : List ℕ → Kind
kind_of_text text = kind_by (reading text)
