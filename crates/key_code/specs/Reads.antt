-- What a reader owes: it finds exactly what has a code.
use Rattle.std.specs.Prelude.{◌≡◌, ℕ, suc, ◌<◌, ◌^◌, [], ◌∷◌, ◌++◌, List, length, Option, Some, None}
use Rattle.std.specs.List.{AllByRecursion}
use Rattle.cdb_values.specs.declared.values.Value.{Value}
use Rattle.key_code.specs.declared.reads.Read.{Read}
use Rattle.key_code.specs.declared.rows.Counted.{Counted}
use Rattle.key_code.specs.declared.escapes.Unescaped.{Unescaped}
use Rattle.key_code.specs.declared.escapes.Piece.{Piece}
use Rattle.key_code.specs.declared.escapes.Piece.TheVariants.{Byte, End, Dead}
use Rattle.key_code.specs.Codes.{joined, counted, escaped, ended}

-- of bytes that begin with a value's code: the value and what is left; nothing exactly where no value has its code there
abbrev pub Reads : (Value → List ℕ) → (Value → Type 0) → Option Read → List ℕ → Type 0
Reads code Has (Some read) bytes = Has read.value × (code read.value ++ read.rest.now ≡ bytes)
Reads code Has None bytes = (value : Value) (rest : List ℕ) → Has value → code value ++ rest ≡ bytes → ⊥

-- of bytes that are the code of values: the values; nothing exactly where they are no values' code
abbrev pub Decodes : (Value → List ℕ) → (Value → Type 0) → Option (List Value) → List ℕ → Type 0
Decodes code Has (Some values) bytes = AllByRecursion Has values × (joined code values ≡ bytes)
Decodes code Has None bytes = (values : List Value) → AllByRecursion Has values → joined code values ≡ bytes → ⊥

-- of bytes that begin with counted bytes: those bytes and what is left; nothing exactly where none do
abbrev pub Counts : Option Counted → List ℕ → Type 0
Counts (Some found) bytes = (length found.bytes.now < 2 ^ 32) × (counted found.bytes.now ++ found.rest.now ≡ bytes)
Counts None bytes = (text rest : List ℕ) → length text < 2 ^ 32 → counted text ++ rest ≡ bytes → ⊥

-- of bytes that begin with escaped bytes and their end: those bytes and what is left; nothing exactly where none do
abbrev pub Unescapes : Option Unescaped → List ℕ → Type 0
Unescapes (Some found) bytes = ended found.bytes.items ++ found.rest.now ≡ bytes
Unescapes None bytes = (text rest : List ℕ) → ended text ++ rest ≡ bytes → ⊥

-- no escaped byte stands at the front of the bytes, and no end
pub record IsDead (bytes : List ℕ) : Type 0 where
  pub no_end : (rest : List ℕ) → bytes ≡ 0 ∷ 0 ∷ rest → ⊥
  pub no_zero : (rest : List ℕ) → bytes ≡ 0 ∷ 255 ∷ rest → ⊥
  pub no_other : (b : ℕ) (rest : List ℕ) → bytes ≡ suc b ∷ rest → ⊥

-- the piece at the front of escaped bytes
abbrev pub IsPiece : Piece → List ℕ → Type 0
IsPiece (Byte byte after) bytes = (escaped (byte ∷ []) ++ after.now ≡ bytes) × (length after.now < length bytes)
IsPiece (End after) bytes = 0 ∷ 0 ∷ after.now ≡ bytes
IsPiece Dead bytes = IsDead bytes
