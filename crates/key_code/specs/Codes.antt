-- The codes of values: lists of bytes from which the values can be read again.
--
-- A code of values is the codes of the values in order, one behind the other. In a key the code keeps the order: of two
-- lists of values, the one that comes first has the code that comes first, byte by byte. In a row it is shorter, since
-- it tells a length in place of escaping bytes.
use Rattle.std.specs.Prelude.{ℕ, zero, suc, ◌+◌, ◌-◌, ◌^◌, ◌<◌, ℤ, pos, negsuc, List, [], ◌∷◌, ◌++◌, length}
use Rattle.std.specs.Str.{IsUtf8}
use Rattle.byteorder.specs.Endian.{big_bytes}
use Rattle.cdb_values.specs.declared.values.Value.{Value}
use Rattle.cdb_values.specs.declared.values.Value.TheVariants.{Null, Int, Text, Blob}

-- a signed number moved up by 2^63, which keeps the order: its two's complement with the sign bit flipped
abbrev pub lifted : ℤ → ℕ
lifted (pos n) = 2 ^ 63 + n
lifted (negsuc n) = 2 ^ 63 - suc n

-- a signed number in two's complement
abbrev pub complement : ℤ → ℕ
complement (pos n) = n
complement (negsuc n) = 2 ^ 64 - suc n

-- bytes with each 0 as 0 and 255
abbrev pub escaped : List ℕ → List ℕ
escaped [] = []
escaped (zero ∷ bytes) = 0 ∷ 255 ∷ escaped bytes
escaped (suc b ∷ bytes) = suc b ∷ escaped bytes

-- two bytes 0, which stand in no escaped bytes, end them
abbrev pub ended : List ℕ → List ℕ
ended bytes = escaped bytes ++ 0 ∷ 0 ∷ []

-- the code of a value in a key
abbrev pub key_value : Value → List ℕ
key_value Null = 0 ∷ []
key_value (Int x) = 1 ∷ big_bytes 8 (lifted x)
key_value (Text text) = 2 ∷ ended text
key_value (Blob blob) = 3 ∷ ended blob

-- bytes behind their length, which is below 2^32
abbrev pub counted : List ℕ → List ℕ
counted bytes = big_bytes 4 (length bytes) ++ bytes

-- the code of a value in a row
abbrev pub row_value : Value → List ℕ
row_value Null = 0 ∷ []
row_value (Int x) = 1 ∷ big_bytes 8 (complement x)
row_value (Text text) = 2 ∷ counted text
row_value (Blob blob) = 3 ∷ counted blob

-- the codes of values, joined
abbrev pub joined : (Value → List ℕ) → List Value → List ℕ
joined code [] = []
joined code (value ∷ values) = code value ++ joined code values

abbrev pub key_code : List Value → List ℕ
key_code values = joined key_value values

abbrev pub row_code : List Value → List ℕ
row_code values = joined row_value values

-- an integer is one of 64 bits
abbrev pub IsInRange : Value → Type 0
IsInRange (Int (pos n)) = n < 2 ^ 63
IsInRange (Int (negsuc n)) = n < 2 ^ 63
IsInRange Null = Unit {0}
IsInRange (Text _) = Unit {0}
IsInRange (Blob _) = Unit {0}

-- a text or a blob has a length of 32 bits
abbrev pub IsShort : Value → Type 0
IsShort (Text text) = length text < 2 ^ 32
IsShort (Blob blob) = length blob < 2 ^ 32
IsShort Null = Unit {0}
IsShort (Int _) = Unit {0}

-- a text is UTF-8
abbrev pub IsText : Value → Type 0
IsText (Text text) = IsUtf8 text
IsText (Blob _) = Unit {0}
IsText Null = Unit {0}
IsText (Int _) = Unit {0}

-- a value that has a code in a row
pub record HasRowCode (value : Value) : Type 0 where
  pub range : IsInRange value
  pub short : IsShort value

-- a value that is read from a key
pub record IsKeyValue (value : Value) : Type 0 where
  pub range : IsInRange value
  pub text : IsText value

-- a value that is read from a row
pub record IsRowValue (value : Value) : Type 0 where
  pub written : HasRowCode value
  pub text : IsText value
