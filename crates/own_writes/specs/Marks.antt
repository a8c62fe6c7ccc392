-- The marks of own writes: numbers by which a write is found. A write has one for each column of the row that it
-- writes, and one for the version that it takes away.
--
-- Equal values of one column have the same mark. Others may have it too, so who finds a write by a mark still asks
-- what it writes. All marks are below 4294967291, a prime number, and so below 2^32.
use Rattle.std.specs.Prelude.{ℕ, ◌+◌, ◌*◌, ◌%◌, ◌∷◌, [], List, unsigned_abs}
use Rattle.cdb_values.specs.declared.values.Value.{Value}
use Rattle.cdb_values.specs.declared.values.Value.TheVariants.{Null, Int, Text, Blob}

unfoldable pub reduced : ℕ → ℕ
reduced number = number % 4294967291

-- a mark with a number more
unfoldable pub mixed : ℕ → ℕ → ℕ
mixed mark number = (mark * 65537 + number) % 4294967291

abbrev pub bytes_mark : ℕ → List ℕ → ℕ
bytes_mark mark [] = mark
bytes_mark mark (byte ∷ bytes) = bytes_mark (mixed mark byte) bytes

abbrev pub value_mark : Value → ℕ
value_mark Null = 0
value_mark (Int number) = reduced (unsigned_abs number)
value_mark (Text bytes) = bytes_mark 0 bytes
value_mark (Blob bytes) = bytes_mark 0 bytes

-- the mark of a value in a column of a table
abbrev pub column_mark : ℕ → ℕ → Value → ℕ
column_mark table column value = mixed (mixed (reduced column) table) (value_mark value)

-- the mark of a version of a table that is taken away
abbrev pub genid_mark : ℕ → ℕ → ℕ
genid_mark table genid = mixed (mixed 1000003 table) (reduced genid)

-- a mark with the stamp of its write, as one number: by rising marks, and then by rising stamps
abbrev pub key_of : ℕ → ℕ → ℕ
key_of mark stamp = mark * 4294967296 + stamp
