-- The keys of a table as its definition writes them: each with its name, the names of its columns, and whether it is
-- unique. They stand in the order of the text. The primary key is named by the reserved word `pk`, which no other key
-- can have for its name; a column's own mark `unique` makes a key that is named as the column.
use Rattle.std.specs.Prelude.{ℕ, true, List, [], ◌∷◌, flat_map, codes}
use Rattle.sql_grammar.specs.declared.types.Mark.{Mark}
use Rattle.sql_grammar.specs.declared.types.Mark.TheVariants.{NotNull, PrimaryKey, Unique}
use Rattle.sql_grammar.specs.Trees.{Part, ColumnPart, PrimaryPart, KeyPart}
use Rattle.table_read.specs.declared.keys.WrittenKey.{WrittenKey}

-- the name of each primary key
abbrev pub primary_name : List ℕ
primary_name = codes "pk"

-- the primary key over these columns
abbrev pub primary_over : List (List ℕ) → WrittenKey
primary_over columns = record { name = primary_name; columns = columns; unique = true }

-- the key that a column's mark makes, if it makes one
abbrev pub keys_of_mark : List ℕ → Mark → List WrittenKey
keys_of_mark column NotNull = []
keys_of_mark column PrimaryKey = primary_over (column ∷ []) ∷ []
keys_of_mark column Unique = record { name = column; columns = column ∷ []; unique = true } ∷ []

-- the keys that a part of a definition makes
abbrev pub keys_of_part : Part → List WrittenKey
keys_of_part (ColumnPart name kind marks) = flat_map (keys_of_mark name) marks
keys_of_part (PrimaryPart columns) = primary_over columns ∷ []
keys_of_part (KeyPart unique name columns) = record { name = name; columns = columns; unique = unique } ∷ []

-- the keys of all the parts, in the order of the text
abbrev pub written_keys : List Part → List WrittenKey
written_keys parts = flat_map keys_of_part parts
