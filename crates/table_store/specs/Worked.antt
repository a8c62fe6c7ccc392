-- A store of two rows, written out byte for byte: a table `t` with an integer column `id` and a unique key over it. The
-- version 1 has the id 9, the version 3 the id 4, and the next genid is 4.
--
--     page 0   meta: next genid 4, 3 pages, no free page
--     page 1   leaf, the rows of t:   1 -> (9)      3 -> (4)
--     page 2   leaf, the key of t:    4 -> 3        9 -> 1
--
-- The rows stand in the order of their genids, and the key in the order of its values.
use Rattle.std.specs.Prelude.{ℕ, zero, suc, ℤ, pos, true, false, List, [], ◌∷◌, codes}
use Rattle.page_store.specs.Image.{Image, blank_image}
use Rattle.page_store.specs.declared.pages.PageKind.TheVariants.{Leaf, Meta}
use Rattle.cdb_values.specs.Rows.{Rows}
use Rattle.cdb_values.specs.declared.rows.Version.{Version}
use Rattle.cdb_values.specs.declared.tables.TableDef.{TableDef}
use Rattle.cdb_values.specs.declared.tables.KeyDef.{KeyDef}
use Rattle.cdb_values.specs.declared.tables.ColumnType.TheVariants as kinds
use Rattle.cdb_values.specs.declared.values.Value.TheVariants.{Int}

abbrev pub by_id : KeyDef
by_id = record { name = codes "by_id"; columns = 0 ∷ []; unique = true }

abbrev pub worked_tables : List TableDef
worked_tables = record {
  name = codes "t";
  columns = record { name = codes "id"; kind = kinds.Integer; nullable = false } ∷ [];
  keys = by_id ∷ [];
} ∷ []

-- the version of this genid, whose row has this id
abbrev pub with_id : ℕ → ℤ → Version
with_id genid id = record { genid = genid; row = Int id ∷ [] }

abbrev pub worked_rows : Rows
worked_rows = record { tables = (with_id 1 (pos 9) ∷ with_id 3 (pos 4) ∷ []) ∷ []; next = 4 }

-- a number below 256 in eight bytes, and what is behind it
abbrev pub small : ℕ → List ℕ → List ℕ
small n rest = 0 ∷ 0 ∷ 0 ∷ 0 ∷ 0 ∷ 0 ∷ 0 ∷ n ∷ rest

-- the cell of a row: a key of 8 bytes, the genid; the tag of an integer, and its 8 bytes
abbrev pub row_cell : ℕ → ℕ → List ℕ
row_cell genid id = 0 ∷ 8 ∷ small genid (1 ∷ small id [])

-- the cell of a key: a key of 9 bytes, the tag of an integer and its 8 bytes with the sign bit flipped; the genid
abbrev pub key_cell : ℕ → ℕ → List ℕ
key_cell id genid = 0 ∷ 9 ∷ 1 ∷ 128 ∷ 0 ∷ 0 ∷ 0 ∷ 0 ∷ 0 ∷ 0 ∷ id ∷ small genid []

-- a leaf of these cells, without a right neighbour
abbrev pub lone_leaf : List (List ℕ) → Image
lone_leaf cells = record { head = record { kind = Leaf; level = 0; right = 0 }; lsn = 0; cells = cells }

abbrev pub worked_meta : Image
worked_meta = record {
  head = record { kind = Meta; level = 0; right = 0 };
  lsn = 0;
  cells = small 4 (small 3 (small 0 [])) ∷ [];
}

abbrev pub worked_pages : ℕ → Image
worked_pages zero = worked_meta
worked_pages (suc zero) = lone_leaf (row_cell 1 9 ∷ row_cell 3 4 ∷ [])
worked_pages (suc (suc zero)) = lone_leaf (key_cell 4 3 ∷ key_cell 9 1 ∷ [])
worked_pages (suc (suc (suc n))) = blank_image
