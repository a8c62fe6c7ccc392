-- Cells of a tree. A cell tells the length of its key in two bytes, then the key, and then what it has for the key: in
-- a leaf the value, above the leaves the number of the child in eight bytes. Numbers are big-endian.
use Rattle.std.specs.Prelude.{◌≡◌, ℕ, ◌+◌, ◌≤◌, List, ◌++◌, length, take, drop}
use Rattle.byteorder.specs.Endian.{big_number, big_bytes}
use Rattle.btree_index.specs.Keys.{Key}

-- the bytes of a cell's key
abbrev pub key_size : List ℕ → ℕ
key_size cell = big_number 2 cell

abbrev pub key_of_cell : List ℕ → Key
key_of_cell cell = take (key_size cell) (drop 2 cell)

-- what a cell has for its key
abbrev pub value_of_cell : List ℕ → List ℕ
value_of_cell cell = drop (2 + key_size cell) cell

-- the page below a cell above the leaves
abbrev pub child_of : List ℕ → ℕ
child_of cell = big_number 8 (value_of_cell cell)

-- the cell of a key with its value, and with its child
abbrev pub leaf_cell : Key → List ℕ → List ℕ
leaf_cell key value = big_bytes 2 (length key) ++ (key ++ value)

abbrev pub inner_cell : Key → ℕ → List ℕ
inner_cell key child = big_bytes 2 (length key) ++ (key ++ big_bytes 8 child)

-- a cell of a leaf: its key is there, and neither is too long
pub record IsLeafCell (cell : List ℕ) : Type 0 where
  pub whole : 2 + key_size cell ≤ length cell
  pub key : key_size cell ≤ 1630
  pub size : length cell ≤ 1640

-- a cell above the leaves: its key is there, with a child and nothing else
pub record IsInnerCell (cell : List ℕ) : Type 0 where
  pub whole : length cell ≡ 2 + key_size cell + 8
  pub key : key_size cell ≤ 1630
