-- Lists of pairs in the order of their keys, as a tree holds them.
use Rattle.std.specs.Prelude.{ℕ, zero, suc, ◌+◌, ◌-◌, ◌/◌, nat_lt, length, Bool, List, [], ◌∷◌, ◌⊎◌, not, true, false, ◌≡◌, ◌&&◌, if◌then◌else◌, Option, Some, None}
use Rattle.std.specs.List.{filter, slice_get}
use Rattle.btree_index.specs.Keys.{Key, before, same_key}
use Rattle.btree_index.specs.Cells.{key_of_cell, value_of_cell, child_of}

-- the value of a key
abbrev pub value_at : Key → List (Key × List ℕ) → Option (List ℕ)
value_at key [] = None
value_at key (pair ∷ pairs) = if same_key key pair.0 then Some pair.1 else value_at key pairs

-- the list with a pair in its place
abbrev pub with_pair : Key → List ℕ → List (Key × List ℕ) → List (Key × List ℕ)
with_pair key value [] = (key, value) ∷ []
with_pair key value (pair ∷ pairs) =
    if before key pair.0 then (key, value) ∷ pair ∷ pairs else pair ∷ with_pair key value pairs

-- the list without the pair of a key
abbrev pub without_key : Key → List (Key × List ℕ) → List (Key × List ℕ)
without_key key pairs = filter (λ pair. not (same_key key pair.0)) pairs

-- a key is below another, where one is given
abbrev pub is_below : Option Key → Key → Bool
is_below None key = true
is_below (Some high) key = before key high

-- a key is not before the low one, and below the high one
abbrev pub is_key_between : Key → Option Key → Key → Bool
is_key_between low high key = not (before key low) && is_below high key

-- the pairs whose keys are between
abbrev pub between : Key → Option Key → List (Key × List ℕ) → List (Key × List ℕ)
between low high [] = []
between low high (pair ∷ pairs) =
    if is_key_between low high pair.0 then pair ∷ between low high pairs else between low high pairs

-- the value of a key in the cells of a leaf
abbrev pub cell_value : Key → List (List ℕ) → Option (List ℕ)
cell_value key [] = None
cell_value key (cell ∷ cells) = if same_key key (key_of_cell cell) then Some (value_of_cell cell)
    else cell_value key cells

-- a cell that is there is above the key
abbrev pub is_above : Key → Option (List ℕ) → Bool
is_above key None = false
is_above key (Some cell) = before key (key_of_cell cell)

-- the place in the middle between two
abbrev pub middle : ℕ → ℕ → ℕ
middle low high = low + (high - low) / 2

-- where the cells that are not above the key end, between two places: found by halves, so many at most
abbrev pub halved : Key → List (List ℕ) → ℕ → ℕ → ℕ → ℕ
halved key cells zero low high = low
halved key cells (suc turns) low high =
    if nat_lt low high then
    (if is_above key (slice_get cells (middle low high)) then halved key cells turns low (middle low high)
    else halved key cells turns (middle low high + 1) high)
    else low

-- how many cells are not above the key, as halves find it: in front of this place stands none that is above, and behind it
-- none that is not, where keys do not fall
abbrev pub turn : Key → List (List ℕ) → ℕ
turn key cells = halved key cells (length cells) 0 (length cells)

-- the child of a cell and then of cells, so many cells on
abbrev pub child_from : ℕ → List (List ℕ) → ℕ → ℕ
child_from child cells zero = child
child_from child [] (suc at) = child
child_from child (cell ∷ cells) (suc at) = child_from (child_of cell) cells at

-- the child below which a key may stand, of a page above the leaves: that of the first cell, or of the last one behind it
-- whose key is not above it
abbrev pub choice : Key → List (List ℕ) → ℕ
choice key [] = 0
choice key (cell ∷ cells) = child_from (child_of cell) cells (turn key cells)

-- some cell has a key that is not below the high one
abbrev pub HasBeyond : Option Key → List (List ℕ) → Type 0
HasBeyond high [] = ⊥
HasBeyond high (cell ∷ cells) = (is_below high (key_of_cell cell) ≡ false) ⊎ HasBeyond high cells

-- how many cells of a leaf come before a key
abbrev pub place_in : Key → List (List ℕ) → ℕ
place_in key [] = zero
place_in key (cell ∷ cells) = if before (key_of_cell cell) key then suc (place_in key cells) else zero

-- the cell at a place has the key
pub record HasKeyAt (key : Key) (cells : List (List ℕ)) (at : ℕ) : Type 0 where
  pub found : List ℕ
  pub here : slice_get cells at ≡ Some found
  pub same : same_key key (key_of_cell found) ≡ true
