-- What the trees of a store list. Each tree has one pair for each version of its table:
--
--     tree             key of the pair                     value of the pair
--     rows             the genid, in 8 bytes               the row's code
--     a unique key     the key's code                      the genid, in 8 bytes
--     another key      the key's code, then the genid      nothing
--
-- So the version with the genid 5 and the row (1, 'a'), in a table with a unique key over its first column and another
-- key over its second, stands three times, with `00 .. 05` for the genid's 8 bytes:
--
--     rows             00 .. 05                            01 00 .. 01 02 00 00 00 01 61
--     a unique key     01 80 00 .. 01                      00 .. 05
--     another key      02 61 00 00 00 .. 05
--
-- A tree has its pairs in the order of their keys, and each key once; that is said of trees. Which pairs these are is
-- said here, by membership alone. So a version that comes or goes is one pair more or less, wherever it stands.
use Rattle.std.specs.Prelude.{◌≡◌, ◌⊎◌, ℕ, Bool, true, false, List, [], ◌∷◌, ◌++◌, Option, None, Some}
use Rattle.byteorder.specs.Endian.{big_bytes}
use Rattle.cdb_values.specs.Good.{key_of}
use Rattle.cdb_values.specs.Rows.{Rows, versions_of}
use Rattle.cdb_values.specs.declared.rows.Version.{Version}
use Rattle.cdb_values.specs.declared.tables.KeyDef.{KeyDef}
use Rattle.key_code.specs.Codes.{key_code, row_code}
use Rattle.table_store.specs.Forests.{Pair}
use Rattle.table_store.specs.Plans.{Planned}

-- an item is among these
abbrev pub IsAmong : {A : Type 0} → A → List A → Type 0
IsAmong x [] = ⊥
IsAmong x (y ∷ ys) = (x ≡ y) ⊎ IsAmong x ys

-- a key's code with a genid: of a unique key the genid is the value, of another key it stands behind the code
abbrev pub keyed : Bool → List ℕ → List ℕ → Pair
keyed true code genid = (code, genid)
keyed false code genid = (code ++ genid, [])

-- what a tree has of a version
abbrev pub pair_of_version : Option KeyDef → Version → Pair
pair_of_version None v = (big_bytes 8 v.genid, row_code v.row)
pair_of_version (Some key) v = keyed key.unique (key_code (key_of key v.row)) (big_bytes 8 v.genid)

-- a list has what the tree has of each version, and nothing else
pub record Lists (key : Option KeyDef) (versions : List Version) (list : List Pair) : Type 0 where
  pub all : (v : Version) → IsAmong v versions → IsAmong (pair_of_version key v) list
  pub only : (p : Pair) → IsAmong p list → (v : Version) × IsAmong v versions × (p ≡ pair_of_version key v)

-- each tree lists the versions of its table
abbrev pub AreLists : Rows → List Planned → List (List Pair) → Type 0
AreLists rows [] [] = Unit {0}
AreLists rows [] (_ ∷ _) = ⊥
AreLists rows (_ ∷ _) [] = ⊥
AreLists rows (p ∷ ps) (list ∷ lists) = Lists p.key (versions_of rows p.table) list × AreLists rows ps lists
