-- How the versions of a table are read from the pairs of its rows' tree, one after the other.
use Rattle.std.specs.Prelude.{◌≡◌, ◌^◌, ◌<◌, List, ◌++◌, map, None}
use Rattle.std.specs.List.{AllByRecursion}
use Rattle.cdb_values.specs.declared.rows.Version.{Version}
use Rattle.key_code.specs.Codes.{IsRowValue}
use Rattle.table_store.specs.Forests.{Pair}
use Rattle.table_store.specs.Listings.{pair_of_version}

-- a version that can be read back from its pair in the rows' tree
pub record IsReadable (v : Version) : Type 0 where
  pub genid : v.genid < 2 ^ 64
  pub row : AllByRecursion IsRowValue v.row

-- what the rows' tree has of versions, in their order
abbrev pub row_pairs : List Version → List Pair
row_pairs versions = map (pair_of_version None) versions

-- of these versions some were found; these pairs are those of the others
pub record IsReading (pairs : List Pair) (found versions : List Version) : Type 0 where
  pub left : List Version
  pub whole : found ++ left ≡ versions
  pub readable : AllByRecursion IsReadable left
  pub pairs_are : pairs ≡ row_pairs left
