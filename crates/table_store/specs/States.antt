-- A state that pages can stand for: for each table its versions, whose genids rise, and the next genid, which is above
-- all of them.
--
-- Each value can be written as a row's code and read back: an integer is one of 64 bits, a length one of 32, and a text
-- is UTF-8. This is the one place that says of the rows of a store that their texts are UTF-8.
--
-- Rows of one table, with the versions 3 and 5, and the next genid 6, are a state; with the versions 5 and 3 they are
-- none, and with the next genid 5 neither.
use Rattle.std.specs.Prelude.{◌≡◌, ℕ, ◌^◌, ◌<◌, List, [], ◌∷◌, length}
use Rattle.std.specs.List.{AllByRecursion}
use Rattle.cdb_values.specs.Rows.{Rows}
use Rattle.cdb_values.specs.declared.rows.Version.{Version}
use Rattle.cdb_values.specs.declared.tables.TableDef.{TableDef}
use Rattle.key_code.specs.Codes.{IsRowValue}

-- the genids of versions rise, and are below a number
abbrev pub Rise : List Version → ℕ → Type 0
Rise [] next = Unit {0}
Rise (v ∷ vs) next = (v.genid < next) × AllByRecursion (λ w. v.genid < w.genid) vs × Rise vs next

-- versions as a table has them: their genids rise below the next one, and their values can be read from their codes
pub record AreVersions (next : ℕ) (versions : List Version) : Type 0 where
  pub rise : Rise versions next
  pub coded : AllByRecursion (λ v. AllByRecursion IsRowValue v.row) versions

-- a state of a schema: one list of versions for each table, and a next genid of 64 bits above all of them
pub record IsState (tables : List TableDef) (rows : Rows) : Type 0 where
  pub tables_are : length rows.tables ≡ length tables
  pub next : rows.next < 2 ^ 64
  pub versions : AllByRecursion (AreVersions rows.next) rows.tables
