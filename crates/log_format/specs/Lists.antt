-- Lists of parts of a certain length.
use Rattle.std.specs.Prelude.{◌≡◌, ℕ, List, [], ◌∷◌, ◌++◌, length, Bool, true, false, None}
use Rattle.std.specs.List.{AllByRecursion}
use Rattle.cdb_values.specs.Tables.{add_fault}
use Rattle.cdb_values.specs.declared.tables.TableDef.{TableDef}
use Rattle.frame_code.specs.Spelled.{IsTable, Grow}

-- so many parts that each have a spelling
pub record AreParts {A : Type 0} (Has : A → Type 0) (count : ℕ) (parts : List A) : Type 0 where
  pub number : length parts ≡ count
  pub each : AllByRecursion Has parts

-- so many tables that each have a spelling, and to which a schema can grow
pub record AreTables (count : ℕ) (tables : List TableDef) : Type 0 where
  pub number : length tables ≡ count
  pub each : AllByRecursion IsTable tables
  pub grow : Grow [] tables

-- whether a schema took a table: then it has the table as its last, and otherwise it is as before
abbrev pub IsGrown : Bool → List TableDef → TableDef → List TableDef → Type 0
IsGrown true before table after = (add_fault before table ≡ None) × (after ≡ before ++ table ∷ [])
IsGrown false before table after = (add_fault before table ≡ None → ⊥) × (after ≡ before)
