-- The table of a text, or why there is none, by the tables that were declared before it. A text that spells no definition
-- is unlawful. Of a definition's table `add_fault` of the schema decides: a name that is taken or stands twice, a key over
-- an unknown column and a unique key over a column that may hold NULL are unlawful, and else a limit may be passed. Two
-- primary keys have one name, as have the keys of a mark `unique` that stands twice on a column: both are unlawful.
use Rattle.std.specs.Prelude.{ℕ, List, Option, Some, None, Result, Ok, Err}
use Rattle.cdb_values.specs.Tables.{add_fault}
use Rattle.cdb_values.specs.declared.schemas.AddFault.{AddFault}
use Rattle.cdb_values.specs.declared.schemas.AddFault.TheVariants as faults
use Rattle.cdb_values.specs.declared.tables.TableDef.{TableDef}
use Rattle.sql_grammar.specs.Trees.{Definition}
use Rattle.table_read.specs.Reading.{definition_of}
use Rattle.table_read.specs.Tables.{table_said}

-- why a text gives no table
pub data TableFault : Type 0 where
  Unlawful : TableFault
  Limit : TableFault

-- the fault of a text whose table can't be added; `add_fault` never says that memory is wanting
abbrev pub fault_of : AddFault → TableFault
fault_of faults.Taken = Unlawful
fault_of faults.Unlawful = Unlawful
fault_of faults.Limit = Limit
fault_of faults.NoMemory = Limit

abbrev pub unless_fault : TableDef → Option AddFault → Result TableDef TableFault
unless_fault table None = Ok table
unless_fault table (Some fault) = Err (fault_of fault)

-- the table, where it can be added to these
abbrev pub judged : List TableDef → TableDef → Result TableDef TableFault
judged tables table = unless_fault table (add_fault tables table)

-- the table of a definition, if there is one
abbrev pub defined : List TableDef → Option Definition → Result TableDef TableFault
defined tables None = Err Unlawful
defined tables (Some definition) = judged tables (table_said definition)

-- the table of a text, behind these tables
unfoldable pub table_of : List TableDef → List ℕ → Result TableDef TableFault
table_of tables text = defined tables (definition_of text)
