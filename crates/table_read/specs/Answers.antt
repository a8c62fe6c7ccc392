-- What an answer of the code says of the table of a text: it is that table, or it is refused for that fault. Of want of
-- memory nothing is said.
use Rattle.std.specs.Prelude.{◌≡◌, Option, Some, None, Result, Ok, Err}
use Rattle.cdb_values.specs.declared.tables.TableDef.{TableDef}
use Rattle.sql_grammar.specs.declared.types.CreateTable.{CreateTable}
use Rattle.sql_grammar.specs.Trees.{Definition}
use Rattle.sql_grammar.specs.Views.{definition_in}
use Rattle.table_read.specs.declared.reading.TableStop.{TableStop}
use Rattle.table_read.specs.declared.reading.TableStop.TheVariants as stops
use Rattle.table_read.specs.Verdict.{TableFault, Unlawful, Limit}

abbrev pub Stops : TableStop → Result TableDef TableFault → Type 0
Stops stops.Unlawful answer = answer ≡ Err Unlawful
Stops stops.Limit answer = answer ≡ Err Limit
Stops stops.NoMemory answer = Unit {0}

abbrev pub AnswersDefinition : Result TableDef TableStop → Result TableDef TableFault → Type 0
AnswersDefinition (Ok table) answer = answer ≡ Ok table
AnswersDefinition (Err stop) answer = Stops stop answer

-- the same of the definition that a text spells
abbrev pub StopsReading : TableStop → Option Definition → Type 0
StopsReading stops.Unlawful found = found ≡ None
StopsReading stops.Limit found = ⊥
StopsReading stops.NoMemory found = Unit {0}

abbrev pub Reads : Result CreateTable TableStop → Option Definition → Type 0
Reads (Ok definition) found = found ≡ Some (definition_in definition)
Reads (Err stop) found = StopsReading stop found
