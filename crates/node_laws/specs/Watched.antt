-- Tables that may be told in a line of a feed.
use Rattle.std.specs.Prelude.{◌≡◌, false}
use Rattle.std.specs.List.{AllByRecursion}
use Rattle.byte_words.specs.Names.{IsName}
use Rattle.report_text.specs.Grammar.{is_ending}
use Rattle.script_form.specs.declared.scripts.Script.{Script}
use Rattle.script_form.specs.declared.scripts.TableLine.{TableLine}

-- each table of a script is called by a name that ends no transaction
abbrev pub AreTablesNamed : Script → Type 0
AreTablesNamed script = AllByRecursion (λ (t : TableLine). IsName t.table.name × (is_ending t.table.name ≡ false)) script.tables
