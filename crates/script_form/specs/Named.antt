-- What the grammar of reports asks of a script: names, and tables with columns, so that each row has a value to tell. A name is 1
-- to 32 lower-case letters, digits and underscores, with no digit at its front. No key is named `all`, the word that stands for
-- a whole table.
use Rattle.std.specs.Prelude.{◌≢◌, []}
use Rattle.std.specs.List.{AllByRecursion}
use Rattle.byte_words.specs.Names.{IsName, IsKey}
use Rattle.cdb_values.specs.declared.tables.TableDef.{TableDef}
use Rattle.script_form.specs.declared.scripts.Act.{Act}
use Rattle.script_form.specs.declared.scripts.Act.TheVariants as acts
use Rattle.script_form.specs.declared.scripts.Script.{Script}

-- a table and its keys, unique or not
abbrev pub IsNamedTable : TableDef → Type 0
IsNamedTable table = IsName table.name × AllByRecursion (λ key. IsKey key.name) table.keys

-- a line that speaks of a session by a name
abbrev pub SaysNamed : Act → Type 0
SaysNamed (acts.Say session text) = IsName session
SaysNamed (acts.Stop node) = Unit {0}
SaysNamed (acts.Start node) = Unit {0}
SaysNamed (acts.Arm session moment) = IsName session
SaysNamed acts.Barrier = Unit {0}
SaysNamed acts.Feed = Unit {0}

pub record IsNamed (script : Script) : Type 0 where
  pub sessions : AllByRecursion (λ s. IsName s.name) script.sessions
  pub tables : AllByRecursion (λ t. IsNamedTable t.table) script.tables
  pub columns : AllByRecursion (λ t. t.table.columns ≢ []) script.tables
  pub body : AllByRecursion (λ l. SaysNamed l.act) script.body
