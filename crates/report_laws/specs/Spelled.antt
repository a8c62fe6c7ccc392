-- What a report is asked besides its numbers, so that it is one of the grammar: what the language, the tables and
-- the script have to give for that.
use Rattle.std.specs.Prelude.{◌≡◌, true}
use Rattle.std.specs.List.{AllByRecursion}
use Rattle.std.specs.Str.{is_utf8}
use Rattle.script_form.specs.declared.scripts.Act.{Act}
use Rattle.script_form.specs.declared.scripts.Act.TheVariants as act
use Rattle.script_form.specs.Named.{IsNamedTable}
use Rattle.report_laws.specs.History.{Basis}
use Rattle.byte_words.specs.Names.{IsName}
use Rattle.session_language.specs.Spelled.{HaveRows, KeepsRows}

-- the session of a line is called by a name, and its text is UTF-8
abbrev pub SaysAsNamed : Act → Type 0
SaysAsNamed (act.Say session text) = IsName session × (is_utf8 text ≡ true)
SaysAsNamed (act.Stop node) = Unit {0}
SaysAsNamed (act.Start node) = Unit {0}
SaysAsNamed (act.Arm session moment) = Unit {0}
SaysAsNamed act.Barrier = Unit {0}
SaysAsNamed act.Feed = Unit {0}

-- what a report's grammar asks of what it is told of: the language keeps rows, the rows before the run are
-- such, tables, keys and sessions are called by names, and texts are UTF-8
pub record IsSpelled (basis : Basis) : Type 0 where
  pub language : KeepsRows basis.language basis.origin.tables
  pub rows : HaveRows basis.origin.rows.tables
  pub tables : AllByRecursion IsNamedTable basis.origin.tables
  pub body : AllByRecursion (λ l. SaysAsNamed l.act) basis.script.body
