-- What the calls of a log answer.
use Rattle.std.specs.Prelude.{ℕ, ◌≤◌, List, [], ◌∷◌, Option, Some, None, Result, Ok, Err}
use Rattle.std.specs.List.{AllByRecursion}
use Rattle.cdb_values.specs.declared.tables.TableDef.{TableDef}
use Rattle.phys_log.specs.declared.entries.Entry.{Entry}
use Rattle.phys_log.specs.declared.entries.Entry.TheVariants.{Setup, Commit}
use Rattle.log_replay.specs.declared.chains.ChainLink.{ChainLink}
use Rattle.log_replay.specs.declared.logs.AppendFault.{AppendFault}
use Rattle.log_replay.specs.declared.logs.AppendFault.TheVariants.{Unfit, NoMemory}

-- what each answer tells of whether the entry fits the log: `Unfit` comes exactly where it does not
abbrev pub TellsFits : {T : Type 0} → Result T AppendFault → Type 0 → Type 0
TellsFits (Ok x) fit = fit
TellsFits (Err (Unfit entry)) fit = fit → ⊥
TellsFits (Err (NoMemory entry)) fit = Unit {0}

-- the entry that is given back
abbrev pub entry_back : AppendFault → Entry
entry_back (Unfit entry) = entry
entry_back (NoMemory entry) = entry

-- the schema of an entry, and of the first one of a log
abbrev pub schema_told : Entry → Option (List TableDef)
schema_told (Setup generation schema records) = Some schema
schema_told (Commit generation id begin level changes records) = None

abbrev pub schema_of : List Entry → Option (List TableDef)
schema_of [] = None
schema_of (e ∷ es) = schema_told e

-- the positions of links do not fall
abbrev pub Rises : List ChainLink → Type 0
Rises [] = Unit {0}
Rises (k ∷ ks) = AllByRecursion (λ l. k.position ≤ l.position) ks × Rises ks

-- a log as a source, with the number of the loaded page
pub record LogSource : Type 0 where
  pub entries : List Entry
  pub loaded : Option ℕ
