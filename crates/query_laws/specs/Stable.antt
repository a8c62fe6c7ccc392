-- Intervals that hold the same in two states, and in what a transaction sees of them.
use Rattle.std.specs.Prelude.{◌≡◌, ℕ, List, filter}
use Rattle.cdb_values.specs.Rows.{Rows, versions_of}
use Rattle.cdb_values.specs.declared.rows.Version.{Version}
use Rattle.cdb_values.specs.declared.tables.TableDef.{TableDef}
use Rattle.sql_answer.specs.Combinations.{Seen}
use Rattle.query_laws.specs.Intervals.{Interval, lies}
use Rattle.query_laws.specs.Walks.{within}

-- the versions of its table that lie in an interval
abbrev pub inside : List TableDef → Interval → Rows → List Version
inside tables interval rows = filter (λ v. lies tables interval v.row) (versions_of rows interval.table)

-- an interval holds the same versions in two states
abbrev pub HoldsTheSame : List TableDef → Rows → Rows → Interval → Type 0
HoldsTheSame tables rows others interval = inside tables interval others ≡ inside tables interval rows

-- an interval shows the same rows in two views
abbrev pub ShowsTheSame : List TableDef → (ℕ → List Seen) → (ℕ → List Seen) → Interval → Type 0
ShowsTheSame tables view other interval = within tables interval (other interval.table) ≡ within tables interval (view interval.table)
