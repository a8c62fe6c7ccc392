-- What a source of versions means, and when it may give none.
--
-- A source counts its losses, as that of a node that went away. It is excused from giving versions only where this count
-- rose during the call. The count is kept in a u64 and stands still at its last value, so a count that has this value
-- after the call counts as one that rose.
use Rattle.std.specs.Prelude.{◌≡◌, ◌⊎◌, ℕ, ◌-◌, ◌^◌, ◌<◌, ◌≤◌, Result, Ok, Err, List, filter}
use Rattle.cdb_values.specs.declared.rows.Version.{Version}
use Rattle.cdb_values.specs.declared.tables.TableDef.{TableDef}
use Rattle.query_laws.specs.Intervals.{Interval, lies}
use Rattle.plan_run.specs.declared.sources.RowFault.{RowFault}
use Rattle.plan_run.specs.declared.sources.RowFault.TheVariants.{Gone, NoMemory}

-- the last value of a count
abbrev pub last_count : ℕ
last_count = 2 ^ 64 - 1

-- a count rose over a call
abbrev pub Rose : ℕ → ℕ → Type 0
Rose before now = (before < now) ⊎ (now ≡ last_count)

-- each answer against the counts of losses before and after the call, which never fall: `Gone` comes only where they rose
abbrev pub AreRowsExcused : {T : Type 0} → Result T RowFault → ℕ → ℕ → Type 0
AreRowsExcused (Ok x) before now = before ≤ now
AreRowsExcused (Err Gone) before now = (before ≤ now) × Rose before now
AreRowsExcused (Err NoMemory) before now = before ≤ now

-- the versions that lie in an interval of their table
abbrev pub lying_in : List TableDef → Interval → List Version → List Version
lying_in tables interval versions = filter (λ v. lies tables interval v.row) versions
