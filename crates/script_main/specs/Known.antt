-- That it is known at which rows a run begins.
use Rattle.std.specs.Prelude.{◌≡◌, ℕ, List}
use Rattle.cdb_values.specs.Rows.{Rows}
use Rattle.node_log.specs.Logged.{Logged}
use Rattle.phys_log.specs.declared.entries.Entry.{Entry}
use Rattle.script_main.specs.Stores.{HasRows}
use Rattle.script_main.specs.Steps.{log_before}

-- the pages of a log stand for some rows, and for no others
pub record HasOneState (before : List Entry) : Type 0 where
  pub rows : Rows
  pub has : HasRows before rows
  pub one : (some other : Rows) → HasRows before some → HasRows before other → some ≡ other

-- the same of the log that a node had when it was opened
abbrev pub IsKnown : ℕ → Logged → Type 0
IsKnown base log = ∥ HasOneState (log_before base log) ∥₁
