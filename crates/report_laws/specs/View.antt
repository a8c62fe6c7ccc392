-- What the laws see of a history: look-ups by position, and nothing of how they come about.
--
-- Each of them is decided by the history's front up to the position that is asked for, so a history that
-- grows keeps what was seen of it. A report's history gives a view by its entries (`view_of`).
use Rattle.std.specs.Prelude.{◌≡◌, ℕ, ◌<◌, List, Option, None}
use Rattle.cdb_values.specs.Rows.{Rows}
use Rattle.cdb_values.specs.declared.rows.Change.{Change}
use Rattle.cdb_values.specs.declared.tables.TableDef.{TableDef}
use Rattle.report_text.specs.declared.reports.EntryLine.{EntryLine}
use Rattle.session_language.specs.Touched.{Used, first_used}

pub record View : Type 0 where
  -- the tables
  pub tables : List TableDef
  -- the rows at a position
  pub rows : ℕ → Rows
  -- the entry at a position
  pub entry : ℕ → Option EntryLine
  -- what the entry at a position changes
  pub changes : ℕ → List Change
  -- the last position
  pub last : ℕ

-- the first of what is used that the entry at a position touches
abbrev pub touched_in : View → ℕ → List Used → Option Used
touched_in view position used = first_used view.tables (view.changes position) used

-- no entry between two positions, both left out, touches what is used
abbrev pub IsUntouched : View → ℕ → ℕ → List Used → Type 0
IsUntouched view begin position used =
    (j : ℕ) → begin < j → j < position → touched_in view j used ≡ None
