-- What a history is judged by, and what the laws of reports see of a log.
--
-- How the lines of a script follow one another in a session is not said here: `phase` and `armed` are any functions of what the
-- session was told.
use Rattle.cluster_requests.specs.KeptEntries.{state_of}
use Rattle.std.specs.Prelude.{ℕ, ◌-◌, Bool, List, [], ◌∷◌, ◌++◌, Option, Some, None, length, take, slice_get, option_map}
use Rattle.cdb_values.specs.Rows.{Rows, no_rows}
use Rattle.cdb_values.specs.declared.rows.Change.{Change}
use Rattle.cdb_values.specs.declared.tables.TableDef.{TableDef}
use Rattle.cluster_requests.specs.KeptEntries.{KeptEntry}
use Rattle.cluster_requests.specs.KeptEntries.KeptEntry.{SetupKept, CommitKept}
use Rattle.report_laws.specs.History.{Basis}
use Rattle.report_laws.specs.Told.{Numbered}
use Rattle.report_laws.specs.View.{View}
use Rattle.report_laws.specs.Work.{WorkItem, Transaction, work}
use Rattle.report_text.specs.declared.reports.EntryLine.{EntryLine}
use Rattle.report_text.specs.declared.reports.EntryLine.TheVariants.{Setup, Commit}
use Rattle.script_form.specs.declared.scripts.Act.TheVariants as act
use Rattle.script_form.specs.declared.scripts.BodyLine.{BodyLine}
use Rattle.script_form.specs.declared.scripts.Script.{Script}
use Rattle.session_language.specs.Language.{Language, Answered, alone}

pub record Setting : Type 0 where
  -- the number of nodes
  pub nodes : ℕ
  pub language : Language
  pub script : Script
  pub tables : List TableDef
  -- what a session is called, by the number of its actor
  pub names : ℕ → List ℕ
  -- how many barriers stand before the line at which a session is where it was told these lines; the end of the script counts as one
  -- more
  pub phase : ℕ → List Numbered → ℕ
  -- whether the arm at that line of the script waits for the line at which a session is where it was told these lines, and of
  -- the moment of a row, whether this row is the last of them
  pub armed : ℕ → List Numbered → ℕ → Bool

-- judged from a position on, with the rows there
abbrev pub basis_from : Setting → ℕ → Rows → Basis
basis_from G position rows = record { language = G.language; script = G.script; origin = record { position = position; tables = G.tables; rows = rows } }

-- judged from the first position on
abbrev pub basis : Setting → Basis
basis G = basis_from G 0 (no_rows [])

-- the work of an actor that is a session
abbrev pub work_of : Setting → ℕ → List WorkItem
work_of G s = work G.language (G.names s) G.script.body

-- the rows at a position of a log
abbrev pub kept_rows_at : Setting → List KeptEntry → ℕ → Rows
kept_rows_at G l k = state_of (take k l)

-- a transaction run alone on these rows
abbrev pub run_alone : Setting → Rows → Transaction → Answered
run_alone G rows t = alone G.language G.tables rows t.texts

abbrev pub line_of : ℕ → KeptEntry → EntryLine
line_of position (SetupKept generation schema records reached) = Setup position
line_of position (CommitKept generation id begin level changes records reached) = Commit position id.session id.txn begin level

abbrev pub changes_in : Option KeptEntry → List Change
changes_in None = []
changes_in (Some (SetupKept generation schema records reached)) = []
changes_in (Some (CommitKept generation id begin level changes records reached)) = changes

-- the entry at a position, from 1
abbrev pub kept_entry_at : List KeptEntry → ℕ → Option KeptEntry
kept_entry_at l k = slice_get l (k - 1)

-- a log as the laws of reports see it
abbrev pub log_view : Setting → List KeptEntry → View
log_view G l = record { tables = G.tables; rows = kept_rows_at G l; entry = λ k. option_map (line_of k) (kept_entry_at l k); changes = λ k. changes_in (kept_entry_at l k); last = length l }

-- the lines of the script, and behind them the feed at the end where a table is watched
abbrev pub closing : {W : Type 0} → List W → List BodyLine
closing [] = []
closing (w ∷ ws) = record { line = 0; act = act.Feed } ∷ []

abbrev pub lines_to_do : Setting → List BodyLine
lines_to_do G = G.script.body ++ closing G.script.watches
