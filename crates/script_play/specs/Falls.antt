-- What one line of a session leaves, by whether the node is down before it and behind it.
use Rattle.std.specs.Prelude.{◌≡◌, ◌≢◌, ℕ, ◌++◌, [], List, Bool, true, false}
use Rattle.cdb_values.specs.declared.rows.Change.{Change}
use Rattle.report_text.specs.declared.reports.EntryLine.{EntryLine}
use Rattle.report_text.specs.declared.reports.Line.{Line}
use Rattle.sql_answer.specs.Reading.{kind_of_text}
use Rattle.session_turns.specs.Doing.{SessionAt}
use Rattle.script_play.specs.Down.{fallen_lines, turn_down, HasOutcome, IsToldDown}
use Rattle.session_turns.specs.Seen.{SeenRows}
use Rattle.session_turns.specs.Step.{World, Turned, turn}
use Rattle.script_play.specs.Step.{IsTaken, IsTurned}

-- the history and its rows are as they were
pub record IsStill (w : World) (entries entries' : List EntryLine) (changed' : List (List Change)) (seen' : SeenRows) : Type 0 where
  pub entries_are : entries' ≡ entries
  pub changed_are : changed' ≡ w.changed
  pub rows_are : seen' ≡ w.seen

-- the node went down at the entry of a line that commits one
pub record IsFallen (w : World) (name : List ℕ) (t : Turned) (after : SessionAt) (lines lines' : List Line) (entries entries' : List EntryLine) (changed' : List (List Change)) (seen' : SeenRows) : Type 0 where
  pub commits : t.added ≢ []
  pub outcome : HasOutcome t.replies
  pub lines_are : lines' ≡ lines ++ fallen_lines name t.number outcome.front
  pub after_is : after ≡ t.after
  pub still : IsStill w entries entries' changed' seen'

-- a line on a node that was up, by whether it is down behind it
abbrev pub IsDoneOn : Bool → World → List ℕ → Turned → SessionAt → List Line → List Line → List EntryLine → List EntryLine → List (List Change) → SeenRows → Type 0
IsDoneOn false w name t after lines lines' entries entries' changed' seen' = IsTurned w name t lines lines' entries entries' changed' seen' × (after ≡ t.after)
IsDoneOn true w name t after lines lines' entries entries' changed' seen' = IsFallen w name t after lines lines' entries entries' changed' seen'

-- a line on a node that was down already
pub record IsDoneDown (w : World) (name : List ℕ) (before : SessionAt) (text : List ℕ) (after : SessionAt) (lines lines' : List Line) (entries entries' : List EntryLine) (changed' : List (List Change)) (seen' : SeenRows) : Type 0 where
  pub told : IsToldDown name (turn_down before.number before.level (kind_of_text text) before.doing) after lines lines'
  pub still : IsStill w entries entries' changed' seen'

-- a line did what it does; no node comes up again
abbrev pub IsTakenOn : Bool → Bool → World → List ℕ → SessionAt → List ℕ → SessionAt → List Line → List Line → List EntryLine → List EntryLine → List (List Change) → SeenRows → Type 0
IsTakenOn false false w name before text after lines lines' entries entries' changed' seen' = IsTaken w name before text after lines lines' entries entries' changed' seen'
IsTakenOn false true w name before text after lines lines' entries entries' changed' seen' = IsFallen w name (turn w before text) after lines lines' entries entries' changed' seen'
IsTakenOn true false w name before text after lines lines' entries entries' changed' seen' = ⊥
IsTakenOn true true w name before text after lines lines' entries entries' changed' seen' = IsDoneDown w name before text after lines lines' entries entries' changed' seen'
