-- What one line of a session leaves in the report and its history when nobody comes between: what it does is `turn_of` of
-- `session_turns`.
use Rattle.std.specs.Prelude.{◌≡◌, ℕ, ◌+◌, ◌<◌, ◌++◌, ◌∷◌, [], List, Some, map, ◌⊎◌}
use Rattle.cdb_values.specs.Changes.{changes_of}
use Rattle.cdb_values.specs.Rows.{apply_all}
use Rattle.cdb_values.specs.declared.rows.Change.{Change}
use Rattle.cdb_values.specs.declared.rows.Level.{Level}
use Rattle.cdb_values.specs.declared.rows.RowOp.{RowOp}
use Rattle.report_laws.specs.Told.{lines_of}
use Rattle.report_text.specs.declared.reports.EntryLine.{EntryLine}
use Rattle.report_text.specs.declared.reports.EntryLine.TheVariants.{Commit}
use Rattle.report_text.specs.declared.reports.Line.{Line}
use Rattle.cdb_values.specs.declared.replies.Reply.TheVariants as reply
use Rattle.session_language.specs.Language.{Kind}
use Rattle.session_turns.specs.Doing.{SessionAt, Doing}
use Rattle.session_turns.specs.Seen.{SeenRows}
use Rattle.session_turns.specs.Step.{World, Turned, turn_by, Cut, cut_by}
use Rattle.sql_answer.specs.Reading.{kind_of_text}

-- the entry of the transaction that a line commits
abbrev pub entries_added : List ℕ → ℕ → Turned → List EntryLine
entries_added name now t = map (λ ops. Commit (now + 1) name t.number t.begin t.after.level) t.added

-- the operations of a commit, if there is one, are written at the next position
abbrev pub IsKept : ℕ → SeenRows → SeenRows → List (List RowOp) → Type 0
IsKept now seen seen' [] = seen' ≡ seen
IsKept now seen seen' (ops ∷ _) =
    (seen'.at (now + 1) ≡ apply_all (seen.at now) ops)
    × ((at : ℕ) → at < now + 1 → seen'.at at ≡ seen.at at)
    × (seen'.next ≡ (apply_all (seen.at now) ops).next)

-- a line did what it does
pub record IsTurned (w : World) (name : List ℕ) (t : Turned) (lines lines' : List Line) (entries entries' : List EntryLine) (changed' : List (List Change)) (seen' : SeenRows) : Type 0 where
  pub lines_are : lines' ≡ lines ++ lines_of name t.number t.replies
  pub entries_are : entries' ≡ entries ++ entries_added name w.now t
  pub changed_are : changed' ≡ w.changed ++ map (λ ops. changes_of ops w.seen.next) t.added
  pub rows_are : IsKept w.now w.seen seen' t.added

-- a line was cut short by want of memory, which is all that was told and done
pub record IsCutShort (w : World) (name : List ℕ) (c : Cut) (lines lines' : List Line) (entries entries' : List EntryLine) (changed' : List (List Change)) (seen' : SeenRows) : Type 0 where
  pub lines_are : lines' ≡ lines ++ lines_of name c.number (reply.NoMemory ∷ [])
  pub entries_are : entries' ≡ entries
  pub changed_are : changed' ≡ w.changed
  pub rows_are : seen' ≡ w.seen

-- a line did what it does, or was cut short; and the session is there behind it
abbrev pub IsTakenBy : World → List ℕ → ℕ → Level → List ℕ → Kind → Doing → SessionAt → List Line → List Line → List EntryLine → List EntryLine → List (List Change) → SeenRows → Type 0
IsTakenBy w name number level text k what after lines lines' entries entries' changed' seen' =
    (IsTurned w name (turn_by w number level text k what) lines lines' entries entries' changed' seen' × (after ≡ (turn_by w number level text k what).after))
    ⊎ ((c : Cut) × (cut_by number level k what ≡ Some c) × IsCutShort w name c lines lines' entries entries' changed' seen' × (after ≡ c.after))

abbrev pub IsTaken : World → List ℕ → SessionAt → List ℕ → SessionAt → List Line → List Line → List EntryLine → List EntryLine → List (List Change) → SeenRows → Type 0
IsTaken w name before text after lines lines' entries entries' changed' seen' =
    IsTakenBy w name before.number before.level text (kind_of_text text) before.doing after lines lines' entries entries' changed' seen'
