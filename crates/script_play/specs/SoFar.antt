-- The run so far: what holds of the lines, the history, the rows and the sessions after each line of
-- the script.
use Rattle.std.specs.Prelude.{◌≡◌, ℕ, drop, ◌+◌, ◌-◌, ◌≤◌, ◌<◌, ◌++◌, ◌∷◌, [], List, Bool, true, false, length, Option, Some, None, if◌then◌else◌, slice_get, unwrap_or}
use Rattle.std.specs.List.{AllByRecursion}
use Rattle.std.specs.Str.{bytes_eq}
use Rattle.cdb_values.specs.declared.rows.Level.TheVariants.{Snapshot}
use Rattle.cdb_values.specs.declared.rows.RowOp.{RowOp}
use Rattle.log_rows.specs.History.{IsFrom}
use Rattle.session_turns.specs.Seen.{SeenRows}
use Rattle.script_play.specs.Start.{Start, base}
use Rattle.script_form.specs.CanRun.{CanRun, IsDeclaredText, script_tables}
use Rattle.script_form.specs.declared.scripts.Script.{Script}
use Rattle.script_form.specs.declared.scripts.BodyLine.{BodyLine}
use Rattle.script_form.specs.declared.scripts.SessionLine.{SessionLine}
use Rattle.report_text.specs.declared.reports.EntryLine.{EntryLine}
use Rattle.report_text.specs.declared.reports.EntryLine.TheVariants.{Setup, Commit}
use Rattle.report_text.specs.declared.reports.Line.{Line}
use Rattle.report_text.specs.declared.reports.Report.{Report}
use Rattle.cdb_values.specs.declared.replies.Reply.{Reply}
use Rattle.cdb_values.specs.declared.replies.Reply.TheVariants as reply
use Rattle.session_language.specs.Language.{alone}
use Rattle.query_laws.specs.Alone.{sql_language}
use Rattle.script_play.specs.Basis.{from_start}
use Rattle.session_language.specs.Each.{EachAfter}
use Rattle.report_laws.specs.History.{rows_at, changes_at, IsEntryAfter, view_of}
use Rattle.report_laws.specs.Lawful.{IsFreshLine, NameUpTo, base_line}
use Rattle.report_laws.specs.Nodes.{downs, are_few}
use Rattle.report_laws.specs.Places.{HasItsPlace}
use Rattle.report_laws.specs.Play.{InTurns, opening}
use Rattle.report_laws.specs.Told.{Along, Numbered, IsCut, IsTold, IsEntryTold, told, numbered}
use Rattle.report_laws.specs.Work.{Place, Nowhere, transaction, place_after}
use Rattle.cdb_values.specs.declared.items.GenidItem.{GenidItem}
use Rattle.cdb_values.specs.declared.items.Interval.{Interval}
use Rattle.cdb_values.specs.declared.rows.Change.{Change}
use Rattle.script_play.specs.Decisions.{HasName}
use Rattle.script_play.specs.Ready.{AreKept, IsKeptOp}
use Rattle.session_turns.specs.Doing.{SessionAt, Doing}
use Rattle.session_turns.specs.Doing as doing
use Rattle.script_play.specs.Down.{down_line}
use Rattle.session_turns.specs.Step.{state}

-- where a session is that has done nothing
abbrev pub at_start : SessionAt
at_start = state 0 Snapshot doing.No

-- where a session is, by its place among the sessions
abbrev pub state_of : List ℕ → List SessionLine → List SessionAt → SessionAt
state_of name [] states = at_start
state_of name (s ∷ ss) [] = at_start
state_of name (s ∷ ss) (x ∷ xs) = if bytes_eq s.name name then x else state_of name ss xs

-- the last position of a run that appended these entries
abbrev pub now_of : Start → List EntryLine → ℕ
now_of start entries = base start + length entries

-- the open transaction was told so far, has these operations, and its texts used these versions and read these intervals
pub record IsOpen (script : Script) (start : Start) (entries : List EntryLine) (next : ℕ) (texts : List (List ℕ)) (begin : ℕ) (ops : List RowOp) (uses : List GenidItem) (ranges : List Interval) (mine : List Reply) : Type 0 where
  pub first : IsFrom (base start) begin
  pub within : begin ≤ now_of start entries
  pub says : mine ≡ reply.Begin begin ∷ (alone sql_language (script_tables script) (rows_at (from_start script start) entries begin) texts).replies
  pub ops_are : ops ≡ (alone sql_language (script_tables script) (rows_at (from_start script start) entries begin) texts).ops
  pub uses_are : uses ≡ (alone sql_language (script_tables script) (rows_at (from_start script start) entries begin) texts).uses
  pub ranges_are : ranges ≡ (alone sql_language (script_tables script) (rows_at (from_start script start) entries begin) texts).ranges
  pub sound : AllByRecursion (IsKeptOp (script_tables script) next) ops

-- what a session is doing, by the transaction that is open in its work
abbrev pub IsDoing : Script → Start → List EntryLine → ℕ → Place → Option (List (List ℕ)) → Doing → List Reply → Type 0
IsDoing script start entries next p None doing.No mine = mine ≡ []
IsDoing script start entries next p None (doing.Open begin ops uses ranges) mine = ⊥
IsDoing script start entries next p None doing.Aborted mine = ⊥
IsDoing script start entries next p (Some texts) doing.No mine = ⊥
IsDoing script start entries next p (Some texts) (doing.Open begin ops uses ranges) mine = IsOpen script start entries next texts begin ops uses ranges mine
IsDoing script start entries next p (Some texts) doing.Aborted mine = IsCut (from_start script start) (view_of (from_start script start) entries) (transaction p.number texts p.level Nowhere) mine

-- a session's lines are those of its work so far, and it is where its work is
pub record Standing (script : Script) (start : Start) (entries : List EntryLine) (next : ℕ) (name : List ℕ) (p : Place) (lines : List Numbered) (at : SessionAt) : Type 0 where
  pub before : List Numbered
  pub mine : List Reply
  pub is : lines ≡ before ++ numbered p.number mine
  pub past : Along (IsTold (from_start script start) (view_of (from_start script start) entries) name) p.over before
  pub number : at.number ≡ p.number
  pub level : at.level ≡ p.level
  pub doing : IsDoing script start entries next p p.pending at.doing mine

-- a transaction of that number is over where a session has begun so many and one of them is open, or none
abbrev pub IsPast : ℕ → Option (List (List ℕ)) → ℕ → Type 0
IsPast number None txn = txn ≤ number
IsPast number (Some texts) txn = txn < number

-- an entry is of a transaction that is over
abbrev pub IsEnded : List BodyLine → EntryLine → Type 0
IsEnded done (Setup position) = Unit {0}
IsEnded done (Commit position session txn begin level) = IsPast (place_after sql_language session done).number (place_after sql_language session done).pending txn

-- the history so far, what each entry changed, and the rows at each position from the start on
pub record IsStoredSoFar (script : Script) (start : Start) (entries : List EntryLine) (changed : List (List Change)) (seen : SeenRows) : Type 0 where
  pub opened : IsFrom (base start) (now_of start entries)
  pub history : EachAfter (IsEntryAfter (from_start script start)) [] entries
  pub rows_are : (at : ℕ) → IsFrom (base start) at → at ≤ now_of start entries → seen.at at ≡ rows_at (from_start script start) entries at
  pub now_are : seen.at (now_of start entries) ≡ rows_at (from_start script start) entries (now_of start entries)
  pub next_is : seen.next ≡ (seen.at (now_of start entries)).next
  pub changed_length : length changed ≡ now_of start entries
  pub changed_are : (k : ℕ) → base start < k → k ≤ now_of start entries → unwrap_or (slice_get changed (k - 1)) [] ≡ changes_at (from_start script start) entries k
  pub sound : (at : ℕ) → IsFrom (base start) at → at ≤ now_of start entries → AreKept (script_tables script) seen.next (seen.at at).tables
  -- each change of an entry of the run is of a table that has a name
  pub named : AllByRecursion (AllByRecursion (HasName (script_tables script))) (drop (base start) changed)

-- a session behind the line that the node went down: where its transaction is open, it began before that line, and the
-- session was told nothing since
abbrev pub IsGone : Doing → List Numbered → Type 0
IsGone doing.No since = Unit {0}
IsGone (doing.Open begin ops uses ranges) since = since ≡ []
IsGone doing.Aborted since = Unit {0}

-- the node went down: one line tells it, by a fault, so that no majority is up; each open transaction is to be lost
pub record IsDown (script : Script) (lines : List Line) (states : List SessionAt) : Type 0 where
  pub front : List Line
  pub back : List Line
  pub is : lines ≡ front ++ down_line ∷ back
  pub unhurt : downs front ≡ 0
  pub once : downs back ≡ 0
  pub few : are_few script.nodes lines ≡ true
  pub gone : (name : List ℕ) → IsGone (state_of name script.sessions states).doing (told name back)

-- the lines, by whether the node is down
abbrev pub IsAtNode : Bool → Script → List Line → List SessionAt → Type 0
IsAtNode false script lines states = downs lines ≡ 0
IsAtNode true script lines states = IsDown script lines states

-- after the script's lines `done`, with the lines `left` still to do
pub record SoFar (script : Script) (start : Start) (down : Bool) (done left : List BodyLine) (lines : List Line) (entries : List EntryLine) (changed : List (List Change)) (seen : SeenRows) (states : List SessionAt) : Type 0 where
  pub body : script.body ≡ done ++ left
  pub stored : IsStoredSoFar script start entries changed seen
  pub standing : (name : List ℕ) → Standing script start entries seen.next name (place_after sql_language name done) (told name lines) (state_of name script.sessions states)
  pub fresh : EachAfter (IsFreshLine (from_start script start).origin) [] lines
  pub later : List EntryLine
  pub begins : entries ≡ opening (from_start script start).origin ++ later
  pub order : InTurns (from_start script start) [] [] (opening (from_start script start).origin) done lines later
  pub named : NameUpTo (now_of start entries) lines
  pub answered : AllByRecursion (IsEntryTold (from_start script start) (view_of (from_start script start) entries) lines) entries
  pub ended : AllByRecursion (IsEnded done) entries
  pub placed : EachAfter (HasItsPlace script) [] lines
  pub node : IsAtNode down script lines states

-- the run before a line, with the lines `left` still to do: every line of the script can be run
pub record IsBefore (script : Script) (start : Start) (down : Bool) (left : List BodyLine) (lines : List Line) (entries : List EntryLine) (changed : List (List Change)) (seen : SeenRows) (states : List SessionAt) : Type 0 where
  pub can_run : CanRun script
  pub said : AllByRecursion (λ l. IsDeclaredText script.sessions l.act) left
  pub same : length states ≡ length script.sessions
  pub done : List BodyLine
  pub so_far : SoFar script start down done left lines entries changed seen states

-- the report of lines and of a history behind a base, up to its last position
abbrev pub report_of : ℕ → ℕ → List Line → List EntryLine → Report
report_of base last lines entries = record { lines = lines; base = base_line base; entries = entries; feeds = []; end = last }

-- the place of the session with a name, counted on from a number
abbrev pub session_from : ℕ → List ℕ → List SessionLine → Option ℕ
session_from at name [] = None
session_from at name (s ∷ ss) = if bytes_eq s.name name then Some at else session_from (at + 1) name ss

-- the place of the session with a name, from 0
abbrev pub session_at : List ℕ → List SessionLine → Option ℕ
session_at name sessions = session_from 0 name sessions
