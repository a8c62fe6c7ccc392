-- The right outcome of a transaction, at its begin position and over what is seen of the history.
--
-- A transaction that has no operations is committed at its begin position. One that has some is
-- committed at its entry, where no entry since its begin touched what it uses and the rows are good;
-- or it conflicts with the first entry since its begin that touches something that it uses; or, where
-- none did, it is a duplicate at a position from its begin position on at which its operations would
-- break a key, the first that they break. What it uses are versions, and at level serializable the
-- intervals that it read. A rollback ends a transaction that asked for it, and want of memory may end any.
use Rattle.std.specs.Prelude.{◌≡◌, ℕ, ◌+◌, ◌≤◌, ◌<◌, ◌∷◌, ◌≢◌, [], List, Option, Some, None, slice_get, option_map, codes}
use Rattle.cdb_values.specs.Good.{IsGood, first_broken, KeyName}
use Rattle.cdb_values.specs.Rows.{apply_all}
use Rattle.cdb_values.specs.declared.rows.RowOp.{RowOp}
use Rattle.cdb_values.specs.declared.tables.KeyDef.{KeyDef}
use Rattle.cdb_values.specs.declared.tables.TableDef.{TableDef}
use Rattle.report_laws.specs.History.{Basis}
use Rattle.report_laws.specs.View.{View, touched_in, IsUntouched}
use Rattle.session_language.specs.Intervals.{keys_at}
use Rattle.session_language.specs.Touched.{Used, TheVersion, TheRange}
use Rattle.report_laws.specs.Work.{Transaction, End, ByCommit, ByRollback, WithItsLine, Nowhere}
use Rattle.report_text.specs.declared.reports.EntryLine.TheVariants.{Commit}
use Rattle.cdb_values.specs.declared.replies.Reply.{Reply}
use Rattle.cdb_values.specs.declared.replies.Reply.TheVariants as reply

-- a transaction with operations is committed at a position: its entry stands there, no entry between
-- touches what it uses, and the rows there are good
pub record IsEntered (basis : Basis) (view : View) (name : List ℕ) (t : Transaction) (begin position : ℕ) (used : List Used) : Type 0 where
  pub later : begin < position
  pub stands : view.entry position ≡ Some (Commit position name t.number begin t.level)
  pub untouched : IsUntouched view begin position used
  pub is_good : IsGood basis.origin.tables (view.rows position).tables

-- committed at a position, by its operations
abbrev pub IsCommitted : Basis → View → List ℕ → Transaction → ℕ → ℕ → List Used → List RowOp → Type 0
IsCommitted basis view name t begin position used [] = position ≡ begin
IsCommitted basis view name t begin position used (op ∷ ops) = IsEntered basis view name t begin position used

-- the name of a table, by its place
abbrev pub name_or_none : Option TableDef → Option (List ℕ)
name_or_none None = None
name_or_none (Some table) = Some table.name

abbrev pub name_of_table : List TableDef → ℕ → Option (List ℕ)
name_of_table tables place = name_or_none (slice_get tables place)

-- how a conflict over a version is told: by the name of its table, and its genid
abbrev pub line_by : ℕ → ℕ → Option (List ℕ) → Option Reply
line_by position genid None = None
line_by position genid (Some table) = Some (reply.ConflictGenid position table genid)

-- the name of the key of an interval, by the key's place; `all` without a key
abbrev pub name_of_key : List KeyDef → Option ℕ → Option (List ℕ)
name_of_key keys None = Some (codes "all")
name_of_key keys (Some key) = option_map (λ k. k.name) (slice_get keys key)

-- how a conflict over an interval is told: by the names of its table and its key
abbrev pub range_line : ℕ → Option (List ℕ) → Option (List ℕ) → Option Reply
range_line position None key = None
range_line position (Some table) None = None
range_line position (Some table) (Some key) = Some (reply.ConflictRange position table key)

abbrev pub conflict_line : List TableDef → ℕ → Used → Option Reply
conflict_line tables position (TheVersion item) = line_by position item.genid (name_of_table tables item.table)
conflict_line tables position (TheRange interval) =
    range_line position (name_of_table tables interval.table) (name_of_key (keys_at tables interval.table) interval.key)

-- the entry at a position is the first since its begin that touches an item that it uses, the item is
-- the first of these, and the line tells it
pub record IsConflict (basis : Basis) (view : View) (begin position : ℕ) (used : List Used) (ops : List RowOp) (told : Reply) : Type 0 where
  pub has_ops : ops ≢ []
  pub later : begin < position
  pub within : position ≤ view.last
  pub item : Used
  pub touched : touched_in view position used ≡ Some item
  pub untouched : IsUntouched view begin position used
  pub is_told : conflict_line basis.origin.tables position item ≡ Some told

-- a key by its names
abbrev pub key_name : List ℕ → List ℕ → KeyName
key_name table key = record { table = table; key = key }

-- at a position of the history up to which no entry touches what it uses, its operations break that
-- key, and none before it in order
pub record IsDuplicate (basis : Basis) (view : View) (begin position : ℕ) (used : List Used) (ops : List RowOp) (table key : List ℕ) : Type 0 where
  pub has_ops : ops ≢ []
  pub begun : begin ≤ position
  pub within : position ≤ view.last
  pub untouched : IsUntouched view begin (position + 1) used
  pub breaks : first_broken basis.origin.tables (apply_all (view.rows position) ops).tables ≡ Some (key_name table key)

-- a line that is an outcome is right, for what the transaction uses and its operations; another line is none
abbrev pub IsRight : Basis → View → List ℕ → Transaction → ℕ → List Used → List RowOp → Reply → Type 0
IsRight basis view name t begin used ops (reply.Begin position) = Unit {0}
IsRight basis view name t begin used ops (reply.Row row) = Unit {0}
IsRight basis view name t begin used ops (reply.Done rows) = Unit {0}
IsRight basis view name t begin used ops (reply.Changed rows) = Unit {0}
IsRight basis view name t begin used ops (reply.Error cause) = Unit {0}
IsRight basis view name t begin used ops (reply.Level level) = Unit {0}
IsRight basis view name t begin used ops reply.RolledBack = t.end ≡ ByRollback
IsRight basis view name t begin used ops (reply.Committed position) = IsCommitted basis view name t begin position used ops
IsRight basis view name t begin used ops (reply.ConflictGenid position table genid) = IsConflict basis view begin position used ops (reply.ConflictGenid position table genid)
IsRight basis view name t begin used ops (reply.ConflictRange position table key) = IsConflict basis view begin position used ops (reply.ConflictRange position table key)
IsRight basis view name t begin used ops (reply.Duplicate position table key) = IsDuplicate basis view begin position used ops table key
IsRight basis view name t begin used ops (reply.Lost node down) = ⊥
IsRight basis view name t begin used ops (reply.NoMajority up nodes) = ⊥
IsRight basis view name t begin used ops reply.NoMemory = ⊥

-- whether a line tells a decision on a commit
abbrev pub IsDecided : Reply → Type 0
IsDecided (reply.Begin position) = ⊥
IsDecided (reply.Row row) = ⊥
IsDecided (reply.Done rows) = ⊥
IsDecided (reply.Changed rows) = ⊥
IsDecided (reply.Error cause) = ⊥
IsDecided (reply.Level level) = ⊥
IsDecided reply.RolledBack = ⊥
IsDecided (reply.Committed position) = Unit {0}
IsDecided (reply.ConflictGenid position table genid) = Unit {0}
IsDecided (reply.ConflictRange position table key) = Unit {0}
IsDecided (reply.Duplicate position table key) = Unit {0}
IsDecided (reply.Lost node down) = ⊥
IsDecided (reply.NoMajority up nodes) = ⊥
IsDecided reply.NoMemory = ⊥

-- one line that is a decision
abbrev pub IsOneDecision : List Reply → Type 0
IsOneDecision [] = ⊥
IsOneDecision (outcome ∷ []) = IsDecided outcome
IsOneDecision (_ ∷ _ ∷ _) = ⊥

-- the last lines of a transaction, by its end: a decision where it is to be committed, that it was
-- rolled back where it asks for that, and none where it has no end
abbrev pub Ends : End → List Reply → Type 0
Ends ByCommit last = IsOneDecision last
Ends ByRollback last = last ≡ reply.RolledBack ∷ []
Ends WithItsLine last = IsOneDecision last
Ends Nowhere last = last ≡ []
