-- Conflicts over what was used and the changes of entries: nothing has to be known of an entry but what it changes. What was
-- used are versions, and intervals.
use Rattle.std.specs.Prelude.{◌≡◌, ℕ, ◌-◌, ◌<◌, ◌≤◌, List, [], length, map, slice_get, unwrap_or, Some, None}
use Rattle.cdb_values.specs.declared.rows.Change.{Change}
use Rattle.cdb_values.specs.declared.tables.TableDef.{TableDef}
use Rattle.phys_log.specs.declared.entries.Entry.{Entry}
use Rattle.range_validate.specs.Touches.{changes_in}
use Rattle.range_validate.specs.Used.{item_of}
use Rattle.session_language.specs.Touched.{Used, first_used, FirstUse}
use Rattle.block_processor.specs.declared.conflicts.Found.{Found}

-- the changes of each of some entries
abbrev pub changed_in : List Entry → List (List Change)
changed_in entries = map changes_in entries

-- no entry between two positions, both left out, touches by its changes what was used
abbrev pub AreUnused : List TableDef → ℕ → ℕ → List (List Change) → List Used → Type 0
AreUnused tables begin position changed used =
    (j : ℕ) → begin < j → j < position → first_used tables (unwrap_or (slice_get changed (j - 1)) []) used ≡ None

-- the position of a conflict since a begin is the first after it whose changes touch what was used, and this is the first
-- that they touch
pub record IsFirstUse (tables : List TableDef) (begin : ℕ) (changed : List (List Change)) (used : List Used) (f : FirstUse) : Type 0 where
  pub after : begin < f.position
  pub within : f.position ≤ length changed
  pub touched : first_used tables (unwrap_or (slice_get changed (f.position - 1)) []) used ≡ Some f.item
  pub before : AreUnused tables begin f.position changed used

-- such a conflict as one over items
abbrev pub found_of : FirstUse → Found
found_of f = record { position = f.position; item = item_of f.item }
