-- What a transaction uses, and which of it changes touch.
--
-- It uses versions, which changes touch that take them away, and at level serializable the intervals that it
-- read, which changes touch that take away or add a row in them. The versions come first, and then the
-- intervals, each in their order.
use Rattle.std.specs.Prelude.{ℕ, ◌+◌, ◌++◌, ◌∷◌, ◌==◌, ◌&&◌, [], List, Bool, Option, Some, None, if◌then◌else◌, map}
use Rattle.std.specs.List.{list_any}
use Rattle.cdb_values.specs.Changes.{genids_taken, taken_by}
use Rattle.cdb_values.specs.declared.items.GenidItem.{GenidItem}
use Rattle.cdb_values.specs.declared.items.Interval.{Interval}
use Rattle.cdb_values.specs.declared.rows.Change.{Change}
use Rattle.cdb_values.specs.declared.rows.Level.{Level}
use Rattle.cdb_values.specs.declared.rows.Level.TheVariants.{Snapshot, Serializable}
use Rattle.cdb_values.specs.declared.tables.TableDef.{TableDef}
use Rattle.session_language.specs.Intervals.{changes_touch}
use Rattle.session_language.specs.Language.{Answered}

abbrev pub is_same_item : GenidItem → GenidItem → Bool
is_same_item a b = (a.table == b.table) && (a.genid == b.genid)

-- whether changes that take these versions away touch a used one
abbrev pub is_touched : List GenidItem → GenidItem → Bool
is_touched taken item = list_any (is_same_item item) taken

-- the first of the used versions that they touch
abbrev pub first_touched : List GenidItem → List GenidItem → Option GenidItem
first_touched taken [] = None
first_touched taken (item ∷ used) = if is_touched taken item then Some item else first_touched taken used

-- what a transaction uses: a version, or an interval that it read
pub data Used : Type 0 where
  TheVersion : GenidItem → Used
  TheRange : Interval → Used

-- whether changes touch it
abbrev pub touches_used : List TableDef → List Change → Used → Bool
touches_used tables changes (TheVersion item) = is_touched (genids_taken changes) item
touches_used tables changes (TheRange interval) = changes_touch tables interval changes

-- the first of what is used that changes touch
abbrev pub first_used : List TableDef → List Change → List Used → Option Used
first_used tables changes [] = None
first_used tables changes (item ∷ used) = if touches_used tables changes item then Some item else first_used tables changes used

-- the versions that a transaction uses, by what it was answered: those that its operations take away, and
-- then those that its texts use besides
abbrev pub versions_used : Answered → List GenidItem
versions_used ran = taken_by ran.ops ++ ran.uses

-- the intervals that it uses at a level
abbrev pub ranges_used : Level → Answered → List Interval
ranges_used Snapshot ran = []
ranges_used Serializable ran = ran.ranges

-- what a transaction uses at a level
abbrev pub used_at : Level → Answered → List Used
used_at level ran = map TheVersion (versions_used ran) ++ map TheRange (ranges_used level ran)

-- the intervals that count at a level: all that were read, or none
abbrev pub ranges_at : Level → List Interval → List Interval
ranges_at Snapshot ranges = []
ranges_at Serializable ranges = ranges

-- a position whose entry touches something that was used, and the first such thing
pub record FirstUse : Type 0 where
  pub position : ℕ
  pub item : Used

abbrev pub or_use : ℕ → Option Used → Option FirstUse → Option FirstUse
or_use position (Some item) later = Some (record { position = position; item = item })
or_use position None later = later

-- the first of these changes, each of the entry at the next position, that touch something that was used, and the first
-- that they touch
abbrev pub first_use : List TableDef → ℕ → List (List Change) → List Used → Option FirstUse
first_use tables position [] used = None
first_use tables position (changes ∷ later) used = or_use (position + 1) (first_used tables changes used) (first_use tables (position + 1) later used)
