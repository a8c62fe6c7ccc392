-- Which entry touches what a transaction used, and which used item it touches first.
--
-- An entry touches a version that its changes take away, and an interval in which a row lies that its changes take away or
-- add. The used versions come first, in order, and then the intervals, in order. Of the used version 1 of t and the interval
-- of all rows of t whose id is above 5:
--
--     1   commit   insert 2: (3, 30)                 touches nothing
--     2   commit   insert 3: (7, 70)                 touches the interval
--     3   commit   update 1: (1, 10) to 4: (9, 10)   touches the version and the interval; the version is the first
--
-- The first entry that touches a used item is the second.
use Rattle.std.specs.Prelude.{◌≡◌, ℕ, ◌+◌, ◌<◌, List, [], ◌∷◌, length, slice_get, Option, Some, None, Bool, false, if◌then◌else◌}
use Rattle.cdb_values.specs.Changes.{genid_item, genids_taken}
use Rattle.cdb_values.specs.declared.items.GenidItem.{GenidItem}
use Rattle.cdb_values.specs.declared.items.Interval.{Interval}
use Rattle.cdb_values.specs.declared.items.Item.{Item}
use Rattle.cdb_values.specs.declared.items.Item.TheVariants.{Genid, Range}
use Rattle.cdb_values.specs.declared.rows.Change.{Change}
use Rattle.cdb_values.specs.declared.rows.Change.TheVariants.{Insert, Update, Delete}
use Rattle.cdb_values.specs.declared.tables.TableDef.{TableDef}
use Rattle.phys_log.specs.declared.entries.Entry.{Entry}
use Rattle.phys_log.specs.declared.entries.Entry.TheVariants.{Setup, Commit}
use Rattle.session_language.specs.Intervals.{changes_touch}
use Rattle.session_language.specs.Touched.{first_touched, is_same_item}
use Rattle.range_validate.specs.declared.touches.Touch.{Touch}

-- the changes of an entry; a setup has none
abbrev pub changes_in : Entry → List Change
changes_in (Setup generation schema records) = []
changes_in (Commit generation id begin level changes records) = changes

-- whether a change takes a version away
abbrev pub takes_item : GenidItem → Change → Bool
takes_item item (Insert table genid row) = false
takes_item item (Update table old_genid old genid row) = is_same_item item (genid_item table old_genid)
takes_item item (Delete table old_genid old) = is_same_item item (genid_item table old_genid)

-- an interval as an item
abbrev pub range_item : Interval → Item
range_item interval = Range interval.table interval.key

-- the first of these intervals that changes touch, as an item
abbrev pub first_range : List TableDef → List Change → List Interval → Option Item
first_range tables changes [] = None
first_range tables changes (interval ∷ intervals) =
    if changes_touch tables interval changes then Some (range_item interval) else first_range tables changes intervals

abbrev pub or_range : Option GenidItem → Option Item → Option Item
or_range (Some item) later = Some (Genid item)
or_range None later = later

-- the first used item that changes touch
abbrev pub first_item : List TableDef → List Change → List GenidItem → List Interval → Option Item
first_item tables changes genids ranges = or_range (first_touched (genids_taken changes) genids) (first_range tables changes ranges)

abbrev pub touch_or_later : ℕ → Option Item → Option Touch → Option Touch
touch_or_later place (Some item) later = Some (record { place = place; item = item })
touch_or_later place None later = later

-- the first of these entries that touches a used item, with its first item; the first of them stands at this place
abbrev pub first_touch_from : List TableDef → ℕ → List Entry → List GenidItem → List Interval → Option Touch
first_touch_from tables place [] genids ranges = None
first_touch_from tables place (e ∷ es) genids ranges =
    touch_or_later place (first_item tables (changes_in e) genids ranges) (first_touch_from tables (place + 1) es genids ranges)

-- the first of these entries, from place 0 on
abbrev pub first_touch_of : List TableDef → List Entry → List GenidItem → List Interval → Option Touch
first_touch_of tables entries genids ranges = first_touch_from tables 0 entries genids ranges

-- the first used item that the entry at a place touches; none where there is no entry
abbrev pub item_by : List TableDef → List GenidItem → List Interval → Option Entry → Option Item
item_by tables genids ranges None = None
item_by tables genids ranges (Some e) = first_item tables (changes_in e) genids ranges

abbrev pub item_at : List TableDef → List Entry → List GenidItem → List Interval → ℕ → Option Item
item_at tables entries genids ranges place = item_by tables genids ranges (slice_get entries place)

-- a place is the first whose entry touches a used item, and this item is the first that it touches
pub record IsFirst (tables : List TableDef) (entries : List Entry) (genids : List GenidItem) (ranges : List Interval) (t : Touch) : Type 0 where
  pub within : t.place < length entries
  pub touched : item_at tables entries genids ranges t.place ≡ Some t.item
  pub before : (j : ℕ) → j < t.place → item_at tables entries genids ranges j ≡ None
