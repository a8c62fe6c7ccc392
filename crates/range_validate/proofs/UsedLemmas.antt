-- The first item that changes touch is that of the first of what was used that they touch.
use Rattle.std.proofs.Common.{◌≡◌, List, [], ◌∷◌, ◌++◌, map, Bool, true, false, if◌then◌else◌, refl}
use Rattle.std.specs.Prelude.{Option, Some, option_map}
use Rattle.cdb_values.specs.Changes.{genids_taken}
use Rattle.cdb_values.specs.declared.items.GenidItem.{GenidItem}
use Rattle.cdb_values.specs.declared.items.Interval.{Interval}
use Rattle.cdb_values.specs.declared.items.Item.{Item}
use Rattle.cdb_values.specs.declared.rows.Change.{Change}
use Rattle.cdb_values.specs.declared.tables.TableDef.{TableDef}
use Rattle.session_language.specs.Intervals.{changes_touch}
use Rattle.session_language.specs.Touched.{Used, TheVersion, TheRange, is_touched, first_touched, first_used}
use Rattle.range_validate.specs.Touches.{first_item, first_range, or_range, range_item}
use Rattle.range_validate.specs.Used.{item_of}

range_step : (is_first : Bool) (interval : Interval) (later : Option Item) (found : Option Used) → later ≡ option_map item_of found
    → (if is_first then Some (range_item interval) else later) ≡ option_map item_of (if is_first then Some (TheRange interval) else found)
range_step true interval later found is = refl
range_step false interval later found is = is

ranges_alone : (tables : List TableDef) (changes : List Change) (ranges : List Interval)
    → first_range tables changes ranges ≡ option_map item_of (first_used tables changes (map TheRange ranges))
ranges_alone tables changes [] = refl
ranges_alone tables changes (interval ∷ ranges) =
    range_step (changes_touch tables interval changes) interval (first_range tables changes ranges) (first_used tables changes (map TheRange ranges))
    (ranges_alone tables changes ranges)

version_step : (is_first : Bool) (genid : GenidItem) (genids : Option GenidItem) (range : Option Item) (found : Option Used)
    → or_range genids range ≡ option_map item_of found
    → or_range (if is_first then Some genid else genids) range ≡ option_map item_of (if is_first then Some (TheVersion genid) else found)
version_step true genid genids range found is = refl
version_step false genid genids range found is = is

pub item_of_used : (tables : List TableDef) (changes : List Change) (genids : List GenidItem) (ranges : List Interval)
    → first_item tables changes genids ranges ≡ option_map item_of (first_used tables changes (map TheVersion genids ++ map TheRange ranges))
item_of_used tables changes [] ranges = ranges_alone tables changes ranges
item_of_used tables changes (genid ∷ genids) ranges =
    version_step (is_touched (genids_taken changes) genid) genid (first_touched (genids_taken changes) genids) (first_range tables changes ranges)
    (first_used tables changes (map TheVersion genids ++ map TheRange ranges)) (item_of_used tables changes genids ranges)
