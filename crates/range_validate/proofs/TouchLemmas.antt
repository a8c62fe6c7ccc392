-- The first touch, entry by entry, and what is not touched where there is none.
use Rattle.std.proofs.Common.{◌≡◌, ℕ, zero, suc, ◌+◌, ◌<◌, ◌≤◌, ◌||◌, Bool, List, [], ◌∷◌, refl, sym, ◌∙◌, ap, arith, length, get_or, drop, drop-cons}
use Rattle.std.proofs.Math.ListN.{drop_of_length-le}
use Rattle.std.proofs.lemmas.Option.{none-some}
use Rattle.std.specs.Prelude.{Option, Some, None}
use Rattle.std.specs.List.{list_any}
use Rattle.cdb_values.specs.Changes.{genid_item, genids_taken}
use Rattle.cdb_values.specs.declared.items.GenidItem.{GenidItem}
use Rattle.cdb_values.specs.declared.items.Interval.{Interval}
use Rattle.cdb_values.specs.declared.items.Item.{Item}
use Rattle.cdb_values.specs.declared.rows.Change.{Change}
use Rattle.cdb_values.specs.declared.rows.Change.TheVariants.{Insert, Update, Delete}
use Rattle.cdb_values.specs.declared.tables.TableDef.{TableDef}
use Rattle.phys_log.specs.declared.entries.Entry.{Entry}
use Rattle.session_language.specs.Touched.{is_same_item, is_touched}
use Rattle.range_validate.specs.Touches.{changes_in, takes_item, first_item, touch_or_later, first_touch_from, item_at, IsFirst}
use Rattle.range_validate.specs.declared.touches.Touch.{Touch}

drop_at : {A : Type 0} (xs : List A) (i : ℕ) (x : A) → i < length xs → x ≡ get_or xs i x → drop i xs ≡ x ∷ drop (i + 1) xs
drop_at xs i x within is =
    let e : suc i ≡ i + 1 = omega arith in
    drop-cons xs i x within ∙ ap (λ y. y ∷ drop (suc i) xs) (sym is) ∙ ap (λ n. x ∷ drop n xs) e

-- the entry at a place, and those behind it
step_at : (tables : List TableDef) (entries : List Entry) (place : ℕ) (x : Entry) (genids : List GenidItem) (ranges : List Interval) → place < length entries
    → x ≡ get_or entries place x → first_touch_from tables place (drop place entries) genids ranges
    ≡ touch_or_later place (first_item tables (changes_in x) genids ranges) (first_touch_from tables (place + 1) (drop (place + 1) entries) genids ranges)
step_at tables entries place x genids ranges within is =
    ap (λ (l : List Entry). first_touch_from tables place l genids ranges) (drop_at entries place x within is)

-- an entry that touches an item, one that does not, and the end
pub touch_here : (tables : List TableDef) (entries : List Entry) (place : ℕ) (x : Entry) (genids : List GenidItem) (ranges : List Interval) (item : Item)
    → place < length entries → x ≡ get_or entries place x → first_item tables (changes_in x) genids ranges ≡ Some item
    → first_touch_from tables place (drop place entries) genids ranges ≡ Some (record { place = place; item = item })
touch_here tables entries place x genids ranges item within is touched =
    step_at tables entries place x genids ranges within is
    ∙ ap (λ (o : Option Item). touch_or_later place o (first_touch_from tables (place + 1) (drop (place + 1) entries) genids ranges)) touched

pub touch_later : (tables : List TableDef) (entries : List Entry) (place : ℕ) (x : Entry) (genids : List GenidItem) (ranges : List Interval)
    → place < length entries → x ≡ get_or entries place x → first_item tables (changes_in x) genids ranges ≡ None
    → first_touch_from tables place (drop place entries) genids ranges ≡ first_touch_from tables (place + 1) (drop (place + 1) entries) genids ranges
touch_later tables entries place x genids ranges within is touched =
    step_at tables entries place x genids ranges within is
    ∙ ap (λ (o : Option Item). touch_or_later place o (first_touch_from tables (place + 1) (drop (place + 1) entries) genids ranges)) touched

pub touch_none : (tables : List TableDef) (entries : List Entry) (place : ℕ) (genids : List GenidItem) (ranges : List Interval) → length entries ≤ place
    → first_touch_from tables place (drop place entries) genids ranges ≡ None
touch_none tables entries place genids ranges past =
    ap (λ (l : List Entry). first_touch_from tables place l genids ranges) (drop_of_length-le entries past)

-- changes that take a version away
pub touched_by_changes : (changes : List Change) (item : GenidItem) → list_any (takes_item item) changes ≡ is_touched (genids_taken changes) item
touched_by_changes [] item = refl
touched_by_changes (Insert table genid row ∷ cs) item = touched_by_changes cs item
touched_by_changes (Update table old_genid old genid row ∷ cs) item =
    ap (λ (b : Bool). is_same_item item (genid_item table old_genid) || b) (touched_by_changes cs item)
touched_by_changes (Delete table old_genid old ∷ cs) item =
    ap (λ (b : Bool). is_same_item item (genid_item table old_genid) || b) (touched_by_changes cs item)

-- where no touch is found, no entry touches an item
or_none : (place : ℕ) (here : Option Item) (later : Option Touch) → touch_or_later place here later ≡ None → (here ≡ None) × (later ≡ None)
or_none place None later is = (refl, is)
or_none place (Some item) later is = absurd (none-some _ (sym is))

pub none_touch : (tables : List TableDef) (from : ℕ) (entries : List Entry) (genids : List GenidItem) (ranges : List Interval)
    → first_touch_from tables from entries genids ranges ≡ None → (i : ℕ) → item_at tables entries genids ranges i ≡ None
none_touch tables from [] genids ranges none i = refl
none_touch tables from (e ∷ es) genids ranges none zero =
    (or_none from (first_item tables (changes_in e) genids ranges) (first_touch_from tables (from + 1) es genids ranges) none).0
none_touch tables from (e ∷ es) genids ranges none (suc i) =
    none_touch tables (from + 1) es genids ranges
    (or_none from (first_item tables (changes_in e) genids ranges) (first_touch_from tables (from + 1) es genids ranges) none).1 i

-- the touch that is found, by its place from where the entries begin
abbrev IsFirstFrom : List TableDef → ℕ → List Entry → List GenidItem → List Interval → Touch → Type 0
IsFirstFrom tables from entries genids ranges t = (i : ℕ) × (t.place ≡ from + i)
    × IsFirst tables entries genids ranges (record { place = i; item = t.item })

some_place : (place : ℕ) (item : Item) (later : Option Touch) (t : Touch) → touch_or_later place (Some item) later ≡ Some t → t.place ≡ place
some_place place item later t is = cc

some_item : (place : ℕ) (item : Item) (later : Option Touch) (t : Touch) → touch_or_later place (Some item) later ≡ Some t → Some item ≡ Some t.item
some_item place item later t is = cc

-- the touch that is found is at the first entry
here_first : (tables : List TableDef) (from : ℕ) (e : Entry) (es : List Entry) (genids : List GenidItem) (ranges : List Interval) (t : Touch)
    → t.place ≡ from → first_item tables (changes_in e) genids ranges ≡ Some t.item → IsFirstFrom tables from (e ∷ es) genids ranges t
here_first tables from e es genids ranges t is_at touched =
    (0, omega (arith, is_at), record { within = omega arith; touched = touched; before = none_before })
  where
    none_before : (j : ℕ) → j < 0 → item_at tables (e ∷ es) genids ranges j ≡ None
    none_before j h = absurd (omega (arith, h))

-- it is behind the first entry, which touches nothing
later_first : (tables : List TableDef) (from : ℕ) (e : Entry) (es : List Entry) (genids : List GenidItem) (ranges : List Interval) (t : Touch)
    → first_item tables (changes_in e) genids ranges ≡ None → IsFirstFrom tables (from + 1) es genids ranges t → IsFirstFrom tables from (e ∷ es) genids ranges t
later_first tables from e es genids ranges t none (i, is_at, first) =
    let within : i < length es = first.within in
    (suc i, omega (arith, is_at), record { within = omega (arith, within); touched = first.touched; before = before })
  where
    before : (j : ℕ) → j < suc i → item_at tables (e ∷ es) genids ranges j ≡ None
    before zero h = none
    before (suc j) h = first.before j (omega (arith, h))

pub one_touch : (tables : List TableDef) (from : ℕ) (entries : List Entry) (genids : List GenidItem) (ranges : List Interval) (t : Touch)
    → first_touch_from tables from entries genids ranges ≡ Some t → IsFirstFrom tables from entries genids ranges t
one_touch tables from [] genids ranges t is = absurd (none-some _ is)
one_touch tables from (e ∷ es) genids ranges t is =
    pick (first_item tables (changes_in e) genids ranges) refl is (one_touch tables (from + 1) es genids ranges t)
  where
    pick : (here : Option Item) → first_item tables (changes_in e) genids ranges ≡ here
        → touch_or_later from here (first_touch_from tables (from + 1) es genids ranges) ≡ Some t
        → (first_touch_from tables (from + 1) es genids ranges ≡ Some t → IsFirstFrom tables (from + 1) es genids ranges t)
        → IsFirstFrom tables from (e ∷ es) genids ranges t
    pick (Some item) at found more =
        here_first tables from e es genids ranges t (some_place from item (first_touch_from tables (from + 1) es genids ranges) t found)
        (at ∙ some_item from item (first_touch_from tables (from + 1) es genids ranges) t found)
    pick None at found more = later_first tables from e es genids ranges t at (more found)
