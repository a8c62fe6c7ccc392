-- The first conflict by what entries change, and by what they touch of what was used.
use Rattle.std.proofs.Common.{◌≡◌, ℕ, zero, suc, ◌+◌, List, [], ◌∷◌, ◌++◌, map, refl, sym, ◌∙◌, ap, arith, drop, Option, Some, None}
use Rattle.std.specs.Prelude.{option_map}
use Rattle.cdb_values.specs.declared.items.GenidItem.{GenidItem}
use Rattle.cdb_values.specs.declared.items.Interval.{Interval}
use Rattle.cdb_values.specs.declared.items.Item.{Item}
use Rattle.cdb_values.specs.declared.rows.Change.{Change}
use Rattle.cdb_values.specs.declared.rows.Level.{Level}
use Rattle.cdb_values.specs.declared.rows.Level.TheVariants.{Snapshot, Serializable}
use Rattle.cdb_values.specs.declared.tables.TableDef.{TableDef}
use Rattle.phys_log.specs.declared.entries.Entry.{Entry}
use Rattle.range_validate.proofs.UsedLemmas.{item_of_used}
use Rattle.range_validate.specs.Touches.{changes_in, first_touch_from, touch_or_later}
use Rattle.range_validate.specs.Used.{item_of}
use Rattle.range_validate.specs.declared.touches.Touch.{Touch}
use Rattle.session_language.specs.Language.{Answered}
use Rattle.session_language.specs.Touched.{Used, TheVersion, TheRange, first_used, ranges_used, FirstUse, or_use, first_use, ranges_at}
use Rattle.block_processor.specs.Changed.{changed_in, found_of}
use Rattle.block_processor.specs.Conflicts.{conflict_since, found_behind}

changed_behind : (begin : ℕ) (entries : List Entry) → drop begin (changed_in entries) ≡ changed_in (drop begin entries)
changed_behind zero entries = refl
changed_behind (suc begin) [] = refl
changed_behind (suc begin) (e ∷ es) = changed_behind begin es

found_alike : (position place begin : ℕ) (here : Option Used) (later : Option Touch) (others : Option FirstUse) → begin + place ≡ position
    → found_behind begin later ≡ option_map found_of others
    → found_behind begin (touch_or_later place (option_map item_of here) later) ≡ option_map found_of (or_use (position + 1) here others)
found_alike position place begin None later others same more = more
found_alike position place begin (Some item) later others same more = ap (λ (n : ℕ). Some (record { position = n + 1; item = item_of item })) same

module _ (tables : List TableDef) (genids : List GenidItem) (ranges : List Interval) where
  abbrev all_used : List Used
  all_used = map TheVersion genids ++ map TheRange ranges

  used_from : (position place begin : ℕ) (entries : List Entry) → begin + place ≡ position
      → found_behind begin (first_touch_from tables place entries genids ranges) ≡ option_map found_of (first_use tables position (changed_in entries) all_used)
  used_from position place begin [] same = refl
  used_from position place begin (e ∷ es) same =
      let next : begin + (place + 1) ≡ position + 1 = omega (arith, same) in
      ap (λ (here : Option Item). found_behind begin (touch_or_later place here (first_touch_from tables (place + 1) es genids ranges))) (item_of_used tables (changes_in e) genids ranges)
      ∙ found_alike position place begin (first_used tables (changes_in e) all_used) (first_touch_from tables (place + 1) es genids ranges)
      (first_use tables (position + 1) (changed_in es) all_used) same (used_from (position + 1) (place + 1) begin es next)

-- a conflict by what the entries change
pub conflict_changed : (tables : List TableDef) (begin : ℕ) (entries : List Entry) (genids : List GenidItem) (ranges : List Interval)
    → conflict_since tables begin entries genids ranges
    ≡ option_map found_of (first_use tables begin (drop begin (changed_in entries)) (map TheVersion genids ++ map TheRange ranges))
conflict_changed tables begin entries genids ranges =
    let same : begin + 0 ≡ begin = omega arith in
    used_from tables genids ranges begin 0 begin (drop begin entries) same
    ∙ ap (λ (l : List (List Change)). option_map found_of (first_use tables begin l (map TheVersion genids ++ map TheRange ranges))) (sym (changed_behind begin entries))

-- what was used makes the same conflict as others of which any changes touch the same one first, as without repeats
pub same_uses : (tables : List TableDef) (position : ℕ) (changed : List (List Change)) (used others : List Used)
    → ((changes : List Change) → first_used tables changes used ≡ first_used tables changes others)
    → first_use tables position changed used ≡ first_use tables position changed others
same_uses tables position [] used others same = refl
same_uses tables position (changes ∷ later) used others same =
    ap (λ (found : Option Used). or_use (position + 1) found (first_use tables (position + 1) later used)) (same changes)
    ∙ ap (λ (found : Option FirstUse). or_use (position + 1) (first_used tables changes others) found) (same_uses tables (position + 1) later used others same)

-- the intervals that count at a level, of those that a transaction read
pub ranges_alike : (level : Level) (ran : Answered) → ranges_at level ran.ranges ≡ ranges_used level ran
ranges_alike Snapshot ran = refl
ranges_alike Serializable ran = refl
