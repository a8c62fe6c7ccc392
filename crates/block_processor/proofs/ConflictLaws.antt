-- The first conflict, and the entries before it: which of the entries since a begin touches an item that was used.
use Rattle.std.proofs.Common.{◌≡◌, ℕ, ◌+◌, ◌-◌, ◌<◌, ◌∷◌, [], List, refl, sym, ◌∙◌, ap, arith, length, drop, zero, suc}
use Rattle.std.proofs.lemmas.List.{length-drop}
use Rattle.std.proofs.lemmas.Option.{none-some}
use Rattle.std.specs.Prelude.{slice_get, Option, Some, None}
use Rattle.cdb_values.specs.declared.items.GenidItem.{GenidItem}
use Rattle.cdb_values.specs.declared.items.Interval.{Interval}
use Rattle.cdb_values.specs.declared.items.Item.{Item}
use Rattle.cdb_values.specs.declared.tables.TableDef.{TableDef}
use Rattle.phys_log.specs.declared.entries.Entry.{Entry}
use Rattle.range_validate.proofs.TouchLemmas.{none_touch, one_touch}
use Rattle.range_validate.specs.Touches.{first_touch_of, item_at, item_by, IsFirst}
use Rattle.range_validate.specs.declared.touches.Touch.{Touch}
use Rattle.block_processor.specs.Conflicts.{conflict_since, found_behind, AreUntouched, IsFirstSince}
use Rattle.block_processor.specs.declared.conflicts.Found.{Found}

get_dropped : (begin : ℕ) (entries : List Entry) (i : ℕ) → slice_get (drop begin entries) i ≡ slice_get entries (begin + i)
get_dropped zero entries i = let e : i ≡ 0 + i = omega arith in ap (λ (n : ℕ). slice_get entries n) e
get_dropped (suc begin) [] i = refl
get_dropped (suc begin) (x ∷ entries) i =
    let e : suc (begin + i) ≡ suc begin + i = omega arith in
    get_dropped begin entries i ∙ ap (λ (n : ℕ). slice_get (x ∷ entries) n) e

module _ (tables : List TableDef) (begin : ℕ) (entries : List Entry) (genids : List GenidItem) (ranges : List Interval) where
  -- what the entry at a place behind the begin touches
  same_touched : (i j : ℕ) (found : Option Item) → begin + i ≡ j → item_at tables (drop begin entries) genids ranges i ≡ found → item_at tables entries genids ranges j ≡ found
  same_touched i j found same is =
      sym (ap (λ (o : Option Entry). item_by tables genids ranges o) (get_dropped begin entries i ∙ ap (λ (n : ℕ). slice_get entries n) same)) ∙ is

  no_found : (found : Option Touch) → found_behind begin found ≡ None → found ≡ None
  no_found None is = refl
  no_found (Some t) is = absurd (none-some _ (sym is))

  pub none_found : conflict_since tables begin entries genids ranges ≡ None → AreUntouched tables begin (length entries + 1) entries genids ranges
  none_found none j after within =
      let place : begin + (j - 1 - begin) ≡ j - 1 = omega arith in
      same_touched (j - 1 - begin) (j - 1) None place
      (none_touch tables 0 (drop begin entries) genids ranges (no_found (first_touch_of tables (drop begin entries) genids ranges) none) (j - 1 - begin))

  -- a conflict is a touch behind the begin
  its_position : (t : Touch) (f : Found) → found_behind begin (Some t) ≡ Some f → f.position ≡ begin + t.place + 1
  its_position t f is = cc

  its_item : (t : Touch) (f : Found) → found_behind begin (Some t) ≡ Some f → Some t.item ≡ Some f.item
  its_item t f is = cc

  since : (t : Touch) (f : Found) → f.position ≡ begin + t.place + 1 → Some t.item ≡ Some f.item
      → (i : ℕ) → t.place ≡ 0 + i → IsFirst tables (drop begin entries) genids ranges (record { place = i; item = t.item })
      → IsFirstSince tables begin entries genids ranges f
  since t f position item i at first =
      let long : length (drop begin entries) ≡ length entries - begin = length-drop begin entries in
      let inside : i < length (drop begin entries) = first.within in
      let place : begin + i ≡ f.position - 1 = omega (arith, position, at) in
      record {
        after = omega (arith, position);
        within = omega (arith, long, inside, position, at);
        touched = same_touched i (f.position - 1) (Some f.item) place (first.touched ∙ item);
        before = before;
      }
    where
      before : (j : ℕ) → begin < j → j < f.position → item_at tables entries genids ranges (j - 1) ≡ None
      before j after h =
          let place : begin + (j - 1 - begin) ≡ j - 1 = omega (arith, after) in
          let earlier : j - 1 - begin < i = omega (arith, after, h, position, at) in
          same_touched (j - 1 - begin) (j - 1) None place (first.before (j - 1 - begin) earlier)

  pub one_found : (f : Found) → conflict_since tables begin entries genids ranges ≡ Some f → IsFirstSince tables begin entries genids ranges f
  one_found f is = pick (first_touch_of tables (drop begin entries) genids ranges) refl is
    where
      pick : (found : Option Touch) → first_touch_of tables (drop begin entries) genids ranges ≡ found → found_behind begin found ≡ Some f → IsFirstSince tables begin entries genids ranges f
      pick None none is = absurd (none-some _ is)
      pick (Some t) found is =
          let first = one_touch tables 0 (drop begin entries) genids ranges t found in
          since t f (its_position t f is) (its_item t f is) first.0 first.1 first.2
