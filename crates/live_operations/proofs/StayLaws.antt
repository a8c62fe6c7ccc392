-- Genids that rise are distinct; and live operations stay live behind others that take away none of their versions.
use Rattle.std.proofs.Common.{◌≡◌, inl, inr, ℕ, zero, suc, ◌<◌, ◌==◌, ◌&&◌, List, [], ◌∷◌, ◌++◌, Bool, true, false, cond, not, refl, sym, ◌∙◌, subst, ap, arith, Option, Some, None}
use Rattle.std.specs.Prelude.{slice_set}
use Rattle.std.specs.List.{AllByRecursion, list_any}
use Rattle.std.proofs.lemmas.Bool.{or_parts, eq-eqb, true≢false}
use Rattle.cdb_values.specs.Changes.{genid_item, taken_by}
use Rattle.cdb_values.specs.Rows.{Rows, version, versions_of, without, taken, added, apply, apply_all}
use Rattle.cdb_values.specs.declared.items.GenidItem.{GenidItem}
use Rattle.cdb_values.specs.declared.rows.RowOp.{RowOp}
use Rattle.cdb_values.specs.declared.rows.RowOp.TheVariants.{Insert, Update, Delete}
use Rattle.cdb_values.specs.declared.rows.RowRef.TheVariants.{Base, Own}
use Rattle.cdb_values.specs.declared.rows.Version.{Version}
use Rattle.cdb_values.specs.declared.values.Value.{Value}
use Rattle.session_language.specs.Touched.{first_touched, is_same_item, is_touched}
use Rattle.sql_answer.specs.Combinations.{of_table}
use Rattle.table_store.specs.Listings.{IsAmong}
use Rattle.table_store.specs.Operations.{NoTwice}
use Rattle.table_store.specs.States.{Rise}
use Rattle.live_operations.specs.Live.{RisingAreDistinct, UsedAreOthers, LiveStayLive, LiveStayThrough}
use Rattle.live_operations.proofs.LiveLaws.{IsThereOp, gone_there, ops_there}

-- ---- genids that rise

above_differ : (genid : ℕ) (vs : List Version) → AllByRecursion (λ w. genid < w.genid) vs → AllByRecursion (λ w. w.genid ≡ genid → ⊥) vs
above_differ genid [] all = tt
above_differ genid (v ∷ vs) all = (λ same. (let above : genid < v.genid = all.0 in omega (arith, above, same)), above_differ genid vs all.1)

rise_distinct : (next : ℕ) (vs : List Version) → Rise vs next → NoTwice vs
rise_distinct next [] rise = tt
rise_distinct next (v ∷ vs) rise = (above_differ v.genid vs rise.1, rise_distinct next vs rise.2)

pub rising_are_distinct : RisingAreDistinct
rising_are_distinct next [] all = tt
rising_are_distinct next (vs ∷ others) all = (rise_distinct next vs all.0.rise, rising_are_distinct next others all.1)

-- ---- a version stays

among_left : (v : Version) (xs ys : List Version) → IsAmong v xs → IsAmong v (xs ++ ys)
among_left v [] ys among = absurd among
among_left v (x ∷ xs) ys (inl same) = inl same
among_left v (x ∷ xs) ys (inr among) = inr (among_left v xs ys among)

-- a version without that genid
among_without : (target : ℕ) (v : Version) (xs : List Version) → IsAmong v xs → (v.genid == target) ≡ false → IsAmong v (without target xs)
among_without target v [] among other = absurd among
among_without target v (x ∷ xs) among other = go (x.genid == target) refl among (λ i. among_without target v xs i other)
  where
    go : (b : Bool) → (x.genid == target) ≡ b → IsAmong v (x ∷ xs) → (IsAmong v xs → IsAmong v (without target xs))
        → IsAmong v (cond (not b) (x ∷ without target xs) (without target xs))
    go true here (inl same) more = absurd (true≢false (sym here ∙ ap (λ (w : Version). w.genid == target) (sym same) ∙ other))
    go true here (inr i) more = more i
    go false here (inl same) more = inl same
    go false here (inr i) more = inr (more i)

exchanged : (v : Version) (tables : List (List Version)) (p place : ℕ) (vs : List Version) → IsAmong v (of_table tables place) → (p ≡ place → IsAmong v vs)
    → IsAmong v (of_table (slice_set tables p vs) place)
exchanged v [] p place vs among here = absurd among
exchanged v (t ∷ ts) zero zero vs among here = here refl
exchanged v (t ∷ ts) zero (suc place) vs among here = among
exchanged v (t ∷ ts) (suc p) zero vs among here = among
exchanged v (t ∷ ts) (suc p) (suc place) vs among here = exchanged v ts p place vs among (λ same. here (ap (λ (n : ℕ). suc n) same))

-- where another version is taken away
not_both : (a b : Bool) → (a && b) ≡ false → a ≡ true → b ≡ false
not_both true b is here = is
not_both false b is here = absurd cc

taken_stays : (rows : Rows) (p place target : ℕ) (v : Version) → IsAmong v (versions_of rows place) → ((place == p) && (v.genid == target)) ≡ false
    → IsAmong v (versions_of (taken rows p target) place)
taken_stays rows p place target v among other =
    exchanged v rows.tables p place (without target (versions_of rows p)) among
    (λ same. among_without target v (versions_of rows p) (subst (λ n. IsAmong v (versions_of rows n)) (sym same) among)
    (not_both (place == p) (v.genid == target) other (eq-eqb place p (sym same))))

-- where one is added
added_stays : (rows : Rows) (p place : ℕ) (row : List Value) (v : Version) → IsAmong v (versions_of rows place) → IsAmong v (versions_of (added rows p row) place)
added_stays rows p place row v among =
    exchanged v rows.tables p place (versions_of rows p ++ version rows.next row ∷ []) among
    (λ same. among_left v (versions_of rows p) (version rows.next row ∷ []) (subst (λ n. IsAmong v (versions_of rows n)) (sym same) among))

version_stays : (others : List RowOp) (rows : Rows) (place : ℕ) (v : Version) → IsAmong v (versions_of rows place)
    → is_touched (taken_by others) (genid_item place v.genid) ≡ false → IsAmong v (versions_of (apply_all rows others) place)
version_stays [] rows place v among free = among
version_stays (Insert p row ∷ others) rows place v among free =
    version_stays others (apply rows (Insert p row)) place v (added_stays rows p place row v among) free
version_stays (Update p (Base target) old row ∷ others) rows place v among free =
    let item : GenidItem = genid_item place v.genid in
    let parts = or_parts (is_same_item item (genid_item p target)) (list_any (is_same_item item) (taken_by others)) free in
    version_stays others (apply rows (Update p (Base target) old row)) place v
    (added_stays (taken rows p target) p place row v (taken_stays rows p place target v among parts.0)) parts.1
version_stays (Update p (Own write) old row ∷ others) rows place v among free = version_stays others rows place v among free
version_stays (Delete p (Base target) old ∷ others) rows place v among free =
    let item : GenidItem = genid_item place v.genid in
    let parts = or_parts (is_same_item item (genid_item p target)) (list_any (is_same_item item) (taken_by others)) free in
    version_stays others (apply rows (Delete p (Base target) old)) place v (taken_stays rows p place target v among parts.0) parts.1
version_stays (Delete p (Own write) old ∷ others) rows place v among free = version_stays others rows place v among free

-- ---- operations stay live

not_first : (b : Bool) (item : GenidItem) (later : Option GenidItem) → cond b (Some item) later ≡ None → (b ≡ false) × (later ≡ None)
not_first true item later is = absurd cc
not_first false item later is = (refl, is)

module _ (rows : Rows) (others : List RowOp) where
  abbrev now : List (List Version)
  now = (apply_all rows others).tables

  ops_stay : (ops : List RowOp) → AllByRecursion (IsThereOp rows.tables) ops → first_touched (taken_by others) (taken_by ops) ≡ None → AllByRecursion (IsThereOp now) ops
  ops_stay [] all none = tt
  ops_stay (Insert place row ∷ ops) all none = (tt, ops_stay ops all.1 none)
  ops_stay (Update place (Base genid) old row ∷ ops) all none =
      let item : GenidItem = genid_item place genid in
      let parts = not_first (is_touched (taken_by others) item) item (first_touched (taken_by others) (taken_by ops)) none in
      (version_stays others rows place (version genid old) all.0 parts.0, ops_stay ops all.1 parts.1)
  ops_stay (Update place (Own write) old row ∷ ops) all none = (tt, ops_stay ops all.1 none)
  ops_stay (Delete place (Base genid) old ∷ ops) all none =
      let item : GenidItem = genid_item place genid in
      let parts = not_first (is_touched (taken_by others) item) item (first_touched (taken_by others) (taken_by ops)) none in
      (version_stays others rows place (version genid old) all.0 parts.0, ops_stay ops all.1 parts.1)
  ops_stay (Delete place (Own write) old ∷ ops) all none = (tt, ops_stay ops all.1 none)

pub live_stay_live : LiveStayLive
live_stay_live rows ops others live none = record {
  there = gone_there (apply_all rows others).tables ops (ops_stay rows others ops (ops_there rows.tables ops live.there) none);
  once = live.once;
}

pub live_stay_through : LiveStayThrough
live_stay_through rows ops [] live none = live
live_stay_through rows ops (entry ∷ entries) live none = live_stay_through (apply_all rows entry) ops entries (live_stay_live rows ops entry live none.0) none.1

none_behind : (taken front back : List GenidItem) → first_touched taken (front ++ back) ≡ None → first_touched taken back ≡ None
none_behind taken [] back none = none
none_behind taken (item ∷ front) back none = none_behind taken front back (not_first (is_touched taken item) item (first_touched taken (front ++ back)) none).1

pub used_are_others : UsedAreOthers
used_are_others ops others uses none = none_behind (taken_by others) uses (taken_by ops) none
