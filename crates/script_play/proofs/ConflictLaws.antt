-- A conflict can be told: what changes touch is of a table that has a name, and of a key of that table where it has a key.
use Rattle.std.proofs.Common.{◌≡◌, ℕ, ◌==◌, ◌&&◌, ◌||◌, ◌∷◌, [], List, Bool, true, false, not, if◌then◌else◌, refl, sym, subst, Option, Some, None, unwrap_or}
use Rattle.std.proofs.lemmas.Bool.{eqb-true}
use Rattle.std.specs.List.{AllByRecursion}
use Rattle.std.specs.Prelude.{codes, option_map, slice_get}
use Rattle.cdb_values.specs.Changes.{genid_item, genids_taken}
use Rattle.cdb_values.specs.declared.items.GenidItem.{GenidItem}
use Rattle.cdb_values.specs.declared.items.Interval.{Interval}
use Rattle.cdb_values.specs.declared.rows.Change.{Change}
use Rattle.cdb_values.specs.declared.rows.Change.TheVariants.{Insert, Update, Delete}
use Rattle.cdb_values.specs.declared.tables.KeyDef.{KeyDef}
use Rattle.cdb_values.specs.declared.tables.TableDef.{TableDef}
use Rattle.cdb_values.specs.declared.values.Value.{Value}
use Rattle.report_laws.specs.Outcome.{conflict_line, line_by, name_of_key, name_of_table, range_line}
use Rattle.cdb_values.specs.declared.replies.Reply.TheVariants as reply
use Rattle.session_language.specs.Intervals.{change_touches, changes_touch, keys_at, lies, lies_at, lies_by, lies_in}
use Rattle.session_language.specs.Touched.{Used, TheVersion, TheRange, first_used, is_same_item, is_touched, touches_used}
use Rattle.session_turns.specs.Decisions.{item_of, item_told}
use Rattle.script_play.specs.Decisions.{HasName}

-- there is a name
abbrev IsFound : Option (List ℕ) → Type 0
IsFound found = (name : List ℕ) × (found ≡ Some name)

both_first : (a b : Bool) → (a && b) ≡ true → a ≡ true
both_first true b is = refl
both_first false b is = is

both_second : (a b : Bool) → (a && b) ≡ true → b ≡ true
both_second true b is = is
both_second false b is = absurd cc

-- what follows from each of two tests follows where one of them holds
by_either : {P : Type 0} (a b : Bool) → (a ≡ true → P) → (b ≡ true → P) → (a || b) ≡ true → P
by_either true b first second is = first refl
by_either false b first second is = second is

module _ (tables : List TableDef) where
  abbrev IsNamed : ℕ → Type 0
  IsNamed table = IsFound (name_of_table tables table)

  -- ---- versions

  one_named : (item : GenidItem) (table genid : ℕ) → IsNamed table → is_same_item item (genid_item table genid) ≡ true → IsNamed item.table
  one_named item table genid has is =
      let same : item.table ≡ table = eqb-true item.table table (both_first (item.table == table) (item.genid == genid) is) in
      subst IsNamed (sym same) has

  -- a version that changes take away is of a table that has a name
  taken_named : (changes : List Change) (item : GenidItem) → AllByRecursion (HasName tables) changes → is_touched (genids_taken changes) item ≡ true → IsNamed item.table
  taken_named [] item all is = absurd cc
  taken_named (Insert table genid row ∷ changes) item all is = taken_named changes item all.1 is
  taken_named (Update table old_genid old genid row ∷ changes) item all is =
      by_either (is_same_item item (genid_item table old_genid)) (is_touched (genids_taken changes) item) (one_named item table old_genid all.0) (taken_named changes item all.1) is
  taken_named (Delete table old_genid old ∷ changes) item all is =
      by_either (is_same_item item (genid_item table old_genid)) (is_touched (genids_taken changes) item) (one_named item table old_genid all.0) (taken_named changes item all.1) is

  -- ---- intervals

  -- where a row lies in an interval, its key is one of the table's
  key_named : (keys : List KeyDef) (key : Option ℕ) (interval : Interval) (row : List Value) → lies_at keys key interval row ≡ true → IsFound (name_of_key keys key)
  key_named keys None interval row lies = (codes "all", refl)
  key_named keys (Some key) interval row lies = pick (slice_get keys key) lies
    where
      pick : (found : Option KeyDef) → lies_by found interval row ≡ true → IsFound (option_map (λ (k : KeyDef). k.name) found)
      pick None is = absurd cc
      pick (Some k) is = (k.name, refl)

  -- the table and the key of an interval have names
  abbrev AreNamed : Interval → Type 0
  AreNamed interval = IsNamed interval.table × IsFound (name_of_key (keys_at tables interval.table) interval.key)

  row_named : (interval : Interval) (table : ℕ) (row : List Value) → IsNamed table → lies_in tables interval table row ≡ true → AreNamed interval
  row_named interval table row has is =
      let inside : lies tables interval row ≡ true = both_second (table == interval.table) (lies tables interval row) is in (
        subst IsNamed (eqb-true table interval.table (both_first (table == interval.table) (lies tables interval row) is)) has,
        key_named (keys_at tables interval.table) interval.key interval row (both_second (not interval.empty) (lies_at (keys_at tables interval.table) interval.key interval row) inside),
      )

  change_named : (interval : Interval) (change : Change) → HasName tables change → change_touches tables interval change ≡ true → AreNamed interval
  change_named interval (Insert table genid row) has is = row_named interval table row has is
  change_named interval (Update table old_genid old genid row) has is =
      by_either (lies_in tables interval table old) (lies_in tables interval table row) (row_named interval table old has) (row_named interval table row has) is
  change_named interval (Delete table old_genid old) has is = row_named interval table old has is

  changes_named : (interval : Interval) (changes : List Change) → AllByRecursion (HasName tables) changes → changes_touch tables interval changes ≡ true → AreNamed interval
  changes_named interval [] all is = absurd cc
  changes_named interval (change ∷ changes) all is =
      by_either (change_touches tables interval change) (changes_touch tables interval changes) (change_named interval change all.0) (changes_named interval changes all.1) is

  -- ---- what is told

  version_told : (position genid : ℕ) (table : Option (List ℕ)) → IsFound table → line_by position genid table ≡ Some (reply.ConflictGenid position (unwrap_or table []) genid)
  version_told position genid None (name, is) = absurd cc
  version_told position genid (Some table) found = refl

  range_told : (position : ℕ) (table key : Option (List ℕ)) → IsFound table → IsFound key → range_line position table key ≡ Some (reply.ConflictRange position (unwrap_or table []) (unwrap_or key []))
  range_told position None key (name, is) found = absurd cc
  range_told position (Some table) None found (name, is) = absurd cc
  range_told position (Some table) (Some key) found both = refl

  -- a conflict over what was used is told as an item
  abbrev IsTold : ℕ → Used → Type 0
  IsTold position item = conflict_line tables position item ≡ Some (item_told tables position (item_of item))

  touched_told : (changes : List Change) (position : ℕ) (item : Used) → AllByRecursion (HasName tables) changes → touches_used tables changes item ≡ true → IsTold position item
  touched_told changes position (TheVersion item) all is = version_told position item.genid (name_of_table tables item.table) (taken_named changes item all is)
  touched_told changes position (TheRange interval) all is =
      let both = changes_named interval changes all is in
      range_told position (name_of_table tables interval.table) (name_of_key (keys_at tables interval.table) interval.key) both.0 both.1

  -- the first of what is used that changes touch can be told, where they are of tables that have names
  pub named : (changes : List Change) (used : List Used) (position : ℕ) (item : Used) → AllByRecursion (HasName tables) changes → first_used tables changes used ≡ Some item → IsTold position item
  named changes [] position item all found = absurd cc
  named changes (first ∷ used) position item all found = pick (touches_used tables changes first) refl (named changes used position item all) found
    where
      pick : (b : Bool) → touches_used tables changes first ≡ b → (first_used tables changes used ≡ Some item → IsTold position item)
          → (if b then Some first else first_used tables changes used) ≡ Some item → IsTold position item
      pick true touched later is = let same : first ≡ item = cc in subst (IsTold position) same (touched_told changes position first all touched)
      pick false none later is = later is
