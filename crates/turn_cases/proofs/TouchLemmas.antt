-- Changes that take versions away.
use Rattle.std.proofs.Common.{◌≡◌, ◌∷◌, [], List, Bool, true, false, ◌||◌, refl}
use Rattle.cdb_values.specs.Changes.{genids_taken}
use Rattle.cdb_values.specs.declared.items.GenidItem.{GenidItem}
use Rattle.cdb_values.specs.declared.rows.Change.{Change}
use Rattle.cdb_values.specs.declared.rows.Change.TheVariants.{Insert, Update, Delete}
use Rattle.session_language.specs.Touched.{is_same_item, is_touched}

-- a version that one of some changes takes away
pub touched_taken : (change : Change) (changes : List Change) (item : GenidItem) → is_touched (genids_taken (change ∷ [])) item ≡ true → is_touched (genids_taken (change ∷ changes)) item ≡ true
touched_taken (Insert table genid row) changes item is = absurd cc
touched_taken (Update table old_genid old genid row) changes item is = pick (is_same_item item (record { table = table; genid = old_genid })) is
  where
    pick : (b : Bool) → (b || false) ≡ true → (b || is_touched (genids_taken changes) item) ≡ true
    pick true is = refl
    pick false is = absurd cc
touched_taken (Delete table old_genid old) changes item is = pick (is_same_item item (record { table = table; genid = old_genid })) is
  where
    pick : (b : Bool) → (b || false) ≡ true → (b || is_touched (genids_taken changes) item) ≡ true
    pick true is = refl
    pick false is = absurd cc

-- one that the first of them does not
pub touched_none : (change : Change) (changes : List Change) (item : GenidItem) → is_touched (genids_taken (change ∷ [])) item ≡ false → is_touched (genids_taken (change ∷ changes)) item ≡ is_touched (genids_taken changes) item
touched_none (Insert table genid row) changes item is = refl
touched_none (Update table old_genid old genid row) changes item is = pick (is_same_item item (record { table = table; genid = old_genid })) is
  where
    pick : (b : Bool) → (b || false) ≡ false → (b || is_touched (genids_taken changes) item) ≡ is_touched (genids_taken changes) item
    pick true is = absurd cc
    pick false is = refl
touched_none (Delete table old_genid old) changes item is = pick (is_same_item item (record { table = table; genid = old_genid })) is
  where
    pick : (b : Bool) → (b || false) ≡ false → (b || is_touched (genids_taken changes) item) ≡ is_touched (genids_taken changes) item
    pick true is = absurd cc
    pick false is = refl
