-- Versions without repeats are touched as those with repeats are.
use Rattle.std.proofs.Common.{◌≡◌, ◌||◌, Bool, true, false, List, [], ◌∷◌, ◌++◌, map, if◌then◌else◌, refl, sym, ap, ◌∙◌, append_assoc, append-nil, Option, Some, None}
use Rattle.cdb_values.specs.Changes.{genids_taken}
use Rattle.cdb_values.specs.declared.items.GenidItem.{GenidItem}
use Rattle.cdb_values.specs.declared.items.Interval.{Interval}
use Rattle.cdb_values.specs.declared.rows.Change.{Change}
use Rattle.cdb_values.specs.declared.tables.TableDef.{TableDef}
use Rattle.session_language.specs.Touched.{is_same_item, is_touched, first_touched, Used, TheVersion, TheRange, first_used}
use Rattle.osql_session.specs.Items.{with_item, with_items, without_repeats, is_among}
use Rattle.osql_session.proofs.RepeatLemmas.{same_is}

-- a version that is not touched can be left out
skip_untouched : (taken before behind : List GenidItem) (item : GenidItem) → is_touched taken item ≡ false →
    first_touched taken (before ++ item ∷ behind) ≡ first_touched taken (before ++ behind)
skip_untouched taken [] behind item is = rw is refl
skip_untouched taken (first ∷ before) behind item is =
    ap (λ (later : Option GenidItem). if is_touched taken first then Some first else later) (skip_untouched taken before behind item is)

-- and so can one that was there before
skip_again : (taken before behind : List GenidItem) (item : GenidItem) → is_among before item ≡ true →
    first_touched taken (before ++ item ∷ behind) ≡ first_touched taken (before ++ behind)
skip_again taken [] behind item is = absurd cc
skip_again taken (first ∷ before) behind item is = pick (is_touched taken first) refl (is_same_item item first) refl (skip_again taken before behind item) is
  where
    pick : (touched : Bool) → is_touched taken first ≡ touched → (same : Bool) → is_same_item item first ≡ same
        → (is_among before item ≡ true → first_touched taken (before ++ item ∷ behind) ≡ first_touched taken (before ++ behind)) → (same || is_among before item) ≡ true
        → (if is_touched taken first then Some first else first_touched taken (before ++ item ∷ behind)) ≡ (if is_touched taken first then Some first else first_touched taken (before ++ behind))
    pick true here same is_same later found = rw here refl
    pick false here true is_same later found =
        ap (λ (o : Option GenidItem). if is_touched taken first then Some first else o)
        (skip_untouched taken before behind item (ap (λ (i : GenidItem). is_touched taken i) (same_is item first is_same) ∙ here))
    pick false here false is_same later found = ap (λ (o : Option GenidItem). if is_touched taken first then Some first else o) (later found)

touched_with : (taken known items : List GenidItem) → first_touched taken (with_items known items) ≡ first_touched taken (known ++ items)
touched_with taken known [] = ap (λ (all : List GenidItem). first_touched taken all) (sym (append-nil known))
touched_with taken known (item ∷ items) = touched_with taken (with_item known item) items ∙ pick (is_among known item) refl
  where
    pick : (b : Bool) → is_among known item ≡ b → first_touched taken ((if is_among known item then known else known ++ item ∷ []) ++ items) ≡ first_touched taken (known ++ item ∷ items)
    pick true is = rw is (sym (skip_again taken known items item is))
    pick false is = rw is (ap (λ (all : List GenidItem). first_touched taken all) (append_assoc known (item ∷ []) items))

-- the first version that is touched
pub touched_once : (taken items : List GenidItem) → first_touched taken (without_repeats items) ≡ first_touched taken items
touched_once taken items = touched_with taken [] items

-- a version that is touched, else what is found behind the versions
abbrev or_behind : Option GenidItem → Option Used → Option Used
or_behind (Some item) later = Some (TheVersion item)
or_behind None later = later

versions_first : (tables : List TableDef) (changes : List Change) (items : List GenidItem) (behind : List Used) →
    first_used tables changes (map TheVersion items ++ behind) ≡ or_behind (first_touched (genids_taken changes) items) (first_used tables changes behind)
versions_first tables changes [] behind = refl
versions_first tables changes (item ∷ items) behind =
    pick (is_touched (genids_taken changes) item) (first_used tables changes (map TheVersion items ++ behind)) (first_touched (genids_taken changes) items) (versions_first tables changes items behind)
  where
    pick : (b : Bool) (found : Option Used) (was : Option GenidItem) → found ≡ or_behind was (first_used tables changes behind)
        → (if b then Some (TheVersion item) else found) ≡ or_behind (if b then Some item else was) (first_used tables changes behind)
    pick true found was is = refl
    pick false found was is = is

-- the first of what is used that changes touch
pub used_once : (tables : List TableDef) (changes : List Change) (genids : List GenidItem) (ranges : List Interval) →
    first_used tables changes (map TheVersion (without_repeats genids) ++ map TheRange ranges) ≡ first_used tables changes (map TheVersion genids ++ map TheRange ranges)
used_once tables changes genids ranges =
    versions_first tables changes (without_repeats genids) (map TheRange ranges)
    ∙ ap (λ (o : Option GenidItem). or_behind o (first_used tables changes (map TheRange ranges))) (touched_once (genids_taken changes) genids)
    ∙ sym (versions_first tables changes genids (map TheRange ranges))
