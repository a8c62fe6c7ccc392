-- What a transaction uses, at level snapshot and at level serializable.
use Rattle.std.proofs.Common.{◌≡◌, List, [], ◌∷◌, refl, ap, ◌∙◌, Bool, true, false, Option, Some, None, map, if◌then◌else◌}
use Rattle.std.proofs.lemmas.List.{append-nil}
use Rattle.std.specs.List.{AllByRecursion}
use Rattle.std.specs.Prelude.{option_map}
use Rattle.cdb_values.specs.Changes.{genids_taken}
use Rattle.cdb_values.specs.declared.items.GenidItem.{GenidItem}
use Rattle.cdb_values.specs.declared.items.Interval.{Interval}
use Rattle.cdb_values.specs.declared.rows.Change.{Change}
use Rattle.cdb_values.specs.declared.rows.Level.TheVariants.{Snapshot, Serializable}
use Rattle.cdb_values.specs.declared.tables.TableDef.{TableDef}
use Rattle.session_language.specs.Intervals.{changes_touch}
use Rattle.session_language.specs.Language.{Answered}
use Rattle.session_language.specs.Touched.{is_touched, first_touched, Used, TheVersion, TheRange, touches_used, first_used, versions_used, used_at}
use Rattle.session_language.proofs.AllLaws.{all_behind}

version_step : (b : Bool) (item : GenidItem) (found : Option Used) (was : Option GenidItem) → found ≡ option_map TheVersion was →
    (if b then Some (TheVersion item) else found) ≡ option_map TheVersion (if b then Some item else was)
version_step true item found was is = refl
version_step false item found was is = is

-- of versions alone, the first that changes touch is the first that they take away
pub versions_alone : (tables : List TableDef) (changes : List Change) (items : List GenidItem) →
    first_used tables changes (map TheVersion items) ≡ option_map TheVersion (first_touched (genids_taken changes) items)
versions_alone tables changes [] = refl
versions_alone tables changes (item ∷ items) =
    version_step (is_touched (genids_taken changes) item) item (first_used tables changes (map TheVersion items)) (first_touched (genids_taken changes) items) (versions_alone tables changes items)

-- so it is at level snapshot
pub snapshot_uses : (tables : List TableDef) (changes : List Change) (ran : Answered) →
    first_used tables changes (used_at Snapshot ran) ≡ option_map TheVersion (first_touched (genids_taken changes) (versions_used ran))
snapshot_uses tables changes ran = ap (first_used tables changes) (append-nil (map TheVersion (versions_used ran))) ∙ versions_alone tables changes (versions_used ran)

none_step : (b : Bool) (item : Used) (found : Option Used) → (if b then Some item else found) ≡ None → (b ≡ false) × (found ≡ None)
none_step true item found is = absurd cc
none_step false item found is = (refl, is)

-- where changes touch nothing that is used, they touch no part of it
pub none_touched : (tables : List TableDef) (changes : List Change) (used : List Used) → first_used tables changes used ≡ None → AllByRecursion (λ item. touches_used tables changes item ≡ false) used
none_touched tables changes [] is = tt
none_touched tables changes (item ∷ used) is =
    let both = none_step (touches_used tables changes item) item (first_used tables changes used) is in (both.0, none_touched tables changes used both.1)

all_unmapped : (tables : List TableDef) (changes : List Change) (ranges : List Interval) → AllByRecursion (λ item. touches_used tables changes item ≡ false) (map TheRange ranges) →
    AllByRecursion (λ range. changes_touch tables range changes ≡ false) ranges
all_unmapped tables changes [] all = tt
all_unmapped tables changes (range ∷ ranges) all = (all.0, all_unmapped tables changes ranges all.1)

-- so none of the intervals that were read, at level serializable
pub ranges_untouched : (tables : List TableDef) (changes : List Change) (ran : Answered) → first_used tables changes (used_at Serializable ran) ≡ None →
    AllByRecursion (λ range. changes_touch tables range changes ≡ false) ran.ranges
ranges_untouched tables changes ran is =
    all_unmapped tables changes ran.ranges
    (all_behind (λ item. touches_used tables changes item ≡ false) (map TheVersion (versions_used ran)) (map TheRange ran.ranges)
    (none_touched tables changes (used_at Serializable ran) is))
