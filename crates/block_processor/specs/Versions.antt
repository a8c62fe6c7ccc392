-- Conflicts over versions alone, which are all that counts at level snapshot: of the entries after a position, in order, the
-- first that takes away a used version, and the first such version in the order in which they were used. Nothing has to be
-- known of an entry but the versions that it takes away.
--
-- Of the used versions 1 and 2 of the table 0, and entries after position 2 that take away 7, then 2 and 1, then 1: it is
-- the version 1, at position 4.
use Rattle.std.specs.Prelude.{ℕ, ◌+◌, List, [], ◌∷◌, Option, Some, None}
use Rattle.cdb_values.specs.declared.items.GenidItem.{GenidItem}
use Rattle.cdb_values.specs.declared.items.Item.TheVariants.{Genid}
use Rattle.session_language.specs.Touched.{first_touched}
use Rattle.block_processor.specs.declared.conflicts.Found.{Found}

-- a position whose entry touches a used version, and the first such version
pub record Touched : Type 0 where
  pub position : ℕ
  pub item : GenidItem

abbrev pub version_or_later : ℕ → Option GenidItem → Option Touched → Option Touched
version_or_later position (Some item) later = Some (record { position = position; item = item })
version_or_later position None later = later

-- the first entry that touches a used version; these are the versions that the entries after a position take away
abbrev pub first_conflict : ℕ → List (List GenidItem) → List GenidItem → Option Touched
first_conflict position [] used = None
first_conflict position (taken ∷ later) used = version_or_later (position + 1) (first_touched taken used) (first_conflict (position + 1) later used)

-- such a conflict as one over items
abbrev pub found_by : Option Touched → Option Found
found_by None = None
found_by (Some t) = Some (record { position = t.position; item = Genid t.item })
