-- The opening of one store, in the words of a node that is opened over it.
use Rattle.std.specs.Prelude.{◌≡◌, ℕ, List}
use Rattle.cdb_values.specs.declared.tables.TableDef.{TableDef}
use Rattle.kept_log.specs.Kept.{OverStore}
use Rattle.node_opening.specs.Goods.{StandsForGood}
use Rattle.node_opening.specs.declared.up.WhyNotUp.{WhyNotUp}
use Rattle.node_opening.specs.declared.up.WhyNotUp.TheVariants as up
use Rattle.phys_log.specs.declared.entries.Entry.{Entry}
use Rattle.node_openings.specs.declared.found.WhyNotOpened.{WhyNotOpened}
use Rattle.node_openings.specs.declared.found.WhyNotOpened.TheVariants as why

-- the node that is told is that of number 1
abbrev pub IsOfFirst : WhyNotOpened → Type 0
IsOfFirst (why.StoreRefused node at) = node ≡ 1
IsOfFirst (why.Unsound node) = node ≡ 1
IsOfFirst (why.Differs place) = Unit {0}
IsOfFirst why.NoMemory = Unit {0}

-- the same cause of a node that is not up
abbrev pub why_one : WhyNotOpened → WhyNotUp
why_one (why.StoreRefused node at) = up.Refused at
why_one (why.Unsound node) = up.Unsound
why_one (why.Differs place) = up.Differs place
why_one why.NoMemory = up.NoMemory

-- its store stood for a log that may be taken up
pub record StoodForGood (o : OverStore) (given : List TableDef) : Type 0 where
  pub promised : ℕ
  pub accepted : ℕ
  pub entries : List Entry
  pub good : StandsForGood o.node o.cluster o.synced given promised accepted entries
