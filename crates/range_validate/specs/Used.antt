-- What a transaction used, as the item that a conflict tells: a version as itself, and an interval by its table and key.
use Rattle.cdb_values.specs.declared.items.Item.{Item}
use Rattle.cdb_values.specs.declared.items.Item.TheVariants.{Genid}
use Rattle.session_language.specs.Touched.{Used, TheVersion, TheRange}
use Rattle.range_validate.specs.Touches.{range_item}

abbrev pub item_of : Used → Item
item_of (TheVersion genid) = Genid genid
item_of (TheRange interval) = range_item interval
