-- What was used, as the item that is told, in the words of a session's decision and in those of the block processor.
use Rattle.std.proofs.Common.{◌≡◌, refl}
use Rattle.range_validate.specs.Used.{item_of}
use Rattle.session_language.specs.Touched.{Used, TheVersion, TheRange}
use Rattle.session_turns.specs.Decisions as turns

pub item_alike : (used : Used) → turns.item_of used ≡ item_of used
item_alike (TheVersion genid) = refl
item_alike (TheRange interval) = refl
