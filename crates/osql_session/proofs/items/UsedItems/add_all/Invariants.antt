-- what is there so far, with the versions that are left, is what is there with all
use Rattle.std.proofs.Common.{◌≡◌, length}
use Rattle.osql_session.specs.Items.{with_items}
use Rattle.osql_session.proofs.items.UsedItems.add_all.Given as goal

abbrev pub invariant-items : goal.invariant-items
invariant-items l = with_items l.self l.rest ≡ with_items l.fn.self l.items

abbrev pub decreases-items : goal.decreases-items
decreases-items l = length l.rest
