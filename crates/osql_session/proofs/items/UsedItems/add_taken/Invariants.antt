-- what is there so far, with the versions that the operations left take away, is what is there with all
use Rattle.std.proofs.Common.{◌≡◌, length}
use Rattle.cdb_values.specs.Changes.{taken_by}
use Rattle.osql_session.specs.Items.{with_items}
use Rattle.osql_session.proofs.items.UsedItems.add_taken.Given as goal

abbrev pub invariant-ops : goal.invariant-ops
invariant-ops l = with_items l.self (taken_by l.rest) ≡ with_items l.fn.self (taken_by l.ops)

abbrev pub decreases-ops : goal.decreases-ops
decreases-ops l = length l.rest
