-- the versions so far, before those that are left, are all
use Rattle.std.proofs.Common.{◌≡◌, ◌++◌, length}
use Rattle.osql_session.specs.Items.{items_in}
use Rattle.osql_session.proofs.items.listed.Given as goal

abbrev pub invariant-known : goal.invariant-known
invariant-known l = l.items ++ items_in l.rest ≡ items_in l.known

abbrev pub decreases-known : goal.decreases-known
decreases-known l = length l.rest
