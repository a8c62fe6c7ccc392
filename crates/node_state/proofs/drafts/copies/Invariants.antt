-- the copies and what is left are the entries
use Rattle.std.proofs.Common.{◌≡◌, ◌++◌, length}
use Rattle.node_state.proofs.drafts.copies.Given as goal

abbrev pub invariant-entries : goal.invariant-entries
invariant-entries l = l.copies.items ++ l.rest ≡ l.entries

abbrev pub decreases-entries : goal.decreases-entries
decreases-entries l = length l.rest
