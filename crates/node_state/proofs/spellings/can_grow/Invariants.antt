use Rattle.std.proofs.Common.{[], length}
use Rattle.frame_code.specs.Spelled.{Grow}
use Rattle.node_state.proofs.spellings.can_grow.Given as goal

abbrev pub invariant-tables : goal.invariant-tables
invariant-tables l = Grow l.schema l.rest → Grow [] l.tables

abbrev pub decreases-tables : goal.decreases-tables
decreases-tables l = length l.rest
