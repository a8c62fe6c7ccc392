use Rattle.std.proofs.Common.{◌≡◌}
use Rattle.node_state.specs.Packets.{others}
use Rattle.node_state.proofs.drafts.to_others.Given as goal

abbrev pub invariant-loop-k : goal.invariant-loop-k
invariant-loop-k l = l.out.items ≡ others l.k l.node l.message l.entries
