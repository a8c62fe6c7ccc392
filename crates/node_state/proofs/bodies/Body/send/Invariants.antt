use Rattle.std.proofs.Common.{◌≡◌, ◌≤◌, ◌+◌, ◌++◌, length, vec_len, vec_capacity}
use Rattle.node_state.specs.Calls.{IsAsBefore}
use Rattle.node_state.specs.Nodes.{IsOwn, held}
use Rattle.node_state.specs.Packets.{AreSent}
use Rattle.node_state.proofs.bodies.Body.send.Given as goal

abbrev pub invariant-sending : goal.invariant-sending
invariant-sending g l =
    IsOwn g.J.Plan.setting (held l.self.vote l.self.log.entries l.self.actor) × AreSent g.J.Plan.setting l.self.actor.seen l.draft-iterator.rest.items
    × IsAsBefore (held l.fn.self.vote l.fn.self.log.entries l.fn.self.actor) (held l.self.vote l.self.log.entries l.self.actor)
    × (l.packets.items ++ l.draft-iterator.rest.items ≡ l.fn.packets.items ++ l.fn.drafts.items)
    × (vec_len l.packets + length l.draft-iterator.rest.items ≤ vec_capacity l.packets)
    × (l.self.log ≡ l.fn.self.log)
    × (l.self.under_way ≡ l.fn.self.under_way)
