use Rattle.std.proofs.Common.{◌-◌}
use Rattle.node_state.specs.Nodes.{held}
use Rattle.node_state.specs.Packets.{shipped_length}
use Rattle.node_state.specs.Stores.{IsCalm, IsKeptBy}
use Rattle.node_state.proofs.TakeLaws.{HasTaken}
use Rattle.node_state.proofs.bodies.Body.take_rest.Given as goal

abbrev pub invariant-taking : goal.invariant-taking
invariant-taking g l =
    HasTaken g.J.Plan.setting l.message l.entries (held l.fn.self.vote l.fn.self.log.entries l.fn.self.actor) (held l.self.vote l.self.log.entries l.self.actor)
    × IsKeptBy l.self.vote l.self.log
    × IsCalm l.fn.self.log l.self.log

abbrev pub decreases-taking : goal.decreases-taking
decreases-taking g l = shipped_length l.message - l.self.vote.length
