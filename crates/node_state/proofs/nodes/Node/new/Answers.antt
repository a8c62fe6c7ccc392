use Rattle.node_state.proofs.NewLaws.{new_own, new_stored}
use Rattle.node_state.proofs.nodes.Node.new.Goals as goal

pub invariant_of-result : goal.invariant_of-result
invariant_of-result g c =
    let r = c.requires.run in
    let own = new_own g.J.Plan.setting c.args.node c.args.nodes c.args.actor c.requires.plan r.0 r.1 r.2 r.3 c.requires.actor.0 c.requires.actor.1 c.knows.ensures.own c.knows.ensures.legal in
    new_stored g.J.Plan.setting c.args.node c.args.nodes c.first_vote.result c.args.log c.args.actor _ c.requires.actor.0 c.requires.actor.1 c.knows.ensures.own c.first_vote.ensures c.requires.log.0 c.requires.log.1 own
