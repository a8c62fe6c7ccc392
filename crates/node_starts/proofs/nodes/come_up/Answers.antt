use Rattle.node_starts.proofs.StepLaws.{told_first}
use Rattle.node_starts.proofs.nodes.come_up.Goals as goal

pub start_first-requires-clause-told : goal.start_first-requires-clause-told
start_first-requires-clause-told g c =
    told_first g.J.Plan.setting c.args.node.now c.args.node.now.vote.node c.args.log c.knows.ensures.own c.knows.ensures.made c.requires.new
