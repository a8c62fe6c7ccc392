use Rattle.node_starts.proofs.AdmitLaws.{admits_one}
use Rattle.node_starts.proofs.admits.admit.Goals as goal

pub returns : goal.returns
returns g c =
    admits_one g.J.Plan.setting c.args.node c.args.promised c.args.accepted c.step.result c.args.operator.now c.step.new.self c.requires.operator c.step.ensures.same.0 c.step.ensures.same.1
    c.step.ensures.made c.step.ensures.adds c.step.ensures.legal
