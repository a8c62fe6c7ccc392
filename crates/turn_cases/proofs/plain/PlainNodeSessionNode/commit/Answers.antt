use Rattle.turn_cases.proofs.KeptLemmas.{pushed_grows}
use Rattle.turn_cases.proofs.plain.PlainNodeSessionNode.commit.Goals as goal

pub returns-in_ok-push-in-Enters-clause-grows : goal.returns-in_ok-push-in-Enters-clause-grows
returns-in_ok-push-in-Enters-clause-grows c =
    pushed_grows c.args.self.now.schema c.args.self.now.entries c.push.new.self c.in-Enters.entry c.in_ok-push-in-Enters.ensures.ok c.requires.takes.0
