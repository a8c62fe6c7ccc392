use Rattle.std.proofs.Common.{length, sym, ap, ◌∙◌}
use Rattle.cluster_events.specs.Parts.{field}
use Rattle.cluster_steps.specs.Named.{steps}
use Rattle.node_state.specs.Nodes.{held}
use Rattle.node_state.specs.Restarts.{woken_vote}
use Rattle.node_state.proofs.StartLaws.{kept_risen, may_read, risen}
use Rattle.node_state.proofs.WakeLaws.{wake_follows}
use Rattle.node_state.proofs.bodies.Body.rise.Goals as goal

pub happens-requires-clause-follows : goal.happens-requires-clause-follows
happens-requires-clause-follows g c =
    wake_follows g.J.Plan.setting c.args.self.now.vote c.woken_vote-vote.result c.requires.own.0 c.args.self.now.log.entries c.args.self.now.actor.seen c.args.how c.promised-promised.result c.accepted-accepted.result c.told-told.result c.requires.own.1.node c.requires.down
    (may_read g.J.Plan.setting (field (steps g.J.Plan.setting c.args.self.now.actor.seen)) c.args.self.now.vote.node c.args.how c.args.self.now.log c.promised-promised.result c.accepted-accepted.result c.told-told.result.value c.promised-promised.ensures c.accepted-accepted.ensures c.told-told.ensures c.requires.may)
    c.requires.told (c.woken_vote-vote.ensures ∙ ap (λ l. woken_vote c.args.self.now.vote c.promised-promised.result c.accepted-accepted.result l) (ap length (c.entries.ensures.entries ∙ sym c.told-told.ensures))) (sym c.told-told.ensures)

pub returns-clause-kept : goal.returns-clause-kept
returns-clause-kept g c = kept_risen c.args.self.now.vote c.happens.new.self.vote c.woken_vote-vote.result c.args.self.now.log c.happens.new.self.log c.promised-promised.result c.accepted-accepted.result (length c.entries.result.now) c.requires.opened.0 c.requires.opened.1 c.happens.ensures.vote c.woken_vote-vote.ensures c.promised-promised.ensures c.accepted-accepted.ensures c.happens.ensures.log

pub returns-clause-wakes : goal.returns-clause-wakes
returns-clause-wakes g c = λ was.
    risen c.args.how c.promised-promised.result c.accepted-accepted.result (length c.entries.result.now) c.told-told.result c.args.self.now.log c.args.self.now.vote c.woken_vote-vote.result was c.args.self.now.log.entries c.args.self.now.actor (held c.happens.new.self.vote c.happens.new.self.log.entries c.happens.new.self.actor) c.promised-promised.ensures c.accepted-accepted.ensures c.told-told.ensures (ap length c.entries.ensures.entries) c.happens.ensures.did c.happens.ensures.vote c.woken_vote-vote.ensures c.happens.ensures.entries
