use Rattle.std.proofs.Common.{rules, ◌≡◌, ◌++◌, [], ap, ◌∙◌}
use Rattle.election_core.specs.Counted.{counted}
use Rattle.election_core.specs.Senders.{sender_of}
use Rattle.node_state.specs.Nodes.{held}
use Rattle.node_state.proofs.CallLaws.{answers_made, drafts_made}
use Rattle.node_state.proofs.bodies.Body.deliver.Goals as goal

pub returns-clause-delivers : goal.returns-clause-delivers
returns-clause-delivers g c =
    let m = c.args.message.now in
    let ds = c.in_ok-drafts.drafts.items in
    let made = drafts_made (counted c.args.self.now.vote m) c.judge-action.new.vote m c.judge-action.result c.whole_action-whole.result c.args.self.now.log.entries c.entries.result.now (sender_of m) c.sender.result ds
    c.judge-action.ensures.vote c.whole_action-whole.ensures c.entries.ensures.entries c.sender.ensures c.in_ok-drafts.ensures in
    let e : c.in_ok-packets.packets.items ≡ [] = search rules in
    answers_made m c.args.entries.now c.judge-action.result c.send.new.packets.items ds (held c.args.self.now.vote c.args.self.now.log.entries c.args.self.now.actor) (held c.act.new.self.vote c.act.new.self.log.entries c.act.new.self.actor) (held c.send.new.self.vote c.send.new.self.log.entries c.send.new.self.actor) c.judge-action.ensures.judged c.in_ok-act.ensures.acts c.send.ensures.same made
    (c.send.ensures.packets ∙ ap (λ x. x ++ ds) e)
