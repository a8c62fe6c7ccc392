use Rattle.node_state.specs.Nodes.{held}
use Rattle.node_state.proofs.KeepLaws.{falls_at_once, short_at_once}
use Rattle.node_state.proofs.bodies.Body.act.Goals as goal

pub returns-in-Promise-clause-short : goal.returns-in-Promise-clause-short
returns-in-Promise-clause-short g c = λ e.
    rw (c.grant.ensures.unchanged e) (short_at_once c.args.message.now c.args.entries.now (held c.args.self.now.vote c.args.self.now.log.entries c.args.self.now.actor) c.args.self.now.log)

pub returns-in-Promise-clause-falls : goal.returns-in-Promise-clause-falls
returns-in-Promise-clause-falls g c = λ e.
    falls_at_once g.J.Plan.setting c.args.message.now c.args.entries.now (held c.args.self.now.vote c.args.self.now.log.entries c.args.self.now.actor) (held c.grant.new.self.vote c.grant.new.self.log.entries c.grant.new.self.actor) c.args.self.now.log c.grant.new.self.log c.grant.new.self.under_way (c.grant.ensures.falls e)

pub returns-in-Lead-clause-short : goal.returns-in-Lead-clause-short
returns-in-Lead-clause-short g c = λ e.
    rw (c.lead.ensures.unchanged e) (short_at_once c.args.message.now c.args.entries.now (held c.args.self.now.vote c.args.self.now.log.entries c.args.self.now.actor) c.args.self.now.log)

pub returns-in-Lead-clause-falls : goal.returns-in-Lead-clause-falls
returns-in-Lead-clause-falls g c = λ e.
    falls_at_once g.J.Plan.setting c.args.message.now c.args.entries.now (held c.args.self.now.vote c.args.self.now.log.entries c.args.self.now.actor) (held c.lead.new.self.vote c.lead.new.self.log.entries c.lead.new.self.actor) c.args.self.now.log c.lead.new.self.log c.lead.new.self.under_way (c.lead.ensures.falls e)
