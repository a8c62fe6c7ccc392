use Rattle.election_core.specs.Senders.{sender_of}
use Rattle.node_state.specs.Nodes.{held}
use Rattle.node_state.proofs.ActionLaws.{lead_follows, lead_acts, lead_sends}
use Rattle.node_state.proofs.CallLaws.{ok_three}
use Rattle.node_state.proofs.NumberLaws.{lead_above, lead_numbers, lead_up}
use Rattle.node_state.proofs.bodies.Body.lead.Goals as goal

pub leads-requires-clause-up : goal.leads-requires-clause-up
leads-requires-clause-up g c = lead_up c.args.self.now.vote c.args.message.now c.args.action c.args.generation c.requires.is c.requires.decided

pub leads-requires-clause-above : goal.leads-requires-clause-above
leads-requires-clause-above g c = lead_above c.args.self.now.vote c.args.message.now c.args.action c.args.generation c.requires.is c.requires.decided

pub leads-requires-clause-follows : goal.leads-requires-clause-follows
leads-requires-clause-follows g c = lead_follows g.J.Plan.setting (held c.args.self.now.vote c.args.self.now.log.entries c.args.self.now.actor) c.args.vote c.args.message.now c.args.entries.now c.args.action c.args.generation c.requires.own c.requires.packet c.requires.is c.requires.decided c.requires.vote

pub leads-requires-clause-numbers : goal.leads-requires-clause-numbers
leads-requires-clause-numbers g c = lead_numbers c.args.self.now.vote c.args.vote c.args.message.now c.args.action c.args.generation c.requires.is c.requires.decided c.requires.vote

pub returns-clause-acts : goal.returns-clause-acts
returns-clause-acts g c =
    ok_three c.leads.result (λ d v l. lead_acts (held c.args.self.now.vote c.args.self.now.log.entries c.args.self.now.actor) (held c.leads.new.self.vote c.leads.new.self.log.entries c.leads.new.self.actor) c.args.vote c.args.message.now c.args.entries.now c.args.action c.args.generation c.requires.is c.requires.vote d v l)
    c.leads.ensures.did c.leads.ensures.vote c.leads.ensures.entries

pub returns-clause-sends : goal.returns-clause-sends
returns-clause-sends g c =
    ok_three c.leads.result (λ v l d. lead_sends g.J.Plan.setting (held c.args.self.now.vote c.args.self.now.log.entries c.args.self.now.actor) (held c.leads.new.self.vote c.leads.new.self.log.entries c.leads.new.self.actor) c.args.vote c.args.message.now c.args.entries.now c.args.action c.args.generation (sender_of c.args.message.now) c.requires.own c.leads.ensures.own c.requires.packet c.requires.is c.requires.decided c.requires.vote v l d)
    c.leads.ensures.vote c.leads.ensures.entries c.leads.ensures.adds
