use Rattle.election_core.specs.Senders.{sender_of}
use Rattle.node_state.specs.Nodes.{held}
use Rattle.node_state.proofs.ActionLaws.{grant_follows, grant_acts, grant_sends}
use Rattle.node_state.proofs.CallLaws.{ok_three, ok_two}
use Rattle.node_state.proofs.NumberLaws.{grant_above, grant_numbers, grant_up}
use Rattle.node_state.proofs.bodies.Body.grant.Goals as goal

pub promises-requires-clause-up : goal.promises-requires-clause-up
promises-requires-clause-up g c = grant_up c.args.self.now.vote c.args.message.now c.args.action c.args.generation c.args.to c.requires.is c.requires.decided

pub promises-requires-clause-above : goal.promises-requires-clause-above
promises-requires-clause-above g c = grant_above c.args.self.now.vote c.args.message.now c.args.action c.args.generation c.args.to c.requires.is c.requires.decided

pub promises-requires-clause-follows : goal.promises-requires-clause-follows
promises-requires-clause-follows g c = grant_follows g.J.Plan.setting (held c.args.self.now.vote c.args.self.now.log.entries c.args.self.now.actor) c.args.vote c.args.message.now c.args.entries.now c.args.action c.args.generation c.args.to c.requires.own c.requires.packet c.requires.is c.requires.decided c.requires.vote

pub promises-requires-clause-numbers : goal.promises-requires-clause-numbers
promises-requires-clause-numbers g c = grant_numbers c.args.self.now.vote c.args.vote c.args.message.now c.args.action c.args.generation c.args.to c.requires.is c.requires.decided c.requires.vote

pub returns-clause-acts : goal.returns-clause-acts
returns-clause-acts g c =
    ok_three c.promises.result (λ d v l. grant_acts (held c.args.self.now.vote c.args.self.now.log.entries c.args.self.now.actor) (held c.promises.new.self.vote c.promises.new.self.log.entries c.promises.new.self.actor) c.args.vote c.args.message.now c.args.entries.now c.args.action c.args.generation c.args.to c.requires.is c.requires.vote d v l)
    c.promises.ensures.did c.promises.ensures.vote c.promises.ensures.entries

pub returns-clause-sends : goal.returns-clause-sends
returns-clause-sends g c =
    ok_two c.promises.result (λ v d. grant_sends g.J.Plan.setting (held c.args.self.now.vote c.args.self.now.log.entries c.args.self.now.actor) (held c.promises.new.self.vote c.promises.new.self.log.entries c.promises.new.self.actor) c.args.vote c.args.message.now c.args.entries.now c.args.action c.args.generation c.args.to (sender_of c.args.message.now) c.requires.own c.promises.ensures.own c.requires.packet c.requires.is c.requires.decided c.requires.vote v d)
    c.promises.ensures.vote c.promises.ensures.adds
