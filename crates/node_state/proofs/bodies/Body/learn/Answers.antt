use Rattle.election_core.specs.Senders.{sender_of}
use Rattle.node_state.specs.Nodes.{held}
use Rattle.node_state.proofs.ActionLaws.{learn_follows, learn_acts, learn_sends}
use Rattle.node_state.proofs.NumberLaws.{kept_known}
use Rattle.node_state.proofs.bodies.Body.learn.Goals as goal

pub happens-requires-clause-follows : goal.happens-requires-clause-follows
happens-requires-clause-follows g c = learn_follows g.J.Plan.setting (held c.args.self.now.vote c.args.self.now.log.entries c.args.self.now.actor) c.args.vote c.args.message.now c.args.entries.now c.args.action c.args.durable c.requires.own c.requires.packet c.requires.is c.requires.decided c.requires.vote

pub returns-clause-acts : goal.returns-clause-acts
returns-clause-acts g c = learn_acts (held c.args.self.now.vote c.args.self.now.log.entries c.args.self.now.actor) (held c.happens.new.self.vote c.happens.new.self.log.entries c.happens.new.self.actor) c.args.vote c.args.message.now c.args.entries.now c.args.action c.args.durable c.requires.is c.requires.vote c.happens.ensures.did c.happens.ensures.vote c.happens.ensures.entries

pub returns-clause-sends : goal.returns-clause-sends
returns-clause-sends g c = learn_sends g.J.Plan.setting (held c.args.self.now.vote c.args.self.now.log.entries c.args.self.now.actor) (held c.happens.new.self.vote c.happens.new.self.log.entries c.happens.new.self.actor) c.args.vote c.args.message.now c.args.entries.now c.args.action c.args.durable (sender_of c.args.message.now) c.requires.own c.happens.ensures.own c.requires.packet c.requires.is c.requires.decided c.requires.vote c.happens.ensures.vote c.happens.ensures.adds

pub returns-clause-kept : goal.returns-clause-kept
returns-clause-kept g c = kept_known c.args.self.now.vote c.args.vote c.happens.new.self.vote c.args.message.now c.args.action c.args.durable c.args.self.now.log c.happens.new.self.log c.requires.is c.requires.vote c.happens.ensures.vote c.happens.ensures.log c.requires.kept
