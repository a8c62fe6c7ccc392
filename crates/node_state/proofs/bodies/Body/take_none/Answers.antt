use Rattle.std.proofs.Common.{refl}
use Rattle.election_core.specs.Senders.{sender_of}
use Rattle.node_state.specs.Nodes.{held}
use Rattle.node_state.proofs.TakeLaws.{none_follows, none_acts, none_sends}
use Rattle.node_state.proofs.NumberLaws.{kept_again}
use Rattle.node_state.proofs.bodies.Body.take_none.Goals as goal

pub happens-requires-clause-follows : goal.happens-requires-clause-follows
happens-requires-clause-follows g c = none_follows g.J.Plan.setting (held c.args.self.now.vote c.args.self.now.log.entries c.args.self.now.actor) c.args.vote c.args.message.now c.args.entries.now c.args.generation c.args.taken c.requires.own c.requires.packet c.requires.allowed c.requires.same c.requires.whole c.requires.vote

pub returns-clause-acts : goal.returns-clause-acts
returns-clause-acts g c = none_acts g.J.Plan.setting (held c.args.self.now.vote c.args.self.now.log.entries c.args.self.now.actor) (held c.happens.new.self.vote c.happens.new.self.log.entries c.happens.new.self.actor) c.args.vote c.args.message.now c.args.entries.now c.args.generation c.args.taken c.requires.packet c.requires.allowed c.requires.same c.requires.whole c.requires.vote c.happens.ensures.did c.happens.ensures.vote c.happens.ensures.entries

pub returns-clause-sends : goal.returns-clause-sends
returns-clause-sends g c = none_sends g.J.Plan.setting (held c.args.self.now.vote c.args.self.now.log.entries c.args.self.now.actor) (held c.happens.new.self.vote c.happens.new.self.log.entries c.happens.new.self.actor) c.args.vote c.args.message.now c.args.entries.now c.args.generation c.args.taken (sender_of c.args.message.now) c.requires.own c.happens.ensures.own c.requires.packet c.requires.allowed refl c.requires.whole c.requires.vote c.happens.ensures.vote c.happens.ensures.adds

pub returns-clause-kept : goal.returns-clause-kept
returns-clause-kept g c = kept_again g.J.Plan.setting c.args.self.now.vote c.args.vote c.happens.new.self.vote c.args.self.now.log.entries c.args.self.now.actor.seen c.args.message.now c.args.generation c.args.taken c.args.self.now.log c.happens.new.self.log c.requires.own.node c.requires.allowed c.requires.same c.requires.vote c.happens.ensures.vote c.happens.ensures.log c.requires.kept
