use Rattle.election_core.specs.Senders.{sender_of}
use Rattle.node_state.specs.Nodes.{held}
use Rattle.node_state.proofs.ActionLaws.{keep_own, keep_acts, keep_sends}
use Rattle.node_state.proofs.NumberLaws.{kept_nothing}
use Rattle.node_state.proofs.bodies.Body.keep.Goals as goal

pub returns-clause-own : goal.returns-clause-own
returns-clause-own g c = keep_own g.J.Plan.setting (held c.args.self.now.vote c.args.self.now.log.entries c.args.self.now.actor) c.args.vote c.args.message.now c.args.entries.now c.args.action c.requires.own c.requires.packet c.requires.nothing c.requires.vote

pub returns-clause-acts : goal.returns-clause-acts
returns-clause-acts g c = keep_acts (held c.args.self.now.vote c.args.self.now.log.entries c.args.self.now.actor) c.args.vote c.args.message.now c.args.entries.now c.args.action c.requires.nothing c.requires.vote

pub returns-clause-sends : goal.returns-clause-sends
returns-clause-sends g c = keep_sends g.J.Plan.setting c.args.vote c.args.message.now c.args.self.now.log.entries c.args.self.now.actor.seen c.args.action (sender_of c.args.message.now) c.requires.nothing

pub returns-clause-kept : goal.returns-clause-kept
returns-clause-kept g c = kept_nothing c.args.self.now.vote c.args.vote c.args.message.now c.args.action c.args.self.now.log c.requires.nothing c.requires.vote c.requires.kept
