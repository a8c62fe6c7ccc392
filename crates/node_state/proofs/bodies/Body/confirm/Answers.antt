use Rattle.election_core.specs.Senders.{sender_of}
use Rattle.node_state.specs.Nodes.{held}
use Rattle.node_state.specs.Packets.{ask_of, asked_in}
use Rattle.node_state.proofs.ActionLaws.{is_pong, confirm_follows, confirm_acts, confirm_sends}
use Rattle.node_state.proofs.NumberLaws.{kept_answered}
use Rattle.node_state.proofs.bodies.Body.confirm.Goals as goal

pub happens-requires-clause-follows : goal.happens-requires-clause-follows
happens-requires-clause-follows g c =
    let is = is_pong c.args.self.now.vote c.args.message.now c.args.answer c.args.action c.args.to c.requires.is c.requires.decided in
    rw (c.generation_asked-generation.ensures, c.ask_in-ask.ensures) (confirm_follows g.J.Plan.setting (held c.args.self.now.vote c.args.self.now.log.entries c.args.self.now.actor) c.args.vote c.args.message.now c.args.entries.now c.args.action (asked_in c.args.message.now) (ask_of c.args.message.now) c.args.to c.requires.own c.requires.packet is c.requires.decided c.requires.vote)

pub returns-clause-acts : goal.returns-clause-acts
returns-clause-acts g c =
    let is = is_pong c.args.self.now.vote c.args.message.now c.args.answer c.args.action c.args.to c.requires.is c.requires.decided in
    confirm_acts (held c.args.self.now.vote c.args.self.now.log.entries c.args.self.now.actor) (held c.happens.new.self.vote c.happens.new.self.log.entries c.happens.new.self.actor) c.args.vote c.args.message.now c.args.entries.now c.args.action (asked_in c.args.message.now) (ask_of c.args.message.now) c.args.to is c.requires.vote (rw (c.generation_asked-generation.ensures, c.ask_in-ask.ensures) at c.happens.ensures.did) c.happens.ensures.vote c.happens.ensures.entries

pub returns-clause-sends : goal.returns-clause-sends
returns-clause-sends g c =
    let is = is_pong c.args.self.now.vote c.args.message.now c.args.answer c.args.action c.args.to c.requires.is c.requires.decided in
    confirm_sends g.J.Plan.setting (held c.args.self.now.vote c.args.self.now.log.entries c.args.self.now.actor) (held c.happens.new.self.vote c.happens.new.self.log.entries c.happens.new.self.actor) c.args.vote c.args.message.now c.args.entries.now c.args.action (asked_in c.args.message.now) (ask_of c.args.message.now) c.args.to (sender_of c.args.message.now) c.requires.own c.happens.ensures.own c.requires.packet is c.requires.decided (rw (c.generation_asked-generation.ensures, c.ask_in-ask.ensures) at c.happens.ensures.adds)

pub returns-clause-kept : goal.returns-clause-kept
returns-clause-kept g c = kept_answered c.args.self.now.vote c.args.vote c.happens.new.self.vote c.args.message.now c.args.answer c.args.action c.args.to c.args.self.now.log c.happens.new.self.log c.requires.is c.requires.vote c.happens.ensures.vote c.happens.ensures.log c.requires.kept
