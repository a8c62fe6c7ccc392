use Rattle.std.proofs.Common.{refl, ◌∙◌}
use Rattle.election_core.specs.Senders.{sender_of}
use Rattle.node_state.specs.Nodes.{held}
use Rattle.node_state.proofs.CallLaws.{ok_three, ok_two}
use Rattle.node_state.proofs.NumberLaws.{take_promised, take_up, whole_numbers}
use Rattle.node_state.proofs.TakeLaws.{whole_follows, whole_acts, whole_sends}
use Rattle.node_state.proofs.bodies.Body.take_whole.Goals as goal

pub takes-requires-clause-up : goal.takes-requires-clause-up
takes-requires-clause-up g c = take_up c.args.self.now.vote c.args.message.now c.args.generation c.args.taken c.requires.allowed

pub takes-requires-clause-promised : goal.takes-requires-clause-promised
takes-requires-clause-promised g c = take_promised c.args.self.now.vote c.args.message.now c.args.generation c.args.taken c.requires.allowed

pub takes-requires-clause-follows : goal.takes-requires-clause-follows
takes-requires-clause-follows g c =
    whole_follows g.J.Plan.setting (held c.args.self.now.vote c.args.self.now.log.entries c.args.self.now.actor) c.args.vote c.in_ok-copies.copies.items c.args.message.now c.args.entries.now c.args.generation c.args.taken c.requires.own c.requires.packet c.requires.allowed c.requires.newer c.requires.joins c.in_ok-copies.ensures c.requires.vote

pub takes-requires-clause-numbers : goal.takes-requires-clause-numbers
takes-requires-clause-numbers g c = whole_numbers c.args.self.now.vote c.args.vote c.args.message.now c.args.generation c.args.taken c.requires.allowed c.requires.vote

pub returns-clause-acts : goal.returns-clause-acts
returns-clause-acts g c =
    ok_three c.takes.result (λ d v l. whole_acts g.J.Plan.setting (held c.args.self.now.vote c.args.self.now.log.entries c.args.self.now.actor) (held c.takes.new.self.vote c.takes.new.self.log.entries c.takes.new.self.actor) c.args.vote c.args.message.now c.args.entries.now c.args.generation c.args.taken c.requires.packet c.requires.allowed c.requires.newer c.requires.vote d v (l ∙ c.in_ok-copies.ensures))
    c.takes.ensures.did c.takes.ensures.vote c.takes.ensures.entries

pub returns-clause-sends : goal.returns-clause-sends
returns-clause-sends g c =
    ok_two c.takes.result (λ v d. whole_sends g.J.Plan.setting (held c.args.self.now.vote c.args.self.now.log.entries c.args.self.now.actor) (held c.takes.new.self.vote c.takes.new.self.log.entries c.takes.new.self.actor) c.args.vote c.args.message.now c.args.entries.now c.args.generation c.args.taken (sender_of c.args.message.now) c.requires.own c.takes.ensures.own c.requires.packet c.requires.allowed refl c.requires.newer c.requires.vote v d)
    c.takes.ensures.vote c.takes.ensures.adds
