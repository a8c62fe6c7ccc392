use Rattle.node_cases.proofs.AskLaws.{asked_there, asker_asks, asker_rests, asker_same, may_ask}
use Rattle.node_cases.proofs.asking.Asker.ask.Goals as goal

pub step-ask-requires-clause-enabled : goal.step-ask-requires-clause-enabled
step-ask-requires-clause-enabled g c =
    may_ask g.J.Plan.setting c.reserve.new.self (asker_same g.J.Plan.setting c.self.inside.actor c.reserve.new.self c.self.invariant c.reserve.ensures.same.0 c.reserve.ensures.same.2) c.knows.ensures.legal

pub invariant_of-self : goal.invariant_of-self
invariant_of-self g c = asker_same g.J.Plan.setting c.self.inside.actor c.reserve.new.self c.self.invariant c.reserve.ensures.same.0 c.reserve.ensures.same.2

pub invariant_of-self-2 : goal.invariant_of-self-2
invariant_of-self-2 g c =
    let room = asker_same g.J.Plan.setting c.self.inside.actor c.reserve.new.self c.self.invariant c.reserve.ensures.same.0 c.reserve.ensures.same.2 in
    asker_rests g.J.Plan.setting c.step-ask.new.self c.note-note.new.self
    (asker_asks g.J.Plan.setting c.reserve.new.self c.step-ask.new.self room c.step-ask.ensures.same.0 c.step-ask.ensures.adds) c.note-note.ensures.same.0 c.note-note.ensures.more

pub returns : goal.returns
returns g c =
    asked_there g.J.Plan.setting c.reserve.new.self.number c.step-ask.new.self.number c.step-ask.result c.reserve.new.self.seen c.step-ask.new.self.seen c.note-note.new.self.seen c.note-note.result
    c.step-ask.ensures.adds c.step-ask.ensures.ticket c.note-note.ensures.more c.note-note.ensures.note
