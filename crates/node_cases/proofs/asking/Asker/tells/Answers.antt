use Rattle.std.proofs.Common.{sym, subst}
use Rattle.node_cases.specs.Seats.{WereUp}
use Rattle.node_cases.proofs.AskLaws.{asker_rests}
use Rattle.node_cases.proofs.asking.Asker.tells.Goals as goal

pub invariant_of-self : goal.invariant_of-self
invariant_of-self g c = asker_rests g.J.Plan.setting c.self.inside.actor c.note.new.self c.self.invariant c.note.ensures.same.0 c.note.ensures.more

pub returns : goal.returns
returns g c =
    subst (λ t. WereUp g.J.Plan.setting t) (sym c.note.ensures.note)
    (asker_rests g.J.Plan.setting c.self.inside.actor c.note.new.self c.self.invariant c.note.ensures.same.0 c.note.ensures.more).saw
