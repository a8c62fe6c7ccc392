use Rattle.std.proofs.Common.{◌≡◌, length, arith, sym, ◌∙◌}
use Rattle.node_cases.proofs.PlanLaws.{last_fresh, none_fresh}
use Rattle.node_cases.proofs.runs.last.Goals as goal

pub unreachable-requires : goal.unreachable-requires
unreachable-requires g c =
    let none : length c.args.actors.now.items ≡ 0 = omega (arith, c.args.actors.now.ok.0, c.in-None.ensures.cases.0) in
    none_fresh c.args.actors.now.items c.args.number c.requires none

pub returns-clause-rest : goal.returns-clause-rest
returns-clause-rest g c = (last_fresh c.pop.new.self.items c.in-Some.actor c.args.number (sym c.in-Some.ensures.items ∙ c.requires)).0

pub returns-clause-number : goal.returns-clause-number
returns-clause-number g c = (last_fresh c.pop.new.self.items c.in-Some.actor c.args.number (sym c.in-Some.ensures.items ∙ c.requires)).1

pub returns-clause-made : goal.returns-clause-made
returns-clause-made g c = (last_fresh c.pop.new.self.items c.in-Some.actor c.args.number (sym c.in-Some.ensures.items ∙ c.requires)).2
