use Rattle.std.proofs.Common.{rules, ◌≡◌, ◌++◌, ◌∷◌, [], refl, sym, ◌∙◌}
use Rattle.node_state.specs.Nodes.{events_of}
use Rattle.node_state.specs.Ships.{learned_by}
use Rattle.node_state.proofs.LearnedLaws.{learned_last}
use Rattle.node_state.proofs.ships.has_learned.Goals as goal

pub returns-in-Some-told_by : goal.returns-in-Some-told_by
returns-in-Some-told_by c =
    let is : c.steps.rest.now ≡ c.in-Some.before.now ++ c.in-Some.field-0-0.now ∷ [] = search rules in
    sym (c.in-Some-told_by.ensures.some (learned_by (events_of c.in-Some.before.now))) ∙ (sym (learned_last c.steps.rest.now c.in-Some.before.now c.in-Some.field-0-0.now is) ∙ c.steps.invariant)

pub steps-preserved : goal.steps-preserved
steps-preserved c =
    let is : c.steps.rest.now ≡ c.in-Some.before.now ++ c.in-Some.field-0-0.now ∷ [] = search rules in
    sym (c.in_default-told_by.ensures.none refl (learned_by (events_of c.in-Some.before.now))) ∙ (sym (learned_last c.steps.rest.now c.in-Some.before.now c.in-Some.field-0-0.now is) ∙ c.steps.invariant)
