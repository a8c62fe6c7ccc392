use Rattle.std.proofs.Common.{◌≡◌, [], Err, ap, ◌∙◌}
use Rattle.node_log.specs.Logged.{Logged}
use Rattle.node_opening.proofs.StandLemmas.{HasStood, has_stood, is_none, left_before, left_standing, left_stood, left_begun}
use Rattle.node_opening.proofs.stands.begin.Goals as goal

pub returns-in-Err-StoreFault-clause-left : goal.returns-in-Err-StoreFault-clause-left
returns-in-Err-StoreFault-clause-left g c =
    left_standing c.args.log.now c.args.schema.now c.stand.new.self.store
    (c.in-Err-StoreFault.ensures.left (ap Err c.in-Err-StoreFault.field-0-is))

pub returns-in-Err-NoMemory-clause-left : goal.returns-in-Err-NoMemory-clause-left
returns-in-Err-NoMemory-clause-left g c =
    left_before c.args.log.now c.args.schema.now c.stand.new.self.store
    (ap (λ (l : Logged). l.store) (c.in-Err-NoMemory.ensures.unchanged (ap Err c.in-Err-NoMemory.field-0-is)))
    (c.log.ensures.settled c.requires.running) (c.log.ensures.stands c.requires.running)

pub returns-in-Err-StoreFault-append_setup-clause-left : goal.returns-in-Err-StoreFault-append_setup-clause-left
returns-in-Err-StoreFault-append_setup-clause-left g c =
    let none : c.stand.new.self.entries ≡ [] =
    is_none c.entries.result.now c.stand.new.self.entries c.is_empty.result c.is_empty.ensures c.if-not-is_empty.false
    (c.entries.ensures ∙ c.log-2.ensures.entries) in
    left_begun c.args.log.now c.stand.new.self c.args.schema.now c.append_setup.new.log.store
    (has_stood c.args.log.now c.stand.new.self c.in-Ok.field-0 c.in-Ok.ensures.stood c.in-Ok.ensures.generation) none
    (c.in-Err-StoreFault-append_setup.ensures.left (ap Err c.in-Err-StoreFault-append_setup.field-0-is))

pub returns-in-Err-NoMemory-append_setup-clause-left : goal.returns-in-Err-NoMemory-append_setup-clause-left
returns-in-Err-NoMemory-append_setup-clause-left g c =
    let stood : HasStood c.args.log.now c.stand.new.self =
    has_stood c.args.log.now c.stand.new.self c.in-Ok.field-0 c.in-Ok.ensures.stood c.in-Ok.ensures.generation in
    left_stood c.args.log.now c.stand.new.self c.args.schema.now c.append_setup.new.log.store stood
    (ap (λ (l : Logged). l.store) (c.in-Err-NoMemory-append_setup.ensures.unchanged (ap Err c.in-Err-NoMemory-append_setup.field-0-is)))
    (c.log-2.ensures.settled (stood.failed ∙ c.requires.running)) (c.log-2.ensures.stands (stood.failed ∙ c.requires.running))
