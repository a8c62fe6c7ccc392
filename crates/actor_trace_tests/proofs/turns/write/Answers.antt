use Rattle.std.proofs.Common.{◌≡◌, true, sym, subst, ◌∙◌}
use Rattle.std.specs.List.{AllPass}
use Rattle.actor_trace_tests.specs.Entries.{is_below}
use Rattle.actor_trace_tests.specs.Ledger.{gives}
use Rattle.actor_trace_tests.proofs.Passing.{gives_begins, has_turn}
use Rattle.actor_trace_tests.proofs.turns.write.Goals as goal

pub step-requires-clause-enabled : goal.step-requires-clause-enabled
step-requires-clause-enabled g c =
    let same : c.args.turn.to ≡ c.meet.new.self.number = c.requires.turn ∙ sym c.meet.ensures.same.0 in
    let told : gives c.args.turn.value c.args.turn.to c.meet.new.self.seen ≡ true = gives_begins _ _ c.args.turn.value c.args.turn.to c.meet.ensures.note c.args.turn.given in
    has_turn c.meet.new.self.seen c.args.turn.value c.meet.new.self.number c.meet.ensures.legal
    (subst (λ k. gives c.args.turn.value k c.meet.new.self.seen ≡ true) same told)
    (subst (λ es. AllPass (λ x. is_below c.args.turn.value x.1) es) (sym c.meet.ensures.same.1 ∙ c.knows.ensures.own) c.requires.unused)
