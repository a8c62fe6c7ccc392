use Rattle.std.proofs.Common.{◌≡◌, true, sym, subst}
use Rattle.actor_trace_tests.specs.Ledger.{gives}
use Rattle.actor_trace_tests.proofs.Passing.{gives_rests}
use Rattle.actor_trace_tests.proofs.turns.give.Goals as goal

pub invariant_of-result : goal.invariant_of-result
invariant_of-result g c =
    record { given = subst (λ h. gives c.args.value c.args.to h ≡ true) (sym c.note-note.ensures.note) (gives_rests _ _ _ c.args.value c.args.to c.note-note.ensures.more c.requires) }
