use Rattle.std.proofs.Common.{ℕ, ◌≤◌, sym, subst}
use Rattle.election_core.specs.Allowed.{MayLearn, AllowsExactly, IsMost}
use Rattle.election_core.specs.declared.messages.Message.TheVariants.{Ack}
use Rattle.election_core.proofs.Refusals.{no_learn}
use Rattle.election_core.proofs.decisions.on_ack.Goals as goal

pub returns-in-Some-clause-event : goal.returns-in-Some-clause-event
returns-in-Some-clause-event c =
    subst (λ a. AllowsExactly c.args.vote.now (Ack c.args.from c.args.generation c.args.length) a) (sym c.know.ensures.event)
    (subst (λ v. MayLearn v c.args.generation c.in-Some.best) c.count_length.ensures c.in-Some.ensures.some)

pub returns-in-Some-clause-greatest : goal.returns-in-Some-clause-greatest
returns-in-Some-clause-greatest c =
    subst (λ a. IsMost c.args.vote.now (Ack c.args.from c.args.generation c.args.length) a) (sym c.know.ensures.event)
    (subst (λ v. (e : ℕ) → MayLearn v c.args.generation e → e ≤ c.in-Some.best) c.count_length.ensures c.in-Some.ensures.greatest)

pub returns-in-None-clause-event : goal.returns-in-None-clause-event
returns-in-None-clause-event c =
    no_learn c.args.vote.now c.args.from c.args.generation c.args.length
    (subst (λ v. (e : ℕ) → MayLearn v c.args.generation e → ⊥) c.count_length.ensures c.in-None.ensures.none)
