use Rattle.std.proofs.Common.{refl, sym, subst}
use Rattle.std.proofs.lemmas.Result.{IfOk-weaker}
use Rattle.std.specs.Option.{IsNone}
use Rattle.std.specs.Prelude.{Option}
use Rattle.election_core.specs.declared.votes.NodeVote.{NodeVote}
use Rattle.phys_log.specs.declared.requests.Decision.{Decision}
use Rattle.node_state.specs.Stores.{held_of}
use Rattle.node_commits.specs.Asked.{LeadsIn, ground_of}
use Rattle.node_commits.specs.Commits.{IsAnswered, IsGiven}
use Rattle.node_commits.proofs.GivenLaws.{answered, to_answer}
use Rattle.node_commits.proofs.ledgers.Ledger.commit.Goals as goal

pub answer-requires : goal.answer-requires
answer-requires g c = λ κs lives. (
  lives.0,
  (
    lives.1.0,
    (
      lives.1.1,
      to_answer g.J.Plan.setting (held_of c.args.node.now) c.args.self.now g.sent c.args.request c.args.generation c.requires.1.1.1.0 c.requires.1.1.1.1.0 leads c.requires.1.1.1.1.1.0 (c.requires.1.1.1.1.1.1 leads)
          (c.in_ok-decision.ensures.none (subst (λ (o : Option Decision). IsNone o) (sym c.in-None.is) refl)),
    ),
  ),
)
  where
    leads : LeadsIn c.args.node.now.vote c.args.generation
    leads = subst (λ (v : NodeVote). LeadsIn v c.args.generation) c.vote.ensures (c.leads_in.ensures.0 c.if-not-leads_in.false)

pub returns-in-None-clause-answered : goal.returns-in-None-clause-answered
returns-in-None-clause-answered g c =
    let footing = ground_of g.J.Plan.setting c.args.node.now.actor.seen c.args.node.now.vote.node g.sent in
    IfOk-weaker c.answer.result
    (λ s. IsGiven footing c.args.request s c.args.self.now c.answer.new.self (held_of c.args.node.now) (held_of c.answer.new.node))
    (λ s. IsAnswered footing c.args.request c.args.generation s c.args.self.now c.answer.new.self (held_of c.args.node.now) (held_of c.answer.new.node))
    (answered footing c.args.request c.args.generation c.args.self.now c.answer.new.self (held_of c.args.node.now) (held_of c.answer.new.node) leads)
    c.answer.ensures.given
  where
    leads : LeadsIn c.args.node.now.vote c.args.generation
    leads = subst (λ (v : NodeVote). LeadsIn v c.args.generation) c.vote.ensures (c.leads_in.ensures.0 c.if-not-leads_in.false)
