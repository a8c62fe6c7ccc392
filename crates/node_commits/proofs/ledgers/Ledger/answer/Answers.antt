use Rattle.std.proofs.Common.{Some, List, sym, ap, subst, ◌∙◌}
use Rattle.std.proofs.lemmas.Result.{IfOk-weaker}
use Rattle.block_processor.specs.Decided.{Decides}
use Rattle.blkseq_table.specs.Known.{Known, IsAbsent}
use Rattle.blkseq_table.specs.OfLogs.{id_of}
use Rattle.phys_log.specs.declared.entries.CommitId.{CommitId}
use Rattle.phys_log.specs.declared.requests.Decision.{Decision}
use Rattle.phys_log.specs.declared.requests.Decision.TheVariants.{Commit}
use Rattle.node_state.specs.Commits.{MaySettle}
use Rattle.node_state.specs.Stores.{held_of}
use Rattle.node_commits.specs.Asked.{ground_of}
use Rattle.node_commits.specs.Commits.{DoesCommit, IsGiven}
use Rattle.node_commits.specs.Ledgers.{Book, IsUntold}
use Rattle.node_commits.proofs.CommitLaws.{can_be_decided, may_enter, may_settle}
use Rattle.node_commits.proofs.GivenLaws.{given, tells}
use Rattle.node_commits.proofs.LedgerLaws.{new_absent}
use Rattle.node_commits.proofs.ledgers.Ledger.answer.Goals as goal

pub decided-requires : goal.decided-requires
decided-requires g c = λ κs lives. (
  lives.0,
  (
    lives.1.0,
    (
      lives.1.1,
      (
        can_be_decided {h = held_of c.args.node.now} {b = c.args.self.now} (record { own = c.knows.ensures.own; made = c.knows.ensures.made; is = c.requires.1.1.1 }),
        ap (λ (b : Book). b.known) c.self.view_is ∙ c.requires.1.1.1.book.known,
      ),
    ),
  ),
)

pub answer_by_entry-requires-clause-may : goal.answer_by_entry-requires-clause-may
answer_by_entry-requires-clause-may g c =
    may_enter {h = held_of c.args.node.now} {b = c.args.self.now} c.in-Commit.entry (record { own = c.knows.ensures.own; made = c.knows.ensures.made; is = c.requires.1.1.1 })
    (subst (λ (d : Decision). Decides (ground_of g.J.Plan.setting c.args.node.now.actor.seen c.args.node.now.vote.node g.sent) c.args.request c.args.node.now.entries c.args.node.now.vote.accepted d) c.in-Commit.is c.in_ok-decision.ensures)

pub answer_by_entry-requires-clause-fits : goal.answer_by_entry-requires-clause-fits
answer_by_entry-requires-clause-fits g c =
    let next = subst (λ (d : Decision). Decides (ground_of g.J.Plan.setting c.args.node.now.actor.seen c.args.node.now.vote.node g.sent) c.args.request c.args.node.now.entries c.args.node.now.vote.accepted d) c.in-Commit.is c.in_ok-decision.ensures in
    next.fits

pub answer_by_entry-requires-clause-its : goal.answer_by_entry-requires-clause-its
answer_by_entry-requires-clause-its g c =
    let next = subst (λ (d : Decision). Decides (ground_of g.J.Plan.setting c.args.node.now.actor.seen c.args.node.now.vote.node g.sent) c.args.request c.args.node.now.entries c.args.node.now.vote.accepted d) c.in-Commit.is c.in_ok-decision.ensures in
    ap id_of next.made ∙ ap (λ (i : CommitId). Some i) (sym c.in_ok-id.ensures)

pub answer_by_entry-requires-clause-absent : goal.answer_by_entry-requires-clause-absent
answer_by_entry-requires-clause-absent g c =
    let next = subst (λ (d : Decision). Decides (ground_of g.J.Plan.setting c.args.node.now.actor.seen c.args.node.now.vote.node g.sent) c.args.request c.args.node.now.entries c.args.node.now.vote.accepted d) c.in-Commit.is c.in_ok-decision.ensures in
    subst (λ (i : CommitId). IsAbsent c.args.self.now.known i) (sym c.in_ok-id.ensures)
    (subst (λ (ks : List Known). IsAbsent ks c.args.request.id) (sym c.requires.1.1.1.book.known) (new_absent c.args.node.now.entries c.args.request next.fresh))

pub returns-in-Commit-clause-given : goal.returns-in-Commit-clause-given
returns-in-Commit-clause-given g c =
    let footing = ground_of g.J.Plan.setting c.args.node.now.actor.seen c.args.node.now.vote.node g.sent in
    IfOk-weaker c.answer_by_entry.result
    (λ s. DoesCommit c.in_ok-id.id (Commit c.in-Commit.entry) s c.args.self.now c.answer_by_entry.new.self (held_of c.args.node.now) (held_of c.answer_by_entry.new.node))
    (λ s. IsGiven footing c.args.request s c.args.self.now c.answer_by_entry.new.self (held_of c.args.node.now) (held_of c.answer_by_entry.new.node))
    (given footing c.args.request c.in_ok-id.id (Commit c.in-Commit.entry) c.args.self.now c.answer_by_entry.new.self (held_of c.args.node.now) (held_of c.answer_by_entry.new.node) c.in_ok-id.ensures c.requires.1.1.1.untold
    (subst (λ (d : Decision). Decides footing c.args.request c.args.node.now.entries c.args.node.now.vote.accepted d) c.in-Commit.is c.in_ok-decision.ensures))
    c.answer_by_entry.ensures.does

pub answer_by_telling-requires-clause-untold : goal.answer_by_telling-requires-clause-untold
answer_by_telling-requires-clause-untold g c = subst (λ (i : CommitId). IsUntold c.args.self.now.told i) (sym c.in_ok-id.ensures) c.requires.1.1.1.untold

pub answer_by_telling-requires-clause-telling : goal.answer_by_telling-requires-clause-telling
answer_by_telling-requires-clause-telling g c = tells c.in_ok-decision.decision c.in_default.not-Commit

pub answer_by_telling-requires-clause-may : goal.answer_by_telling-requires-clause-may
answer_by_telling-requires-clause-may g c =
    subst (λ (i : CommitId). MaySettle g.J.Plan.setting c.args.node.now.actor.seen c.args.node.now.vote.node i c.in_ok-decision.decision) (sym c.in_ok-id.ensures)
    (may_settle {h = held_of c.args.node.now} {b = c.args.self.now} c.in_ok-decision.decision (record { own = c.knows.ensures.own; made = c.knows.ensures.made; is = c.requires.1.1.1 }) c.in_ok-decision.ensures (tells c.in_ok-decision.decision c.in_default.not-Commit))

pub returns-in_default-clause-given : goal.returns-in_default-clause-given
returns-in_default-clause-given g c =
    let footing = ground_of g.J.Plan.setting c.args.node.now.actor.seen c.args.node.now.vote.node g.sent in
    IfOk-weaker c.answer_by_telling.result
    (λ s. DoesCommit c.in_ok-id.id c.in_ok-decision.decision s c.args.self.now c.answer_by_telling.new.self (held_of c.args.node.now) (held_of c.answer_by_telling.new.node))
    (λ s. IsGiven footing c.args.request s c.args.self.now c.answer_by_telling.new.self (held_of c.args.node.now) (held_of c.answer_by_telling.new.node))
    (given footing c.args.request c.in_ok-id.id c.in_ok-decision.decision c.args.self.now c.answer_by_telling.new.self (held_of c.args.node.now) (held_of c.answer_by_telling.new.node) c.in_ok-id.ensures c.requires.1.1.1.untold c.in_ok-decision.ensures)
    c.answer_by_telling.ensures.does
