-- The log goes on with the entry that was decided on, which brings the identity of the request.
use Rattle.std.proofs.Common.{◌≡◌, ◌+◌, List, length, sym, subst}
use Rattle.blkseq_table.proofs.LogLemmas.{of_below}
use Rattle.blkseq_table.specs.Known.{Known, IsAbsent, AreBelow}
use Rattle.blkseq_table.specs.OfLogs.{identities_of}
use Rattle.phys_log.specs.declared.entries.CommitId.{CommitId}
use Rattle.log_tests.proofs.BegunLemmas.{follows, longer}
use Rattle.log_tests.specs.Begun.{GoesOnWith}
use Rattle.log_tests.proofs.begun.commit.Goals as goal

pub append-requires-clause-fresh : goal.append-requires-clause-fresh
append-requires-clause-fresh c =
    let goes : GoesOnWith c.args.schema.now c.args.log.now c.args.request.id c.in-Commit.entry = rw c.in-Commit.is at c.in_ok-entry.ensures in
    let same : c.in_ok-id.id ≡ c.args.request.id = c.in_ok-id.ensures in
    subst (λ (k : List Known). IsAbsent k c.in_ok-id.id) (sym c.requires.known)
    (subst (λ (i : CommitId). IsAbsent (identities_of c.args.log.now) i) (sym same) goes.fresh)

pub append-requires-clause-below : goal.append-requires-clause-below
append-requires-clause-below c = subst (λ (k : List Known). AreBelow k (length c.args.log.now + 1)) (sym c.requires.known) (of_below c.args.log.now)

pub returns-in-Commit-clause-known : goal.returns-in-Commit-clause-known
returns-in-Commit-clause-known c =
    let same : c.in_ok-id.id ≡ c.args.request.id = c.in_ok-id.ensures in
    let goes : GoesOnWith c.args.schema.now c.args.log.now c.args.request.id c.in-Commit.entry = rw c.in-Commit.is at c.in_ok-entry.ensures in
    follows c.append.result c.args.schema.now c.args.log.now c.append.new.log c.in-Commit.entry c.args.known.now c.append.new.known c.in_ok-id.id
    (subst (λ (i : CommitId). GoesOnWith c.args.schema.now c.args.log.now i c.in-Commit.entry) (sym same) goes) c.requires.known c.append.ensures.log c.append.ensures.known

pub returns-in-Commit-clause-longer : goal.returns-in-Commit-clause-longer
returns-in-Commit-clause-longer c = longer c.append.result c.args.log.now c.append.new.log c.in-Commit.entry c.append.ensures.log
