use Rattle.std.proofs.Common.{true, false, List, length, subst, sym}
use Rattle.blkseq_table.specs.Known.{Known}
use Rattle.blkseq_table.specs.OfLogs.{identities_of, known_of}
use Rattle.node_commits.specs.Indexes.{IsPut}
use Rattle.node_commits.proofs.IndexLaws.{Indexing, comes_twice, indexing_more, indexing_none}
use Rattle.node_commits.proofs.indexes.index_of.Goals as goal

pub entries-init : goal.entries-init
entries-init c =
    subst (λ (known : List Known). Indexing (identities_of c.args.entries.now) known 1 c.args.entries.now (length c.args.entries.now)) (sym c.new-known.ensures)
    (indexing_none c.args.entries.now)

pub returns-then-not-is_new : goal.returns-then-not-is_new
returns-then-not-is_new c =
    let told : IsPut c.entries.known (known_of c.entries.position c.in-Some.entry.now) c.put_of.new.known false = rw c.if-not-is_new.true at c.in_ok-is_new.ensures in
    comes_twice (identities_of c.args.entries.now) c.entries.known c.put_of.new.known c.in-Some.entry.now c.entries.position c.entries.rest.now c.in-Some.others.now
    (length c.args.entries.now) c.in-Some.ensures.cases.0 told c.entries.invariant

pub entries-preserved : goal.entries-preserved
entries-preserved c =
    let told : IsPut c.entries.known (known_of c.entries.position c.in-Some.entry.now) c.put_of.new.known true = rw c.if-not-is_new.false at c.in_ok-is_new.ensures in
    indexing_more (identities_of c.args.entries.now) c.entries.known c.put_of.new.known c.in-Some.entry.now c.entries.position c.entries.rest.now c.in-Some.others.now
    (length c.args.entries.now) c.in-Some.ensures.cases.0 told c.entries.invariant
