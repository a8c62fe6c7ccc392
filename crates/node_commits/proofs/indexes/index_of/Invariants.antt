-- the identities so far are apart, and with those that are left they are all
use Rattle.std.proofs.Common.{length}
use Rattle.blkseq_table.specs.OfLogs.{identities_of}
use Rattle.node_commits.proofs.IndexLaws.{Indexing}
use Rattle.node_commits.proofs.indexes.index_of.Given as goal

abbrev pub invariant-entries : goal.invariant-entries
invariant-entries l = Indexing (identities_of l.entries) l.known l.position l.rest (length l.entries)

abbrev pub decreases-entries : goal.decreases-entries
decreases-entries l = length l.rest
