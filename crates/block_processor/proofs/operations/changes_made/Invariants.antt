-- the changes so far, with those of what is left, are all; and there is a genid for each operation that is left
use Rattle.std.proofs.Common.{◌≡◌, ◌+◌, ◌<◌, ◌^◌, ◌++◌, length}
use Rattle.std.specs.Vec.Iter.{into_iter_items, into_iter_len}
use Rattle.cdb_values.specs.Changes.{changes_of}
use Rattle.block_processor.proofs.operations.changes_made.Given as goal

abbrev pub invariant-ops : goal.invariant-ops
invariant-ops l = record {
  made : l.changes ++ changes_of (into_iter_items l.op-iterator) l.genid ≡ changes_of (into_iter_items l.initial.op-iterator) l.next;
  room : l.genid + length (into_iter_items l.op-iterator) < 2 ^ 62;
  many : into_iter_len l.op-iterator ≡ length (into_iter_items l.op-iterator);
}
