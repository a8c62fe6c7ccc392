use Rattle.std.proofs.Common.{◌≡◌, ◌≤◌, ◌+◌, ◌++◌, [], length, vec_len, vec_capacity}
use Rattle.std.specs.List.{AllByRecursion}
use Rattle.std.specs.Vec.Iter.{into_iter_items, into_iter_len}
use Rattle.node_openings.specs.Found.{unread_from}
use Rattle.node_openings.proofs.readings.unread_logs.Given as goal

abbrev pub invariant-stores : goal.invariant-stores
invariant-stores g l = record {
  logs : l.logs.items ++ unread_from g.D.LogStore.synced g.D.LogStore.faults l.cluster l.node (into_iter_items l.store-iterator) ≡ unread_from g.D.LogStore.synced g.D.LogStore.faults l.cluster 1 l.fn.stores.items;
  settled : AllByRecursion (λ s. g.D.LogStore.pending s ≡ []) (into_iter_items l.store-iterator);
  room : vec_len l.logs + into_iter_len l.store-iterator ≤ vec_capacity l.logs;
  count : into_iter_len l.store-iterator ≡ length (into_iter_items l.store-iterator);
  low : l.node + length (into_iter_items l.store-iterator) ≤ 8;
}
