use Rattle.std.proofs.Common.{◌≡◌, ◌≤◌, ◌+◌, length, vec_len, vec_capacity}
use Rattle.std.specs.Vec.Iter.{into_iter_items, into_iter_len}
use Rattle.node_starts.proofs.MakeLaws.{Making}
use Rattle.node_starts.proofs.makes.new_nodes.Given as goal

abbrev pub invariant-logs : goal.invariant-logs
invariant-logs g l = record {
  making : Making l.count l.fn.logs.items (into_iter_items l.log-iterator) l.fn.actors.items (into_iter_items l.others) l.nodes.items l.node;
  room : vec_len l.nodes + into_iter_len l.log-iterator ≤ vec_capacity l.nodes;
  count : into_iter_len l.log-iterator ≡ length (into_iter_items l.log-iterator);
  low : l.node + length (into_iter_items l.log-iterator) ≤ 8;
}
