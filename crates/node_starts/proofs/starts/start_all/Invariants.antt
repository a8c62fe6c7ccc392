use Rattle.std.specs.Vec.Iter.{into_iter_items}
use Rattle.node_openings.specs.Judged.{admits_of}
use Rattle.node_starts.proofs.LoopLaws.{Turns}
use Rattle.node_starts.proofs.starts.start_all.Given as goal

abbrev pub invariant-nodes : goal.invariant-nodes
invariant-nodes g l = Turns g.J.Plan.setting l.initial.operator (admits_of 1 l.fn.found.items) l.fn.nodes.items l.node-items l.fn.found.items (into_iter_items l.stores) l.node-index l.operator
