use Rattle.std.proofs.Common.{ℕ, List, rules}
use Rattle.std.proofs.lemmas.List.Sorted.{IsPartitionPoint-from_clause}
use Rattle.btree_index.specs.Keys.{before}
use Rattle.btree_index.specs.Cells.{key_of_cell}
use Rattle.table_state.proofs.KeyedLaws.{place_there, cells_split}
use Rattle.table_state.proofs.keys.place_of.Goals as goal

pub returns : goal.returns
returns c =
    place_there c.args.cells.now c.args.key.now c.partition_point.result c.partition_point.ensures.bound
    (IsPartitionPoint-from_clause (λ (x : List ℕ). before (key_of_cell x) c.args.key.now) c.args.cells.now c.partition_point.result c.partition_point.ensures.partitioned
    (cells_split c.args.cells.now c.args.key.now c.requires) (λ a r q k. search rules))
