use Rattle.std.proofs.Common.{◌≡◌, []}
use Rattle.std.specs.List.{AllByRecursion}
use Rattle.cdb_program.proofs.empty_stores.Given as goal

abbrev pub invariant-nodes : goal.invariant-nodes
invariant-nodes l = AllByRecursion (λ s. s.waiting ≡ []) l.stores.items
