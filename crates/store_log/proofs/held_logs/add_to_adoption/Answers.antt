use Rattle.std.proofs.Common.{◌≡◌, List, [], ◌∷◌, ◌++◌, Some, subst, sym}
use Rattle.phys_log.specs.Logs.{Fits}
use Rattle.phys_log.specs.declared.entries.Entry.{Entry}
use Rattle.store_log.specs.Asides.{ArePieces}
use Rattle.store_log.proofs.PieceLemmas.{one_more}
use Rattle.store_log.proofs.held_logs.add_to_adoption.Goals as goal

pub invariant_of-result : goal.invariant_of-result
invariant_of-result c =
    let added : c.in-Ok.live ≡ c.args.live ++ c.args.entry ∷ [] = rw c.in-Ok.is at c.appended.ensures.taken in
    let fits : Fits c.args.live c.args.entry = rw c.in-Ok.is at c.appended.ensures.may in
    subst (λ (l : List Entry). ArePieces l (Some c.args.aside)) (sym added)
    (one_more c.args.live c.args.entry c.args.aside c.requires fits)
