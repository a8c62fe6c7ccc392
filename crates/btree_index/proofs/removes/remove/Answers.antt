use Rattle.std.proofs.Common.{◌∙◌}
use Rattle.btree_index.proofs.removes.remove.Goals as goal

pub returns-in-Ok-clause-removed : goal.returns-in-Ok-clause-removed
returns-in-Ok-clause-removed g c = λ own free list stands.
    let h = c.in-Ok.ensures.removed own free list stands in (c.is_some.ensures ∙ h.0, h.1)
