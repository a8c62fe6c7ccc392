use Rattle.std.proofs.Common.{ap}
use Rattle.table_changes.specs.Changed.{gone_by}
use Rattle.table_changes.proofs.ChangedLemmas.{taken_as}
use Rattle.table_changes.proofs.FreedLemmas.{pairs_as}
use Rattle.table_changes.proofs.takes.take_old.Goals as goal

pub returns-in-Base-clause-taken : goal.returns-in-Base-clause-taken
returns-in-Base-clause-taken g c = λ own free list stands.
    taken_as _ _ _ _ _ _ _ _ _ _ (ap (λ t. gone_by c.args.is_here t c.args.old.now) c.in-Base.is) (c.take_here.ensures.taken own free list stands)

pub returns-in-Base-clause-freed : goal.returns-in-Base-clause-freed
returns-in-Base-clause-freed g c =
    pairs_as _ _ _ _ _ _ _ (ap (λ t. gone_by c.args.is_here t c.args.old.now) c.in-Base.is) c.take_here.ensures.freed
