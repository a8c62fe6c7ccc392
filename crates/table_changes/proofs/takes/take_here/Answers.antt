use Rattle.std.proofs.Common.{ap}
use Rattle.table_changes.specs.Changed.{born_if}
use Rattle.table_changes.proofs.ChangedLemmas.{taken_as}
use Rattle.table_changes.proofs.FreedLemmas.{pairs_as}
use Rattle.table_changes.proofs.takes.take_here.Goals as goal

pub returns-then-is_here-clause-taken : goal.returns-then-is_here-clause-taken
returns-then-is_here-clause-taken g c = λ own free list stands.
    taken_as _ _ _ _ _ _ _ _ _ _ (ap (λ b. born_if b c.args.genid c.args.row.now) c.if-is_here.true) (c.take_version.ensures.taken own free list stands)

pub returns-then-is_here-clause-freed : goal.returns-then-is_here-clause-freed
returns-then-is_here-clause-freed g c =
    pairs_as _ _ _ _ _ _ _ (ap (λ b. born_if b c.args.genid c.args.row.now) c.if-is_here.true) c.take_version.ensures.freed
