use Rattle.std.proofs.Common.{ap, ◌∙◌, ◌∷◌, []}
use Rattle.table_store.specs.Operations.{gone}
use Rattle.table_changes.proofs.ChangedLemmas.{taken_as, gone_update, gone_delete}
use Rattle.table_changes.proofs.FreedLemmas.{pairs_as}
use Rattle.table_changes.proofs.takes.take_one.Goals as goal

pub returns-in-Update-clause-taken : goal.returns-in-Update-clause-taken
returns-in-Update-clause-taken g c = λ own free list stands.
    taken_as _ _ _ _ _ _ _ _ _ _ (ap (λ o. gone c.args.table (o ∷ [])) c.in-Update.is ∙ gone_update c.args.table _ _ _ _) (c.take_old.ensures.taken own free list stands)

pub returns-in-Delete-clause-taken : goal.returns-in-Delete-clause-taken
returns-in-Delete-clause-taken g c = λ own free list stands.
    taken_as _ _ _ _ _ _ _ _ _ _ (ap (λ o. gone c.args.table (o ∷ [])) c.in-Delete.is ∙ gone_delete c.args.table _ _ _) (c.take_old-in-Delete.ensures.taken own free list stands)

pub returns-in-Update-clause-freed : goal.returns-in-Update-clause-freed
returns-in-Update-clause-freed g c =
    pairs_as _ _ _ _ _ _ _ (ap (λ o. gone c.args.table (o ∷ [])) c.in-Update.is ∙ gone_update c.args.table _ _ _ _) c.take_old.ensures.freed

pub returns-in-Delete-clause-freed : goal.returns-in-Delete-clause-freed
returns-in-Delete-clause-freed g c =
    pairs_as _ _ _ _ _ _ _ (ap (λ o. gone c.args.table (o ∷ [])) c.in-Delete.is ∙ gone_delete c.args.table _ _ _) c.take_old-in-Delete.ensures.freed
