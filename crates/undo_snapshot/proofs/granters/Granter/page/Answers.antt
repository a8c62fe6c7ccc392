use Rattle.std.proofs.Common.{◌∙◌}
use Rattle.undo_snapshot.proofs.UndoLaws.{can_undo_granted, granted_undone}
use Rattle.undo_snapshot.proofs.granters.Granter.page.Goals as goal

pub undo_grant-requires : goal.undo_grant-requires
undo_grant-requires g c =
    can_undo_granted (g.Self.Granter.front c.args.self.now) c.args.page c.in_ok-grant.grant c.in_ok-grant.ensures.spoken

pub returns-in-Ok-clause-page : goal.returns-in-Ok-clause-page
returns-in-Ok-clause-page g c =
    c.in-Ok.ensures
    ∙ granted_undone (g.Self.Granter.front c.args.self.now) c.args.page c.in_ok-grant.grant c.in_ok-grant.ensures.spoken
