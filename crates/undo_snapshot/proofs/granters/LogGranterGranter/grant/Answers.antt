use Rattle.std.proofs.Common.{subst, List}
use Rattle.phys_log.specs.declared.entries.Entry.{Entry}
use Rattle.undo_snapshot.specs.Grants.{Speaks}
use Rattle.undo_snapshot.proofs.UndoLaws.{log_speaks}
use Rattle.undo_snapshot.proofs.granters.LogGranterGranter.grant.Goals as goal

pub returns-clause-spoken : goal.returns-clause-spoken
returns-clause-spoken c =
    let fact = c.in-Ok.ensures in
    subst (λ (f : List Entry). Speaks f c.args.page c.in-Ok.grant) c.self.view_is
    (log_speaks c.self.inside.log.now c.self.inside.position c.args.page c.in-Ok.grant c.self.invariant fact.logged fact.copy fact.chain)
