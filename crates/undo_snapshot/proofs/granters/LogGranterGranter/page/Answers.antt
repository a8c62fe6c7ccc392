use Rattle.std.proofs.Common.{List, ap, ◌∙◌}
use Rattle.phys_log.specs.declared.entries.Entry.{Entry}
use Rattle.phys_log.specs.Logs.{pages_of}
use Rattle.undo_snapshot.proofs.granters.LogGranterGranter.page.Goals as goal

pub returns-clause-page : goal.returns-clause-page
returns-clause-page c =
    c.in-Ok.ensures.page ∙ ap (λ (f : List Entry). pages_of f c.args.page) c.self.view_is
