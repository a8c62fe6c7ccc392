use Rattle.std.proofs.Common.{subst, ◌≡◌, rules}
use Rattle.page_workspace.specs.Drafts.{AreFit}
use Rattle.page_workspace.proofs.DraftLaws.{fit_out}
use Rattle.page_workspace.proofs.workspaces.Workspace.finish.Goals as goal

pub returns-clause-fit : goal.returns-clause-fit
returns-clause-fit g c =
    let base : c.self.inside.base ≡ c.args.self.base = search rules in
    subst (λ b. AreFit c.self.inside.edits.items (g.P.PageSource.pages b)) base
    (fit_out c.self.inside.edits.items (g.P.PageSource.pages c.self.inside.base) c.self.invariant.fit)
