use Rattle.std.proofs.Common.{◌≡◌, ap, sym, ◌∙◌}
use Rattle.std.proofs.lemmas.Option.{same_Some}
use Rattle.page_workspace.specs.Drafts.{meant}
use Rattle.page_workspace.specs.Metas.{meta_in}
use Rattle.page_workspace.proofs.MetaLaws.{tells}
use Rattle.page_workspace.proofs.workspaces.Workspace.meta.Goals as goal

pub returns-in-Some-clause-told : goal.returns-in-Some-clause-told
returns-in-Some-clause-told g c =
    let pages = meant g.P.PageSource.pages c.args.self.now in
    let loaded = c.in_ok-load_to_edit.ensures in
    let here : c.page.result.now ≡ pages 0 = same_Some c.page.result.now (pages 0) (sym c.page.ensures ∙ loaded.loaded) in
    tells pages c.in-Some.meta (ap meta_in (sym here) ∙ sym c.in-Some.ensures)
