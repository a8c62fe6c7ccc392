-- The cells that are left fit, since all of them do.
use Rattle.std.proofs.Common.{◌≡◌, ◌+◌, ℕ, sym, ap, ◌∙◌, subst, arith}
use Rattle.std.proofs.lemmas.Option.{same_Some}
use Rattle.page_store.specs.Image.{Image, HasRoom, taken}
use Rattle.page_store.specs.Edits.{IsFit}
use Rattle.page_store.specs.declared.edits.Edit.TheVariants.{TakeCell}
use Rattle.page_workspace.specs.Drafts.{meant}
use Rattle.btree_index.proofs.FitLemmas.{take_fits}
use Rattle.btree_index.proofs.steps.take_at.Goals as goal

pub returns-clause-fit : goal.returns-clause-fit
returns-clause-fit g c = λ within.
    let pages = g.P.PageSource.pages in
    let id = c.args.id in
    let loaded = c.in_ok-load_to_edit.ensures in
    let page = c.page-page.result.now in
    let cell = c.in_ok-cell.cell in
    let is : page ≡ meant pages c.load_to_edit.new.self id =
    same_Some page (meant pages c.args.space.now id) (sym c.page-page.ensures ∙ loaded.loaded) ∙ ap (λ (f : ℕ → Image). f id) (sym loaded.pages) in
    let all : c.space-space.result + taken page.cells ≡ 4072 = c.space-space.ensures in
    let room : HasRoom page.cells = omega arith in
    c.alter.ensures.fit (subst (λ (i : Image). IsFit i (TakeCell c.args.at cell)) is (take_fits page c.args.at cell room c.in_ok-cell.ensures.cell))
