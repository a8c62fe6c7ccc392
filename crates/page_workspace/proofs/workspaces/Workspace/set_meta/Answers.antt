use Rattle.std.proofs.Common.{◌≡◌, ℕ, ap, sym, subst, ◌∙◌, rules}
use Rattle.std.proofs.lemmas.Option.{same_Some}
use Rattle.page_store.specs.Image.{Image}
use Rattle.page_store.specs.Edits.{IsFit}
use Rattle.page_store.specs.declared.edits.Edit.{Edit}
use Rattle.page_workspace.specs.Drafts.{meant, edited}
use Rattle.page_workspace.specs.Metas.{IsSwap}
use Rattle.page_workspace.proofs.DraftLaws.{fit_told}
use Rattle.page_workspace.proofs.MetaLaws.{AreWords, sets, swap_fits}
use Rattle.page_workspace.proofs.OwnLaws.{ok_all}
use Rattle.page_workspace.proofs.workspaces.Workspace.set_meta.Goals as goal

pub returns-clause-set : goal.returns-clause-set
returns-clause-set g c =
    let pages = g.P.PageSource.pages in
    let old = meant pages c.args.self.now in
    let loaded = c.in_ok-load_to_edit.ensures in
    let swap = c.in_ok-swap.swap in
    let here : c.page.result.now ≡ old 0 = same_Some c.page.result.now (old 0) (sym c.page.ensures ∙ loaded.loaded) in
    let said : IsSwap (old 0) c.args.meta swap = subst (λ (i : Image). IsSwap i c.args.meta swap) here c.in_ok-swap.ensures.swap in
    let words : AreWords c.args.meta = record { next = search rules; count = search rules; free = search rules } in
    ok_all c.edit.result (λ (made : meant pages c.edit.new.self ≡ edited (meant pages c.load_to_edit.new.self) 0 swap).
    sets old (meant pages c.edit.new.self) c.args.meta swap words said (made ∙ ap (λ (f : ℕ → Image). edited f 0 swap) loaded.pages))
    c.edit.ensures.pages

pub returns-clause-fit : goal.returns-clause-fit
returns-clause-fit g c = λ meta.
    let pages = g.P.PageSource.pages in
    let old = meant pages c.args.self.now in
    let loaded = c.in_ok-load_to_edit.ensures in
    let swap = c.in_ok-swap.swap in
    let here : c.page.result.now ≡ old 0 = same_Some c.page.result.now (old 0) (sym c.page.ensures ∙ loaded.loaded) in
    let said : IsSwap (old 0) c.args.meta swap = subst (λ (i : Image). IsSwap i c.args.meta swap) here c.in_ok-swap.ensures.swap in
    let now : meant pages c.load_to_edit.new.self 0 ≡ old 0 = ap (λ (f : ℕ → Image). f 0) loaded.pages in
    fit_told c.edit.result (IsFit (meant pages c.load_to_edit.new.self 0) swap) c.edit.ensures.fits
    (subst (λ (i : Image). IsFit i swap) (sym now) (subst (λ (e : Edit). IsFit (old 0) e) (sym said.is) (swap_fits (old 0) c.args.meta meta)))
