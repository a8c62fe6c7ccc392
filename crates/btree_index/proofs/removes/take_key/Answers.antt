-- The leaf of the way has the key's cell, or no leaf has.
use Rattle.std.proofs.Common.{◌≡◌, ◌+◌, ℕ, length, None, Some, sym, ap, ◌∙◌, subst, arith, rules}
use Rattle.std.proofs.lemmas.Option.{same_Some}
use Rattle.std.specs.List.{remove, slice_get}
use Rattle.page_store.specs.Image.{Image, HasRoom, taken}
use Rattle.page_store.specs.Edits.{IsFit}
use Rattle.page_store.specs.declared.edits.Edit.TheVariants.{TakeCell}
use Rattle.page_workspace.specs.Drafts.{meant, edited}
use Rattle.btree_index.specs.Pairs.{cell_value, HasKeyAt}
use Rattle.btree_index.specs.Trees.{Ascends}
use Rattle.btree_index.proofs.FitLemmas.{take_fits, not_unfit}
use Rattle.btree_index.proofs.LeafLaws.{ChangesCells}
use Rattle.btree_index.proofs.PlaceLemmas.{leaf_rises}
use Rattle.btree_index.proofs.StandLemmas.{removes, removes_none, takes_cell}
use Rattle.btree_index.proofs.removes.take_key.Goals as goal

pub returns-in_default-clause-removed : goal.returns-in_default-clause-removed
returns-in_default-clause-removed g c = λ own free list stands.
    let pages = meant g.P.PageSource.pages c.args.space.now in
    let way = c.in_ok-way.way in
    let said = c.in_ok-way.ensures in
    let page = c.page-page.result.now in
    let now : page ≡ pages way.leaf = same_Some page (pages way.leaf) (sym c.page-page.ensures ∙ said.loaded) in
    let none : cell_value c.args.key.now (pages way.leaf).cells ≡ None =
    ap (λ (i : Image). cell_value c.args.key.now i.cells) (sym now)
    ∙ c.in_default.ensures
    (subst (λ (i : Image). Ascends i.cells) (sym now) (leaf_rises pages c.args.root c.args.key.now way.leaf said.way.leaf said.way.kind own free list stands)) in
    removes_none pages (meant g.P.PageSource.pages c.way_for.new.space) c.args.root c.args.key.now way.leaf said.pages said.way.leaf said.way.kind none own free list stands

pub returns-clause-removed : goal.returns-clause-removed
returns-clause-removed g c =
    let pages = meant g.P.PageSource.pages c.args.space.now in
    let way = c.in_ok-way.way in
    let said = c.in_ok-way.ensures in
    let page = c.page-page.result.now in
    let new = meant g.P.PageSource.pages c.edit.new.self in
    let at = c.in-Some.at in
    let now : page ≡ pages way.leaf = same_Some page (pages way.leaf) (sym c.page-page.ensures ∙ said.loaded) in
    let has : HasKeyAt c.args.key.now (pages way.leaf).cells at = subst (λ (i : Image). HasKeyAt c.args.key.now i.cells at) now c.in-Some.ensures in
    let is : new ≡ edited pages way.leaf (TakeCell at c.in_ok-cell.cell) =
    c.in_ok-edit.ensures.pages ∙ ap (λ (f : ℕ → Image). edited f way.leaf (TakeCell at c.in_ok-cell.cell)) said.pages in
    let room : HasRoom (remove (pages way.leaf).cells at) =
    subst (λ (f : ℕ → Image). HasRoom (remove (f way.leaf).cells at)) said.pages c.in_ok-edit.ensures.fits.fits in
    removes pages new c.args.root c.args.key.now way.leaf at said.way.leaf said.way.kind has
    (takes_cell pages new way.leaf at c.in_ok-cell.cell is) room

pub returns-in_err-edit-clause-fit : goal.returns-in_err-edit-clause-fit
returns-in_err-edit-clause-fit g c = λ list tree.
    let way = c.in_ok-way.way in
    let said = c.in_ok-way.ensures in
    let page = c.page-page.result.now in
    let at = c.in-Some.at in
    let cell = c.in_ok-cell.cell in
    let now : page ≡ meant g.P.PageSource.pages c.way_for.new.space way.leaf =
    same_Some page (meant g.P.PageSource.pages c.args.space.now way.leaf) (sym c.page-page.ensures ∙ said.loaded)
    ∙ ap (λ (f : ℕ → Image). f way.leaf) (sym said.pages) in
    let all : c.space-space.result + taken page.cells ≡ 4072 = c.space-space.ensures in
    let room : HasRoom page.cells = omega arith in
    let here : slice_get page.cells at ≡ Some cell = search rules in
    let fits : IsFit (meant g.P.PageSource.pages c.way_for.new.space way.leaf) (TakeCell at cell) =
    subst (λ (i : Image). IsFit i (TakeCell at cell)) now (take_fits page at cell room here) in
    search (rules, not_unfit c.edit.result _ c.edit.ensures.fits fits)

pub returns-in_err-way-clause-fit : goal.returns-in_err-way-clause-fit
returns-in_err-way-clause-fit g c = λ list tree. search (rules, c.in_err-way.ensures.fit list tree)

pub returns-clause-taken : goal.returns-clause-taken
returns-clause-taken g c =
    let pages = meant g.P.PageSource.pages c.args.space.now in
    let way = c.in_ok-way.way in
    let said = c.in_ok-way.ensures in
    let page = c.page-page.result.now in
    let new = meant g.P.PageSource.pages c.edit.new.self in
    let at = c.in-Some.at in
    let now : page ≡ pages way.leaf = same_Some page (pages way.leaf) (sym c.page-page.ensures ∙ said.loaded) in
    let is : new ≡ edited pages way.leaf (TakeCell at c.in_ok-cell.cell) =
    c.in_ok-edit.ensures.pages ∙ ap (λ (f : ℕ → Image). edited f way.leaf (TakeCell at c.in_ok-cell.cell)) said.pages in
    let changes : ChangesCells pages new way.leaf (remove (pages way.leaf).cells at) = takes_cell pages new way.leaf at c.in_ok-cell.cell is in
    record {
      leaf = way.leaf;
      way = said.leaf;
      at = at;
      had = subst (λ (i : Image). HasKeyAt c.args.key.now i.cells at) now c.in-Some.ensures;
      alters = record { head_is = changes.head; is = changes.is; others = changes.others };
      all = c.count-count.ensures ∙ ap (λ (i : Image). length i.cells) now;
    }
