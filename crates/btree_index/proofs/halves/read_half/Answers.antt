-- A page that is full has two cells, and each is one of a tree.
use Rattle.std.proofs.Common.{◌≡◌, ◌⊎◌, sym, subst, rules}
use Rattle.page_store.specs.declared.pages.Head.{Head}
use Rattle.page_store.specs.declared.pages.PageKind.TheVariants.{Leaf, Inner}
use Rattle.btree_index.specs.Cells.{IsInnerCell}
use Rattle.btree_index.proofs.FitLemmas.{none_past, full_two, first_kind}
use Rattle.btree_index.proofs.halves.read_half.Goals as goal

pub returns-in_default-clause-fit : goal.returns-in_default-clause-fit
returns-in_default-clause-fit c = λ can. full_two c.args.page.now can c.in_default.ensures.within

pub returns-in_default-cell-clause-fit : goal.returns-in_default-cell-clause-fit
returns-in_default-cell-clause-fit c = λ can. none_past c.args.page.now.cells c.in-Some.at c.in-Some.ensures.within c.in_default-cell.ensures

pub returns-in_err-first-clause-fit : goal.returns-in_err-first-clause-fit
returns-in_err-first-clause-fit c = λ can.
    let middle = c.in-Some-cell.middle.now in
    let K : Head → Type 0 = λ h. (h.kind ≡ Leaf) ⊎ ((h.kind ≡ Inner) × IsInnerCell middle) in
    let kind : K c.head-head.result =
    subst K (sym c.head-head.ensures) (first_kind c.args.page.now c.in-Some.at middle can.page c.in-Some-cell.ensures) in
    search (rules, c.in_err-first.ensures.fit kind)
