-- Each page that is loaded is the source's, so the way goes on over what the source means.
use Rattle.std.proofs.Common.{Some, ℕ, ◌≤◌, sym, ap, ◌∙◌, subst, arith}
use Rattle.std.proofs.lemmas.Option.{same_Some}
use Rattle.page_store.specs.Image.{Image}
use Rattle.page_store.specs.declared.pages.Head.{Head}
use Rattle.btree_index.specs.Pairs.{choice}
use Rattle.btree_index.specs.Ways.{OnWay}
use Rattle.btree_index.proofs.WayLemmas.{way_begins, way_on}
use Rattle.btree_index.proofs.finds.leaf_for.Goals as goal

pub down-init : goal.down-init
down-init g c = record {
  pages = c.in_ok-load.ensures.pages;
  below = c.in_ok-load.ensures.below;
  losses = c.in_ok-load.ensures.excused;
  way = λ list tree. way_begins (g.P.PageSource.pages c.args.pages.now) c.args.key.now c.args.root list tree;
}

pub returns-in-Leaf-clause-leaf : goal.returns-in-Leaf-clause-leaf
returns-in-Leaf-clause-leaf g c =
    let is = same_Some (g.P.PageSource.pages c.down.pages c.down.id) c.page-page.result.now (sym c.in_ok-load-2.ensures.loaded ∙ c.page-page.ensures) in
    let now = sym is ∙ ap (λ (f : ℕ → Image). f c.down.id) c.down.invariant.pages in
    ap (λ (i : Image). i.head.kind) (sym now) ∙ ap (λ (h : Head). h.kind) (sym c.head-in-down.ensures) ∙ c.in-Leaf.is

pub returns-in-Leaf-clause-loaded : goal.returns-in-Leaf-clause-loaded
returns-in-Leaf-clause-loaded g c =
    c.in_ok-load-2.ensures.loaded ∙ ap (λ (f : ℕ → Image). Some (f c.down.id)) c.down.invariant.pages

pub down-preserved : goal.down-preserved
down-preserved g c =
    let is = same_Some (g.P.PageSource.pages c.down.pages c.down.id) c.page-page.result.now (sym c.in_ok-load-2.ensures.loaded ∙ c.page-page.ensures) in
    let now = sym is ∙ ap (λ (f : ℕ → Image). f c.down.id) c.down.invariant.pages in
    let kind = ap (λ (i : Image). i.head.kind) (sym now) ∙ ap (λ (h : Head). h.kind) (sym c.head-in-down.ensures) ∙ c.in-Inner.is in
    let rose : g.P.PageSource.losses c.down.pages ≤ g.P.PageSource.losses c.load-in-down.new.self = c.in_ok-load-2.ensures.excused in
    let child = c.in-Some.ensures.child ∙ ap (λ (i : Image). choice c.args.key.now i.cells) now in
    record {
      pages = c.in_ok-load-2.ensures.pages ∙ c.down.invariant.pages;
      below = c.in_ok-load-2.ensures.below ∙ c.down.invariant.below;
      losses = omega arith;
      way = λ list tree. subst (λ (n : ℕ). OnWay (g.P.PageSource.pages c.args.pages.now) c.args.key.now n list) (sym child)
          (way_on (g.P.PageSource.pages c.args.pages.now) c.args.key.now c.down.id list (c.down.invariant.way list tree) kind);
    }
