use Rattle.std.proofs.Common.{ℕ, suc, ◌≡◌, ◌≤◌, ◌+◌, ◌++◌, List, length, sym, ap, ◌∙◌, arith}
use Rattle.std.proofs.lemmas.Option.{same_Some}
use Rattle.page_store.specs.Image.{Image}
use Rattle.btree_index.specs.Trees.{Entry, below}
use Rattle.btree_index.proofs.FindLemmas.{ok_before}
use Rattle.tree_walk.specs.Walks.{behind, descend, is_inner}
use Rattle.tree_walk.proofs.StepLemmas.{down_more}
use Rattle.tree_walk.proofs.levels.inner_level.Goals as goal

pub along-preserved : goal.along-preserved
along-preserved g c =
    let old = g.P.PageSource.pages c.args.pages.now in
    let e = c.in-Some.entry.now in
    let here : c.page.result.now ≡ g.P.PageSource.pages c.along.pages c.entry.inside.page =
    same_Some c.page.result.now (g.P.PageSource.pages c.along.pages c.entry.inside.page) (sym c.page.ensures ∙ c.in_ok-visit.ensures.loaded) in
    let number : c.entry.inside.page ≡ c.in-Some.entry.now.page = ap (λ (e : Entry). e.page) c.entry.view_is in
    let low : c.entry.inside.low ≡ c.in-Some.entry.now.low = ap (λ (e : Entry). e.low) c.entry.view_is in
    let image : c.page.result.now ≡ g.P.PageSource.pages c.args.pages.now c.in-Some.entry.now.page =
    here ∙ ap (g.P.PageSource.pages c.along.pages) number ∙ ap (λ (f : ℕ → Image). f c.in-Some.entry.now.page) c.along.invariant.pages in
    let ok = ok_before c.add_page.result c.map_err.result _ c.in_ok-went.went c.map_err.ensures.cases c.in_ok-went.was in
    let told : c.in_ok-went.went ≡ is_inner c.args.height c.page.result.now.head c.page.result.now.cells = rw ok at c.add_page.ensures.told in
    let added : c.add_page.new.next.items ≡ c.along.next.items ++ below c.entry.inside.low c.page.result.now.cells = (rw ok at c.add_page.ensures.added) c.if-not-went.false in
    let counted : g.P.VisitedPages.visits c.visit.new.self ≤ g.P.VisitedPages.visits c.along.pages + 1 = c.in_ok-visit.ensures.counted in
    let visited : g.P.VisitedPages.visits c.along.pages + length c.along.rest.now ≤ g.P.VisitedPages.visits c.args.pages.now + length c.args.level.now = c.along.invariant.visited in
    let one : length c.along.rest.now ≡ suc (length c.in-Some.after.now) = ap length c.in-Some.ensures.cases.0 in
    let rose : g.P.PageSource.losses c.along.pages ≤ g.P.PageSource.losses c.visit.new.self = c.in_ok-visit.ensures.excused in
    record {
      pages = c.in_ok-visit.ensures.pages ∙ c.along.invariant.pages;
      below = c.in_ok-visit.ensures.below ∙ c.along.invariant.below;
      losses = omega arith;
      visited = omega (arith, counted, visited, one);
      found = down_more old c.args.height c.along.next.items c.add_page.new.next.items e c.in-Some.after.now (descend old c.args.height c.args.level.now)
          (ap (λ (r : List Entry). behind c.along.next.items (descend old c.args.height r)) (sym c.in-Some.ensures.cases.0) ∙ c.along.invariant.found)
          (ap (λ (i : Image). is_inner c.args.height i.head i.cells) (sym image) ∙ sym told ∙ c.if-not-went.false)
          (added ∙ ap (λ (l : List ℕ). c.along.next.items ++ below l c.page.result.now.cells) low ∙ ap (λ (i : Image). c.along.next.items ++ below e.low i.cells) image);
    }
