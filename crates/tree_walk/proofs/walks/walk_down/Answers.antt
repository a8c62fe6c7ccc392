use Rattle.std.proofs.Common.{ℕ, ◌≡◌, ◌≤◌, ◌++◌, List, map, Some, None, inl, inr, sym, ap, ◌∙◌, arith, length, ◌<◌, ◌+◌, length-append}
use Rattle.std.proofs.lemmas.List.{length-map}
use Rattle.std.proofs.lemmas.Bool.{ltb-true}
use Rattle.page_store.specs.Image.{Image}
use Rattle.btree_index.specs.Trees.{Entry, page_of, top, tree_pages}
use Rattle.btree_index.proofs.FindLemmas.{ok_before}
use Rattle.tree_walk.specs.Walks.{descend, walk_from}
use Rattle.tree_walk.proofs.StepLemmas.{walk_next, walk_stop}
use Rattle.tree_walk.proofs.DepthLemmas.{pages_past, pages_next}
use Rattle.tree_walk.proofs.walks.walk_down.Goals as goal

pub returns-then-is_past-clause-down : goal.returns-then-is_past-clause-down
returns-then-is_past-clause-down g c =
    let old = g.P.PageSource.pages c.args.pages.now in
    let ok = ok_before c.add_pages.result c.map_err-in-down.result _ c.in_ok-map_err.field-0 c.map_err-in-down.ensures.cases c.in_ok-map_err.was in
    let added : c.add_pages.new.own.items ≡ c.down.own.items ++ map page_of c.as_slice.result.now = rw ok at c.add_pages.ensures in
    let long : c.args.limit < length c.add_pages.new.own.items = ltb-true c.args.limit (length c.add_pages.new.own.items) (sym c.is_past.ensures.told ∙ c.if-is_past.true) in
    inr (pages_past old c.down.above c.args.limit c.down.level.items c.down.own.items c.add_pages.new.own.items (tree_pages old c.args.height (top c.args.root))
    (added ∙ ap (λ (l : List Entry). c.down.own.items ++ map page_of l) c.as_slice.ensures.value) c.down.invariant.own long)

pub down-preserved : goal.down-preserved
down-preserved g c =
    let old = g.P.PageSource.pages c.args.pages.now in
    let ok = ok_before c.add_pages.result c.map_err-in-down.result _ c.in_ok-map_err.field-0 c.map_err-in-down.ensures.cases c.in_ok-map_err.was in
    let added : c.add_pages.new.own.items ≡ c.down.own.items ++ map page_of c.as_slice.result.now = rw ok at c.add_pages.ensures in
    let found : Some c.in-Some.next.items ≡ descend (g.P.PageSource.pages c.down.pages) c.down.above c.as_slice-in-down.result.now = rw c.in-Some.is at c.in_ok-next.ensures.found in
    let below : descend (g.P.PageSource.pages c.args.pages.now) c.down.above c.down.level.items ≡ Some c.in-Some.next.items =
    ap (λ (f : ℕ → Image). descend f c.down.above c.down.level.items) (sym c.down.invariant.pages)
    ∙ ap (λ (l : List Entry). descend (g.P.PageSource.pages c.down.pages) c.down.above l) (sym c.as_slice-in-down.ensures.value) ∙ sym found in
    let sum : length c.add_pages.new.own.items ≡ length c.down.own.items + length c.as_slice.result.now =
    ap length added ∙ length-append c.down.own.items (map page_of c.as_slice.result.now) ∙ ap (λ (n : ℕ). length c.down.own.items + n) (length-map c.as_slice.result.now page_of) in
    let visited : g.P.VisitedPages.visits c.down.pages ≤ g.P.VisitedPages.visits c.args.pages.now + length c.down.own.items = c.down.invariant.visited in
    let asked : g.P.VisitedPages.visits c.inner_level.new.pages ≤ g.P.VisitedPages.visits c.down.pages + length c.as_slice-in-down.result.now = c.in_ok-next.ensures.visited in
    let same : length c.as_slice-in-down.result.now ≡ length c.as_slice.result.now = ap length (c.as_slice-in-down.ensures.value ∙ sym c.as_slice.ensures.value) in
    let rose : g.P.PageSource.losses c.down.pages ≤ g.P.PageSource.losses c.inner_level.new.pages = c.in_ok-next.ensures.excused in
    record {
      pages = c.in_ok-next.ensures.pages ∙ c.down.invariant.pages;
      below = c.in_ok-next.ensures.below ∙ c.down.invariant.below;
      losses = omega arith;
      few = c.is_past.ensures.few c.if-is_past.false;
      visited = omega (arith, sum, visited, asked, same);
      own = pages_next old c.down.above c.down.level.items c.in-Some.next.items c.down.own.items c.add_pages.new.own.items (tree_pages old c.args.height (top c.args.root)) c.down-test.true below
          (added ∙ ap (λ (l : List Entry). c.down.own.items ++ map page_of l) c.as_slice.ensures.value) c.down.invariant.own;
      found = walk_next old c.down.above c.down.level.items c.in-Some.next.items (walk_from old c.args.height (top c.args.root)) c.down-test.true below c.down.invariant.found;
    }

pub returns-in_default-clause-down : goal.returns-in_default-clause-down
returns-in_default-clause-down g c =
    let old = g.P.PageSource.pages c.args.pages.now in
    let found : None ≡ descend (g.P.PageSource.pages c.down.pages) c.down.above c.as_slice-in-down.result.now = rw c.in_default.is at c.in_ok-next.ensures.found in
    let below : descend (g.P.PageSource.pages c.args.pages.now) c.down.above c.down.level.items ≡ None =
    ap (λ (f : ℕ → Image). descend f c.down.above c.down.level.items) (sym c.down.invariant.pages)
    ∙ ap (λ (l : List Entry). descend (g.P.PageSource.pages c.down.pages) c.down.above l) (sym c.as_slice-in-down.ensures.value) ∙ sym found in
    inl (sym (walk_stop old c.down.above c.down.level.items (walk_from old c.args.height (top c.args.root)) c.down-test.true below c.down.invariant.found))
