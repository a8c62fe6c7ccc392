-- The row of leaves, walked over what the source means.
use Rattle.std.proofs.Common.{ℕ, ◌≡◌, ◌≤◌, ◌++◌, List, Some, map, sym, ap, ◌∙◌, subst, arith}
use Rattle.std.specs.Prelude.{option_copied}
use Rattle.std.proofs.lemmas.Option.{same_Some}
use Rattle.page_store.specs.Image.{Image}
use Rattle.page_store.specs.declared.pages.Head.{Head}
use Rattle.btree_index.specs.Keys.{Key}
use Rattle.btree_index.specs.Pairs.{between, HasBeyond}
use Rattle.btree_index.specs.Trees.{Ascends, pair_of}
use Rattle.btree_index.specs.Ways.{OnRow}
use Rattle.btree_index.proofs.FindLemmas.{ok_before}
use Rattle.btree_index.proofs.RowLemmas.{row_begins, leaf_next, leaf_end, leaf_stop}
use Rattle.btree_index.proofs.scans.scan.Goals as goal
use Rattle.btree_index.proofs.scans.scan.Goals.{then-right-eq0-via-then-right-eq0, then-right-eq0-via-else-right-eq0+then-not-goes_on}

pub along-init : goal.along-init
along-init g c =
    let rose : g.P.PageSource.losses c.args.pages.now ≤ g.P.PageSource.losses c.leaf_for.new.pages = c.in_ok-id.ensures.excused in
    let pages = g.P.PageSource.pages c.args.pages.now in
    record {
      pages = c.in_ok-id.ensures.pages;
      below = c.in_ok-id.ensures.below;
      losses = rose;
      loaded = c.in_ok-id.ensures.loaded;
      row = λ list tree.
          (let P : List (Key × List ℕ) → Type 0 = λ l. OnRow (g.P.PageSource.pages c.args.pages.now) c.args.low.now (option_copied c.args.high) c.in_ok-id.id l (between c.args.low.now (option_copied c.args.high) list) in
          subst P (sym c.new-found.ensures.items)
          (row_begins (g.P.PageSource.pages c.args.pages.now) c.args.low.now (option_copied c.args.high) c.in_ok-id.id list (c.in_ok-id.ensures.way list tree) c.in_ok-id.ensures.leaf));
    }

pub returns-then-right-eq0-clause-found : goal.returns-then-right-eq0-clause-found
returns-then-right-eq0-clause-found g c = λ list tree.
    let now = same_Some c.page-page.result.now (g.P.PageSource.pages c.args.pages.now c.along.id) (sym c.page-page.ensures ∙ c.along.invariant.loaded) in
    let ok = ok_before c.add_between.result c.map_err.result _ c.in_ok-goes_on.goes_on c.map_err.ensures.cases c.in_ok-goes_on.was in
    let added : c.add_between.new.found.items ≡ c.along.found.items ++ between c.args.low.now (option_copied c.args.high) (map pair_of c.page-page.result.now.cells) = (rw ok at c.add_between.ensures.pairs) (subst (λ (i : Image). Ascends i.cells) (sym now) (c.along.invariant.row list tree).fenced.0.ascends) in
    let row = c.along.invariant.row list tree in
    elim c.then-right-eq0.branch [
      | then-right-eq0-via-then-right-eq0 w ↦
          leaf_end (g.P.PageSource.pages c.args.pages.now) c.args.low.now (option_copied c.args.high) c.along.id c.along.found.items c.add_between.new.found.items
          (between c.args.low.now (option_copied c.args.high) list) c.page-page.result.now row now
          (ap (λ (h : Head). h.right) (sym c.head-right.ensures) ∙ w.if-right-eq0.true) added
      | then-right-eq0-via-else-right-eq0+then-not-goes_on w ↦
          (let beyond : HasBeyond (option_copied c.args.high) c.page-page.result.now.cells = (rw ok at c.add_between.ensures.beyond) w.if-not-goes_on.true in
          leaf_stop (g.P.PageSource.pages c.args.pages.now) c.args.low.now (option_copied c.args.high) c.along.id c.along.found.items c.add_between.new.found.items
          (between c.args.low.now (option_copied c.args.high) list) c.page-page.result.now row now beyond added)
    ]

pub along-preserved : goal.along-preserved
along-preserved g c =
    let now = same_Some c.page-page.result.now (g.P.PageSource.pages c.args.pages.now c.along.id) (sym c.page-page.ensures ∙ c.along.invariant.loaded) in
    let ok = ok_before c.add_between.result c.map_err.result _ c.in_ok-goes_on.goes_on c.map_err.ensures.cases c.in_ok-goes_on.was in
    let rose : g.P.PageSource.losses c.along.pages ≤ g.P.PageSource.losses c.load.new.self = c.in_ok-load.ensures.excused in
    let right = ap (λ (h : Head). h.right) c.head-right.ensures in
    record {
      pages = c.in_ok-load.ensures.pages ∙ c.along.invariant.pages;
      below = c.in_ok-load.ensures.below ∙ c.along.invariant.below;
      losses = omega arith;
      loaded = c.in_ok-load.ensures.loaded ∙ ap (λ (f : ℕ → Image). Some (f c.head-right.result.right)) c.along.invariant.pages;
      row = λ list tree.
          (let rises : Ascends c.page-page.result.now.cells = subst (λ (i : Image). Ascends i.cells) (sym now) (c.along.invariant.row list tree).fenced.0.ascends in
          let added : c.add_between.new.found.items ≡ c.along.found.items ++ between c.args.low.now (option_copied c.args.high) (map pair_of c.page-page.result.now.cells) =
          (rw ok at c.add_between.ensures.pairs) rises in
          let P : ℕ → Type 0 = λ n. OnRow (g.P.PageSource.pages c.args.pages.now) c.args.low.now (option_copied c.args.high) n c.add_between.new.found.items (between c.args.low.now (option_copied c.args.high) list) in
          subst P (sym right)
          (leaf_next (g.P.PageSource.pages c.args.pages.now) c.args.low.now (option_copied c.args.high) c.along.id c.along.found.items c.add_between.new.found.items
          (between c.args.low.now (option_copied c.args.high) list) c.page-page.result.now (c.along.invariant.row list tree) now
          (λ z. c.if-right-eq0.false (right ∙ z)) added));
    }
