-- Each page that is loaded is the workspace's, so the way goes on over what the workspace means.
use Rattle.std.proofs.Common.{◌≡◌, ◌⊎◌, Some, ℕ, refl, suc, ◌≤◌, ◌<◌, ◌+◌, ◌-◌, ◌^◌, sym, ap, ◌∙◌, subst, arith, add-one, rules}
use Rattle.std.proofs.Math.Logic.{⊎_elim}
use Rattle.std.proofs.lemmas.Bool.{false≢true}
use Rattle.std.proofs.lemmas.Option.{same_Some}
use Rattle.page_store.specs.Image.{Image}
use Rattle.page_store.specs.declared.pages.Head.{Head}
use Rattle.page_store.specs.declared.pages.PageKind.TheVariants.{Inner}
use Rattle.page_workspace.specs.Drafts.{meant}
use Rattle.btree_index.specs.Pairs.{choice}
use Rattle.btree_index.specs.Fits.{HasSpare, IsFull, IsFullUntil}
use Rattle.btree_index.specs.Changes.{Leads}
use Rattle.btree_index.specs.Prunes.{GoesOn}
use Rattle.btree_index.specs.Trees.{IsInnerPage}
use Rattle.btree_index.proofs.DepthLemmas.{IsDeep, placed_page, inner_page, page_kind, deep_begins, deep_on, until_more, turns_enough}
use Rattle.btree_index.proofs.LeafWays.{goes_on}
use Rattle.btree_index.proofs.PathLemmas.{path_begins, path_on, leads_over}
use Rattle.btree_index.proofs.paths.way_for.Goals as goal

pub down-init : goal.down-init
down-init g c = record {
  edits = c.in_ok-load_to_edit.ensures.edits;
  pages = c.in_ok-load_to_edit.ensures.pages;
  base = c.in_ok-load_to_edit.ensures.base;
  losses = c.in_ok-load_to_edit.ensures.excused;
  leads = path_begins (meant g.P.PageSource.pages c.args.space.now) c.args.root c.args.key.now;
  below = record { steps = 0; is = refl };
  on = λ leaf h. h;
  over = tt;
  small = c.ranges.root.fits;
  full = tt;
  deep = λ list tree. deep_begins (meant g.P.PageSource.pages c.args.space.now) c.args.root c.args.key.now tree.height;
}

pub down-preserved : goal.down-preserved
down-preserved g c =
    let pages = meant g.P.PageSource.pages c.args.space.now in
    let kept = c.down.invariant in
    let loaded = c.in_ok-load_to_edit-2.ensures in
    let page = c.page-page.result.now in
    let now : page ≡ pages c.down.leaf =
    same_Some page (pages c.down.leaf) (sym c.page-page.ensures ∙ loaded.loaded ∙ ap (λ (f : ℕ → Image). Some (f c.down.leaf)) kept.pages) in
    let kind : (pages c.down.leaf).head.kind ≡ Inner =
    ap (λ (i : Image). i.head.kind) (sym now) ∙ ap (λ (h : Head). h.kind) (sym c.head-in-down.ensures) ∙ c.in-Inner.is in
    let rose : g.P.PageSource.losses c.down.space.base ≤ g.P.PageSource.losses c.load_to_edit-in-down.new.self.base = loaded.excused in
    let earlier : g.P.PageSource.losses c.args.space.now.base ≤ g.P.PageSource.losses c.down.space.base = kept.losses in
    let roomy = c.roomier-roomy.result in
    let R : Image → Type 0 = λ i. ((roomy ≡ Some c.down.leaf) × HasSpare i) ⊎ ((roomy ≡ c.down.roomy) × IsFull i) in
    let roomier : R (pages c.down.leaf) = subst R now c.roomier-roomy.ensures in
    let child : c.in-Some.child ≡ choice c.args.key.now (pages c.down.leaf).cells = c.in-Some.ensures.child ∙ ap (λ (i : Image). choice c.args.key.now i.cells) now in
    record {
      edits = loaded.edits ∙ kept.edits;
      pages = loaded.pages ∙ kept.pages;
      base = loaded.base ∙ kept.base;
      losses = omega arith;
      leads = subst (λ (n : ℕ). Leads pages c.args.root c.args.key.now n) (sym child)
          (path_on pages c.args.root c.args.key.now c.down.leaf kept.leads kind);
      below = record {
        steps = suc kept.below.steps;
        is = ap (λ (n : ℕ). choice c.args.key.now (pages n).cells) kept.below.is ∙ sym child;
      };
      on = subst (λ (n : ℕ). GoesOn pages c.args.key.now c.args.root n) (sym child)
          (goes_on pages c.args.key.now c.args.root c.down.leaf kept.on kind);
      over = leads_over pages c.args.root c.args.key.now c.down.leaf c.down.roomy roomy kept.leads kind kept.over roomier;
      small = search rules;
      full = subst (λ (n : ℕ). IsFullUntil pages c.args.key.now roomy n) (sym child)
          (until_more pages c.args.key.now c.down.leaf c.down.roomy roomy kept.full roomier);
      deep = λ list tree. subst (λ (n : ℕ). IsDeep pages c.args.root c.args.key.now n (c.down.counter + 1) tree.height) (sym child)
          (subst (λ (d : ℕ). IsDeep pages c.args.root c.args.key.now (choice c.args.key.now (pages c.down.leaf).cells) d tree.height) (sym (add-one c.down.counter))
          (deep_on pages c.args.root c.args.key.now c.down.leaf c.down.counter tree.height tree.holds.shaped tree.holds.apart kind kept.small (kept.deep list tree)));
    }

pub returns-in-None-clause-fit : goal.returns-in-None-clause-fit
returns-in-None-clause-fit g c = λ list tree.
    let pages = meant g.P.PageSource.pages c.args.space.now in
    let kept = c.down.invariant in
    let leaf = c.down.leaf in
    let page = c.page-page.result.now in
    let now : page ≡ pages leaf =
    same_Some page (pages leaf) (sym c.page-page.ensures ∙ c.in_ok-load_to_edit-2.ensures.loaded ∙ ap (λ (f : ℕ → Image). Some (f leaf)) kept.pages) in
    let kind : (pages leaf).head.kind ≡ Inner =
    ap (λ (i : Image). i.head.kind) (sym now) ∙ ap (λ (h : Head). h.kind) (sym c.head-in-down.ensures) ∙ c.in-Inner.is in
    let inner = inner_page (pages leaf) kind
    (placed_page pages c.args.root c.args.key.now leaf c.down.counter tree.height tree.holds.shaped (kept.deep list tree).placed) in
    false≢true (c.in-None.ensures.some inner.0 (subst (λ (i : Image). IsInnerPage inner.0 i) (sym now) inner.1))

pub returns-in_default-clause-fit : goal.returns-in_default-clause-fit
returns-in_default-clause-fit g c = λ list tree.
    let pages = meant g.P.PageSource.pages c.args.space.now in
    let kept = c.down.invariant in
    let leaf = c.down.leaf in
    let page = c.page-page.result.now in
    let now : page ≡ pages leaf =
    same_Some page (pages leaf) (sym c.page-page.ensures ∙ c.in_ok-load_to_edit-2.ensures.loaded ∙ ap (λ (f : ℕ → Image). Some (f leaf)) kept.pages) in
    let kind : c.head-in-down.result.kind ≡ (pages leaf).head.kind =
    ap (λ (h : Head). h.kind) c.head-in-down.ensures ∙ ap (λ (i : Image). i.head.kind) now in
    let tree_page = placed_page pages c.args.root c.args.key.now leaf c.down.counter tree.height tree.holds.shaped (kept.deep list tree).placed in
    ⊎_elim (λ l. c.in_default.not-Leaf (kind ∙ l)) (λ i. c.in_default.not-Inner (kind ∙ i)) (page_kind (pages leaf) tree_page)

pub returns-clause-fit : goal.returns-clause-fit
returns-clause-fit g c = λ list tree.
    let pages = meant g.P.PageSource.pages c.args.space.now in
    let root = c.args.root in
    let kept = c.down.invariant in
    let turns = c.turns_from-turns.result in
    let page = c.page.result.now in
    let now : page ≡ pages root = same_Some page (pages root) (sym c.page.ensures ∙ c.in_ok-load_to_edit.ensures.loaded) in
    let level : c.head.result.level ≡ (pages root).head.level =
    ap (λ (h : Head). h.level) c.head.ensures ∙ ap (λ (i : Image). i.head.level) now in
    let R : ℕ → Type 0 = λ n. (n < 255 → turns ≡ n + 1) × (n ≡ 255 → turns ≡ 2 ^ 64 - 1) in
    let there : R (pages root).head.level = subst R level (c.turns_from-turns.ensures.low, c.turns_from-turns.ensures.high) in
    turns_enough pages root c.args.key.now c.down.leaf c.down.counter turns list tree (kept.deep list tree) kept.small c.down-test.false there.0 there.1
