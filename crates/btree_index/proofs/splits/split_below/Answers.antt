-- The steps, in their order.
use Rattle.std.proofs.Common.{◌≡◌, ◌+◌, ◌<◌, ◌^◌, ℕ, List, [], length, sym, ap, ◌∙◌, subst, rules, arith, ◌≤◌}
use Rattle.std.proofs.lemmas.Option.{same_Some, slice_get_within}
use Rattle.std.proofs.lemmas.Result.{err_from_is_err_and}
use Rattle.std.specs.List.{insert, slice_get}
use Rattle.page_store.specs.Image.{Image, HasRoom}
use Rattle.page_store.specs.Edits.{IsFit}
use Rattle.page_store.specs.declared.edits.Edit.TheVariants.{PutCell}
use Rattle.page_workspace.specs.Drafts.{meant, IsEditExcused}
use Rattle.page_workspace.proofs.DraftLaws.{excused_after}
use Rattle.btree_index.specs.Cells.{inner_cell}
use Rattle.btree_index.specs.Pairs.{choice}
use Rattle.btree_index.specs.Trees.{IsInnerPage}
use Rattle.btree_index.specs.Fits.{HasSpare, IsTreePage, IsHalvable}
use Rattle.btree_index.specs.Steps.{Alters, Halves}
use Rattle.btree_index.proofs.FitLemmas.{few_cells, stays_same, stays_off, fresh_blank, separator_short, separator_fits}
use Rattle.btree_index.proofs.splits.split_below.Goals as goal

pub returns-clause-split : goal.returns-clause-split
returns-clause-split g c =
    let pages = g.P.PageSource.pages in
    let mid = meant pages c.take_page.new.self in
    let halved = meant pages c.halve.new.space in
    let new = meant pages c.alter.new.space in
    let loaded = c.in_ok-load_to_edit.ensures in
    let parent = c.args.parent in
    let fresh = c.in_ok-fresh.fresh in
    let image = c.page.result.now in
    let below = c.in-Some.below in
    let said = c.in-Some.ensures.place in
    let separator = c.in_ok-separator.separator in
    let is : image ≡ mid parent = same_Some image (mid parent) (sym c.page.ensures ∙ loaded.loaded) in
    let behind : c.in-Some-checked_add.behind ≡ below.at + 1 = search rules in
    let small : fresh < 2 ^ 64 = search rules in
    let cell : c.in_ok-cell.cell ≡ inner_cell separator fresh = c.in_ok-cell.ensures.cell in
    let one : Halves mid halved below.child fresh separator =
    subst (λ (f : ℕ → Image). Halves f halved below.child fresh separator) loaded.pages c.in_ok-separator.ensures.halved in
    let altered = c.in_ok-alter.ensures.altered in
    let at_behind : Alters halved new parent (halved parent).head (insert (halved parent).cells (below.at + 1) c.in_ok-cell.cell) =
    subst (λ (n : ℕ). Alters halved new parent (halved parent).head (insert (halved parent).cells n c.in_ok-cell.cell)) behind altered in
    record {
      taken = mid;
      fresh = fresh;
      takes = c.in_ok-fresh.ensures.taken;
      small = small;
      halved = halved;
      separator = separator;
      short = c.in_ok-cell.ensures.short;
      at = below.at;
      cell = said.cell;
      here = ap (λ (i : Image). slice_get i.cells below.at) (sym is) ∙ said.here;
      halves = subst (λ (n : ℕ). Halves mid halved n fresh separator) said.child one;
      puts = subst (λ (x : List ℕ). Alters halved new parent (halved parent).head (insert (halved parent).cells (below.at + 1) x)) cell at_behind;
      room = subst HasRoom (sym altered.is) c.in_ok-alter.ensures.room;
    }

pub returns-in_err-cell-clause-excused : goal.returns-in_err-cell-clause-excused
returns-in_err-cell-clause-excused g c =
    let losses = g.P.PageSource.losses in
    let a : losses c.args.space.now.base ≤ losses c.take_page.new.self.base = c.in_ok-fresh.ensures.excused in
    let b : losses c.take_page.new.self.base ≤ losses c.load_to_edit.new.self.base = c.in_ok-load_to_edit.ensures.excused in
    let d : losses c.load_to_edit.new.self.base ≤ losses c.halve.new.space.base = c.in_ok-separator.ensures.excused in
    let rose : losses c.args.space.now.base ≤ losses c.halve.new.space.base = omega arith in
    let here : IsEditExcused c.from_residual-in_err-cell.result (losses c.halve.new.space.base) (losses c.halve.new.space.base) = search rules in
    excused_after c.from_residual-in_err-cell.result (losses c.args.space.now.base) (losses c.halve.new.space.base) rose here

pub returns-in_err-fresh-clause-fit : goal.returns-in_err-fresh-clause-fit
returns-in_err-fresh-clause-fit g c = λ can. search (rules, c.in_err-fresh.ensures.fit can.next.meta)

pub returns-in_default-clause-fit : goal.returns-in_default-clause-fit
returns-in_default-clause-fit g c = λ can.
    let pages = g.P.PageSource.pages in
    let old = meant pages c.args.space.now in
    let mid = meant pages c.take_page.new.self in
    let loaded = c.in_ok-load_to_edit.ensures in
    let parent = c.args.parent in
    let fresh = c.in_ok-fresh.fresh in
    let takes = c.in_ok-fresh.ensures.taken in
    let image = c.page.result.now in
    let is : image ≡ mid parent = same_Some image (mid parent) (sym c.page.ensures ∙ loaded.loaded) in
    let was : image ≡ old parent = is ∙ stays_same old mid fresh parent takes can.stays in
    let inner : IsInnerPage can.height image = subst (λ (i : Image). IsInnerPage can.height i) (sym was) can.inner in
    search (rules, c.in_default.ensures.some can.height inner)

pub returns-in_default-checked_add-clause-fit : goal.returns-in_default-checked_add-clause-fit
returns-in_default-checked_add-clause-fit g c = λ can.
    let pages = g.P.PageSource.pages in
    let old = meant pages c.args.space.now in
    let mid = meant pages c.take_page.new.self in
    let loaded = c.in_ok-load_to_edit.ensures in
    let parent = c.args.parent in
    let fresh = c.in_ok-fresh.fresh in
    let takes = c.in_ok-fresh.ensures.taken in
    let image = c.page.result.now in
    let is : image ≡ mid parent = same_Some image (mid parent) (sym c.page.ensures ∙ loaded.loaded) in
    let was : image ≡ old parent = is ∙ stays_same old mid fresh parent takes can.stays in
    let place = c.in-Some.ensures.place in
    let within : c.in-Some.below.at < length image.cells = slice_get_within image.cells c.in-Some.below.at place.cell place.here in
    let room : HasRoom image.cells = subst (λ (i : Image). HasRoom i.cells) (sym was) can.inner.fits in
    let few : length image.cells ≤ 1018 = few_cells image.cells room in
    omega (arith, c.in_default-checked_add.ensures, within, few)

pub returns-in_err-separator-clause-fit : goal.returns-in_err-separator-clause-fit
returns-in_err-separator-clause-fit g c = λ can.
    let pages = g.P.PageSource.pages in
    let old = meant pages c.args.space.now in
    let mid = meant pages c.take_page.new.self in
    let loaded = c.in_ok-load_to_edit.ensures in
    let parent = c.args.parent in
    let fresh = c.in_ok-fresh.fresh in
    let takes = c.in_ok-fresh.ensures.taken in
    let image = c.page.result.now in
    let is : image ≡ mid parent = same_Some image (mid parent) (sym c.page.ensures ∙ loaded.loaded) in
    let was : image ≡ old parent = is ∙ stays_same old mid fresh parent takes can.stays in
    let below = c.in-Some.below in
    let child : below.child ≡ choice c.args.key.now (old parent).cells =
    c.in-Some.ensures.child ∙ ap (λ (i : Image). choice c.args.key.now i.cells) was in
    let same : mid below.child ≡ old (choice c.args.key.now (old parent).cells) =
    ap mid child ∙ stays_same old mid fresh (choice c.args.key.now (old parent).cells) takes can.child_stays in
    let off : below.child ≡ fresh → ⊥ = λ e. stays_off old mid fresh (choice c.args.key.now (old parent).cells) takes can.child_stays (sym child ∙ e) in
    let half : IsHalvable (mid below.child) = subst IsHalvable (sym same) can.child in
    let blank : (mid fresh).cells ≡ [] = fresh_blank old mid fresh takes can.next in
    let R : (ℕ → Image) → Type 0 = λ f. IsHalvable (f below.child) × ((f fresh).cells ≡ []) in
    let there : R (meant pages c.load_to_edit.new.self) = subst R (sym loaded.pages) (half, blank) in
    search (rules, c.in_err-separator.ensures.fit off there.0 there.1)

pub returns-in_err-cell-clause-fit : goal.returns-in_err-cell-clause-fit
returns-in_err-cell-clause-fit g c = λ can.
    let pages = g.P.PageSource.pages in
    let old = meant pages c.args.space.now in
    let mid = meant pages c.take_page.new.self in
    let loaded = c.in_ok-load_to_edit.ensures in
    let parent = c.args.parent in
    let fresh = c.in_ok-fresh.fresh in
    let takes = c.in_ok-fresh.ensures.taken in
    let image = c.page.result.now in
    let is : image ≡ mid parent = same_Some image (mid parent) (sym c.page.ensures ∙ loaded.loaded) in
    let was : image ≡ old parent = is ∙ stays_same old mid fresh parent takes can.stays in
    let below = c.in-Some.below in
    let child : below.child ≡ choice c.args.key.now (old parent).cells =
    c.in-Some.ensures.child ∙ ap (λ (i : Image). choice c.args.key.now i.cells) was in
    let same : mid below.child ≡ old (choice c.args.key.now (old parent).cells) =
    ap mid child ∙ stays_same old mid fresh (choice c.args.key.now (old parent).cells) takes can.child_stays in
    let halved = meant pages c.halve.new.space in
    let separator = c.in_ok-separator.separator in
    let one : Halves mid halved below.child fresh separator =
    subst (λ (f : ℕ → Image). Halves f halved below.child fresh separator) loaded.pages c.in_ok-separator.ensures.halved in
    let short : length separator ≤ 1630 =
    separator_short mid halved below.child fresh separator (subst IsTreePage (sym same) can.child.page) one in
    search (rules, c.in_err-cell.ensures.fit short)

pub returns-in_err-alter-clause-fit : goal.returns-in_err-alter-clause-fit
returns-in_err-alter-clause-fit g c = λ can.
    let pages = g.P.PageSource.pages in
    let old = meant pages c.args.space.now in
    let mid = meant pages c.take_page.new.self in
    let loaded = c.in_ok-load_to_edit.ensures in
    let parent = c.args.parent in
    let fresh = c.in_ok-fresh.fresh in
    let takes = c.in_ok-fresh.ensures.taken in
    let image = c.page.result.now in
    let is : image ≡ mid parent = same_Some image (mid parent) (sym c.page.ensures ∙ loaded.loaded) in
    let was : image ≡ old parent = is ∙ stays_same old mid fresh parent takes can.stays in
    let below = c.in-Some.below in
    let child : below.child ≡ choice c.args.key.now (old parent).cells =
    c.in-Some.ensures.child ∙ ap (λ (i : Image). choice c.args.key.now i.cells) was in
    let same : mid below.child ≡ old (choice c.args.key.now (old parent).cells) =
    ap mid child ∙ stays_same old mid fresh (choice c.args.key.now (old parent).cells) takes can.child_stays in
    let halved = meant pages c.halve.new.space in
    let separator = c.in_ok-separator.separator in
    let one : Halves mid halved below.child fresh separator =
    subst (λ (f : ℕ → Image). Halves f halved below.child fresh separator) loaded.pages c.in_ok-separator.ensures.halved in
    let short : length separator ≤ 1630 =
    separator_short mid halved below.child fresh separator (subst IsTreePage (sym same) can.child.page) one in
    let behind : c.in-Some-checked_add.behind ≡ below.at + 1 = search rules in
    let off : parent ≡ below.child → ⊥ = λ e. can.apart (e ∙ child) in
    let far : parent ≡ fresh → ⊥ = stays_off old mid fresh parent takes can.stays in
    let spare : HasSpare (mid parent) = subst HasSpare (sym (stays_same old mid fresh parent takes can.stays)) can.spare in
    let place = c.in-Some.ensures.place in
    let fits : IsFit (halved parent) (PutCell c.in-Some-checked_add.behind c.in_ok-cell.cell) =
    separator_fits mid halved parent below.child fresh below.at c.in-Some-checked_add.behind separator place.cell c.in_ok-cell.cell off far spare
    (ap (λ (i : Image). slice_get i.cells below.at) (sym is) ∙ place.here) behind short c.in_ok-cell.ensures.cell one in
    let told = err_from_is_err_and c.from_residual-in_err-alter.result c.from_residual-in_err-alter.ensures.1 in
    rw (told.1, told.2) (c.in_err-alter.ensures.fit fits)
