-- The edits of the page and of the fresh one, put together.
use Rattle.std.proofs.Common.{◌≡◌, ◌+◌, ◌<◌, ◌≤◌, ◌++◌, ℕ, [], drop, length, sym, ap, ◌∙◌, subst, arith, rules}
use Rattle.std.proofs.lemmas.Option.{same_Some, slice_get_within}
use Rattle.std.specs.List.{insert}
use Rattle.page_store.specs.Image.{Image}
use Rattle.page_store.specs.declared.pages.Head.{Head}
use Rattle.page_workspace.specs.Drafts.{meant}
use Rattle.btree_index.specs.Fits.{IsTreePage, IsHalvable}
use Rattle.btree_index.specs.Steps.{Alters}
use Rattle.btree_index.proofs.FitLemmas.{few_cells, tree_room, half_first, half_rest, half_head}
use Rattle.btree_index.proofs.StepLemmas.{halved}
use Rattle.btree_index.proofs.halves.halve.Goals as goal

pub returns-clause-halved : goal.returns-clause-halved
returns-clause-halved g c =
    let pages = g.P.PageSource.pages in
    let p0 = meant pages c.args.space.now in
    let p1 = meant pages c.claim.new.space in
    let loaded = c.in_ok-load_to_edit.ensures in
    let half = c.in_ok-half.half in
    let image = c.page.result.now in
    let is : image ≡ p0 c.args.id = same_Some image (p0 c.args.id) (sym c.page.ensures ∙ loaded.loaded) in
    let next : c.in-Some.behind ≡ half.at + 1 = search rules in
    let a1 : Alters p0 p1 c.args.fresh half.head [] = subst (λ (f : ℕ → Image). Alters f p1 c.args.fresh half.head []) loaded.pages c.in_ok-claim.ensures.claimed in
    halved p0 p1 (meant pages c.alter.new.space) (meant pages c.fill.new.space) (meant pages c.trim.new.space) (meant pages c.alter-2.new.space)
    image c.args.id c.args.fresh c.in-Some.behind half c.if-id-fresh.false is c.in_ok-half.ensures.half next a1
    c.in_ok-alter.ensures.altered (c.in_ok-fill.ensures.filled c.if-id-fresh.false) c.in_ok-trim.ensures.trimmed c.in_ok-alter-2.ensures.altered

pub returns-in_err-half-clause-fit : goal.returns-in_err-half-clause-fit
returns-in_err-half-clause-fit g c = λ off can blank.
    let p0 = meant g.P.PageSource.pages c.args.space.now in
    let image = c.page.result.now in
    let is : image ≡ p0 c.args.id = same_Some image (p0 c.args.id) (sym c.page.ensures ∙ c.in_ok-load_to_edit.ensures.loaded) in
    search (rules, c.in_err-half.ensures.fit (subst IsHalvable (sym is) can))

pub returns-in_err-claim-clause-fit : goal.returns-in_err-claim-clause-fit
returns-in_err-claim-clause-fit g c = λ off can blank.
    search (rules, c.in_err-claim.ensures.fit (ap (λ (f : ℕ → Image). (f c.args.fresh).cells) c.in_ok-load_to_edit.ensures.pages ∙ blank))

pub returns-in_err-alter-clause-fit : goal.returns-in_err-alter-clause-fit
returns-in_err-alter-clause-fit g c = λ off can blank.
    let pages = g.P.PageSource.pages in
    let p0 = meant pages c.args.space.now in
    let p1 = meant pages c.claim.new.space in
    let loaded = c.in_ok-load_to_edit.ensures in
    let half = c.in_ok-half.half in
    let image = c.page.result.now in
    let is : image ≡ p0 c.args.id = same_Some image (p0 c.args.id) (sym c.page.ensures ∙ loaded.loaded) in
    let a1 : Alters p0 p1 c.args.fresh half.head [] = subst (λ (f : ℕ → Image). Alters f p1 c.args.fresh half.head []) loaded.pages c.in_ok-claim.ensures.claimed in
    search (rules, c.in_err-alter.ensures.fit (half_first p0 p1 image c.args.id c.args.fresh half is can c.in_ok-half.ensures.half a1))

pub returns-in_err-fill-clause-fit : goal.returns-in_err-fill-clause-fit
returns-in_err-fill-clause-fit g c = λ off can blank.
    let pages = g.P.PageSource.pages in
    let p0 = meant pages c.args.space.now in
    let p1 = meant pages c.claim.new.space in
    let loaded = c.in_ok-load_to_edit.ensures in
    let half = c.in_ok-half.half in
    let image = c.page.result.now in
    let is : image ≡ p0 c.args.id = same_Some image (p0 c.args.id) (sym c.page.ensures ∙ loaded.loaded) in
    let next : c.in-Some.behind ≡ half.at + 1 = search rules in
    let a1 : Alters p0 p1 c.args.fresh half.head [] = subst (λ (f : ℕ → Image). Alters f p1 c.args.fresh half.head []) loaded.pages c.in_ok-claim.ensures.claimed in
    search (
      rules,
      c.in_err-fill.ensures.fit off (half_rest p0 p1 (meant pages c.alter.new.space) image c.args.id c.args.fresh c.in-Some.behind half off is can
          c.in_ok-half.ensures.half next a1 c.in_ok-alter.ensures.altered),
    )

pub returns-in_err-alter-2-clause-fit : goal.returns-in_err-alter-2-clause-fit
returns-in_err-alter-2-clause-fit g c = λ off can blank.
    let pages = g.P.PageSource.pages in
    let p0 = meant pages c.args.space.now in
    let p1 = meant pages c.claim.new.space in
    let loaded = c.in_ok-load_to_edit.ensures in
    let half = c.in_ok-half.half in
    let image = c.page.result.now in
    let is : image ≡ p0 c.args.id = same_Some image (p0 c.args.id) (sym c.page.ensures ∙ loaded.loaded) in
    let a1 : Alters p0 p1 c.args.fresh half.head [] = subst (λ (f : ℕ → Image). Alters f p1 c.args.fresh half.head []) loaded.pages c.in_ok-claim.ensures.claimed in
    let p2 = meant pages c.alter.new.space in
    let p3 = meant pages c.fill.new.space in
    let after : Head = record half.head { right = c.args.fresh } in
    search (
      rules,
      c.in_err-alter-2.ensures.fit (half_head p0 p1 p2 p3 (meant pages c.trim.new.space) image c.args.id c.args.fresh half after
          (insert (p1 c.args.fresh).cells 0 half.first) ((p2 c.args.fresh).cells ++ drop c.in-Some.behind (p2 c.args.id).cells) off is can
          c.in_ok-half.ensures.half a1 c.in_ok-alter.ensures.altered (c.in_ok-fill.ensures.filled off) c.in_ok-trim.ensures.trimmed),
    )

pub returns-in_default-clause-fit : goal.returns-in_default-clause-fit
returns-in_default-clause-fit g c = λ off can blank.
    let p0 = meant g.P.PageSource.pages c.args.space.now in
    let half = c.in_ok-half.half in
    let image = c.page.result.now in
    let is : image ≡ p0 c.args.id = same_Some image (p0 c.args.id) (sym c.page.ensures ∙ c.in_ok-load_to_edit.ensures.loaded) in
    let said = c.in_ok-half.ensures.half in
    let within : half.at < length image.cells = slice_get_within image.cells half.at said.middle said.here in
    let few : length image.cells ≤ 1018 = few_cells image.cells (tree_room image (subst IsTreePage (sym is) can.page)) in
    omega (arith, c.in_default.ensures, within, few)
