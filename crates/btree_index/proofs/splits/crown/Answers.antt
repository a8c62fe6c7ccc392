-- The steps, in their order.
use Rattle.std.proofs.Common.{◌≡◌, ◌<◌, ◌^◌, ◌++◌, ℕ, [], drop, sym, ap, ◌∙◌, subst, rules}
use Rattle.std.proofs.lemmas.Option.{same_Some}
use Rattle.std.specs.Prelude.{IfOk}
use Rattle.page_store.specs.Image.{Image}
use Rattle.page_workspace.specs.Drafts.{meant}
use Rattle.btree_index.specs.Cells.{inner_cell}
use Rattle.btree_index.specs.Fits.{IsTreePage}
use Rattle.btree_index.specs.Steps.{Alters}
use Rattle.btree_index.proofs.FindLemmas.{ok_through, if_ok}
use Rattle.btree_index.proofs.FitLemmas.{stays_same, stays_off, fresh_blank, raise_fill, raise_head, raise_put}
use Rattle.btree_index.proofs.StepLemmas.{crown_made}
use Rattle.btree_index.proofs.splits.crown.Goals as goal

pub returns-clause-crowned : goal.returns-clause-crowned
returns-clause-crowned g c =
    let pages = g.P.PageSource.pages in
    let old = meant pages c.args.space.now in
    let mid = meant pages c.take_page.new.self in
    let p1 = meant pages c.claim.new.space in
    let loaded = c.in_ok-load_to_edit.ensures in
    let root = c.args.root in
    let fresh = c.in_ok-fresh.fresh in
    let image = c.page.result.now in
    let before = c.head-before.result in
    let is : image ≡ mid root = same_Some image (mid root) (sym c.page.ensures ∙ loaded.loaded) in
    let head : before ≡ (mid root).head = c.head-before.ensures ∙ ap (λ (i : Image). i.head) is in
    let small : fresh < 2 ^ 64 = search rules in
    let cell : c.in_ok-cell.cell ≡ inner_cell [] fresh = search rules in
    let a1 : Alters mid p1 fresh before [] = subst (λ (f : ℕ → Image). Alters f p1 fresh before []) loaded.pages c.in_ok-claim.ensures.claimed in
    crown_made old mid p1 (meant pages c.fill.new.space) (meant pages c.trim.new.space) (meant pages c.alter.new.space) (meant pages c.alter-2.new.space)
    root fresh before c.raised-after.result c.in_ok-cell.cell c.in_ok-fresh.ensures.taken small c.if-root-fresh.false head
    c.raised-after.ensures.kind c.raised-after.ensures.level cell a1 (c.in_ok-fill.ensures.filled c.if-root-fresh.false) c.in_ok-trim.ensures.trimmed
    c.in_ok-alter.ensures.altered c.in_ok-alter-2.ensures.altered

pub returns-in_err-fresh-clause-fit : goal.returns-in_err-fresh-clause-fit
returns-in_err-fresh-clause-fit g c = λ can. search (rules, c.in_err-fresh.ensures.fit can.next.meta)

pub returns-then-root-fresh-clause-fit : goal.returns-then-root-fresh-clause-fit
returns-then-root-fresh-clause-fit g c = λ can.
    let pages = g.P.PageSource.pages in
    let old = meant pages c.args.space.now in
    let mid = meant pages c.take_page.new.self in
    let root = c.args.root in
    let fresh = c.in_ok-fresh.fresh in
    let takes = c.in_ok-fresh.ensures.taken in
    stays_off old mid fresh root takes can.stays c.if-root-fresh.true

pub returns-in_err-claim-clause-fit : goal.returns-in_err-claim-clause-fit
returns-in_err-claim-clause-fit g c = λ can.
    let pages = g.P.PageSource.pages in
    let old = meant pages c.args.space.now in
    let mid = meant pages c.take_page.new.self in
    let root = c.args.root in
    let fresh = c.in_ok-fresh.fresh in
    let takes = c.in_ok-fresh.ensures.taken in
    search (rules, c.in_err-claim.ensures.fit (ap (λ (f : ℕ → Image). (f fresh).cells) c.in_ok-load_to_edit.ensures.pages ∙ fresh_blank old mid fresh takes can.next))

pub returns-in_err-fill-clause-fit : goal.returns-in_err-fill-clause-fit
returns-in_err-fill-clause-fit g c = λ can.
    let pages = g.P.PageSource.pages in
    let old = meant pages c.args.space.now in
    let mid = meant pages c.take_page.new.self in
    let root = c.args.root in
    let fresh = c.in_ok-fresh.fresh in
    let takes = c.in_ok-fresh.ensures.taken in
    let before = c.head-before.result in
    let p1 = meant pages c.claim.new.space in
    let a1 : Alters mid p1 fresh before [] = subst (λ (f : ℕ → Image). Alters f p1 fresh before []) c.in_ok-load_to_edit.ensures.pages c.in_ok-claim.ensures.claimed in
    let page : IsTreePage (mid root) = subst IsTreePage (sym (stays_same old mid fresh root takes can.stays)) can.page in
    search (rules, c.in_err-fill.ensures.fit c.if-root-fresh.false (raise_fill mid p1 root fresh before c.if-root-fresh.false page a1))

pub returns-in_err-alter-clause-fit : goal.returns-in_err-alter-clause-fit
returns-in_err-alter-clause-fit g c = λ can.
    let pages = g.P.PageSource.pages in
    let old = meant pages c.args.space.now in
    let mid = meant pages c.take_page.new.self in
    let root = c.args.root in
    let fresh = c.in_ok-fresh.fresh in
    let takes = c.in_ok-fresh.ensures.taken in
    let loaded = c.in_ok-load_to_edit.ensures in
    let image = c.page.result.now in
    let before = c.head-before.result in
    let is : image ≡ mid root = same_Some image (mid root) (sym c.page.ensures ∙ loaded.loaded) in
    let head : before ≡ (mid root).head = c.head-before.ensures ∙ ap (λ (i : Image). i.head) is in
    let p1 = meant pages c.claim.new.space in
    let a1 : Alters mid p1 fresh before [] = subst (λ (f : ℕ → Image). Alters f p1 fresh before []) c.in_ok-load_to_edit.ensures.pages c.in_ok-claim.ensures.claimed in
    search (
      rules,
      c.in_err-alter.ensures.fit (raise_head mid p1 (meant pages c.fill.new.space) (meant pages c.trim.new.space) root fresh before
          c.raised-after.result ((p1 fresh).cells ++ drop 0 (p1 root).cells) c.if-root-fresh.false head a1 (c.in_ok-fill.ensures.filled c.if-root-fresh.false)
          c.in_ok-trim.ensures.trimmed),
    )

pub returns-in_err-alter-2-clause-fit : goal.returns-in_err-alter-2-clause-fit
returns-in_err-alter-2-clause-fit g c = λ can.
    let pages = g.P.PageSource.pages in
    let old = meant pages c.args.space.now in
    let mid = meant pages c.take_page.new.self in
    let root = c.args.root in
    let fresh = c.in_ok-fresh.fresh in
    let takes = c.in_ok-fresh.ensures.taken in
    let made : IfOk c.map_err.result (λ x. x ≡ inner_cell [] fresh) =
    ok_through c.make_inner_cell.result c.map_err.result _ (λ x. x ≡ inner_cell [] fresh) c.map_err.ensures.cases c.make_inner_cell.ensures in
    let cell : c.in_ok-cell.cell ≡ inner_cell [] fresh = if_ok c.map_err.result c.in_ok-cell.cell (λ x. x ≡ inner_cell [] fresh) made c.in_ok-cell.was in
    search (
      rules,
      c.in_err-alter-2.ensures.fit (raise_put (meant pages c.fill.new.space) (meant pages c.trim.new.space) (meant pages c.alter.new.space) root
          fresh c.raised-after.result c.in_ok-cell.cell cell c.in_ok-trim.ensures.trimmed c.in_ok-alter.ensures.altered),
    )
