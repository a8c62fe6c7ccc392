-- The leaf that was loaded has the key's value.
use Rattle.std.proofs.Common.{◌≡◌, sym, ap, ◌∙◌, subst}
use Rattle.std.proofs.lemmas.Option.{same_Some}
use Rattle.std.specs.Prelude.{IfOk}
use Rattle.page_store.specs.Image.{Image}
use Rattle.btree_index.specs.Pairs.{value_at, cell_value}
use Rattle.btree_index.specs.Trees.{Ascends}
use Rattle.btree_index.proofs.WayLemmas.{leaf_value}
use Rattle.btree_index.proofs.PlaceLemmas.{way_rises}
use Rattle.btree_index.proofs.FindLemmas.{ok_through}
use Rattle.btree_index.proofs.finds.find.Goals as goal

pub returns-clause-found : goal.returns-clause-found
returns-clause-found g c = λ list tree.
    let id = c.in_ok-leaf_for.field-0 in
    let now = same_Some (g.P.PageSource.pages c.args.pages.now id) c.page.result.now (sym c.in_ok-leaf_for.ensures.loaded ∙ c.page.ensures) in
    let value = leaf_value (g.P.PageSource.pages c.args.pages.now) c.args.key.now id list (c.in_ok-leaf_for.ensures.way list tree) c.in_ok-leaf_for.ensures.leaf in
    let rises : Ascends c.page.result.now.cells =
    subst (λ (i : Image). Ascends i.cells) now (way_rises (g.P.PageSource.pages c.args.pages.now) c.args.key.now id list (c.in_ok-leaf_for.ensures.way list tree) c.in_ok-leaf_for.ensures.leaf) in
    let here = ap (λ (i : Image). cell_value c.args.key.now i.cells) (sym now) ∙ sym value in
    ok_through c.look_up.result c.map_err.result _ (λ v. v ≡ value_at c.args.key.now list) c.map_err.ensures.cases
    (subst (λ o. IfOk c.look_up.result (λ v. v ≡ o)) here (c.look_up.ensures rises))
