-- The leaf of the way has the key where the list has it.
use Rattle.std.proofs.Common.{◌≡◌, None, sym, ap, ◌∙◌, subst, rules}
use Rattle.std.proofs.lemmas.Option.{same_Some}
use Rattle.page_store.specs.Image.{Image}
use Rattle.page_workspace.specs.Drafts.{meant}
use Rattle.btree_index.specs.Pairs.{cell_value, HasKeyAt}
use Rattle.btree_index.specs.Trees.{Ascends}
use Rattle.btree_index.proofs.PlaceLemmas.{leaf_rises}
use Rattle.btree_index.proofs.StandLemmas.{found_there, value_there}
use Rattle.btree_index.proofs.inserts.way_of_absent.Goals as goal

pub returns-in-Some-clause-there : goal.returns-in-Some-clause-there
returns-in-Some-clause-there g c = λ own free list stands.
    let old = meant g.P.PageSource.pages c.args.space.now in
    let leaf = c.in_ok-way.way.leaf in
    let said = c.in_ok-way.ensures in
    let image = c.page.result.now in
    let at = c.in-Some.field-0 in
    let is : image ≡ old leaf = same_Some image (old leaf) (sym c.page.ensures ∙ said.loaded) in
    let has : HasKeyAt c.args.key.now (old leaf).cells at = subst (λ (i : Image). HasKeyAt c.args.key.now i.cells at) is c.in-Some.ensures in
    found_there old c.args.root c.args.key.now leaf at said.way.leaf said.way.kind has own free list stands

pub returns-in-Some-clause-held : goal.returns-in-Some-clause-held
returns-in-Some-clause-held g c = λ _.
    let old = meant g.P.PageSource.pages c.args.space.now in
    let leaf = c.in_ok-way.way.leaf in
    let said = c.in_ok-way.ensures in
    let image = c.page.result.now in
    let at = c.in-Some.field-0 in
    let is : image ≡ old leaf = same_Some image (old leaf) (sym c.page.ensures ∙ said.loaded) in
    record {
      leaf = leaf;
      below = said.below;
      kind = said.way.kind;
      at = at;
      has = subst (λ (i : Image). HasKeyAt c.args.key.now i.cells at) is c.in-Some.ensures;
    }

pub returns-in-None-clause-there : goal.returns-in-None-clause-there
returns-in-None-clause-there g c = λ own free list stands.
    let old = meant g.P.PageSource.pages c.args.space.now in
    let leaf = c.in_ok-way.way.leaf in
    let said = c.in_ok-way.ensures in
    let image = c.page.result.now in
    let is : image ≡ old leaf = same_Some image (old leaf) (sym c.page.ensures ∙ said.loaded) in
    let rises : Ascends image.cells =
    subst (λ (i : Image). Ascends i.cells) (sym is) (leaf_rises old c.args.root c.args.key.now leaf said.way.leaf said.way.kind own free list stands) in
    let none : cell_value c.args.key.now (old leaf).cells ≡ None = ap (λ (i : Image). cell_value c.args.key.now i.cells) (sym is) ∙ c.in-None.ensures rises in
    (value_there old c.args.root c.args.key.now leaf said.way.leaf said.way.kind own free list stands ∙ none, said.way)

pub returns-in_err-way-clause-fit : goal.returns-in_err-way-clause-fit
returns-in_err-way-clause-fit g c = λ list tree. search (rules, c.in_err-way.ensures.fit list tree)
