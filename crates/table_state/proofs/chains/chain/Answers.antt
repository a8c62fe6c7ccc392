use Rattle.std.proofs.Common.{ℕ, ◌≡◌, ◌≤◌, ◌++◌, ◌-◌, List, true, sym, ap, ◌∙◌, arith}
use Rattle.std.specs.Option.{option_map}
use Rattle.std.proofs.lemmas.Option.{same_Some}
use Rattle.page_store.specs.Image.{Image}
use Rattle.page_store.specs.declared.pages.Head.{Head}
use Rattle.table_state.specs.Chains.{is_free_page, chain_from}
use Rattle.btree_index.proofs.FindLemmas.{ok_before}
use Rattle.table_state.proofs.ChainLaws.{chain_more, chain_ends}
use Rattle.table_state.proofs.chains.chain.Goals as goal

pub along-preserved : goal.along-preserved
along-preserved g c =
    let old = g.P.PageSource.pages c.args.pages.now in
    let image : c.page-page.result.now ≡ old c.along.id =
    same_Some c.page-page.result.now (g.P.PageSource.pages c.along.pages c.along.id) (sym c.page-page.ensures ∙ c.in_ok-load.ensures.loaded) ∙ ap (λ (f : ℕ → Image). f c.along.id) c.along.invariant.pages in
    let ok = ok_before c.push.result c.map_err.result _ c.in_ok-map_err.field-0 c.map_err.ensures.cases c.in_ok-map_err.was in
    let rose : g.P.PageSource.losses c.along.pages ≤ g.P.PageSource.losses c.load.new.self = c.in_ok-load.ensures.excused in
    let right : c.head-id.result.right ≡ (old c.along.id).head.right = ap (λ (h : Head). h.right) c.head-id.ensures ∙ ap (λ (i : Image). i.head.right) image in
    let free : is_free_page (old c.along.id) ≡ true = ap is_free_page (sym image) ∙ sym c.is_free.ensures ∙ c.if-not-is_free.false in
    record {
      pages = c.in_ok-load.ensures.pages ∙ c.along.invariant.pages;
      below = c.in_ok-load.ensures.below ∙ c.along.invariant.below;
      losses = omega arith;
      found = ap (λ (n : ℕ). option_map (λ (l : List ℕ). c.push.new.self.items ++ l) (chain_from old (c.along.turns - 1) n)) right
          ∙ chain_more old c.along.turns c.along.id c.along.ids.items c.push.new.self.items (chain_from old c.args.limit c.args.first) c.along-test.true c.if-turns-eq0.false free
          (rw ok at c.push.ensures.items) c.along.invariant.found;
    }

pub returns-clause-found : goal.returns-clause-found
returns-clause-found g c =
    chain_ends (g.P.PageSource.pages c.args.pages.now) c.along.turns c.along.id c.along.ids.items (chain_from (g.P.PageSource.pages c.args.pages.now) c.args.limit c.args.first) c.along-test.false c.along.invariant.found
