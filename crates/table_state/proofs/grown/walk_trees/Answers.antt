use Rattle.std.proofs.Common.{ℕ, ◌≡◌, ◌≤◌, ◌+◌, ◌++◌, ◌∷◌, [], List, Some, length, sym, ap, ◌∙◌, subst, arith, length-append}
use Rattle.page_store.specs.Image.{Image}
use Rattle.btree_index.proofs.FindLemmas.{ok_before}
use Rattle.tree_walk.specs.declared.walks.Walked.{Walked}
use Rattle.tree_walk.specs.Walks.{IsWalked}
use Rattle.table_state.specs.Grown.{AreWalked}
use Rattle.table_state.proofs.GrownLaws.{walked_more}
use Rattle.table_state.proofs.grown.walk_trees.Goals as goal

pub walking-preserved : goal.walking-preserved
walking-preserved g c =
    let old = g.P.PageSource.pages c.args.pages.now in
    let ok = ok_before c.push.result c.map_err.result _ c.in_ok-map_err.field-0 c.map_err.ensures.cases c.in_ok-map_err.was in
    let pushed : c.push.new.self.items ≡ c.walking.trees.items ++ c.in-Some.tree ∷ [] = rw ok at c.push.ensures.items in
    let walked : IsWalked (g.P.PageSource.pages c.walking.pages) (1 + c.walking.at) c.args.limit (Some c.in-Some.tree) = rw c.in-Some.is at c.in_ok-tree.ensures.walked in
    let rose : g.P.PageSource.losses c.walking.pages ≤ g.P.PageSource.losses c.walk.new.pages = c.in_ok-tree.ensures.excused in
    let number : length c.walking.trees.items ≡ c.walking.at = c.walking.invariant.number in
    let sum = length-append c.walking.trees.items (c.in-Some.tree ∷ []) in
    let long : length c.push.new.self.items ≡ length (c.walking.trees.items ++ c.in-Some.tree ∷ []) = ap length pushed in
    record {
      pages = c.in_ok-tree.ensures.pages ∙ c.walking.invariant.pages;
      below = c.in_ok-tree.ensures.below ∙ c.walking.invariant.below;
      losses = omega arith;
      walked = subst (λ (l : List Walked). AreWalked old 1 c.args.limit l) (sym pushed)
          (walked_more old 1 (1 + c.walking.at) c.args.limit c.walking.trees.items c.in-Some.tree c.walking.invariant.walked (omega (arith, number))
          (subst (λ (f : ℕ → Image). IsWalked f (1 + c.walking.at) c.args.limit (Some c.in-Some.tree)) c.walking.invariant.pages walked));
      number = omega (arith, long, sum, number);
    }
