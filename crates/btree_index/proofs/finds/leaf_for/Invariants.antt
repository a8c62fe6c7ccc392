-- the source means what it meant, and the page is on the way to the key
use Rattle.std.proofs.Common.{ℕ, ◌≡◌, ◌≤◌, List}
use Rattle.btree_index.specs.Keys.{Key}
use Rattle.btree_index.specs.Trees.{TreeList}
use Rattle.btree_index.specs.Ways.{OnWay}
use Rattle.btree_index.proofs.finds.leaf_for.Given as goal

abbrev pub invariant-down : goal.invariant-down
invariant-down g l = record {
  pages : g.P.PageSource.pages l.pages ≡ g.P.PageSource.pages l.fn.pages;
  below : g.P.PageSource.below l.pages ≡ g.P.PageSource.below l.fn.pages;
  losses : g.P.PageSource.losses l.fn.pages ≤ g.P.PageSource.losses l.pages;
  way : (list : List (Key × List ℕ)) → TreeList (g.P.PageSource.pages l.fn.pages) l.root list → OnWay (g.P.PageSource.pages l.fn.pages) l.key l.id list;
}
