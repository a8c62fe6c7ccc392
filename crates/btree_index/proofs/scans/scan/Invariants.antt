-- the source means what it meant, the leaf is loaded, and stands in the row
use Rattle.std.proofs.Common.{ℕ, ◌≡◌, ◌≤◌, List, Some}
use Rattle.std.specs.Prelude.{option_copied}
use Rattle.btree_index.specs.Keys.{Key}
use Rattle.btree_index.specs.Pairs.{between}
use Rattle.btree_index.specs.Trees.{TreeList}
use Rattle.btree_index.specs.Ways.{OnRow}
use Rattle.btree_index.proofs.scans.scan.Given as goal

abbrev pub invariant-along : goal.invariant-along
invariant-along g l = record {
  pages : g.P.PageSource.pages l.pages ≡ g.P.PageSource.pages l.fn.pages;
  below : g.P.PageSource.below l.pages ≡ g.P.PageSource.below l.fn.pages;
  losses : g.P.PageSource.losses l.fn.pages ≤ g.P.PageSource.losses l.pages;
  loaded : g.P.PageSource.loaded l.pages ≡ Some (g.P.PageSource.pages l.fn.pages l.id);
  row : (list : List (Key × List ℕ)) → TreeList (g.P.PageSource.pages l.fn.pages) l.root list
      → OnRow (g.P.PageSource.pages l.fn.pages) l.low (option_copied l.high) l.id l.found.items (between l.low (option_copied l.high) list);
}
