-- the workspace means what it meant, and the page is on the way to the key, as deep as the turn
use Rattle.std.proofs.Common.{◌≡◌, ◌≤◌, ◌<◌, ◌^◌, ℕ, List}
use Rattle.page_workspace.specs.Drafts.{meant}
use Rattle.btree_index.specs.Keys.{Key}
use Rattle.btree_index.specs.Trees.{TreeList}
use Rattle.btree_index.specs.Fits.{IsFullUntil}
use Rattle.btree_index.specs.Changes.{IsBelow, Leads, LeadsOver}
use Rattle.btree_index.specs.Prunes.{GoesOn}
use Rattle.btree_index.proofs.DepthLemmas.{IsDeep}
use Rattle.btree_index.proofs.paths.way_for.Given as goal

abbrev pub invariant-down : goal.invariant-down
invariant-down g l = record {
  edits : l.space.edits ≡ l.fn.space.edits;
  pages : meant g.P.PageSource.pages l.space ≡ meant g.P.PageSource.pages l.fn.space;
  base : g.P.PageSource.pages l.space.base ≡ g.P.PageSource.pages l.fn.space.base;
  losses : g.P.PageSource.losses l.fn.space.base ≤ g.P.PageSource.losses l.space.base;
  leads : Leads (meant g.P.PageSource.pages l.fn.space) l.root l.key l.leaf;
  below : IsBelow (meant g.P.PageSource.pages l.fn.space) l.root l.key l.leaf;
  on : GoesOn (meant g.P.PageSource.pages l.fn.space) l.key l.root l.leaf;
  over : LeadsOver (meant g.P.PageSource.pages l.fn.space) l.root l.key l.roomy;
  small : l.leaf < 2 ^ 64;
  full : IsFullUntil (meant g.P.PageSource.pages l.fn.space) l.key l.roomy l.leaf;
  deep : (list : List (Key × List ℕ)) → (tree : TreeList (meant g.P.PageSource.pages l.fn.space) l.root list)
      → IsDeep (meant g.P.PageSource.pages l.fn.space) l.root l.key l.leaf l.counter tree.height;
}
