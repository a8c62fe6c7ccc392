use Rattle.std.proofs.Common.{◌≡◌, ◌≤◌, length}
use Rattle.table_state.specs.Grown.{AreWalked}
use Rattle.table_state.proofs.grown.walk_trees.Given as goal

abbrev pub invariant-walking : goal.invariant-walking
invariant-walking g l = record {
  pages : g.P.PageSource.pages l.pages ≡ g.P.PageSource.pages l.fn.pages;
  below : g.P.PageSource.below l.pages ≡ g.P.PageSource.below l.fn.pages;
  losses : g.P.PageSource.losses l.fn.pages ≤ g.P.PageSource.losses l.pages;
  walked : AreWalked (g.P.PageSource.pages l.fn.pages) 1 l.limit l.trees.items;
  number : length l.trees.items ≡ l.at;
}
