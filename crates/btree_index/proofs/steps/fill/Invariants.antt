-- the cells so far stand behind those of the other page
use Rattle.std.proofs.Common.{◌≡◌, ◌≢◌, ◌≤◌}
use Rattle.page_workspace.specs.Drafts.{meant}
use Rattle.btree_index.specs.Steps.{Filling}
use Rattle.btree_index.proofs.steps.fill.Given as goal

abbrev pub invariant-filling : goal.invariant-filling
invariant-filling g l = record {
  filling : l.from ≢ l.to → Filling (meant g.P.PageSource.pages l.fn.space) (meant g.P.PageSource.pages l.space) l.from l.to l.start l.at;
  base : g.P.PageSource.pages l.space.base ≡ g.P.PageSource.pages l.fn.space.base;
  losses : g.P.PageSource.losses l.fn.space.base ≤ g.P.PageSource.losses l.space.base;
}
