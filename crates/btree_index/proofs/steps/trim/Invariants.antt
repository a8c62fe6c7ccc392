-- the cells before the place are as before
use Rattle.std.proofs.Common.{◌≡◌, ◌≤◌}
use Rattle.page_workspace.specs.Drafts.{meant}
use Rattle.btree_index.specs.Steps.{Trimming}
use Rattle.btree_index.proofs.steps.trim.Given as goal

abbrev pub invariant-trimming : goal.invariant-trimming
invariant-trimming g l = record {
  trimming : Trimming (meant g.P.PageSource.pages l.fn.space) (meant g.P.PageSource.pages l.space) l.id l.at l.counter;
  base : g.P.PageSource.pages l.space.base ≡ g.P.PageSource.pages l.fn.space.base;
  losses : g.P.PageSource.losses l.fn.space.base ≤ g.P.PageSource.losses l.space.base;
}
