use Rattle.std.proofs.Common.{◌≡◌, ◌≤◌, length}
use Rattle.table_state.specs.Chains.{are_past}
use Rattle.table_state.proofs.chains.are_past_end.Given as goal

abbrev pub invariant-looking : goal.invariant-looking
invariant-looking g l = record {
  pages : g.P.PageSource.pages l.pages ≡ g.P.PageSource.pages l.fn.pages;
  below : g.P.PageSource.below l.pages ≡ g.P.PageSource.below l.fn.pages;
  losses : g.P.PageSource.losses l.fn.pages ≤ g.P.PageSource.losses l.pages;
  past : are_past (g.P.PageSource.pages l.fn.pages) l.count l.rest ≡ are_past (g.P.PageSource.pages l.fn.pages) l.count l.ids;
}

abbrev pub decreases-looking : goal.decreases-looking
decreases-looking g l = length l.rest
