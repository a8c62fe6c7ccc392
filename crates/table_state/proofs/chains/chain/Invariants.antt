-- the pages so far, before those that the rest of the chain gives, are those of the whole chain
use Rattle.std.proofs.Common.{◌≡◌, ◌≤◌, ◌++◌, List, ℕ}
use Rattle.std.specs.Option.{option_map}
use Rattle.table_state.specs.Chains.{chain_from}
use Rattle.table_state.proofs.chains.chain.Given as goal

abbrev pub invariant-along : goal.invariant-along
invariant-along g l = record {
  pages : g.P.PageSource.pages l.pages ≡ g.P.PageSource.pages l.fn.pages;
  below : g.P.PageSource.below l.pages ≡ g.P.PageSource.below l.fn.pages;
  losses : g.P.PageSource.losses l.fn.pages ≤ g.P.PageSource.losses l.pages;
  found : option_map (λ (xs : List ℕ). l.ids.items ++ xs) (chain_from (g.P.PageSource.pages l.fn.pages) l.turns l.id) ≡ chain_from (g.P.PageSource.pages l.fn.pages) l.limit l.first;
}

abbrev pub decreases-along : goal.decreases-along
decreases-along g l = l.turns
