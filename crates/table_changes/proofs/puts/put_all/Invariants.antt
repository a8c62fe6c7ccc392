-- what is left to be put gives what all gives, and can be put; the source means what it meant
use Rattle.std.proofs.Common.{◌≡◌, ◌≤◌, ◌<◌, ◌+◌, ◌^◌, ℕ, List, length}
use Rattle.std.specs.List.{AllByRecursion}
use Rattle.std.specs.Option.{option_copied}
use Rattle.page_workspace.specs.Drafts.{meant}
use Rattle.btree_index.specs.Changes.{TreeStands}
use Rattle.btree_index.specs.Filled.{KeepsFilled}
use Rattle.table_store.specs.Forests.{Pair}
use Rattle.table_store.specs.Operations as ops
use Rattle.table_changes.specs.Changed.{BecomesSome, IsPuttable}
use Rattle.table_changes.proofs.puts.put_all.Given as goal

abbrev pub invariant-ops : goal.invariant-ops
invariant-ops g l = record {
  becomes : (own free : List ℕ) (list : List Pair) → TreeStands (meant g.P.PageSource.pages l.fn.space) l.root own free list
      → BecomesSome (meant g.P.PageSource.pages l.fn.space) (meant g.P.PageSource.pages l.space) l.root own free
      (λ left. ops.put_all (option_copied l.key) (ops.born l.table l.genid l.rest) left ≡ ops.put_all (option_copied l.key) (ops.born l.table l.next l.ops) list);
  few : l.genid + length l.rest < 2 ^ 64;
  fit : AllByRecursion (IsPuttable (option_copied l.key)) (ops.born l.table l.genid l.rest);
  filled : (own free : List ℕ) (list : List Pair) → TreeStands (meant g.P.PageSource.pages l.fn.space) l.root own free list
      → KeepsFilled (meant g.P.PageSource.pages l.fn.space) (meant g.P.PageSource.pages l.space) l.root;
  base : g.P.PageSource.pages l.space.base ≡ g.P.PageSource.pages l.fn.space.base;
  losses : g.P.PageSource.losses l.fn.space.base ≤ g.P.PageSource.losses l.space.base;
}

abbrev pub decreases-ops : goal.decreases-ops
decreases-ops g l = length l.rest
