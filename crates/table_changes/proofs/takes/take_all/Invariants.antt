-- what is left to be taken out leaves what all leaves, and frees what all frees; the source means what it meant
use Rattle.std.proofs.Common.{◌≡◌, ◌≤◌, ℕ, List, length}
use Rattle.std.specs.Option.{option_copied}
use Rattle.page_store.specs.Image.{Image}
use Rattle.page_workspace.specs.Drafts.{meant}
use Rattle.btree_index.specs.Changes.{TreeStands}
use Rattle.btree_index.specs.Filled.{KeepsFilled}
use Rattle.table_store.specs.Forests.{Pair}
use Rattle.table_store.specs.Operations.{gone, removed}
use Rattle.table_changes.specs.Changed.{BecomesSome}
use Rattle.table_changes.specs.Freed.{TakesPairs}
use Rattle.table_changes.proofs.takes.take_all.Given as goal

abbrev pub invariant-ops : goal.invariant-ops
invariant-ops g l = record {
  becomes : (own free : List ℕ) (list : List Pair) → TreeStands (meant g.P.PageSource.pages l.fn.space) l.root own free list
      → BecomesSome (meant g.P.PageSource.pages l.fn.space) (meant g.P.PageSource.pages l.space) l.root own free
      (λ left. removed (option_copied l.key) (gone l.table l.rest) left ≡ removed (option_copied l.key) (gone l.table l.ops) list);
  freed : (new : ℕ → Image) → TakesPairs (meant g.P.PageSource.pages l.space) new l.root (option_copied l.key) (gone l.table l.rest)
      → TakesPairs (meant g.P.PageSource.pages l.fn.space) new l.root (option_copied l.key) (gone l.table l.ops);
  filled : (own free : List ℕ) (list : List Pair) → TreeStands (meant g.P.PageSource.pages l.fn.space) l.root own free list
      → KeepsFilled (meant g.P.PageSource.pages l.fn.space) (meant g.P.PageSource.pages l.space) l.root;
  base : g.P.PageSource.pages l.space.base ≡ g.P.PageSource.pages l.fn.space.base;
  losses : g.P.PageSource.losses l.fn.space.base ≤ g.P.PageSource.losses l.space.base;
}

abbrev pub decreases-ops : goal.decreases-ops
decreases-ops g l = length l.rest
