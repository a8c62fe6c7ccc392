-- each pass so far left the list, and emptied no leaf, where the key is not in it
use Rattle.std.proofs.Common.{ℕ, ◌≡◌, ◌≤◌, List, None}
use Rattle.page_workspace.specs.Drafts.{meant}
use Rattle.btree_index.specs.Keys.{Key}
use Rattle.btree_index.specs.Pairs.{value_at}
use Rattle.btree_index.specs.Changes.{TreeStands, Becomes}
use Rattle.btree_index.specs.Filled.{KeepsFilled}
use Rattle.btree_index.proofs.inserts.put_new.Given as goal

abbrev pub invariant-passes : goal.invariant-passes
invariant-passes g l = record {
  becomes : (own free : List ℕ) (list : List (Key × List ℕ)) → TreeStands (meant g.P.PageSource.pages l.fn.space) l.root own free list
      → value_at l.key list ≡ None → Becomes (meant g.P.PageSource.pages l.fn.space) (meant g.P.PageSource.pages l.space) l.root own free list;
  filled : (own free : List ℕ) (list : List (Key × List ℕ)) → TreeStands (meant g.P.PageSource.pages l.fn.space) l.root own free list
      → value_at l.key list ≡ None → KeepsFilled (meant g.P.PageSource.pages l.fn.space) (meant g.P.PageSource.pages l.space) l.root;
  base : g.P.PageSource.pages l.space.base ≡ g.P.PageSource.pages l.fn.space.base;
  losses : g.P.PageSource.losses l.fn.space.base ≤ g.P.PageSource.losses l.space.base;
}
