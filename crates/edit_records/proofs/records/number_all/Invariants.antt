-- what was numbered, with what the edits that are left will be, is what all are
use Rattle.std.proofs.Common.{◌≡◌, ◌+◌, ◌≤◌, ◌++◌}
use Rattle.std.specs.VecDeque.{deque_len}
use Rattle.edit_records.specs.Numbered.{numbered, records_behind, lsns_over, AreSmall}
use Rattle.edit_records.proofs.records.number_all.Given as goal

abbrev pub invariant-numbering : goal.invariant-numbering
invariant-numbering g l = record {
  whole : l.records ++ numbered (lsns_over (g.P.PageSource.pages l.fn.pages) l.lsns.entries) (l.newest + 1) l.left.items
      ≡ records_behind (g.P.PageSource.pages l.fn.pages) l.last l.fn.edits.items;
  small : AreSmall l.records;
  pages : g.P.PageSource.pages l.pages ≡ g.P.PageSource.pages l.fn.pages;
  losses : g.P.PageSource.losses l.fn.pages ≤ g.P.PageSource.losses l.pages;
}

abbrev pub decreases-numbering : goal.decreases-numbering
decreases-numbering g l = deque_len l.left
