-- the edits that were made, with those that are left, are all; and those that are left fit
use Rattle.std.proofs.Common.{◌≡◌, ◌++◌, length}
use Rattle.page_workspace.specs.Drafts.{meant, AreFit}
use Rattle.log_rows.specs.Sources.{source_pages}
use Rattle.log_rows.proofs.setups.make_all.Given as goal

abbrev pub invariant-making : goal.invariant-making
invariant-making l = record {
  fit : AreFit l.left.items (meant source_pages l.space);
  made : l.space.edits ++ l.left.items ≡ l.fn.space.edits ++ l.fn.edits.items;
  base : source_pages l.space.base ≡ source_pages l.fn.space.base;
}

abbrev pub decreases-making : goal.decreases-making
decreases-making l = length l.left.items
