use Rattle.std.proofs.Common.{◌∙◌}
use Rattle.btree_index.specs.Cells.{IsInnerCell}
use Rattle.btree_index.proofs.ChoiceLemmas.{child_chosen, turn_there}
use Rattle.btree_index.proofs.FitLemmas.{all_at, child_some}
use Rattle.btree_index.proofs.finds.child_below.Goals as goal

pub returns-clause-child : goal.returns-clause-child
returns-clause-child c =
    c.in_ok-child.ensures
    ∙ child_chosen c.args.key.now c.args.page.now.cells c.turn_for-at.result c.in_ok-cell.field-0.now c.turn_for-at.ensures c.in_ok-cell.ensures

pub returns-clause-place : goal.returns-clause-place
returns-clause-place c = record { cell = c.in_ok-cell.field-0.now; here = c.in_ok-cell.ensures; child = c.in_ok-child.ensures }

pub returns-in_err-cell-clause-some : goal.returns-in_err-cell-clause-some
returns-in_err-cell-clause-some c = λ height inner.
    absurd (turn_there c.args.key.now c.args.page.now.cells c.turn_for-at.result c.turn_for-at.ensures inner.first c.in_err-cell.ensures)

pub returns-in_err-child-clause-some : goal.returns-in_err-child-clause-some
returns-in_err-child-clause-some c = λ height inner.
    absurd (child_some c.in_ok-cell.field-0.now
    (all_at IsInnerCell c.args.page.now.cells c.turn_for-at.result c.in_ok-cell.field-0.now inner.cells c.in_ok-cell.ensures) c.in_err-child.ensures)
