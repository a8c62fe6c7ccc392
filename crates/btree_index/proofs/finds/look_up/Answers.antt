use Rattle.std.proofs.Common.{◌≡◌, true, false, Some, sym, ap, ◌∙◌}
use Rattle.btree_index.specs.Keys.{same_key}
use Rattle.btree_index.specs.Cells.{key_of_cell}
use Rattle.btree_index.proofs.PlaceLemmas.{value_past, value_other, value_same}
use Rattle.btree_index.proofs.finds.look_up.Goals as goal

pub returns-in_default : goal.returns-in_default
returns-in_default c = λ up. sym (value_past c.args.key.now c.args.page.now.cells c.count_before.result up (c.count_before.ensures.place up) c.in_default.ensures)

pub returns-then-is_same : goal.returns-then-is_same
returns-then-is_same c = λ up.
    let same : same_key c.args.key.now (key_of_cell c.in-Some.cell.now) ≡ true =
    ap (same_key c.args.key.now) (sym c.key_in.ensures) ∙ sym c.is_same.ensures ∙ c.if-is_same.true in
    ap Some (c.in_ok-from_slice.ensures ∙ c.value_in.ensures)
    ∙ sym (value_same c.args.key.now c.args.page.now.cells c.count_before.result c.in-Some.cell.now up (c.count_before.ensures.place up) c.in-Some.ensures same)

pub returns : goal.returns
returns c = λ up.
    let off : same_key c.args.key.now (key_of_cell c.in-Some.cell.now) ≡ false =
    ap (same_key c.args.key.now) (sym c.key_in.ensures) ∙ sym c.is_same.ensures ∙ c.if-is_same.false in
    sym (value_other c.args.key.now c.args.page.now.cells c.count_before.result c.in-Some.cell.now up (c.count_before.ensures.place up) c.in-Some.ensures off)
