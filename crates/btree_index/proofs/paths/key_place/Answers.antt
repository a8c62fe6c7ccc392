use Rattle.std.proofs.Common.{◌≡◌, false, sym, ap, ◌∙◌}
use Rattle.btree_index.specs.Keys.{same_key}
use Rattle.btree_index.specs.Cells.{key_of_cell}
use Rattle.btree_index.proofs.PlaceLemmas.{value_past, value_other}
use Rattle.btree_index.proofs.paths.key_place.Goals as goal

pub returns : goal.returns
returns c = λ up.
    let off : same_key c.args.key.now (key_of_cell c.in-Some.cell.now) ≡ false =
    ap (same_key c.args.key.now) (sym c.key_in.ensures) ∙ sym c.is_same.ensures ∙ c.if-is_same.false in
    value_other c.args.key.now c.args.page.now.cells c.count_before-at.result c.in-Some.cell.now up (c.count_before-at.ensures.place up) c.in-Some.ensures off

pub returns-in_default : goal.returns-in_default
returns-in_default c = λ up. value_past c.args.key.now c.args.page.now.cells c.count_before-at.result up (c.count_before-at.ensures.place up) c.in_default.ensures
