use Rattle.std.proofs.Common.{Some}
use Rattle.table_state.proofs.KeyedLaws.{unlike_lists, like_lists}
use Rattle.table_state.proofs.keys.is_list.Goals as goal

pub returns-then-cells-versions : goal.returns-then-cells-versions
returns-then-cells-versions c =
    unlike_lists (Some c.args.key.now) c.args.cells.now c.args.versions.now c.args.next c.requires.next c.requires.rise c.requires.climb c.if-cells-versions.true

pub returns : goal.returns
returns c =
    like_lists (Some c.args.key.now) c.args.cells.now c.args.versions.now c.args.next c.are_listed.result c.requires.next c.requires.rise c.if-cells-versions.false c.are_listed.ensures
