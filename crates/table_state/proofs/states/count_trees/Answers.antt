use Rattle.std.proofs.Common.{◌≡◌, ◌+◌, List, length, ap, ◌∙◌, arith}
use Rattle.cdb_values.specs.declared.tables.TableDef.{TableDef}
use Rattle.table_store.specs.Plans.{plan_from}
use Rattle.table_store.proofs.BeginLaws.{plan_more}
use Rattle.table_state.proofs.states.count_trees.Goals as goal

pub tables-preserved : goal.tables-preserved
tables-preserved c =
    let table = c.in-Some.table.now in
    let after = c.in-Some.after.now in
    let whole = c.tables.invariant.whole in
    let count = c.in_ok-trees.ensures.count in
    let keys = c.len.ensures in
    let more : length (plan_from 0 c.tables.rest.now) ≡ 1 + length table.keys + length (plan_from 0 after) =
    ap (λ (l : List TableDef). length (plan_from 0 l)) c.in-Some.ensures.cases.0 ∙ plan_more table after in
    record { few = c.in_ok-trees.ensures.few; whole = omega (arith, more, whole, count, keys) }
