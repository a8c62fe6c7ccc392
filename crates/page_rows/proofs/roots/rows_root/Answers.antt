-- The trees of one table more.
use Rattle.std.proofs.Common.{◌≡◌, ◌+◌, ◌<◌, length, take, arith}
use Rattle.table_store.specs.Plans.{plan_from}
use Rattle.page_rows.proofs.PlanLemmas.{plan_more}
use Rattle.page_rows.proofs.roots.rows_root.Goals as goal

pub tables-preserved : goal.tables-preserved
tables-preserved c =
    let less : c.tables.at < length c.args.schema.now = omega arith in
    let more : length (plan_from 0 (take (c.tables.at + 1) c.args.schema.now)) ≡ length (plan_from 0 (take c.tables.at c.args.schema.now)) + (1 + length c.keys.result.now) =
    plan_more c.args.schema.now c.tables.at c.keys.result.now less c.keys.ensures.keys in
    let so_far : c.tables.root ≡ 1 + length (plan_from 0 (take c.tables.at c.args.schema.now)) = c.tables.invariant.root in
    record { root = omega (arith, more, so_far); small = omega arith }
