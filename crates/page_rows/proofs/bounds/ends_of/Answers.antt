-- The two keys are the ends of the interval.
use Rattle.query_plan.specs.Views.{interval_in}
use Rattle.page_rows.proofs.BoundLemmas.{ends_are}
use Rattle.page_rows.proofs.bounds.ends_of.Goals as goal

pub returns : goal.returns
returns c =
    ends_are c.args.key.now (interval_in c.args.interval.now) c.as_slice-columns.result.now c.in_ok-low.low.items c.in_ok-high.high.items
    c.as_slice-columns.ensures c.in_ok-low.ensures.equal c.in_ok-low.ensures.edge c.in_ok-high.ensures.edge c.in_ok-low.ensures.key c.in_ok-high.ensures.key
