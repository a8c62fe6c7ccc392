use Rattle.node_openings.proofs.FitLemmas.{numbered_in}
use Rattle.node_openings.proofs.judges.first_unfit.Goals as goal

pub lowest_unfit-requires-clause-numbered : goal.lowest_unfit-requires-clause-numbered
lowest_unfit-requires-clause-numbered c =
    numbered_in c.args.found.now c.count_of.result c.as_slice.result.now c.in_ok-stores.stores.items c.count_of.ensures c.as_slice.ensures.value c.in_ok-stores.ensures
