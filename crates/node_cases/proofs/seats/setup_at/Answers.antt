use Rattle.std.proofs.Common.{rules}
use Rattle.node_cases.proofs.seats.setup_at.Goals as goal

pub append_setup-requires-clause-leads : goal.append_setup-requires-clause-leads
append_setup-requires-clause-leads g c = c.may_set_up.ensures.leads (search rules)

pub append_setup-requires-clause-empty : goal.append_setup-requires-clause-empty
append_setup-requires-clause-empty g c = c.may_set_up.ensures.empty (search rules)
