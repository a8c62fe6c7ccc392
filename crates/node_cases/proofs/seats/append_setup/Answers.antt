use Rattle.std.proofs.Common.{sym, ap, ◌∙◌}
use Rattle.election_core.specs.declared.votes.NodeVote.{NodeVote}
use Rattle.node_cases.proofs.seats.append_setup.Goals as goal

pub setup-requires-clause-schema : goal.setup-requires-clause-schema
setup-requires-clause-schema g c = c.new-schema.ensures ∙ sym c.requires.tables

pub setup-requires-clause-leads : goal.setup-requires-clause-leads
setup-requires-clause-leads g c = ap (λ (v : NodeVote). v.leading) c.reserve.ensures.same.vote ∙ c.requires.leads

pub setup-requires-clause-empty : goal.setup-requires-clause-empty
setup-requires-clause-empty g c = c.reserve.ensures.same.entries ∙ c.requires.empty
