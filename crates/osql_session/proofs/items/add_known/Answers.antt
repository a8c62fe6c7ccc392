use Rattle.std.proofs.Common.{ap, ◌∙◌}
use Rattle.osql_session.specs.Items.{items_in}
use Rattle.osql_session.proofs.ItemLemmas.{added}
use Rattle.osql_session.proofs.items.add_known.Goals as goal

pub returns-in-Ok : goal.returns-in-Ok
returns-in-Ok c = ap items_in c.in-Ok.ensures.keys ∙ added c.args.known.now.keys c.args.item
