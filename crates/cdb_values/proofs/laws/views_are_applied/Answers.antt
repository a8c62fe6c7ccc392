use Rattle.cdb_values.proofs.ViewLaws.{view_applied}
use Rattle.cdb_values.proofs.laws.views_are_applied.Goals as goal

pub returns : goal.returns
returns c = view_applied
