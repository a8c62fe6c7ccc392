use Rattle.query_laws.proofs.RowsLaws.{untouched_stays}
use Rattle.query_laws.proofs.laws.untouched_intervals_stay.Goals as goal

pub returns : goal.returns
returns c = untouched_stays
