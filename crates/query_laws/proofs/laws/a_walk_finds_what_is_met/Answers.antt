use Rattle.query_laws.proofs.WalkLaws.{walk_is_filter}
use Rattle.query_laws.proofs.laws.a_walk_finds_what_is_met.Goals as goal

pub returns : goal.returns
returns c = walk_is_filter
