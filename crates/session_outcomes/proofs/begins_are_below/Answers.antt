use Rattle.session_outcomes.proofs.GenerationLaws.{begin_below}
use Rattle.session_outcomes.proofs.begins_are_below.Goals as goal

pub returns : goal.returns
returns c = begin_below
