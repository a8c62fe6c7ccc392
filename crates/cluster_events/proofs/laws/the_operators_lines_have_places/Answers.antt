use Rattle.cluster_events.proofs.Obeying.{places_stand}
use Rattle.cluster_events.proofs.laws.the_operators_lines_have_places.Goals as goal
use Rattle.cluster_events.specs.Settings.{lines_to_do}

pub returns : goal.returns
returns c = λ G h all done. places_stand G (lines_to_do G) h all done
