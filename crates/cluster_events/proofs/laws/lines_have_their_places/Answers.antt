use Rattle.cluster_events.proofs.LinePlaces.{lines_placed}
use Rattle.cluster_events.proofs.laws.lines_have_their_places.Goals as goal

pub returns : goal.returns
returns c = λ G h nodes legal. lines_placed G nodes h legal
