use Rattle.election_core.proofs.Acted.{one_ship}
use Rattle.election_core.proofs.told_laws.one_generation_ships_one_log.Goals as goal

pub returns : goal.returns
returns g c = one_ship
