use Rattle.phys_log.proofs.LogLaws.{first_tells}
use Rattle.phys_log.proofs.laws.first_lsns_tell.Goals as goal

pub returns : goal.returns
returns c = first_tells
