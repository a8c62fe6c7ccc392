use Rattle.election_core.proofs.Keeping.{part_kept, counted_kept}
use Rattle.election_core.proofs.laws.counting_keeps_the_part.Goals as goal

pub returns-clause-part : goal.returns-clause-part
returns-clause-part g c = part_kept

pub returns-clause-counted : goal.returns-clause-counted
returns-clause-counted g c = counted_kept
