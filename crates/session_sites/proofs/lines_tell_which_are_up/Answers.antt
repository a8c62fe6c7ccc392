use Rattle.session_sites.proofs.CountLaws.{count_as_told, next_as_told, up_as_told}
use Rattle.session_sites.proofs.FallenLaws.{fallen_down}
use Rattle.session_sites.proofs.lines_tell_which_are_up.Goals as goal

pub returns-clause-up : goal.returns-clause-up
returns-clause-up c = up_as_told

pub returns-clause-fallen : goal.returns-clause-fallen
returns-clause-fallen c = fallen_down

pub returns-clause-next : goal.returns-clause-next
returns-clause-next c = next_as_told

pub returns-clause-count : goal.returns-clause-count
returns-clause-count c = count_as_told
