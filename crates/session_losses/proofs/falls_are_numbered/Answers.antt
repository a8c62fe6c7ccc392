use Rattle.session_losses.proofs.FallLaws.{any_line, falls_count}
use Rattle.session_losses.proofs.falls_are_numbered.Goals as goal

pub returns-clause-count : goal.returns-clause-count
returns-clause-count c = falls_count

pub returns-clause-line : goal.returns-clause-line
returns-clause-line c = any_line
