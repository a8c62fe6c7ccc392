use Rattle.phys_log.proofs.LogLaws.{undone_at}
use Rattle.phys_log.proofs.laws.undoing_gives_the_page_at.Goals as goal

pub returns : goal.returns
returns c = undone_at
