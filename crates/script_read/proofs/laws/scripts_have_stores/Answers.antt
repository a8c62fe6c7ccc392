use Rattle.script_read.proofs.LawLemmas.{scripts_stored}
use Rattle.script_read.proofs.laws.scripts_have_stores.Goals as goal

pub returns : goal.returns
returns c = scripts_stored
