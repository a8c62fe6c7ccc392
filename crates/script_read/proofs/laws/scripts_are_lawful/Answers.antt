use Rattle.script_read.proofs.LawLemmas.{scripts_lawful}
use Rattle.script_read.proofs.laws.scripts_are_lawful.Goals as goal

pub returns : goal.returns
returns c = scripts_lawful
