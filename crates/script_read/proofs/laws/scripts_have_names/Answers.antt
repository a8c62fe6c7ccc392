use Rattle.script_read.proofs.LawLemmas.{scripts_named}
use Rattle.script_read.proofs.laws.scripts_have_names.Goals as goal

pub returns : goal.returns
returns c = scripts_named
