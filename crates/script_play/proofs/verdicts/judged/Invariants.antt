-- the same start
use Rattle.script_play.specs.Start.{ground_of}
use Rattle.script_play.proofs.verdicts.judged.Given as goal

abbrev pub ghost-decide : goal.ghost-decide
ghost-decide g a = ground_of g.start
