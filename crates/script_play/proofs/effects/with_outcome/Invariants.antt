-- the same start
use Rattle.script_play.proofs.effects.with_outcome.Given as goal

abbrev pub ghost-decided : goal.ghost-decided
ghost-decided g a = g.start
