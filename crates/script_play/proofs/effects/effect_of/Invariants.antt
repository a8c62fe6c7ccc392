-- the same start
use Rattle.script_play.proofs.effects.effect_of.Given as goal

abbrev pub ghost-with_outcome : goal.ghost-with_outcome
ghost-with_outcome g a = g.J.Footing.start
