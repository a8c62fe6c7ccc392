-- the same start
use Rattle.script_main.proofs.opening.play_from.Given as goal

abbrev pub ghost-play : goal.ghost-play
ghost-play g a = g.start
