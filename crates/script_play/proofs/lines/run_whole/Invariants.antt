-- the same start
use Rattle.script_play.proofs.lines.run_whole.Given as goal

abbrev pub ghost-planned : goal.ghost-planned
ghost-planned g a = g.start
