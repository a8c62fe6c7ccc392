-- the same start
use Rattle.script_play.proofs.playing.play.Given as goal

abbrev pub ghost-play_behind : goal.ghost-play_behind
ghost-play_behind g a = g.start
