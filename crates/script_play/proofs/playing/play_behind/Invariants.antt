-- the same start
use Rattle.script_play.proofs.playing.play_behind.Given as goal

abbrev pub ghost-play_on : goal.ghost-play_on
ghost-play_on g a = g.start
