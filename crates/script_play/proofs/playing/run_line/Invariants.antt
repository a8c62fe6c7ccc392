-- the same start
use Rattle.script_play.proofs.playing.run_line.Given as goal

abbrev pub ghost-run_session_line : goal.ghost-run_session_line
ghost-run_session_line g a = g.start
