-- the same start
use Rattle.script_play.proofs.lines.run_session_line.Given as goal

abbrev pub ghost-run_whole : goal.ghost-run_whole
ghost-run_whole g a = g.start
