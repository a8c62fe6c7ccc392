-- the same start
use Rattle.script_play.proofs.verdicts.decided.Given as goal

abbrev pub ghost-judged : goal.ghost-judged
ghost-judged g a = g.start
