-- the same ground
use Rattle.block_processor.proofs.decisions.decide.Given as goal

abbrev pub ghost-decide_new : goal.ghost-decide_new
ghost-decide_new g a = g.footing
