-- the same ground
use Rattle.block_processor.proofs.decisions.decide_new.Given as goal

abbrev pub ghost-decide_free : goal.ghost-decide_free
ghost-decide_free g a = g.footing
