-- the same ground
use Rattle.block_processor.proofs.decisions.decide_free.Given as goal

abbrev pub ghost-are_able : goal.ghost-are_able
ghost-are_able g a = g.footing

abbrev pub ghost-next_entry : goal.ghost-next_entry
ghost-next_entry g a = g.footing
