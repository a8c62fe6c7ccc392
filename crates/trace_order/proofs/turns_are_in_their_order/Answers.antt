use Rattle.trace_order.proofs.TurnLaws.{all_so_far, so_far_first, so_far_more}
use Rattle.trace_order.proofs.turns_are_in_their_order.Goals as goal

pub returns-clause-first : goal.returns-clause-first
returns-clause-first g c = so_far_first

pub returns-clause-turn : goal.returns-clause-turn
returns-clause-turn g c = so_far_more

pub returns-clause-all : goal.returns-clause-all
returns-clause-all g c = all_so_far
