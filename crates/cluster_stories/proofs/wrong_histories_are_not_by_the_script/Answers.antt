use Rattle.cluster_stories.proofs.WrongHistories.{unordered, fired_twice, obeyed_unordered, fault_before_the_order}
use Rattle.cluster_stories.proofs.WrongGuards.{ordered_twice, fed_out_of_turn}
use Rattle.cluster_stories.proofs.WrongMoves.{went_on_armed}
use Rattle.cluster_stories.proofs.wrong_histories_are_not_by_the_script.Goals as goal

pub returns-clause-unordered : goal.returns-clause-unordered
returns-clause-unordered c = unordered

pub returns-clause-fired_twice : goal.returns-clause-fired_twice
returns-clause-fired_twice c = fired_twice

pub returns-clause-obeyed_unordered : goal.returns-clause-obeyed_unordered
returns-clause-obeyed_unordered c = obeyed_unordered

pub returns-clause-fault_before_the_order : goal.returns-clause-fault_before_the_order
returns-clause-fault_before_the_order c = fault_before_the_order

pub returns-clause-went_on_armed : goal.returns-clause-went_on_armed
returns-clause-went_on_armed c = went_on_armed

pub returns-clause-ordered_twice : goal.returns-clause-ordered_twice
returns-clause-ordered_twice c = ordered_twice

pub returns-clause-fed_out_of_turn : goal.returns-clause-fed_out_of_turn
returns-clause-fed_out_of_turn c = fed_out_of_turn
