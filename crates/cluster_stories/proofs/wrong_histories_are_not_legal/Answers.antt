use Rattle.cluster_stories.proofs.WrongHistories.{unasked, set_up_twice, untrue, appended_twice, lost_for_nothing, not_there, unfed}
use Rattle.cluster_stories.proofs.WrongGuards.{appended_settled, refused_wrongly, stopped_down, begun_unasked, noted_inside, sent_early, barred_early}
use Rattle.cluster_stories.proofs.WrongMoves.{moved_for_nothing, moved_too_far, went_on_barred}
use Rattle.cluster_stories.proofs.wrong_histories_are_not_legal.Goals as goal

pub returns-clause-unasked : goal.returns-clause-unasked
returns-clause-unasked c = unasked

pub returns-clause-set_up_twice : goal.returns-clause-set_up_twice
returns-clause-set_up_twice c = set_up_twice

pub returns-clause-untrue : goal.returns-clause-untrue
returns-clause-untrue c = untrue

pub returns-clause-appended_twice : goal.returns-clause-appended_twice
returns-clause-appended_twice c = appended_twice

pub returns-clause-lost_for_nothing : goal.returns-clause-lost_for_nothing
returns-clause-lost_for_nothing c = lost_for_nothing

pub returns-clause-not_there : goal.returns-clause-not_there
returns-clause-not_there c = not_there

pub returns-clause-unfed : goal.returns-clause-unfed
returns-clause-unfed c = unfed

pub returns-clause-moved_for_nothing : goal.returns-clause-moved_for_nothing
returns-clause-moved_for_nothing c = moved_for_nothing

pub returns-clause-moved_too_far : goal.returns-clause-moved_too_far
returns-clause-moved_too_far c = moved_too_far

pub returns-clause-went_on_barred : goal.returns-clause-went_on_barred
returns-clause-went_on_barred c = went_on_barred

pub returns-clause-appended_settled : goal.returns-clause-appended_settled
returns-clause-appended_settled c = appended_settled

pub returns-clause-refused_wrongly : goal.returns-clause-refused_wrongly
returns-clause-refused_wrongly c = refused_wrongly

pub returns-clause-stopped_down : goal.returns-clause-stopped_down
returns-clause-stopped_down c = stopped_down

pub returns-clause-begun_unasked : goal.returns-clause-begun_unasked
returns-clause-begun_unasked c = begun_unasked

pub returns-clause-noted_inside : goal.returns-clause-noted_inside
returns-clause-noted_inside c = noted_inside

pub returns-clause-sent_early : goal.returns-clause-sent_early
returns-clause-sent_early c = sent_early

pub returns-clause-barred_early : goal.returns-clause-barred_early
returns-clause-barred_early c = barred_early
