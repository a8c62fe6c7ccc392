use Rattle.node_stories.proofs.FedWrong.{fed_behind_is_refused}
use Rattle.node_stories.proofs.LineWrong.{at_another_level_is_refused, begun_at_itself_is_refused, begun_below_is_refused, behind_a_gap_is_refused, committed_over_a_row_is_refused, ends_early_is_refused, lost_at_another_is_refused, lost_by_another_line_is_refused, lost_by_the_stop_is_refused, lost_unbegun_is_refused, lost_with_hasql_is_refused, miscounted_is_refused, named_by_the_script_is_refused, no_base_is_refused, one_of_one_is_refused, short_without_changes_is_refused, stopped_while_down_is_refused, two_of_three_is_refused, two_schemas_is_refused, up_though_up_is_refused, wanting_again_is_refused}
use Rattle.node_stories.proofs.facts.changed_stories_are_refused.Goals as goal

pub returns-clause-lost_by_another_line : goal.returns-clause-lost_by_another_line
returns-clause-lost_by_another_line c = lost_by_another_line_is_refused

pub returns-clause-short_without_changes : goal.returns-clause-short_without_changes
returns-clause-short_without_changes c = short_without_changes_is_refused

pub returns-clause-two_of_three : goal.returns-clause-two_of_three
returns-clause-two_of_three c = two_of_three_is_refused

pub returns-clause-one_of_one : goal.returns-clause-one_of_one
returns-clause-one_of_one c = one_of_one_is_refused

pub returns-clause-no_base : goal.returns-clause-no_base
returns-clause-no_base c = no_base_is_refused

pub returns-clause-two_schemas : goal.returns-clause-two_schemas
returns-clause-two_schemas c = two_schemas_is_refused

pub returns-clause-lost_unbegun : goal.returns-clause-lost_unbegun
returns-clause-lost_unbegun c = lost_unbegun_is_refused

pub returns-clause-behind_a_gap : goal.returns-clause-behind_a_gap
returns-clause-behind_a_gap c = behind_a_gap_is_refused

pub returns-clause-stopped_while_down : goal.returns-clause-stopped_while_down
returns-clause-stopped_while_down c = stopped_while_down_is_refused

pub returns-clause-up_though_up : goal.returns-clause-up_though_up
returns-clause-up_though_up c = up_though_up_is_refused

pub returns-clause-begun_at_itself : goal.returns-clause-begun_at_itself
returns-clause-begun_at_itself c = begun_at_itself_is_refused

pub returns-clause-miscounted : goal.returns-clause-miscounted
returns-clause-miscounted c = miscounted_is_refused

pub returns-clause-lost_at_another : goal.returns-clause-lost_at_another
returns-clause-lost_at_another c = lost_at_another_is_refused

pub returns-clause-lost_by_the_stop : goal.returns-clause-lost_by_the_stop
returns-clause-lost_by_the_stop c = lost_by_the_stop_is_refused

pub returns-clause-named_by_the_script : goal.returns-clause-named_by_the_script
returns-clause-named_by_the_script c = named_by_the_script_is_refused

pub returns-clause-ends_early : goal.returns-clause-ends_early
returns-clause-ends_early c = ends_early_is_refused

pub returns-clause-at_another_level : goal.returns-clause-at_another_level
returns-clause-at_another_level c = at_another_level_is_refused

pub returns-clause-begun_below : goal.returns-clause-begun_below
returns-clause-begun_below c = begun_below_is_refused

pub returns-clause-lost_with_hasql : goal.returns-clause-lost_with_hasql
returns-clause-lost_with_hasql c = lost_with_hasql_is_refused

pub returns-clause-committed_over_a_row : goal.returns-clause-committed_over_a_row
returns-clause-committed_over_a_row c = committed_over_a_row_is_refused

pub returns-clause-wanting_again : goal.returns-clause-wanting_again
returns-clause-wanting_again c = wanting_again_is_refused

pub returns-clause-fed_behind : goal.returns-clause-fed_behind
returns-clause-fed_behind c = fed_behind_is_refused
