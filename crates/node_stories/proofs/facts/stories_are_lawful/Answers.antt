use Rattle.node_stories.proofs.LawfulTerms.{came_back_is_lawful, ends_undurable_is_lawful, falls_while_down_is_lawful, few_at_commit_is_lawful, few_but_read_is_lawful, kept_by_start_is_lawful, master_falls_is_lawful, moves_on_one_is_lawful, read_while_few_is_lawful, tail_stands_is_lawful, taken_and_fallen_is_lawful, wanting_is_lawful}
use Rattle.node_stories.proofs.LawfulArms.{armed_append_is_lawful, armed_row_survives_is_lawful, falls_and_stops_is_lawful, lost_stands_is_lawful, sent_again_is_lawful, shipped_is_lawful}
use Rattle.node_stories.proofs.LawfulOpenings.{falls_at_election_is_lawful, few_opened_is_lawful, followed_later_is_lawful, late_majority_is_lawful, led_later_is_lawful, opened_later_is_lawful, other_tables_is_lawful, armed_again_is_lawful}
use Rattle.node_stories.proofs.HeardTerms.{armed_row_is_lawful, fed_twice_is_lawful, replica_falls_is_lawful}
use Rattle.node_stories.proofs.ShortTerms.{based_on_none_is_lawful, moves_at_rollback_is_lawful}
use Rattle.node_stories.proofs.facts.stories_are_lawful.Goals as goal

pub returns-clause-replica_falls : goal.returns-clause-replica_falls
returns-clause-replica_falls c = replica_falls_is_lawful

pub returns-clause-master_falls : goal.returns-clause-master_falls
returns-clause-master_falls c = master_falls_is_lawful

pub returns-clause-came_back : goal.returns-clause-came_back
returns-clause-came_back c = came_back_is_lawful

pub returns-clause-armed_row : goal.returns-clause-armed_row
returns-clause-armed_row c = armed_row_is_lawful

pub returns-clause-armed_row_survives : goal.returns-clause-armed_row_survives
returns-clause-armed_row_survives c = armed_row_survives_is_lawful

pub returns-clause-armed_append : goal.returns-clause-armed_append
returns-clause-armed_append c = armed_append_is_lawful

pub returns-clause-kept_by_start : goal.returns-clause-kept_by_start
returns-clause-kept_by_start c = kept_by_start_is_lawful

pub returns-clause-late_majority : goal.returns-clause-late_majority
returns-clause-late_majority c = late_majority_is_lawful

pub returns-clause-shipped : goal.returns-clause-shipped
returns-clause-shipped c = shipped_is_lawful

pub returns-clause-few_at_commit : goal.returns-clause-few_at_commit
returns-clause-few_at_commit c = few_at_commit_is_lawful

pub returns-clause-few_but_read : goal.returns-clause-few_but_read
returns-clause-few_but_read c = few_but_read_is_lawful

pub returns-clause-read_while_few : goal.returns-clause-read_while_few
returns-clause-read_while_few c = read_while_few_is_lawful

pub returns-clause-fed_twice : goal.returns-clause-fed_twice
returns-clause-fed_twice c = fed_twice_is_lawful

pub returns-clause-moves_on_one : goal.returns-clause-moves_on_one
returns-clause-moves_on_one c = moves_on_one_is_lawful

pub returns-clause-lost_stands : goal.returns-clause-lost_stands
returns-clause-lost_stands c = lost_stands_is_lawful

pub returns-clause-falls_while_down : goal.returns-clause-falls_while_down
returns-clause-falls_while_down c = falls_while_down_is_lawful

pub returns-clause-taken_and_fallen : goal.returns-clause-taken_and_fallen
returns-clause-taken_and_fallen c = taken_and_fallen_is_lawful

pub returns-clause-falls_and_stops : goal.returns-clause-falls_and_stops
returns-clause-falls_and_stops c = falls_and_stops_is_lawful

pub returns-clause-sent_again : goal.returns-clause-sent_again
returns-clause-sent_again c = sent_again_is_lawful

pub returns-clause-tail_stands : goal.returns-clause-tail_stands
returns-clause-tail_stands c = tail_stands_is_lawful

pub returns-clause-few_opened : goal.returns-clause-few_opened
returns-clause-few_opened c = few_opened_is_lawful

pub returns-clause-based_on_none : goal.returns-clause-based_on_none
returns-clause-based_on_none c = based_on_none_is_lawful

pub returns-clause-opened_later : goal.returns-clause-opened_later
returns-clause-opened_later c = opened_later_is_lawful

pub returns-clause-moves_at_rollback : goal.returns-clause-moves_at_rollback
returns-clause-moves_at_rollback c = moves_at_rollback_is_lawful

pub returns-clause-falls_at_election : goal.returns-clause-falls_at_election
returns-clause-falls_at_election c = falls_at_election_is_lawful

pub returns-clause-wanting : goal.returns-clause-wanting
returns-clause-wanting c = wanting_is_lawful

pub returns-clause-led_later : goal.returns-clause-led_later
returns-clause-led_later c = led_later_is_lawful

pub returns-clause-followed_later : goal.returns-clause-followed_later
returns-clause-followed_later c = followed_later_is_lawful

pub returns-clause-ends_undurable : goal.returns-clause-ends_undurable
returns-clause-ends_undurable c = ends_undurable_is_lawful

pub returns-clause-other_tables : goal.returns-clause-other_tables
returns-clause-other_tables c = other_tables_is_lawful

pub returns-clause-armed_again : goal.returns-clause-armed_again
returns-clause-armed_again c = armed_again_is_lawful
