use Rattle.play_worked.proofs.Refused as refused
use Rattle.play_worked.proofs.facts.wrong_plays_are_refused.Goals as goal

pub returns : goal.returns
returns c = record {
  based_on_its_own = refused.based_on_its_own;
  longest_wins = refused.longest_wins;
  unfit_reported = refused.unfit_reported;
  stops_a_replica = refused.stops_a_replica_is_not_played;
}
