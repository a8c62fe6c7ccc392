use Rattle.live_operations.proofs.StayLaws.{live_stay_live, live_stay_through, used_are_others}
use Rattle.live_operations.proofs.laws.live_operations_stay_live.Goals as goal

pub returns : goal.returns
returns c = record { one = live_stay_live; more = live_stay_through; used = used_are_others }
