use Rattle.node_state.proofs.CallLaws.{begins_on}
use Rattle.node_cases.proofs.SeatLaws.{asks_heard}
use Rattle.node_cases.proofs.seats.begin_at.Goals as goal

pub begin-requires-clause-asked : goal.begin-requires-clause-asked
begin-requires-clause-asked g c =
    asks_heard g.J.Plan.setting c.in_ok-asked.asked.ask c.in_ok-asked.asked.note c.reserve.new.self.actor.seen (begins_on c.hear.ensures.heard c.reserve.ensures.same.did.more) c.in_ok-asked.ensures
