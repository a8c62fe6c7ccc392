use Rattle.cluster_steps.specs.declared.events.Event.TheVariants as event
use Rattle.session_work.proofs.SeatLaws.{part_adds, part_asks, seat_adds}
use Rattle.session_work.proofs.sessions_stay_sessions.Goals as goal

pub returns-clause-seat : goal.returns-clause-seat
returns-clause-seat c = λ G s told old new seat adds legal. seat_adds G s (event.Reply told) old new seat tt adds legal

pub returns-clause-part : goal.returns-clause-part
returns-clause-part c = part_adds

pub returns-clause-asks : goal.returns-clause-asks
returns-clause-asks c = part_asks
