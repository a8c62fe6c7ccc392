use Rattle.node_state.proofs.RoomLaws.{begun_room, delivered_room, entered_room, partly_room, set_up_room, stood_room}
use Rattle.node_state.proofs.laws.what_calls_take_of_room.Goals as goal

pub returns-clause-stood : goal.returns-clause-stood
returns-clause-stood c = stood_room

pub returns-clause-delivered : goal.returns-clause-delivered
returns-clause-delivered c = delivered_room

pub returns-clause-short : goal.returns-clause-short
returns-clause-short c = partly_room

pub returns-clause-begun : goal.returns-clause-begun
returns-clause-begun c = begun_room

pub returns-clause-set_up : goal.returns-clause-set_up
returns-clause-set_up c = set_up_room

pub returns-clause-entered : goal.returns-clause-entered
returns-clause-entered c = entered_room
