use Rattle.std.specs.Prelude.{[]}
use Rattle.core_lists.proofs.Lists.{each_none}
use Rattle.quiet_cluster.proofs.Ends.{led_down, led_more, led_up}
use Rattle.quiet_cluster.proofs.Starts.{appends}
use Rattle.quiet_cluster.proofs.shipping.leaders_ship_their_log.Goals as goal

pub returns-clause-appends : goal.returns-clause-appends
returns-clause-appends c = λ n at to m g l old same me. appends n at to m g l same me old

pub returns-clause-ships : goal.returns-clause-ships
returns-clause-ships c = λ n at to m g l i old apart same low high name off covered short. led_up n at to [] m g l i apart same low high name off covered short each_none old

pub returns-clause-carries : goal.returns-clause-carries
returns-clause-carries c = led_more

pub returns-clause-falls : goal.returns-clause-falls
returns-clause-falls c = λ n at to q m g l i old apart same down. led_down n at to q m g l i apart same down old
