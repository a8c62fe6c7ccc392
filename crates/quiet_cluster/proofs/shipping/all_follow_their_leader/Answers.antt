use Rattle.quiet_cluster.proofs.Orders.{led_same}
use Rattle.quiet_cluster.proofs.Runs.{alone_step, led_is_quiet}
use Rattle.quiet_cluster.proofs.Steps.{led_step}
use Rattle.quiet_cluster.proofs.shipping.all_follow_their_leader.Goals as goal

pub returns-clause-delivers : goal.returns-clause-delivers
returns-clause-delivers c = led_step

pub returns-clause-alone : goal.returns-clause-alone
returns-clause-alone c = alone_step

pub returns-clause-all_know : goal.returns-clause-all_know
returns-clause-all_know c = led_is_quiet

pub returns-clause-reorders : goal.returns-clause-reorders
returns-clause-reorders c = λ n at q r m g l old same. led_same n at q r m g l same old
