use Rattle.cluster_masters.proofs.TwoMasters.{legal, led_one, durable_one}
use Rattle.cluster_masters.proofs.two_masters_stand.Goals as goal

pub returns-clause-legal : goal.returns-clause-legal
returns-clause-legal c = legal

pub returns-clause-led : goal.returns-clause-led
returns-clause-led c = led_one

pub returns-clause-durable : goal.returns-clause-durable
returns-clause-durable c = durable_one
