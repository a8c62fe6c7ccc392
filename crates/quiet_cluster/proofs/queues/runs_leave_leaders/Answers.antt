use Rattle.quiet_cluster.proofs.Runs.{elected, run_kept, run_led, run_polled}
use Rattle.quiet_cluster.proofs.queues.runs_leave_leaders.Goals as goal

pub returns-clause-elected : goal.returns-clause-elected
returns-clause-elected x = λ n at to q c g a l old r up many. elected n c g a l old r up many

pub returns-clause-stood : goal.returns-clause-stood
returns-clause-stood x = λ n at to q c g a l old r up. run_polled n c g a l old r up

pub returns-clause-led : goal.returns-clause-led
returns-clause-led c = λ n at to q m g l old r up. run_kept n m g l old r up

pub returns-clause-alone : goal.returns-clause-alone
returns-clause-alone c = λ n at to q m g l old r up. run_led n m g l old r up
