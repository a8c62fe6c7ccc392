use Rattle.node_cases.proofs.WakeLaws.{is_blank}
use Rattle.node_cases.proofs.openings.blank_log.Goals as goal

pub returns-in-Some : goal.returns-in-Some
returns-in-Some c =
    is_blank c.args.node 7 c.in_ok-store.store.durable c.in_ok-store.store.plan.failures c.unread-log.result c.rows_read-read.new.log c.in-Some.rows c.unread-log.ensures c.rows_read-read.ensures.same
    (rw c.in-Some.is at c.rows_read-read.ensures.read)
