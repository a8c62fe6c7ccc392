use Rattle.node_cases.proofs.WakeLaws.{rows_were}
use Rattle.node_cases.proofs.openings.rows_read.Goals as goal

pub returns-in-Ok-clause-read : goal.returns-in-Ok-clause-read
returns-in-Ok-clause-read c =
    rows_were c.args.log.now c.read_store.new.log c.in-Ok.found.promised c.in-Ok.found.accepted c.in-Ok.found.state c.rows_found.result c.in-Ok.ensures.found c.rows_found.ensures.promised
    c.rows_found.ensures.accepted c.rows_found.ensures.rows
