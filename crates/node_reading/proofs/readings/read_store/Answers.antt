use Rattle.node_reading.proofs.ReadLaws.{calm_is, found_is, judged_why, log_is, unread_why}
use Rattle.node_reading.proofs.readings.read_store.Goals as goal

pub returns-in-Ok-clause-found : goal.returns-in-Ok-clause-found
returns-in-Ok-clause-found g c =
    found_is c.judge.result c.args.log.now c.read.new.self c.in-Ok.reading c.in-Ok.ensures.same c.in-Ok.ensures.stood c.in-Ok.ensures.still
    c.judge.ensures.promised c.judge.ensures.accepted c.judge.ensures.good

pub returns-in-Ok-clause-log : goal.returns-in-Ok-clause-log
returns-in-Ok-clause-log g c =
    log_is c.judge.result c.args.log.now c.read.new.self c.in-Ok.reading c.in-Ok.ensures.same c.in-Ok.ensures.stood c.in-Ok.ensures.still
    c.judge.ensures.promised c.judge.ensures.accepted c.judge.ensures.length c.judge.ensures.tables c.judge.ensures.good

pub returns-in-Ok-clause-calm : goal.returns-in-Ok-clause-calm
returns-in-Ok-clause-calm g c = calm_is c.judge.result _ c.in-Ok.ensures.calm

pub returns-in-Ok-clause-why : goal.returns-in-Ok-clause-why
returns-in-Ok-clause-why g c =
    judged_why c.judge.result c.args.log.now c.read.new.self c.in-Ok.reading c.in-Ok.ensures.stood c.in-Ok.ensures.calm c.judge.ensures.why

pub returns-in-Err-clause-why : goal.returns-in-Err-clause-why
returns-in-Err-clause-why g c = unread_why c.in-Err.why c.unread.result _ _ _ _ _ c.unread.ensures c.in-Err.ensures.why c.in-Err.ensures.later
