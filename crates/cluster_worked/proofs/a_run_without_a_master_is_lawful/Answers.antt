use Rattle.std.proofs.Common.{refl}
use Rattle.cluster_worked.proofs.ShortLaws.{nobody_led, setting_fits, setting_follows, stopped_lawful, stopped_reported, without_master_done, without_master_legal}
use Rattle.cluster_worked.proofs.a_run_without_a_master_is_lawful.Goals as goal

pub returns-clause-fits : goal.returns-clause-fits
returns-clause-fits c = setting_fits

pub returns-clause-follows : goal.returns-clause-follows
returns-clause-follows c = setting_follows

pub returns-clause-legal : goal.returns-clause-legal
returns-clause-legal c = without_master_legal

pub returns-clause-done : goal.returns-clause-done
returns-clause-done c = without_master_done

pub returns-clause-reported : goal.returns-clause-reported
returns-clause-reported c = stopped_reported

pub returns-clause-none : goal.returns-clause-none
returns-clause-none c = nobody_led

pub returns-clause-lines : goal.returns-clause-lines
returns-clause-lines c = refl

pub returns-clause-lawful : goal.returns-clause-lawful
returns-clause-lawful c = stopped_lawful
