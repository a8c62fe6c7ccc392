use Rattle.std.proofs.Common.{refl}
use Rattle.cluster_worked.proofs.WholeLegal.{finished_legal}
use Rattle.cluster_worked.proofs.WholeReport.{its_master, its_node, its_report_is_lawful}
use Rattle.cluster_worked.proofs.WholeScript.{finished_done, setting_fits, setting_follows}
use Rattle.cluster_worked.proofs.a_whole_run_is_lawful.Goals as goal

pub returns-clause-fits : goal.returns-clause-fits
returns-clause-fits c = setting_fits

pub returns-clause-follows : goal.returns-clause-follows
returns-clause-follows c = setting_follows

pub returns-clause-legal : goal.returns-clause-legal
returns-clause-legal c = finished_legal

pub returns-clause-done : goal.returns-clause-done
returns-clause-done c = finished_done

pub returns-clause-reported : goal.returns-clause-reported
returns-clause-reported c = its_node

pub returns-clause-master : goal.returns-clause-master
returns-clause-master c = its_master

pub returns-clause-lines : goal.returns-clause-lines
returns-clause-lines c = refl

pub returns-clause-lawful : goal.returns-clause-lawful
returns-clause-lawful c = its_report_is_lawful
