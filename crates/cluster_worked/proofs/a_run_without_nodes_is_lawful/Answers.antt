use Rattle.std.proofs.Common.{refl}
use Rattle.cluster_worked.proofs.ShortLaws.{never_up, refused_lawful, without_nodes_done, without_nodes_legal}
use Rattle.cluster_worked.proofs.a_run_without_nodes_is_lawful.Goals as goal

pub returns-clause-legal : goal.returns-clause-legal
returns-clause-legal c = without_nodes_legal

pub returns-clause-done : goal.returns-clause-done
returns-clause-done c = without_nodes_done

pub returns-clause-never_up : goal.returns-clause-never_up
returns-clause-never_up c = never_up

pub returns-clause-lines : goal.returns-clause-lines
returns-clause-lines c = refl

pub returns-clause-lawful : goal.returns-clause-lawful
returns-clause-lawful c = refused_lawful
