use Rattle.cluster_reports.proofs.NeverUp.{without_nodes}
use Rattle.cluster_reports.proofs.runs_without_nodes_are_lawful.Goals as goal

pub returns : goal.returns
returns c = λ G h fits follows legal done none. without_nodes G fits follows h legal done none
