use Rattle.cluster_requests.proofs.StepLaws.{new_behind}
use Rattle.cluster_requests.proofs.appended_identities_are_new.Goals as goal

pub returns : goal.returns
returns c = new_behind
