use Rattle.std.proofs.Common.{refl, true}
use Rattle.cluster_stories.proofs.Story.{committed_legal}
use Rattle.cluster_stories.proofs.a_commit_is_told.Goals as goal

pub returns-clause-legal : goal.returns-clause-legal
returns-clause-legal c = committed_legal true

pub returns-clause-lines : goal.returns-clause-lines
returns-clause-lines c = refl
