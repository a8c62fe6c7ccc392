use Rattle.block_processor.proofs.ConflictLemmas.{conflict_snapshot}
use Rattle.block_processor.proofs.laws.snapshots_use_versions.Goals as goal

pub returns : goal.returns
returns c = conflict_snapshot
