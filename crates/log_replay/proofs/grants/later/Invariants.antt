use Rattle.std.proofs.Common.{◌≡◌, ◌++◌, length}
use Rattle.log_replay.specs.Chains.{granted}
use Rattle.log_replay.specs.Answers.{Rises}
use Rattle.log_replay.proofs.grants.later.Given as goal

abbrev pub invariant-back : goal.invariant-back
invariant-back l = record {
  whole : l.records ++ granted l.entries l.position l.rest ≡ granted l.entries l.position l.links;
  rises : Rises l.rest;
}

abbrev pub decreases-back : goal.decreases-back
decreases-back l = length l.rest
