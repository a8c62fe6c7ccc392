use Rattle.std.proofs.Common.{rules}
use Rattle.log_replay.proofs.LogLemmas.{kept_none}
use Rattle.log_replay.proofs.logs.PagedLog.new.Goals as goal

pub invariant_of-result : goal.invariant_of-result
invariant_of-result c = kept_none _ _ _ (search rules) (λ n. c.no_pages.ensures n) (search rules)
