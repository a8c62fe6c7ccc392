use Rattle.std.proofs.Common.{[], ◌∷◌}
use Rattle.phys_log.proofs.LogLaws.{log_more, log_front, log_fits, last_is}
use Rattle.phys_log.proofs.laws.logs_grow.Goals as goal

pub returns-clause-more : goal.returns-clause-more
returns-clause-more c = log_more

pub returns-clause-less : goal.returns-clause-less
returns-clause-less c = λ entries entry h. log_front entries (entry ∷ []) h

pub returns-clause-fits : goal.returns-clause-fits
returns-clause-fits c = log_fits

pub returns-clause-last : goal.returns-clause-last
returns-clause-last c = last_is
