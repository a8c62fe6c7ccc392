-- The table has the identities of the log.
use Rattle.block_processor.proofs.IdentityLemmas.{found_is, none_is}
use Rattle.block_processor.proofs.decisions.repeat_of.Goals as goal

pub returns-clause-found : goal.returns-clause-found
returns-clause-found c = found_is c.args.known.now c.args.request.now c.lookup.result c.lookup.ensures.found

pub returns-clause-none : goal.returns-clause-none
returns-clause-none c = none_is c.args.known.now c.args.request.now c.lookup.result c.lookup.ensures.none
