-- Pages stand for one state.
use Rattle.std.proofs.Common.{rules}
use Rattle.page_rows.proofs.StandingLemmas.{standing_is}
use Rattle.page_rows.proofs.sources.PageRows.new.Goals as goal

pub returns-clause-rows : goal.returns-clause-rows
returns-clause-rows g c = λ rows stands. search (rules, standing_is, stands)
