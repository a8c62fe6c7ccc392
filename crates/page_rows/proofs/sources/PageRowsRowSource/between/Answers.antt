-- What is read is of the state that the pages stand for, and they stand for it still.
use Rattle.std.proofs.Common.{rules}
use Rattle.std.specs.List.{filter}
use Rattle.cdb_values.specs.Rows.{versions_of}
use Rattle.query_laws.specs.Intervals.{lies}
use Rattle.query_plan.specs.Views.{interval_in}
use Rattle.page_rows.proofs.StandingLemmas.{of_standing, standing_same}
use Rattle.page_rows.proofs.sources.PageRowsRowSource.between.Goals as goal

pub returns-in-Ok-clause-versions : goal.returns-in-Ok-clause-versions
returns-in-Ok-clause-versions g c = search (rules, standing_same, c.in-Ok.ensures.pages)

pub returns-in-Err-Gone-clause-versions : goal.returns-in-Err-Gone-clause-versions
returns-in-Err-Gone-clause-versions g c = search (rules, standing_same, c.in-Err-Gone.ensures.pages)

pub returns-in-Err-NoMemory-clause-versions : goal.returns-in-Err-NoMemory-clause-versions
returns-in-Err-NoMemory-clause-versions g c = search (rules, standing_same, c.in-Err-NoMemory.ensures.pages)

pub returns-in-Ok-clause-lying : goal.returns-in-Ok-clause-lying
returns-in-Ok-clause-lying g c =
    of_standing (g.P.PageSource.pages c.args.self.now.pages) c.args.self.now.schema.now c.args.self.now.standing c.in-Ok.versions
    (λ rows. filter (λ v. lies c.args.self.now.schema.now (interval_in c.args.interval.now) v.row) (versions_of rows c.args.interval.now.table)) c.in-Ok.ensures.lying
