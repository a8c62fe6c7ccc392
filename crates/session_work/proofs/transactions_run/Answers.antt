use Rattle.session_work.proofs.RunLaws.{hears, may_say, runs_on, told_on}
use Rattle.session_work.proofs.transactions_run.Goals as goal

pub returns-clause-says : goal.returns-clause-says
returns-clause-says c = λ G s seen t others o texts r due seat runs. may_say G s seen seat t others o texts r due runs

pub returns-clause-said : goal.returns-clause-said
returns-clause-said c = told_on

pub returns-clause-hears : goal.returns-clause-hears
returns-clause-hears c = hears

pub returns-clause-stays : goal.returns-clause-stays
returns-clause-stays c = λ G later h p t others o texts due legal runs. runs_on G later h legal p t others o texts due runs
