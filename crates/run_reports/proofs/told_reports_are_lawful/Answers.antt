use Rattle.run_reports.proofs.LawfulLaws.{told_with_master, told_without_master}
use Rattle.run_reports.proofs.told_reports_are_lawful.Goals as goal

pub returns-clause-with_master : goal.returns-clause-with_master
returns-clause-with_master c = told_with_master

pub returns-clause-without_master : goal.returns-clause-without_master
returns-clause-without_master c = told_without_master
