use Rattle.run_reports.proofs.SettingLaws.{calls, fits, follows_it, its_plan}
use Rattle.run_reports.proofs.a_scripts_setting_is_of_it.Goals as goal

pub returns-clause-fits : goal.returns-clause-fits
returns-clause-fits c = fits

pub returns-clause-follows : goal.returns-clause-follows
returns-clause-follows c = follows_it

pub returns-clause-plan : goal.returns-clause-plan
returns-clause-plan c = its_plan

pub returns-clause-calls : goal.returns-clause-calls
returns-clause-calls c = calls
