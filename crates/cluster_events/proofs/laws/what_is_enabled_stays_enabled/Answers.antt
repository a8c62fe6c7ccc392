use Rattle.cluster_events.proofs.Stays.{stays_long, asks_long, by_script_long, ask_by_script_long}
use Rattle.cluster_events.proofs.laws.what_is_enabled_stays_enabled.Goals as goal

pub returns-clause-stays : goal.returns-clause-stays
returns-clause-stays c = stays_long

pub returns-clause-asks : goal.returns-clause-asks
returns-clause-asks c = asks_long

pub returns-clause-by_script : goal.returns-clause-by_script
returns-clause-by_script c = by_script_long

pub returns-clause-asks_by_script : goal.returns-clause-asks_by_script
returns-clause-asks_by_script c = ask_by_script_long
