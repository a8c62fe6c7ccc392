use Rattle.live_operations.proofs.ReadyLaws.{no_rows_are_ready, stay_ready}
use Rattle.live_operations.proofs.laws.states_stay_ready.Goals as goal

pub returns : goal.returns
returns c = record { none = no_rows_are_ready; applied = stay_ready }
