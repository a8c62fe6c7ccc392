-- Where a session is behind a line that was cut short.
use Rattle.std.specs.Prelude.{Option, Some}
use Rattle.session_turns.specs.Step.{Cut}
use Rattle.session_turns.specs.Views.{state_in}
use Rattle.session_turns.specs.declared.states.SessionState.{SessionState}

abbrev pub cut_in : SessionState → Option Cut
cut_in after = Some (record { number = after.number; after = state_in after })
