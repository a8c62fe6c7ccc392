use Rattle.std.proofs.Common.{◌≡◌, ◌++◌, length, map}
use Rattle.session_turns.specs.Views.{state_in}
use Rattle.script_play.specs.SoFar.{at_start}
use Rattle.script_play.proofs.playing.starts.Given as goal

abbrev pub invariant-sessions : goal.invariant-sessions
invariant-sessions l = map state_in l.states ++ map (λ _. at_start) l.rest ≡ map (λ _. at_start) l.sessions

abbrev pub decreases-sessions : goal.decreases-sessions
decreases-sessions l = length l.rest
