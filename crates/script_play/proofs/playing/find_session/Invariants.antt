use Rattle.std.proofs.Common.{◌≡◌, ◌+◌, length}
use Rattle.script_play.specs.SoFar.{session_at, session_from}
use Rattle.script_play.proofs.playing.find_session.Given as goal

abbrev pub invariant-sessions : goal.invariant-sessions
invariant-sessions l = (session_from l.at l.name l.rest ≡ session_at l.name l.sessions) × (l.at + length l.rest ≡ length l.sessions)

abbrev pub decreases-sessions : goal.decreases-sessions
decreases-sessions l = length l.rest
