use Rattle.std.proofs.Common.{◌≡◌, length, map}
use Rattle.script_form.specs.CanRun.{script_tables}
use Rattle.session_turns.specs.Views.{state_in}
use Rattle.script_play.specs.SoFarDown.{IsBeforeDown}
use Rattle.script_play.proofs.playing.play_down.Given as goal

abbrev pub invariant-lines : goal.invariant-lines
invariant-lines l =
    IsBeforeDown l.script l.rest l.lines.items (map state_in l.states) × (l.schema-inside.tables ≡ script_tables l.script)

abbrev pub decreases-lines : goal.decreases-lines
decreases-lines l = length l.rest
