use Rattle.std.proofs.Common.{◌≡◌, length}
use Rattle.script_form.specs.CanRun.{script_tables}
use Rattle.script_play.specs.Down.{owner_of}
use Rattle.script_play.specs.RunViews.{run_in, IsBeforeLine}
use Rattle.script_play.proofs.playing.play_on.Given as goal

-- the same start
abbrev pub ghost-run_line : goal.ghost-run_line
ghost-run_line g a = g.start

abbrev pub invariant-lines : goal.invariant-lines
invariant-lines g l =
    IsBeforeLine l.script g.start l.generation l.fn.run.log.store.faults l.rest (run_in l.run) l.states
    × (l.generation ≡ l.fn.run.log.accepted)
    × (l.schema-inside.tables ≡ script_tables l.script)
    × (owner_of l.run.log ≡ owner_of l.fn.run.log)

abbrev pub decreases-lines : goal.decreases-lines
decreases-lines g l = length l.rest
