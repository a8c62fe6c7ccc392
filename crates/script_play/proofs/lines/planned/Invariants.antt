-- the same start, and the pages that were undone before
use Rattle.script_play.proofs.lines.planned.Given as goal

abbrev pub ghosts-effect_of : goal.ghosts-effect_of
ghosts-effect_of g a = record { start = g.start; undone = a.undone.now }
