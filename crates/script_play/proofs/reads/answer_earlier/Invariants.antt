-- the first entries are those up to the begin position, and the kept pages those that were taken out
use Rattle.script_play.proofs.reads.answer_earlier.Given as goal

abbrev pub ghosts-answer_undone : goal.ghosts-answer_undone
ghosts-answer_undone a = record { front = a.granter; kept = a.kept }
