use Rattle.actor_trace_tests.proofs.tests.turning.opened.Given as goal

abbrev pub ghosts-run : goal.ghosts-run
ghosts-run g a = record { table = a.opened.table; actors = a.opened.actors }
