use Rattle.actor_trace_tests.proofs.tests.counting.an_early_note_is_met_late.Given as goal

abbrev pub ghosts-late : goal.ghosts-late
ghosts-late g a = record { table = a.opened.table; actors = a.opened.actors }
