use Rattle.actor_trace_tests.proofs.tests.refusals.want_of_memory_hands_all_back.Given as goal

abbrev pub ghosts-handed_back : goal.ghosts-handed_back
ghosts-handed_back g a = record { table = a.opened.table; actors = a.opened.actors }
