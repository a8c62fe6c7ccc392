use Rattle.bench_program.proofs.traces.trace.Given as goal

abbrev pub ghosts-run : goal.ghosts-run
ghosts-run g a = record { table = a.opened.table; actors = a.opened.actors }
