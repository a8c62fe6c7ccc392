use Rattle.node_cases.proofs.cases.planned.Given as goal

abbrev pub ghosts-named : goal.ghosts-named
ghosts-named g a = record { table = a.history.table; actors = a.history.actors }
