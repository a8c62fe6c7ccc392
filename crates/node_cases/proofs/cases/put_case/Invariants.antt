use Rattle.node_cases.specs.Plans.{setting_of}
use Rattle.node_cases.proofs.cases.put_case.Given as goal

abbrev pub ghosts-planned : goal.ghosts-planned
ghosts-planned a = record { setting = setting_of a.orders.items }
