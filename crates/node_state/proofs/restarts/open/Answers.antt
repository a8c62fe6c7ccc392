use Rattle.node_state.proofs.StartLaws.{excused_calm, excused_rose}
use Rattle.node_state.proofs.restarts.open.Goals as goal

pub returns-in-Ok-clause-tried : goal.returns-in-Ok-clause-tried
returns-in-Ok-clause-tried g c = record { is_open = c.in-Ok.ensures.running; node = c.in-Ok.ensures.node; found = c.in-Ok.ensures.found; calm = (c.in-Ok.ensures.calm, c.in-Ok.ensures.cluster) }

pub returns-in-Err-NoMemory-clause-shut : goal.returns-in-Err-NoMemory-clause-shut
returns-in-Err-NoMemory-clause-shut g c = record { same = c.in-Err-NoMemory.ensures.kept; holds = c.in-Err-NoMemory.ensures.still }

pub returns-in-Err-NoMemory-clause-calm : goal.returns-in-Err-NoMemory-clause-calm
returns-in-Err-NoMemory-clause-calm g c = (
  excused_calm _ _ _ c.in-Err-NoMemory.field-0-is (c.in-Err-NoMemory.ensures.why c.requires.holds.0 c.requires.holds.1),
  c.in-Err-NoMemory.ensures.cluster,
)

pub returns-in-Err-StoreFault-clause-tried : goal.returns-in-Err-StoreFault-clause-tried
returns-in-Err-StoreFault-clause-tried g c = (
  record { same = c.in-Err-StoreFault.ensures.kept; holds = c.in-Err-StoreFault.ensures.still },
  excused_rose _ _ _ _ c.in-Err-StoreFault.field-0-is (c.in-Err-StoreFault.ensures.why c.requires.holds.0 c.requires.holds.1),
)
