-- A plan of faults says which calls of an object in memory fail. Calls are numbered from 1, over those
-- calls of its trait that can fail, and the plan lists the numbers of the calls that are to fail. It
-- counts the calls that were made, and the faults that came, by the plan or for want of memory. A call
-- past the last number of a u64 has no number and does not fail by the plan.
use Rattle.std.specs.Prelude.{ℕ, ◌+◌, ◌<◌, List, Contains}
use Rattle.cdb_outside.specs.Faults.{last_count, count_after}

pub record Planned : Type 0 where
  -- the numbers of the calls that fail
  pub failing : List ℕ
  -- how many calls were made
  pub calls : ℕ
  -- how many calls failed
  pub failures : ℕ

-- the plan of an object that was never called
abbrev pub fresh : List ℕ → Planned
fresh failing = record { failing = failing; calls = 0; failures = 0 }

-- the plan fails the next call
abbrev pub FailsNext : Planned → Type 0
FailsNext plan = (plan.calls < last_count) × Contains plan.failing (plan.calls + 1)

-- the plan after a call that did not fail
abbrev pub after_success : Planned → Planned
after_success plan =
    record { failing = plan.failing; calls = count_after plan.calls; failures = plan.failures }

-- the plan after a call that failed
abbrev pub after_failure : Planned → Planned
after_failure plan =
    record { failing = plan.failing; calls = count_after plan.calls; failures = count_after plan.failures }
