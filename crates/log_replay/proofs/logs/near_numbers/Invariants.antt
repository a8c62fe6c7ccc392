use Rattle.std.proofs.Common.{◌≡◌}
use Rattle.log_replay.specs.Kept.{page_in, numbers_in}
use Rattle.log_replay.proofs.logs.near_numbers.Given as goal

abbrev pub invariant-going : goal.invariant-going
invariant-going l = l.numbers.items ≡ numbers_in (page_in l.pages) l.at
