use Rattle.std.proofs.Common.{◌≡◌, ◌++◌, length}
use Rattle.log_replay.specs.Kept.{page_in, numbers_of, edited_numbers}
use Rattle.log_replay.proofs.logs.page_numbers.Given as goal

abbrev pub invariant-going : goal.invariant-going
invariant-going l = l.numbers.items ++ numbers_of (page_in l.pages) (length l.pages.near.items) l.rest ≡ edited_numbers l.pages

abbrev pub decreases-going : goal.decreases-going
decreases-going l = length l.rest
