use Rattle.std.proofs.Common.{ℕ, ◌≡◌, ◌+◌, ◌-◌, length}
use Rattle.log_replay.specs.Kept.{found}
use Rattle.log_replay.proofs.kept.grow.Given as goal

abbrev pub invariant-growing : goal.invariant-growing
invariant-growing l = (n : ℕ) → found l.pages n ≡ found l.fn.pages n

abbrev pub decreases-growing : goal.decreases-growing
decreases-growing l = (l.id + 1) - length l.pages.near.items
