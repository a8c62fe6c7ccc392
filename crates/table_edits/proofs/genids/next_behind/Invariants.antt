-- what is left raises the genid so far as all raises the next one, and there is room for it
use Rattle.std.proofs.Common.{◌≡◌, ◌<◌, ◌+◌, ◌^◌, length}
use Rattle.table_edits.specs.Genids.{next_after}
use Rattle.table_edits.proofs.genids.next_behind.Given as goal

abbrev pub invariant-ops : goal.invariant-ops
invariant-ops l = record {
  last : next_after l.last l.rest ≡ next_after l.next l.ops;
  room : l.last + length l.rest < 2 ^ 63;
}

abbrev pub decreases-ops : goal.decreases-ops
decreases-ops l = length l.rest
