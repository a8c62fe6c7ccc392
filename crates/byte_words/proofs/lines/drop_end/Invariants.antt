use Rattle.std.proofs.Common.{◌≡◌, length}
use Rattle.byte_words.specs.Lines.{without_end}
use Rattle.byte_words.proofs.lines.drop_end.Given as goal

abbrev pub invariant-blanks : goal.invariant-blanks
invariant-blanks l = without_end l.rest ≡ without_end l.bytes

abbrev pub decreases-blanks : goal.decreases-blanks
decreases-blanks l = length l.rest
