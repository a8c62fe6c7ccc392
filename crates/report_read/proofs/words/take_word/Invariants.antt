use Rattle.std.proofs.Common.{◌≡◌, length}
use Rattle.report_read.specs.Reading.{behind_word}
use Rattle.report_read.proofs.words.take_word.Given as goal

abbrev pub invariant-word : goal.invariant-word
invariant-word l = behind_word l.wanted l.rest ≡ behind_word l.word l.bytes

abbrev pub decreases-word : goal.decreases-word
decreases-word l = length l.wanted
