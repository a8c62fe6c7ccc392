use Rattle.std.proofs.Common.{◌≡◌, ◌+◌, ◌≤◌, length}
use Rattle.byte_words.specs.Lines.{lines_of_bytes}
use Rattle.script_read.specs.ScriptText.{read_lines, no_draft}
use Rattle.script_read.proofs.reading.lines_read.Given as goal

abbrev pub invariant-lines : goal.invariant-lines
invariant-lines l = (read_lines l.draft l.line (lines_of_bytes l.rest) ≡ read_lines (no_draft l.stores l.consumers) 1 (lines_of_bytes l.bytes))
    × (l.line + length l.rest ≤ length l.bytes + 1)

abbrev pub decreases-lines : goal.decreases-lines
decreases-lines l = length l.rest
