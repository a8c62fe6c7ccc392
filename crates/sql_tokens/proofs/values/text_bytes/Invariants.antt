use Rattle.std.proofs.Common.{◌≡◌, ◌≤◌, length}
use Rattle.sql_tokens.specs.Reading.{with_all, text_from}
use Rattle.sql_tokens.proofs.values.text_bytes.Given as goal

abbrev pub invariant-characters : goal.invariant-characters
invariant-characters l = record { within : length l.rest ≤ length l.fn.after; same : with_all l.items.items (text_from l.rest) ≡ text_from l.fn.after }

abbrev pub decreases-characters : goal.decreases-characters
decreases-characters l = length l.rest
