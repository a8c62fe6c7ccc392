use Rattle.std.proofs.Common.{◌≡◌, ◌≤◌, length}
use Rattle.sql_tokens.specs.Reading.{with_all, blob_from}
use Rattle.sql_tokens.proofs.values.blob_bytes.Given as goal

abbrev pub invariant-digits : goal.invariant-digits
invariant-digits l = record { within : length l.rest ≤ length l.fn.after; same : with_all l.items.items (blob_from l.rest) ≡ blob_from l.fn.after }

abbrev pub decreases-digits : goal.decreases-digits
decreases-digits l = length l.rest
