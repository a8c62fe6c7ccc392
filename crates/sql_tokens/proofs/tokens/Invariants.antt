use Rattle.std.proofs.Common.{◌≤◌, length}
use Rattle.sql_tokens.specs.Reading.{IsSoFar}
use Rattle.sql_tokens.proofs.tokens.Given as goal

abbrev pub invariant-tokens : goal.invariant-tokens
invariant-tokens l = record { within : length l.rest ≤ length l.bytes; so_far : IsSoFar l.bytes l.rest l.spots }

abbrev pub decreases-tokens : goal.decreases-tokens
decreases-tokens l = length l.rest
