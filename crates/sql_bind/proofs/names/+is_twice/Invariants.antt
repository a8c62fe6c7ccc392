use Rattle.std.proofs.Common.{length}
use Rattle.sql_bind.proofs.names.+is_twice.Given as goal

abbrev pub decreases-is_twice : goal.decreases-is_twice
decreases-is_twice l = length l.names.now
