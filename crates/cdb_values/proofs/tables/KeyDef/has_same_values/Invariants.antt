use Rattle.std.proofs.Common.{◌≡◌, length}
use Rattle.cdb_values.proofs.KeyLemmas.{same_at}
use Rattle.cdb_values.proofs.tables.KeyDef.has_same_values.Given as goal

abbrev pub invariant-columns : goal.invariant-columns
invariant-columns l = same_at l.a l.b l.rest ≡ same_at l.a l.b l.self.columns

abbrev pub decreases-columns : goal.decreases-columns
decreases-columns l = length l.rest
