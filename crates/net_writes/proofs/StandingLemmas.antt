-- What is left of the writes, one after the other.
use Rattle.std.proofs.Common.{◌≡◌, ◌++◌, ◌∷◌, [], List, Option, Some, None, ap, append_assoc, append-nil}
use Rattle.cdb_values.specs.declared.rows.RowOp.{RowOp}
use Rattle.net_writes.specs.Net.{standing}

pub adds : (ops : List RowOp) (one : Option RowOp) (rest : List (Option RowOp)) → (ops ++ standing (one ∷ [])) ++ standing rest ≡ ops ++ standing (one ∷ rest)
adds ops None rest = ap (λ l. l ++ standing rest) (append-nil ops)
adds ops (Some op) rest = append_assoc ops (op ∷ []) (standing rest)
