-- Writes that are laid over operations: which of them name no own write, and what they come to.
use Rattle.std.specs.Prelude.{◌≡◌, ◌++◌, List, Bool, true, false, nat_lt, length}
use Rattle.cdb_values.specs.declared.limits.TheConstants.{MOST_NET_OPERATIONS}
use Rattle.cdb_values.specs.declared.rows.RowOp.{RowOp}
use Rattle.cdb_values.specs.declared.rows.RowOp.TheVariants.{Insert, Update, Delete}
use Rattle.cdb_values.specs.declared.rows.RowRef.{RowRef}
use Rattle.cdb_values.specs.declared.rows.RowRef.TheVariants.{Base, Own}
use Rattle.net_writes.specs.Net.{net_of}
use Rattle.sql_answer_plain.specs.declared.laying.Laid.{Laid}
use Rattle.sql_answer_plain.specs.declared.laying.Laid.TheVariants.{Fits, TooLong}

-- whether a target is a version of the base
abbrev pub is_base : RowRef → Bool
is_base (Base genid) = true
is_base (Own write) = false

-- whether an operation names no own write
abbrev pub is_on_base : RowOp → Bool
is_on_base (Insert table row) = true
is_on_base (Update table target old row) = is_base target
is_on_base (Delete table target old) = is_base target

-- whether operations and writes behind them come to more net operations than a transaction may have
abbrev pub are_too_many : List RowOp → List RowOp → Bool
are_too_many done writes = nat_lt MOST_NET_OPERATIONS (length (net_of (done ++ writes)))

-- writes that were laid over operations: the net operations of both, or the operations back where these are too many
abbrev pub IsLaid : List RowOp → List RowOp → Laid → Type 0
IsLaid done writes (Fits ops) = (are_too_many done writes ≡ false) × (ops ≡ net_of (done ++ writes))
IsLaid done writes (TooLong kept) = (are_too_many done writes ≡ true) × (kept ≡ done)
