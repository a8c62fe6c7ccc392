-- The rows that a log keeps: those that its entries make over the ground where a run begins in it.
use Rattle.std.specs.Prelude.{ℕ, ◌≡◌, List, length}
use Rattle.cluster_requests.specs.KeptEntries.{KeptEntry, plain, rows_behind, state_of}
use Rattle.log_rows.specs.History.{Ground, rows_after}

-- an entry is kept with what it makes of the rows before it, whatever the generation
abbrev pub IsMade : ℕ → List KeptEntry → KeptEntry → Type 0
IsMade gen xs e = rows_behind e ≡ rows_after (state_of xs) (plain e)

-- the ground at the end of a log, with the rows that it keeps there
abbrev pub ground_of : List KeptEntry → Ground
ground_of l = record { position = length l; rows = state_of l }
