-- The replies to one line of a script: they go up to the first one that is a last one.
use Rattle.std.specs.Prelude.{◌∷◌, [], List, Bool, true, false, not, if◌then◌else◌}
use Rattle.cdb_values.specs.declared.replies.Reply.{Reply}
use Rattle.cdb_values.specs.declared.replies.Reply.TheVariants as reply

abbrev pub is_row : Reply → Bool
is_row (reply.Row row) = true
is_row _ = false

-- whether a reply is the outcome of a transaction
abbrev pub is_outcome : Reply → Bool
is_outcome (reply.Begin position) = false
is_outcome (reply.Row row) = false
is_outcome (reply.Done rows) = false
is_outcome (reply.Changed rows) = false
is_outcome (reply.Error cause) = false
is_outcome (reply.Level level) = false
is_outcome reply.RolledBack = true
is_outcome (reply.Committed position) = true
is_outcome (reply.ConflictGenid position table genid) = true
is_outcome (reply.ConflictRange position table key) = true
is_outcome (reply.Duplicate position table key) = true
is_outcome (reply.Lost node down) = true
is_outcome (reply.NoMajority up nodes) = true
is_outcome reply.NoMemory = true

-- whether a reply is the last one to a line of the script: to a transaction of its own, or to another
abbrev pub is_last_of : Bool → Reply → Bool
is_last_of true answer = is_outcome answer
is_last_of false answer = not (is_row answer)

abbrev pub are_none : List Reply → Bool
are_none [] = true
are_none (r ∷ rs) = false

-- whether replies go up to the first one that is a last one
abbrev pub are_up_to : (Reply → Bool) → List Reply → Bool
are_up_to is_last [] = false
are_up_to is_last (r ∷ rs) = if is_last r then are_none rs else are_up_to is_last rs
