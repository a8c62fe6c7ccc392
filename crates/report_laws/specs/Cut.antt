-- The endings by which a transaction is cut short: that its node went down, that no majority of the nodes is
-- up, and want of memory.
use Rattle.std.specs.Prelude.{Bool, true, false}
use Rattle.cdb_values.specs.declared.replies.Reply.{Reply}
use Rattle.cdb_values.specs.declared.replies.Reply.TheVariants as reply

-- whether a reply cuts a transaction short
abbrev pub cuts : Reply → Bool
cuts (reply.Begin position) = false
cuts (reply.Row row) = false
cuts (reply.Done rows) = false
cuts (reply.Changed rows) = false
cuts (reply.Error cause) = false
cuts (reply.Level level) = false
cuts reply.RolledBack = false
cuts (reply.Committed position) = false
cuts (reply.ConflictGenid position table genid) = false
cuts (reply.ConflictRange position table key) = false
cuts (reply.Duplicate position table key) = false
cuts (reply.Lost node down) = true
cuts (reply.NoMajority up nodes) = true
cuts reply.NoMemory = true
