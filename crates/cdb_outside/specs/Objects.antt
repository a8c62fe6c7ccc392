-- What contracts see of the objects in memory and of the adapters over std's readers and writers.
use Rattle.std.specs.Prelude.{ℕ, List, Option}
use Rattle.cdb_outside.specs.Plans.{Planned}

-- a source in memory: the bytes that it has left to give
pub record HeldSource : Type 0 where
  pub unread : List ℕ
  pub plan : Planned

-- a sink in memory: the bytes that it took
pub record HeldSink : Type 0 where
  pub written : List ℕ
  pub plan : Planned

-- the bytes of a store: the synced ones, and the pending ones behind them
pub record Kept : Type 0 where
  pub durable : List ℕ
  pub waiting : List ℕ

-- a store in memory: its synced and its pending bytes, how many pending bytes a halt keeps, how many more
-- bytes are appended before it stops, if it is to stop, how many calls wrote to it, and which calls fail
pub record HeldStore : Type 0 where
  pub durable : List ℕ
  pub waiting : List ℕ
  pub keeps : ℕ
  pub left : Option ℕ
  pub writes : ℕ
  pub plan : Planned

-- a reader or a writer of std, and how many of its calls failed
pub record Counted (T : Type 0) : Type 0 where
  pub inner : T
  pub failures : ℕ
