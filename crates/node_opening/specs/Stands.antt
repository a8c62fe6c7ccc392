-- What the steps by which a node stands make of its log.
use Rattle.std.specs.Prelude.{◌≡◌, ℕ, ◌+◌, List, [], ◌∷◌, length, false}
use Rattle.cdb_outside.specs.Stores.{JoinsFront}
use Rattle.cdb_values.specs.declared.tables.TableDef.{TableDef}
use Rattle.phys_log.specs.declared.entries.Entry.{Entry}
use Rattle.store_log.specs.Keeps.{Stored}
use Rattle.node_log.specs.Logged.{Logged, Leaves, with_entry}
use Rattle.node_opening.specs.Goods.{IsGood}
use Rattle.node_opening.specs.Left.{StandsPartway}
use Rattle.node_opening.specs.Up.{IsBegin, GoesOn}

-- a log without entries got the setup of the given tables, in its accepted generation
pub record HasBegun (l : Logged) (given : List TableDef) (k : Logged) : Type 0 where
  pub entry : Entry
  pub begin : IsBegin l.accepted given entry
  pub added : k ≡ record (with_entry l entry) { store = k.store }

-- what a stop leaves then stands for the log without it, or with it
pub record LeavesBegun (l : Logged) (given : List TableDef) (store : Stored) : Type 0 where
  pub entry : Entry
  pub begin : IsBegin l.accepted given entry
  pub left : Leaves store (l ∷ with_entry l entry ∷ [])

-- a log stands in the next generation, and has begun
pub record IsBegunFrom (l : Logged) (given : List TableDef) (k : Logged) : Type 0 where
  pub promised : k.promised ≡ l.promised + 1
  pub accepted : k.accepted ≡ l.promised + 1
  pub entries : GoesOn (l.promised + 1) given l.entries k.entries
  pub node : k.node ≡ l.node
  pub cluster : k.cluster ≡ l.cluster
  pub running : k.failed ≡ false

-- what a stop leaves on the way
abbrev pub LeavesPartway : Logged → List TableDef → Stored → Type 0
LeavesPartway l given store = (stopped : List ℕ) → JoinsFront store.synced store.pending stopped
    → ∥ StandsPartway l.node l.cluster stopped given l.promised l.accepted l.entries ∥₁

-- a node is up
pub record IsUpFrom (l : Logged) (given : List TableDef) (size : ℕ) (k : Logged) : Type 0 where
  pub good : IsGood l.accepted l.entries given
  pub had : size ≡ length l.entries
  pub begun : IsBegunFrom l given k
  pub settled : k.store.pending ≡ []
  pub calm : k.store.faults ≡ l.store.faults
