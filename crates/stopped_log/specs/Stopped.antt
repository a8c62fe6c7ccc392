-- The store of a node that stopped.
use Rattle.std.specs.List.{AllByRecursion}
use Rattle.std.specs.Prelude.{◌≡◌, ℕ, List}
use Rattle.cdb_outside.specs.Faults.{Rose}
use Rattle.node_log.specs.Logged.{Logged, StandForOne}
use Rattle.node_log.specs.Same.{IsOfNode}
use Rattle.store_log.specs.declared.opens.OpenFault.{OpenFault}
use Rattle.store_log.specs.declared.opens.OpenFault.TheVariants as fault

-- whose store it is, its bytes, all of them synced, and its count of faults
pub record Stopped : Type 0 where
  pub node : ℕ
  pub cluster : ℕ
  pub synced : List ℕ
  pub faults : ℕ

-- the store holds one of these logs, which are of its node
pub record HoldsOne (s : Stopped) (logs : List Logged) : Type 0 where
  pub of_node : AllByRecursion (IsOfNode s.node s.cluster) logs
  pub one : ∥ StandForOne s.synced logs ∥₁

-- why its log was not opened: a call of the store failed, or memory was wanted. A store that holds a log is neither bad nor
-- another's
abbrev pub Excuses : OpenFault → ℕ → ℕ → Type 0
Excuses (fault.StoreFault read) before now = Rose before now
Excuses fault.Foreign before now = ⊥
Excuses (fault.Corrupt at) before now = ⊥
Excuses fault.NoMemory before now = now ≡ before
