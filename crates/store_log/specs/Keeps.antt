-- What a store has after a call that kept frames in it.
use Rattle.std.specs.Prelude.{◌≡◌, ℕ, List, [], ◌++◌, Result, Ok, Err}
use Rattle.cdb_outside.specs.Faults.{Rose}
use Rattle.cdb_outside.specs.Parts.{IsFront}
use Rattle.store_log.specs.declared.stores.KeepFault.{KeepFault}
use Rattle.store_log.specs.declared.stores.KeepFault.TheVariants.{StoreFault, NoMemory}

-- the synced bytes of a store, those that wait for a sync, its count of faults, and that of the calls that write
pub record Stored : Type 0 where
  pub synced : List ℕ
  pub pending : List ℕ
  pub faults : ℕ
  pub writes : ℕ

-- all of the bytes are synced, and no call of the store failed
pub record AreKept (old new : Stored) (bytes : List ℕ) : Type 0 where
  pub synced : new.synced ≡ old.synced ++ bytes
  pub settled : new.pending ≡ []
  pub calm : new.faults ≡ old.faults

-- none of the bytes is synced, and a front of them waits
pub record AreLeft (old new : Stored) (bytes : List ℕ) : Type 0 where
  pub synced : new.synced ≡ old.synced
  pub part : IsFront new.pending bytes
  pub rose : Rose old.faults new.faults

-- what each answer tells: want of memory comes before all else
abbrev pub IsKept : {T : Type 0} → Result T KeepFault → Stored → Stored → List ℕ → Type 0
IsKept (Ok x) old new bytes = AreKept old new bytes
IsKept (Err StoreFault) old new bytes = AreLeft old new bytes
IsKept (Err NoMemory) old new bytes = new ≡ old
