-- What answers tell.
use Rattle.std.specs.Prelude.{◌≡◌, ℕ, ◌≤◌, ◌<◌, ◌^◌, Bool, true, false, Option, None, Some, Result, Ok, Err}
use Rattle.page_store.specs.Image.{Image}
use Rattle.page_store.specs.Sources.{Rose}
use Rattle.page_workspace.specs.Spare.{next_genid, count_of}
use Rattle.btree_index.specs.declared.inserts.InsertFault.{InsertFault}
use Rattle.btree_index.specs.declared.inserts.InsertFault.TheVariants as tree
use Rattle.table_edits.specs.declared.faults.OpsFault.{OpsFault}
use Rattle.table_edits.specs.declared.faults.OpsFault.TheVariants.{Duplicate, Gone, NoMemory}
use Rattle.table_edits.specs.Broken.{KeyPlace}

-- an answer against the first broken key: none where all was done, and exactly this one where a duplicate is told
abbrev pub TellsBroken : {T : Type 0} → Result T OpsFault → Option KeyPlace → Type 0
TellsBroken (Ok x) broken = broken ≡ None
TellsBroken (Err (Duplicate table key)) broken = broken ≡ Some (record { table = table; key = key })
TellsBroken (Err Gone) broken = Unit {0}
TellsBroken (Err NoMemory) broken = Unit {0}

-- the same, and what was done
abbrev pub Tells : {T : Type 0} → Result T OpsFault → (T → Type 0) → Option KeyPlace → Type 0
Tells (Ok x) Done broken = Done x × (broken ≡ None)
Tells (Err (Duplicate table key)) Done broken = broken ≡ Some (record { table = table; key = key })
Tells (Err Gone) Done broken = Unit {0}
Tells (Err NoMemory) Done broken = Unit {0}

-- an answer of changing one tree, whose key may be broken afterwards
abbrev pub TellsOne : Result (Unit {0}) InsertFault → Type 0 → Bool → Type 0
TellsOne (Ok x) Done broken = Done × (broken ≡ false)
TellsOne (Err tree.Duplicate) Done broken = broken ≡ true
TellsOne (Err tree.Gone) Done broken = Unit {0}
TellsOne (Err tree.NoMemory) Done broken = Unit {0}

-- each answer against the counts of losses before and after the call, which never fall: `Gone` comes only where they rose
abbrev pub AreOpsExcused : {T : Type 0} → Result T OpsFault → ℕ → ℕ → Type 0
AreOpsExcused (Ok x) before now = before ≤ now
AreOpsExcused (Err (Duplicate table key)) before now = before ≤ now
AreOpsExcused (Err Gone) before now = (before ≤ now) × Rose before now
AreOpsExcused (Err NoMemory) before now = before ≤ now

-- the next genid is below 2^62, and so is the number of pages where it was
pub record AreWithin (old new : ℕ → Image) : Type 0 where
  pub genid : next_genid new < 2 ^ 62
  pub count : count_of old < 2 ^ 62 → count_of new < 2 ^ 62
