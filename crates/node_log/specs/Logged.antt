-- The log of one node, with the store that it is kept in.
use Rattle.std.specs.Prelude.{◌≡◌, ◌⊎◌, ℕ, Bool, List, [], ◌∷◌, ◌++◌}
use Rattle.std.specs.List.{AllByRecursion}
use Rattle.cdb_outside.specs.Stores.{JoinsFront}
use Rattle.frame_code.specs.Spelled.{IsSpelled}
use Rattle.frame_code.specs.declared.frames.Frame.TheVariants as frame
use Rattle.phys_log.specs.declared.entries.Entry.{Entry}
use Rattle.store_log.specs.declared.standings.Standing.TheVariants.{Log}
use Rattle.store_log.specs.Held.{StandsFor}
use Rattle.store_log.specs.Holds.{Holds, plain}
use Rattle.store_log.specs.Keeps.{Stored}

-- whose log it is, its generations and entries, what its store has, and whether a call of the store failed
pub record Logged : Type 0 where
  pub node : ℕ
  pub cluster : ℕ
  pub promised : ℕ
  pub accepted : ℕ
  pub entries : List Entry
  pub store : Stored
  pub failed : Bool

-- each of these entries has a spelling
abbrev pub AreSpelled : List Entry → Type 0
AreSpelled es = AllByRecursion (λ e. IsSpelled (frame.Entry e)) es

-- with one entry more, with another promise, with the promised generation accepted, with another generation that is promised
-- and accepted
abbrev pub with_entry : Logged → Entry → Logged
with_entry l e = record l { entries = l.entries ++ e ∷ [] }

abbrev pub with_promise : Logged → ℕ → Logged
with_promise l generation = record l { promised = generation }

abbrev pub with_acceptance : Logged → Logged
with_acceptance l = record l { accepted = l.promised }

abbrev pub with_stand : Logged → ℕ → Logged
with_stand l generation = record l { promised = generation; accepted = generation }

-- the bytes of a store stand for a log, and for one of these logs
abbrev pub Stand : List ℕ → Logged → Type 0
Stand bytes l = StandsFor l.node l.cluster bytes (Log l.promised l.accepted l.entries)

abbrev pub StandForOne : List ℕ → List Logged → Type 0
StandForOne bytes [] = ⊥
StandForOne bytes (l ∷ ls) = Stand bytes l ⊎ StandForOne bytes ls

-- what a stop leaves of the store stands for one of these logs
abbrev pub Leaves : Stored → List Logged → Type 0
Leaves store ls = (stopped : List ℕ) → JoinsFront store.synced store.pending stopped → ∥ StandForOne stopped ls ∥₁

-- a store holds a log: its synced bytes are whole frames that make exactly this log, and no byte waits
pub record IsInStep (node cluster : ℕ) (store : Stored) (p a : ℕ) (es : List Entry) : Type 0 where
  pub holds : ∥ Holds node cluster store.synced (plain p a es) ∥₁
  pub settled : store.pending ≡ []
