-- The outside world of a run as its clauses see it, and what the run tells by it, before and after.
use Rattle.std.specs.Prelude.{ℕ, List, Bool, Option, IfSome, vec_len}
use Rattle.script_read.specs.ScriptText.{script_of}
use Rattle.store_log.specs.Keeps.{Stored}
use Rattle.script_main.specs.Run.{AreSoundAgain, Completes, TellsRefusal, TellsStoreRefused, TellsUnsound, Writes}
use Rattle.script_main.specs.Stores.{kept_all}
use Rattle.script_main.specs.declared.statuses.Outside.{Outside}
use Rattle.cdb_outside.specs.declared.statuses.Status.{Status}

-- the bytes that are left in the source and those that the sink took, where they are told; what each store has; and how many
-- stores and consumers there are
pub record World : Type 0 where
  pub left : Option (List ℕ)
  pub taken : Option (List ℕ)
  pub stores : List Stored
  pub places : ℕ
  pub consumers : ℕ

-- the same, by the members of the types
abbrev pub world : {S K D A : Type 0} {B : A → Type 0} → (S → Option (List ℕ)) → (K → Option (List ℕ)) → (D → List ℕ) → (D → List ℕ) → (D → ℕ) → (D → ℕ) → Outside S K D A B → World
world left taken synced pending faults writes o = record {
  left = left o.source;
  taken = taken o.sink;
  stores = kept_all synced pending faults writes o.stores.items;
  places = vec_len o.stores;
  consumers = vec_len o.consumers;
}

-- what was written, by whether the words are a command
abbrev pub WritesSo : Bool → World → World → Status → Type 0
WritesSo play old new result = Writes play old.places old.consumers old.stores new.stores old.left old.taken new.taken result

-- a refusal, a store that is refused and a log that is not sound are told exactly where they are due
abbrev pub RefusesSo : Bool → World → World → Status → Type 0
RefusesSo play old new result =
    IfSome old.left (λ bytes. TellsRefusal play (script_of old.places old.consumers bytes) old.stores new.stores result)

abbrev pub RefusesStoreSo : Bool → World → World → Status → Type 0
RefusesStoreSo play old new result =
    IfSome old.left (λ bytes. TellsStoreRefused play (script_of old.places old.consumers bytes) old.stores new.stores result)

abbrev pub FindsUnsoundSo : Bool → World → World → Status → Type 0
FindsUnsoundSo play old new result =
    IfSome old.left (λ bytes. TellsUnsound play (script_of old.places old.consumers bytes) old.stores new.stores result)

-- a valid script over a sound store is played to its end
abbrev pub CompletesSo : Bool → World → Status → Type 0
CompletesSo play old result =
    IfSome old.left (λ bytes. Completes play (script_of old.places old.consumers bytes) old.stores result)

-- a store that stood for a sound log stands for one again
abbrev pub StandsAgainSo : World → World → Type 0
StandsAgainSo old new =
    IfSome old.left (λ bytes. AreSoundAgain (script_of old.places old.consumers bytes) old.stores new.stores)
