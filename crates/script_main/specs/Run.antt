-- What a run writes, by the words of the command, the bytes of the source and the first of the stores.
use Rattle.std.specs.Prelude.{◌≡◌, ℕ, List, [], ◌∷◌, Bool, true, false, Result, Ok, Err, IfSome, Option, ◌⊎◌}
use Rattle.std.specs.Io.KnownBytes.{Appends, IsAtEnd}
use Rattle.cdb_outside.specs.Parts.{IsFront, AppendsFront}
use Rattle.cdb_outside.specs.Faults.{Rose}
use Rattle.script_read.specs.Answers.{Refusal, refusal}
use Rattle.script_read.specs.ScriptText.{script_of}
use Rattle.script_form.specs.CanRun.{script_tables}
use Rattle.script_form.specs.declared.scripts.Script.{Script}
use Rattle.node_opening.specs.Goods.{HasTables}
use Rattle.phys_log.specs.declared.entries.Entry.{Entry}
use Rattle.sound_log.specs.Sound.{IsSound}
use Rattle.store_log.specs.declared.standings.Standing.TheVariants.{Log}
use Rattle.store_log.specs.Held.{StandsFor}
use Rattle.store_log.specs.Keeps.{Stored}
use Rattle.script_main.specs.Runs.{IsCutOff, IsRun, IsDownFirst, IsSoundAgain}
use Rattle.script_main.specs.Stores.{cluster_of, IsAlike, IsBadAt, IsOtherAt, IsUnsound, FirstRose, HasId}
use Rattle.script_main.specs.Texts.{refused_text, store_text, unsound_text, usage_text}
use Rattle.cdb_outside.specs.declared.statuses.Status.{Status}
use Rattle.cdb_outside.specs.declared.statuses.Status.TheVariants as status

-- the text that belongs to a status of a script that was read, by what the store of its node had before and has now; the
-- other statuses have none
abbrev pub IsTextOver : Script → Stored → Stored → Status → List ℕ → Type 0
IsTextOver script old new status.Done text = IsRun script old new text ⊎ IsDownFirst script old new text
IsTextOver script old new status.Usage text = ⊥
IsTextOver script old new (status.Refused line why) text =
    IsOtherAt script old line × (why ≡ 9) × IsAlike script old new × (text ≡ refused_text line why)
IsTextOver script old new status.ReadFault text = ⊥
IsTextOver script old new status.WriteFault text = ⊥
IsTextOver script old new (status.StoreRefused node at) text =
    (node ≡ 1) × IsBadAt script old at × IsAlike script old new × (text ≡ store_text node at)
IsTextOver script old new (status.Unsound node) text =
    (node ≡ 1) × IsUnsound script old × IsAlike script old new × (text ≡ unsound_text node)
IsTextOver script old new status.NoMemory text = ⊥

-- the same of a script that was refused
abbrev pub IsRefusalText : Refusal → Status → List ℕ → Type 0
IsRefusalText refused status.Done text = ⊥
IsRefusalText refused status.Usage text = ⊥
IsRefusalText refused (status.Refused line why) text = (refused ≡ refusal line why) × (text ≡ refused_text line why)
IsRefusalText refused status.ReadFault text = ⊥
IsRefusalText refused status.WriteFault text = ⊥
IsRefusalText refused (status.StoreRefused node at) text = ⊥
IsRefusalText refused (status.Unsound node) text = ⊥
IsRefusalText refused status.NoMemory text = ⊥

-- the same of words that are no command
abbrev pub IsUsageText : Status → List ℕ → Type 0
IsUsageText status.Done text = ⊥
IsUsageText status.Usage text = text ≡ usage_text
IsUsageText (status.Refused line why) text = ⊥
IsUsageText status.ReadFault text = ⊥
IsUsageText status.WriteFault text = ⊥
IsUsageText (status.StoreRefused node at) text = ⊥
IsUsageText (status.Unsound node) text = ⊥
IsUsageText status.NoMemory text = ⊥

-- the text of a script or a refusal, by the stores: a script is run over the first of them
abbrev pub IsScriptText : Result Script Refusal → List Stored → List Stored → Status → List ℕ → Type 0
IsScriptText (Err refused) old new s text = IsRefusalText refused s text × (new ≡ old)
IsScriptText (Ok script) [] new s text = ⊥
IsScriptText (Ok script) (o ∷ os) [] s text = ⊥
IsScriptText (Ok script) (o ∷ os) (n ∷ ns) s text = IsTextOver script o n s text × HasId script × (ns ≡ os)

-- the text that belongs to a status, by whether the words are a command
abbrev pub IsStatusText : Bool → Result Script Refusal → List Stored → List Stored → Status → List ℕ → Type 0
IsStatusText false script old new s text = IsUsageText s text × (new ≡ old)
IsStatusText true script old new s text = IsScriptText script old new s text

-- what is left of the stores where memory ran out: those of a script that was read, over the first
abbrev pub AreCutOff : Script → List Stored → List Stored → Type 0
AreCutOff script [] new = ⊥
AreCutOff script (o ∷ os) [] = ⊥
AreCutOff script (o ∷ os) (n ∷ ns) = IsCutOff script o n × (ns ≡ os)

abbrev pub AreLeft : Result Script Refusal → List Stored → List Stored → Type 0
AreLeft (Err refused) old new = new ≡ old
AreLeft (Ok script) old new = (new ≡ old) ⊎ AreCutOff script old new

-- what was written at a status: its text; a front of a text where a write failed; and nothing where a
-- read failed or memory ran out
abbrev pub IsWritten : Bool → Result Script Refusal → List Stored → List Stored → Status → List ℕ → Type 0
IsWritten play script old new status.Done text = IsStatusText play script old new status.Done text
IsWritten play script old new status.Usage text = IsStatusText play script old new status.Usage text
IsWritten play script old new (status.Refused line why) text = IsStatusText play script old new (status.Refused line why) text
IsWritten play script old new status.ReadFault text = (play ≡ true) × (text ≡ []) × (new ≡ old)
IsWritten play script old new status.WriteFault text =
    (other : Status) × (whole : List ℕ) × IsStatusText play script old new other whole × IsFront text whole
IsWritten play script old new (status.StoreRefused node at) text = IsStatusText play script old new (status.StoreRefused node at) text
IsWritten play script old new (status.Unsound node) text = IsStatusText play script old new (status.Unsound node) text
IsWritten play script old new status.NoMemory text = (play ≡ true) × (text ≡ []) × AreLeft script old new

-- What a run writes: there is a script or a refusal, that of the bytes of the source where it tells
-- them, and a text that belongs to it, to the stores and to the status; the sink took it, where it tells what it takes.
pub record Writes (play : Bool) (stores consumers : ℕ) (before after : List Stored) (input old new : Option (List ℕ)) (result : Status) : Type 0 where
  pub script : Result Script Refusal
  pub is_script : IfSome input (λ bytes. script ≡ script_of stores consumers bytes)
  pub text : List ℕ
  pub taken : Appends old new text
  pub is_written : IsWritten play script before after result text

-- the status `Usage` comes exactly where the words are no command, unless a write fails
pub record TellsUsage (play : Bool) (result : Status) : Type 0 where
  pub only : result ≡ status.Usage → play ≡ false
  pub always : play ≡ false → (result ≡ status.Usage) ⊎ (result ≡ status.WriteFault)

-- a fault of the source or of the sink, or want of memory
abbrev pub IsFault : Status → Type 0
IsFault result = (result ≡ status.ReadFault) ⊎ ((result ≡ status.WriteFault) ⊎ (result ≡ status.NoMemory))

-- the same, or a fault of the first store
abbrev pub IsAnyFault : List Stored → List Stored → Status → Type 0
IsAnyFault old new result = IsFault result ⊎ FirstRose old new

-- what may come in the place of a refusal: a fault of the source or the sink, or want of memory; and a fault of the store
-- where the script was read
abbrev pub IsFaultBy : Result Script Refusal → List Stored → List Stored → Status → Type 0
IsFaultBy (Err refused) old new result = IsFault result
IsFaultBy (Ok script) old new result = IsAnyFault old new result

-- a script is refused: by its lines, or by the tables of the first store's log, for reason 9
abbrev pub IsRefusedAt : Result Script Refusal → List Stored → ℕ → ℕ → Type 0
IsRefusedAt (Err refused) stores line why = refused ≡ refusal line why
IsRefusedAt (Ok script) [] line why = ⊥
IsRefusedAt (Ok script) (store ∷ others) line why = IsOtherAt script store line × (why ≡ 9)

-- the first store is bad there, or not sound, and the script was read
abbrev pub IsStoreBadAt : Result Script Refusal → List Stored → ℕ → Type 0
IsStoreBadAt (Err refused) stores at = ⊥
IsStoreBadAt (Ok script) [] at = ⊥
IsStoreBadAt (Ok script) (store ∷ others) at = IsBadAt script store at

abbrev pub IsStoreUnsound : Result Script Refusal → List Stored → Type 0
IsStoreUnsound (Err refused) stores = ⊥
IsStoreUnsound (Ok script) [] = ⊥
IsStoreUnsound (Ok script) (store ∷ others) = IsUnsound script store

-- a refusal comes exactly where the script is refused so, unless there is a fault
pub record TellsRefusal (play : Bool) (script : Result Script Refusal) (old new : List Stored) (result : Status) : Type 0 where
  pub only : (line why : ℕ) → result ≡ status.Refused line why → IsRefusedAt script old line why
  pub always : (line why : ℕ) → play ≡ true → IsRefusedAt script old line why → (result ≡ status.Refused line why) ⊎ IsFaultBy script old new result

-- a store is refused exactly where it is bad so, and it is that of node 1, unless there is a fault
pub record TellsStoreRefused (play : Bool) (script : Result Script Refusal) (old new : List Stored) (result : Status) : Type 0 where
  pub only : (node at : ℕ) → result ≡ status.StoreRefused node at → (node ≡ 1) × IsStoreBadAt script old at
  pub always : (at : ℕ) → play ≡ true → IsStoreBadAt script old at → (result ≡ status.StoreRefused 1 at) ⊎ IsAnyFault old new result

-- a log is told as not sound exactly where it is not, and it is that of node 1, unless there is a fault
pub record TellsUnsound (play : Bool) (script : Result Script Refusal) (old new : List Stored) (result : Status) : Type 0 where
  pub only : (node : ℕ) → result ≡ status.Unsound node → (node ≡ 1) × IsStoreUnsound script old
  pub always : play ≡ true → IsStoreUnsound script old → (result ≡ status.Unsound 1) ⊎ IsAnyFault old new result

-- the store stands for a sound log that has the script's tables or no entry; a script that says no table has those of
-- the log
pub record IsGoodStore (script : Script) (store : Stored) : Type 0 where
  pub promised : ℕ
  pub accepted : ℕ
  pub entries : List Entry
  pub stands : StandsFor 1 (cluster_of script) store.synced (Log promised accepted entries)
  pub sound : IsSound accepted entries
  pub tables : HasTables (script_tables script) entries

abbrev pub IsGoodAt : Result Script Refusal → List Stored → Type 0
IsGoodAt (Err refused) stores = ⊥
IsGoodAt (Ok script) [] = ⊥
IsGoodAt (Ok script) (store ∷ others) = IsGoodStore script store

-- a script that is valid, over such a store, is played to its end, unless memory runs out
abbrev pub Completes : Bool → Result Script Refusal → List Stored → Status → Type 0
Completes play script old result =
    play ≡ true → IsGoodAt script old → (result ≡ status.Done) ⊎ (result ≡ status.NoMemory)

-- where the first store stood for a sound log, it stands for one again
abbrev pub AreSoundAgain : Result Script Refusal → List Stored → List Stored → Type 0
AreSoundAgain (Err refused) old new = new ≡ old
AreSoundAgain (Ok script) [] new = new ≡ []
AreSoundAgain (Ok script) (o ∷ os) [] = ⊥
AreSoundAgain (Ok script) (o ∷ os) (n ∷ ns) = IsSoundAgain script o n

-- a run that leaves the stores as they were, bit for bit: no store was called
abbrev pub LeavesStores : Status → Type 0
LeavesStores status.Done = ⊥
LeavesStores status.Usage = Unit {0}
LeavesStores (status.Refused line why) = why ≡ 9 → ⊥
LeavesStores status.ReadFault = Unit {0}
LeavesStores status.WriteFault = ⊥
LeavesStores (status.StoreRefused node at) = ⊥
LeavesStores (status.Unsound node) = ⊥
LeavesStores status.NoMemory = ⊥

-- a text was written and the status stands, or a write failed after a front of the text
abbrev pub Finishes : Status → Status → List ℕ → Option (List ℕ) → Option (List ℕ) → ℕ → ℕ → Type 0
Finishes wanted result text old new before now =
    ((result ≡ wanted) × Appends old new text) ⊎ ((result ≡ status.WriteFault) × AppendsFront old new text × Rose before now)

-- a run that stopped before it had anything to write: a read failed, and the stores are as they were; or memory ran out
abbrev pub IsStop : Status → Result Script Refusal → List Stored → List Stored → Type 0
IsStop status.Done script old new = ⊥
IsStop status.Usage script old new = ⊥
IsStop (status.Refused line why) script old new = ⊥
IsStop status.ReadFault script old new = new ≡ old
IsStop status.WriteFault script old new = ⊥
IsStop (status.StoreRefused node at) script old new = ⊥
IsStop (status.Unsound node) script old new = ⊥
IsStop status.NoMemory script old new = AreLeft script old new

-- the same by what the source has, where it tells it
pub record StopsAt (stores consumers : ℕ) (before after : List Stored) (old : Option (List ℕ)) (s : Status) : Type 0 where
  pub script : Result Script Refusal
  pub stop : IsStop s script before after
  pub is_script : IfSome old (λ input. script ≡ script_of stores consumers input)

-- the answer to the bytes that were read from a source: of the bytes that it had, where it tells them
pub record AnswersSource (stores consumers : ℕ) (before after : List Stored) (old new : Option (List ℕ)) (s : Status) (text : List ℕ) : Type 0 where
  pub script : Result Script Refusal
  pub is_text : IsStatusText true script before after s text
  pub is_script : IfSome old (λ input. script ≡ script_of stores consumers input)
  pub at_end : s ≡ status.Done → IsAtEnd new
