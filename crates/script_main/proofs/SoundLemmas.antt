-- A store that stood for a sound log stands for one again, whatever is answered.
use Rattle.std.proofs.Common.{◌⊎◌, ◌≡◌, ℕ, ◌+◌, ◌++◌, List, [], ◌∷◌, sym, subst, Option, Some, None, Bool, true, false, inl, inr, Result, Ok, Err, IfSome, refl}
use Rattle.std.proofs.Math.Logic.{∥∥₁_map}
use Rattle.phys_log.specs.declared.entries.Entry.{Entry}
use Rattle.report_laws.specs.Nodes.{downs}
use Rattle.script_form.specs.declared.scripts.Script.{Script}
use Rattle.script_read.specs.Answers.{Refusal}
use Rattle.script_read.specs.ScriptText.{script_of}
use Rattle.sound_log.specs.Sound.{IsSound}
use Rattle.store_log.specs.declared.standings.Standing.TheVariants.{Log}
use Rattle.store_log.specs.Keeps.{Stored}
use Rattle.script_main.specs.Run.{AreCutOff, AreLeft, AreSoundAgain, IsStatusText, IsTextOver, IsWritten, Writes}
use Rattle.script_main.specs.Runs.{IsCutOff, IsStoreGivenUp, IsLeftBy, IsRun, IsSoundAgain, IsSoundFurther, IsSoundMore, IsSoundStore, Keeps}
use Rattle.script_main.specs.Stores.{cluster_of, start_at, with_tables, IsAlike}
use Rattle.cdb_outside.specs.declared.statuses.Status.{Status}
use Rattle.cdb_outside.specs.declared.statuses.Status.TheVariants as status

pub alike_again : (script : Script) (o n : Stored) → IsAlike script o n → IsSoundAgain script o n
alike_again script o n alike was = ∣ record {
  promised = was.promised;
  accepted = was.accepted;
  entries = was.entries;
  stands = alike (Log was.promised was.accepted was.entries) was.stands;
  sound = was.sound;
} ∣₁

-- a log that is kept
kept_sound : (script : Script) (n : Stored) (generation : ℕ) (log : List Entry) → IsSound generation log → Keeps (cluster_of script) n.synced generation log → IsSoundStore script n
kept_sound script n generation log sound keeps = record { promised = generation; accepted = generation; entries = log; stands = keeps; sound = sound }

-- what a run leaves behind its opening, where the history and the log with one entry more are sound
left_sound : (script : Script) (o n : Stored) (count generation : ℕ) (history : List Entry) (MayBe : List Entry → Type 0) → IsSound generation history → ((log : List Entry) → MayBe log → IsSound generation log)
    → IsLeftBy count (cluster_of script) o n generation history MayBe → ∥ IsSoundStore script n ∥₁
left_sound script o n count generation history MayBe sound more (inl up) = ∥∥₁_map up.2 (kept_sound script n generation history sound)
left_sound script o n count generation history MayBe sound more (inr down) = ∥∥₁_map down.2.stands pick
  where
    pick : Keeps (cluster_of script) n.synced generation history ⊎ Keeps (cluster_of script) n.synced generation (history ++ down.2.entry ∷ []) → IsSoundStore script n
    pick (inl keeps) = kept_sound script n generation history sound keeps
    pick (inr keeps) = kept_sound script n generation (history ++ down.2.entry ∷ []) (more (history ++ down.2.entry ∷ []) down.2.is_more) keeps

run_again : (script : Script) (o n : Stored) (text : List ℕ) → IsRun script o n text → IsSoundAgain script o n
run_again script o n text run was =
    left_sound script o n (downs run.report.lines) (run.promised + 1) run.history
    (IsSoundFurther (with_tables script run.before) (start_at run.before run.rows) (run.promised + 1) run.report) run.sound (λ log more. more.sound) run.left

given_again : (script : Script) (o n : Stored) → IsStoreGivenUp script o n → IsSoundAgain script o n
given_again script o n given was =
    left_sound script o n given.count (given.promised + 1) given.history
    (IsSoundMore (with_tables script given.before) given.start (given.promised + 1) given.entries) given.sound (λ log more. more.sound) given.left

over_again : (script : Script) (o n : Stored) (s : Status) (text : List ℕ) → IsTextOver script o n s text → IsSoundAgain script o n
over_again script o n status.Done text (inl run) = run_again script o n text run
over_again script o n status.Done text (inr down) = down.again
over_again script o n status.Usage text t = absurd t
over_again script o n (status.Refused line why) text t = alike_again script o n t.2
over_again script o n status.ReadFault text t = absurd t
over_again script o n status.WriteFault text t = absurd t
over_again script o n (status.StoreRefused node at) text t = alike_again script o n t.2
over_again script o n (status.Unsound node) text t = alike_again script o n t.2
over_again script o n status.NoMemory text t = absurd t

cut_again : (script : Script) (o n : Stored) → IsCutOff script o n → IsSoundAgain script o n
cut_again script o n (inl alike) = alike_again script o n alike
cut_again script o n (inr (inl stopped)) = stopped.again
cut_again script o n (inr (inr given)) = given_again script o n given

same_again : (script : Result Script Refusal) (old : List Stored) → AreSoundAgain script old old
same_again (Err r) old = refl
same_again (Ok script) [] = refl
same_again (Ok script) (o ∷ os) = λ was. ∣ was ∣₁

as_before : (script : Result Script Refusal) (old new : List Stored) → new ≡ old → AreSoundAgain script old new
as_before script old new same = subst (λ (stores : List Stored). AreSoundAgain script old stores) (sym same) (same_again script old)

text_again : (play : Bool) (script : Result Script Refusal) (old new : List Stored) (s : Status) (text : List ℕ) → IsStatusText play script old new s text → AreSoundAgain script old new
text_again false script old new s text is = as_before script old new is.1
text_again true (Err r) old new s text is = is.1
text_again true (Ok script) [] new s text is = absurd is
text_again true (Ok script) (o ∷ os) [] s text is = absurd is
text_again true (Ok script) (o ∷ os) (n ∷ ns) s text is = over_again script o n s text is.0

cut_off_again : (script : Script) (old new : List Stored) → AreCutOff script old new → AreSoundAgain (Ok script) old new
cut_off_again script [] new cut = absurd cut
cut_off_again script (o ∷ os) [] cut = absurd cut
cut_off_again script (o ∷ os) (n ∷ ns) cut = cut_again script o n cut.0

left_again : (script : Result Script Refusal) (old new : List Stored) → AreLeft script old new → AreSoundAgain script old new
left_again (Err r) old new same = same
left_again (Ok script) old new (inl same) = as_before (Ok script) old new same
left_again (Ok script) old new (inr cut) = cut_off_again script old new cut

written_again : (play : Bool) (script : Result Script Refusal) (old new : List Stored) (s : Status) (text : List ℕ) → IsWritten play script old new s text → AreSoundAgain script old new
written_again play script old new status.Done text w = text_again play script old new status.Done text w
written_again play script old new status.Usage text w = text_again play script old new status.Usage text w
written_again play script old new (status.Refused line why) text w = text_again play script old new (status.Refused line why) text w
written_again play script old new status.ReadFault text w = as_before script old new w.2
written_again play script old new status.WriteFault text w = text_again play script old new w.0 w.1 w.2
written_again play script old new (status.StoreRefused node at) text w = text_again play script old new (status.StoreRefused node at) text w
written_again play script old new (status.Unsound node) text w = text_again play script old new (status.Unsound node) text w
written_again play script old new status.NoMemory text w = left_again script old new w.2

pub stands_again : (play : Bool) (count consumers : ℕ) (stores stores' : List Stored) (input old new : Option (List ℕ)) (result : Status) → Writes play count consumers stores stores' input old new result →
    IfSome input (λ bytes. AreSoundAgain (script_of count consumers bytes) stores stores')
stands_again play count consumers stores stores' None old new result w = tt
stands_again play count consumers stores stores' (Some bytes) old new result w =
    subst (λ (s : Result Script Refusal). AreSoundAgain s stores stores') w.is_script (written_again play w.script stores stores' result w.text w.is_written)
