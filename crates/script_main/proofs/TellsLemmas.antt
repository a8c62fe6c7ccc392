-- What was written tells whether the words were a command, whether the script was refused, and how its store was.
use Rattle.std.proofs.Common.{◌⊎◌, ◌≡◌, ℕ, List, [], ◌∷◌, slice_get, refl, sym, subst, ap, Option, Some, None, ◌∙◌, Bool, true, false, inl, inr, Result, Ok, Err, IfSome}
use Rattle.node_opening.specs.Why.{HasRisen}
use Rattle.script_read.specs.Answers.{Refusal, refusal}
use Rattle.script_read.specs.ScriptText.{script_of}
use Rattle.script_form.specs.CanRun.{script_tables}
use Rattle.script_form.specs.declared.scripts.Script.{Script}
use Rattle.script_form.specs.declared.scripts.TableLine.{TableLine}
use Rattle.store_log.specs.Keeps.{Stored}
use Rattle.script_main.proofs.ApartLemmas.{good_not_other, good_not_unsound, log_not_other, log_not_refused, log_not_unsound, one_offset, other_not_unsound, same_place}
use Rattle.script_main.specs.Run.{Completes, IsAnyFault, IsFault, IsFaultBy, IsGoodAt, IsGoodStore, IsRefusalText, IsRefusedAt, IsStoreBadAt, IsStoreUnsound, IsStatusText, IsTextOver, IsUsageText, IsWritten, TellsRefusal, TellsStoreRefused, TellsUnsound, TellsUsage, Writes}
use Rattle.script_main.specs.Stores.{cluster_of, HasId, IsBadAt, IsOtherAt, IsUnsound}
use Rattle.cdb_outside.specs.declared.statuses.Status.{Status}
use Rattle.cdb_outside.specs.declared.statuses.Status.TheVariants as status

not_both : (b : Bool) → b ≡ true → b ≡ false → ⊥
not_both true t f = cc
not_both false t f = cc

-- usage

usage_status : (s : Status) (text : List ℕ) → IsUsageText s text → s ≡ status.Usage
usage_status status.Done text is = absurd is
usage_status status.Usage text is = refl
usage_status (status.Refused line why) text is = absurd is
usage_status status.ReadFault text is = absurd is
usage_status status.WriteFault text is = absurd is
usage_status (status.StoreRefused node at) text is = absurd is
usage_status (status.Unsound node) text is = absurd is
usage_status status.NoMemory text is = absurd is

no_usage : (script : Result Script Refusal) (old new : List Stored) (text : List ℕ) → IsStatusText true script old new status.Usage text → ⊥
no_usage (Err r) old new text is = is.0
no_usage (Ok script) [] new text is = is
no_usage (Ok script) (o ∷ os) [] text is = is
no_usage (Ok script) (o ∷ os) (n ∷ ns) text is = is.0

usage_off : (play : Bool) (script : Result Script Refusal) (old new : List Stored) (text : List ℕ) → IsStatusText play script old new status.Usage text → play ≡ false
usage_off false script old new text is = refl
usage_off true script old new text is = absurd (no_usage script old new text is)

off_usage : (play : Bool) (script : Result Script Refusal) (old new : List Stored) (s : Status) (text : List ℕ) → play ≡ false → IsStatusText play script old new s text → s ≡ status.Usage
off_usage false script old new s text off is = usage_status s text is.0
off_usage true script old new s text off is = absurd (not_both true refl off)

usage_told : (play : Bool) (script : Result Script Refusal) (old new : List Stored) (result : Status) (text : List ℕ) → IsWritten play script old new result text → TellsUsage play result
usage_told play script old new result text is = record {
  only = λ e. usage_off play script old new text (subst (λ s. IsWritten play script old new s text) e is);
  always = λ off. go result is off;
}
  where
    go : (s : Status) → IsWritten play script old new s text → play ≡ false → (s ≡ status.Usage) ⊎ (s ≡ status.WriteFault)
    go status.Done w off = inl (off_usage play script old new status.Done text off w)
    go status.Usage w off = inl refl
    go (status.Refused line why) w off = inl (off_usage play script old new (status.Refused line why) text off w)
    go status.ReadFault w off = absurd (not_both play w.0 off)
    go status.WriteFault w off = inr refl
    go (status.StoreRefused node at) w off = inl (off_usage play script old new (status.StoreRefused node at) text off w)
    go (status.Unsound node) w off = inl (off_usage play script old new (status.Unsound node) text off w)
    go status.NoMemory w off = absurd (not_both play w.0 off)

pub tells_usage : (play : Bool) (count consumers : ℕ) (stores stores' : List Stored) (input old new : Option (List ℕ)) (result : Status) → Writes play count consumers stores stores' input old new result → TellsUsage play result
tells_usage play count consumers stores stores' input old new result w = usage_told play w.script stores stores' result w.text w.is_written

-- what a text of a script that was read tells, where something else is so of its store

abbrev some_of : TableLine → Option TableLine → TableLine
some_of t None = t
some_of t (Some u) = u

same_line : (script : Script) (o : Stored) (line other : ℕ) → HasId script → IsOtherAt script o line → IsOtherAt script o other → line ≡ other
same_line script o line other id a b =
    let p : a.place ≡ b.place = same_place (cluster_of script) o.synced (script_tables script) a.place b.place id a.other b.other in
    let e : Some a.said ≡ Some b.said = sym a.at ∙ ap (λ n. slice_get script.tables n) p ∙ b.at in
    let t : a.said ≡ b.said = ap (some_of a.said) e in
    sym a.line_is ∙ ap (λ (l : TableLine). l.line) t ∙ b.line_is

other_over : (script : Script) (o n : Stored) (s : Status) (text : List ℕ) (line : ℕ) → HasId script → IsOtherAt script o line → IsTextOver script o n s text → (s ≡ status.Refused line 9) ⊎ HasRisen o.faults n.faults
other_over script o n status.Done text line id other (inl run) =
    absurd (good_not_other (cluster_of script) o.synced (script_tables script) run.promised run.accepted run.before other.place id run.stood other.other)
other_over script o n status.Done text line id other (inr down) = inr down.fault
other_over script o n status.Usage text line id other t = absurd t
other_over script o n (status.Refused l why) text line id other t =
    let a : l ≡ line = same_line script o l line id t.0 other in
    let b : why ≡ 9 = t.1 in
    inl cc
other_over script o n status.ReadFault text line id other t = absurd t
other_over script o n status.WriteFault text line id other t = absurd t
other_over script o n (status.StoreRefused node at) text line id other t =
    absurd (log_not_refused (cluster_of script) o.synced other.other.promised other.other.accepted other.other.entries at id other.other.stood t.1)
other_over script o n (status.Unsound node) text line id other t =
    absurd (other_not_unsound (cluster_of script) o.synced (script_tables script) other.place id other.other t.1)
other_over script o n status.NoMemory text line id other t = absurd t

bad_over : (script : Script) (o n : Stored) (s : Status) (text : List ℕ) (at : ℕ) → HasId script → IsBadAt script o at → IsTextOver script o n s text → (s ≡ status.StoreRefused 1 at) ⊎ HasRisen o.faults n.faults
bad_over script o n status.Done text at id bad (inl run) =
    absurd (log_not_refused (cluster_of script) o.synced run.promised run.accepted run.before at id run.stood.stands bad)
bad_over script o n status.Done text at id bad (inr down) = inr down.fault
bad_over script o n status.Usage text at id bad t = absurd t
bad_over script o n (status.Refused l why) text at id bad t =
    let w = t.0.other in absurd (log_not_refused (cluster_of script) o.synced w.promised w.accepted w.entries at id w.stood bad)
bad_over script o n status.ReadFault text at id bad t = absurd t
bad_over script o n status.WriteFault text at id bad t = absurd t
bad_over script o n (status.StoreRefused node offset) text at id bad t =
    let a : node ≡ 1 = t.0 in
    let b : offset ≡ at = one_offset (cluster_of script) o.synced offset at id t.1 bad in
    inl cc
bad_over script o n (status.Unsound node) text at id bad t =
    let w = t.1 in absurd (log_not_refused (cluster_of script) o.synced w.promised w.accepted w.entries at id w.stood bad)
bad_over script o n status.NoMemory text at id bad t = absurd t

unsound_over : (script : Script) (o n : Stored) (s : Status) (text : List ℕ) → HasId script → IsUnsound script o → IsTextOver script o n s text → (s ≡ status.Unsound 1) ⊎ HasRisen o.faults n.faults
unsound_over script o n status.Done text id un (inl run) =
    absurd (good_not_unsound (cluster_of script) o.synced (script_tables script) run.promised run.accepted run.before id run.stood un)
unsound_over script o n status.Done text id un (inr down) = inr down.fault
unsound_over script o n status.Usage text id un t = absurd t
unsound_over script o n (status.Refused l why) text id un t =
    absurd (other_not_unsound (cluster_of script) o.synced (script_tables script) t.0.place id t.0.other un)
unsound_over script o n status.ReadFault text id un t = absurd t
unsound_over script o n status.WriteFault text id un t = absurd t
unsound_over script o n (status.StoreRefused node at) text id un t =
    absurd (log_not_refused (cluster_of script) o.synced un.promised un.accepted un.entries at id un.stood t.1)
unsound_over script o n (status.Unsound node) text id un t = let a : node ≡ 1 = t.0 in inl cc
unsound_over script o n status.NoMemory text id un t = absurd t

-- what is written at a status that has a text is that text; the others are faults

abbrev TextOrFault : Bool → Result Script Refusal → List Stored → List Stored → Status → List ℕ → Type 0
TextOrFault play script old new s text = IsStatusText play script old new s text ⊎ IsFault s

text_or_fault : (play : Bool) (script : Result Script Refusal) (old new : List Stored) (s : Status) (text : List ℕ) → IsWritten play script old new s text → TextOrFault play script old new s text
text_or_fault play script old new status.Done text w = inl w
text_or_fault play script old new status.Usage text w = inl w
text_or_fault play script old new (status.Refused line why) text w = inl w
text_or_fault play script old new status.ReadFault text w = inr (inl refl)
text_or_fault play script old new status.WriteFault text w = inr (inr (inl refl))
text_or_fault play script old new (status.StoreRefused node at) text w = inl w
text_or_fault play script old new (status.Unsound node) text w = inl w
text_or_fault play script old new status.NoMemory text w = inr (inr (inr refl))

-- refusals of a script

refused_only : (play : Bool) (script : Result Script Refusal) (old new : List Stored) (line why : ℕ) (text : List ℕ) → IsStatusText play script old new (status.Refused line why) text → IsRefusedAt script old line why
refused_only false script old new line why text is = absurd is.0
refused_only true (Err r) old new line why text is = is.0.0
refused_only true (Ok script) [] new line why text is = absurd is
refused_only true (Ok script) (o ∷ os) [] line why text is = absurd is
refused_only true (Ok script) (o ∷ os) (n ∷ ns) line why text is = (is.0.0, is.0.1)

same_refusal : (r : Refusal) (line why other cause : ℕ) → r ≡ refusal line why → r ≡ refusal other cause → status.Refused line why ≡ status.Refused other cause
same_refusal r line why other cause a b = ap (λ (x : Refusal). status.Refused x.line x.why) (sym a ∙ b)

refused_by : (r : Refusal) (s : Status) (text : List ℕ) (line why : ℕ) → r ≡ refusal line why → IsRefusalText r s text → s ≡ status.Refused line why
refused_by r status.Done text line why is t = absurd t
refused_by r status.Usage text line why is t = absurd t
refused_by r (status.Refused l v) text line why is t = same_refusal r l v line why t.0 is
refused_by r status.ReadFault text line why is t = absurd t
refused_by r status.WriteFault text line why is t = absurd t
refused_by r (status.StoreRefused node at) text line why is t = absurd t
refused_by r (status.Unsound node) text line why is t = absurd t
refused_by r status.NoMemory text line why is t = absurd t

any_fault : (A : Type 0) (os ns : List Stored) (o n : Stored) (s : Status) → A ⊎ HasRisen o.faults n.faults → A ⊎ IsAnyFault (o ∷ os) (n ∷ ns) s
any_fault A os ns o n s (inl a) = inl a
any_fault A os ns o n s (inr rose) = inr (inr rose)

refused_always : (play : Bool) (script : Result Script Refusal) (old new : List Stored) (s : Status) (text : List ℕ) (line why : ℕ) →
    play ≡ true → IsRefusedAt script old line why → IsStatusText play script old new s text → (s ≡ status.Refused line why) ⊎ IsFaultBy script old new s
refused_always false script old new s text line why on refused is = absurd (not_both false on refl)
refused_always true (Err r) old new s text line why on refused is = inl (refused_by r s text line why refused is.0)
refused_always true (Ok script) [] new s text line why on refused is = absurd is
refused_always true (Ok script) (o ∷ os) [] s text line why on refused is = absurd is
refused_always true (Ok script) (o ∷ os) (n ∷ ns) s text line why on refused is =
    subst (λ (w : ℕ). (s ≡ status.Refused line w) ⊎ IsAnyFault (o ∷ os) (n ∷ ns) s) (sym refused.1)
    (any_fault (s ≡ status.Refused line 9) os ns o n s (other_over script o n s text line is.1 refused.0 is.0))

fault_by : (script : Result Script Refusal) (old new : List Stored) (s : Status) → IsFault s → IsFaultBy script old new s
fault_by (Err r) old new s f = f
fault_by (Ok script) old new s f = inl f

refusal_told : (play : Bool) (script : Result Script Refusal) (old new : List Stored) (result : Status) (text : List ℕ) → IsWritten play script old new result text → TellsRefusal play script old new result
refusal_told play script old new result text is = record {
  only = λ line why e. refused_only play script old new line why text (subst (λ s. IsWritten play script old new s text) e is);
  always = λ line why on refused. go line why on refused (text_or_fault play script old new result text is);
}
  where
    go : (line why : ℕ) → play ≡ true → IsRefusedAt script old line why → TextOrFault play script old new result text → (result ≡ status.Refused line why) ⊎ IsFaultBy script old new result
    go line why on refused (inl t) = refused_always play script old new result text line why on refused t
    go line why on refused (inr f) = inr (fault_by script old new result f)

-- stores that are refused

bad_only : (play : Bool) (script : Result Script Refusal) (old new : List Stored) (node at : ℕ) (text : List ℕ) → IsStatusText play script old new (status.StoreRefused node at) text → (node ≡ 1) × IsStoreBadAt script old at
bad_only false script old new node at text is = absurd is.0
bad_only true (Err r) old new node at text is = absurd is.0
bad_only true (Ok script) [] new node at text is = absurd is
bad_only true (Ok script) (o ∷ os) [] node at text is = absurd is
bad_only true (Ok script) (o ∷ os) (n ∷ ns) node at text is = (is.0.0, is.0.1)

bad_always : (play : Bool) (script : Result Script Refusal) (old new : List Stored) (s : Status) (text : List ℕ) (at : ℕ) →
    play ≡ true → IsStoreBadAt script old at → IsStatusText play script old new s text → (s ≡ status.StoreRefused 1 at) ⊎ IsAnyFault old new s
bad_always false script old new s text at on bad is = absurd (not_both false on refl)
bad_always true (Err r) old new s text at on bad is = absurd bad
bad_always true (Ok script) [] new s text at on bad is = absurd is
bad_always true (Ok script) (o ∷ os) [] s text at on bad is = absurd is
bad_always true (Ok script) (o ∷ os) (n ∷ ns) s text at on bad is =
    any_fault (s ≡ status.StoreRefused 1 at) os ns o n s (bad_over script o n s text at is.1 bad is.0)

bad_told : (play : Bool) (script : Result Script Refusal) (old new : List Stored) (result : Status) (text : List ℕ) → IsWritten play script old new result text → TellsStoreRefused play script old new result
bad_told play script old new result text is = record {
  only = λ node at e. bad_only play script old new node at text (subst (λ s. IsWritten play script old new s text) e is);
  always = λ at on bad. go at on bad (text_or_fault play script old new result text is);
}
  where
    go : (at : ℕ) → play ≡ true → IsStoreBadAt script old at → TextOrFault play script old new result text → (result ≡ status.StoreRefused 1 at) ⊎ IsAnyFault old new result
    go at on bad (inl t) = bad_always play script old new result text at on bad t
    go at on bad (inr f) = inr (inl f)

-- logs that are not sound

unsound_only : (play : Bool) (script : Result Script Refusal) (old new : List Stored) (node : ℕ) (text : List ℕ) → IsStatusText play script old new (status.Unsound node) text → (node ≡ 1) × IsStoreUnsound script old
unsound_only false script old new node text is = absurd is.0
unsound_only true (Err r) old new node text is = absurd is.0
unsound_only true (Ok script) [] new node text is = absurd is
unsound_only true (Ok script) (o ∷ os) [] node text is = absurd is
unsound_only true (Ok script) (o ∷ os) (n ∷ ns) node text is = (is.0.0, is.0.1)

unsound_always : (play : Bool) (script : Result Script Refusal) (old new : List Stored) (s : Status) (text : List ℕ) →
    play ≡ true → IsStoreUnsound script old → IsStatusText play script old new s text → (s ≡ status.Unsound 1) ⊎ IsAnyFault old new s
unsound_always false script old new s text on un is = absurd (not_both false on refl)
unsound_always true (Err r) old new s text on un is = absurd un
unsound_always true (Ok script) [] new s text on un is = absurd is
unsound_always true (Ok script) (o ∷ os) [] s text on un is = absurd is
unsound_always true (Ok script) (o ∷ os) (n ∷ ns) s text on un is =
    any_fault (s ≡ status.Unsound 1) os ns o n s (unsound_over script o n s text is.1 un is.0)

unsound_told : (play : Bool) (script : Result Script Refusal) (old new : List Stored) (result : Status) (text : List ℕ) → IsWritten play script old new result text → TellsUnsound play script old new result
unsound_told play script old new result text is = record {
  only = λ node e. unsound_only play script old new node text (subst (λ s. IsWritten play script old new s text) e is);
  always = λ on un. go on un (text_or_fault play script old new result text is);
}
  where
    go : play ≡ true → IsStoreUnsound script old → TextOrFault play script old new result text → (result ≡ status.Unsound 1) ⊎ IsAnyFault old new result
    go on un (inl t) = unsound_always play script old new result text on un t
    go on un (inr f) = inr (inl f)

-- the clauses of the run, of what it writes

pub tells_refusal : (play : Bool) (count consumers : ℕ) (stores stores' : List Stored) (input old new : Option (List ℕ)) (result : Status) → Writes play count consumers stores stores' input old new result →
    IfSome input (λ bytes. TellsRefusal play (script_of count consumers bytes) stores stores' result)
tells_refusal play count consumers stores stores' None old new result w = tt
tells_refusal play count consumers stores stores' (Some bytes) old new result w =
    subst (λ (s : Result Script Refusal). TellsRefusal play s stores stores' result) w.is_script (refusal_told play w.script stores stores' result w.text w.is_written)

pub tells_store_refused : (play : Bool) (count consumers : ℕ) (stores stores' : List Stored) (input old new : Option (List ℕ)) (result : Status) → Writes play count consumers stores stores' input old new result →
    IfSome input (λ bytes. TellsStoreRefused play (script_of count consumers bytes) stores stores' result)
tells_store_refused play count consumers stores stores' None old new result w = tt
tells_store_refused play count consumers stores stores' (Some bytes) old new result w =
    subst (λ (s : Result Script Refusal). TellsStoreRefused play s stores stores' result) w.is_script (bad_told play w.script stores stores' result w.text w.is_written)

pub tells_unsound : (play : Bool) (count consumers : ℕ) (stores stores' : List Stored) (input old new : Option (List ℕ)) (result : Status) → Writes play count consumers stores stores' input old new result →
    IfSome input (λ bytes. TellsUnsound play (script_of count consumers bytes) stores stores' result)
tells_unsound play count consumers stores stores' None old new result w = tt
tells_unsound play count consumers stores stores' (Some bytes) old new result w =
    subst (λ (s : Result Script Refusal). TellsUnsound play s stores stores' result) w.is_script (unsound_told play w.script stores stores' result w.text w.is_written)

-- a script over a good store is done

good_over : (script : Script) (o n : Stored) (s : Status) (text : List ℕ) → HasId script → IsGoodStore script o → IsTextOver script o n s text → s ≡ status.Done
good_over script o n status.Done text id good t = refl
good_over script o n status.Usage text id good t = absurd t
good_over script o n (status.Refused line why) text id good t =
    absurd (log_not_other (cluster_of script) o.synced (script_tables script) good.promised good.accepted good.entries t.0.place id good.stands good.tables t.0.other)
good_over script o n status.ReadFault text id good t = absurd t
good_over script o n status.WriteFault text id good t = absurd t
good_over script o n (status.StoreRefused node at) text id good t =
    absurd (log_not_refused (cluster_of script) o.synced good.promised good.accepted good.entries at id good.stands t.1)
good_over script o n (status.Unsound node) text id good t =
    absurd (log_not_unsound (cluster_of script) o.synced good.promised good.accepted good.entries id good.stands good.sound t.1)
good_over script o n status.NoMemory text id good t = absurd t

done_always : (play : Bool) (script : Result Script Refusal) (old new : List Stored) (s : Status) (text : List ℕ) → play ≡ true → IsGoodAt script old → IsStatusText play script old new s text → s ≡ status.Done
done_always false script old new s text on good is = absurd (not_both false on refl)
done_always true (Err r) old new s text on good is = absurd good
done_always true (Ok script) [] new s text on good is = absurd is
done_always true (Ok script) (o ∷ os) [] s text on good is = absurd is
done_always true (Ok script) (o ∷ os) (n ∷ ns) s text on good is = good_over script o n s text is.1 good is.0

completes_by : (play : Bool) (script : Result Script Refusal) (old new : List Stored) (result : Status) (text : List ℕ) → IsWritten play script old new result text →
    (result ≡ status.ReadFault → ⊥) → (result ≡ status.WriteFault → ⊥) → Completes play script old result
completes_by play script old new result text w read written on good = go (text_or_fault play script old new result text w)
  where
    go : TextOrFault play script old new result text → (result ≡ status.Done) ⊎ (result ≡ status.NoMemory)
    go (inl t) = inl (done_always play script old new result text on good t)
    go (inr (inl fault)) = absurd (read fault)
    go (inr (inr (inl fault))) = absurd (written fault)
    go (inr (inr (inr none))) = inr none

pub completes : (play : Bool) (count consumers : ℕ) (stores stores' : List Stored) (input old new : Option (List ℕ)) (result : Status) → Writes play count consumers stores stores' input old new result →
    (result ≡ status.ReadFault → ⊥) → (result ≡ status.WriteFault → ⊥) → IfSome input (λ bytes. Completes play (script_of count consumers bytes) stores result)
completes play count consumers stores stores' None old new result w read written = tt
completes play count consumers stores stores' (Some bytes) old new result w read written =
    subst (λ (s : Result Script Refusal). Completes play s stores result) w.is_script (completes_by play w.script stores stores' result w.text w.is_written read written)

-- words that are no command play nothing
pub completes_off : (play : Bool) (count consumers : ℕ) (stores : List Stored) (input : Option (List ℕ)) (result : Status) → play ≡ false → IfSome input (λ bytes. Completes play (script_of count consumers bytes) stores result)
completes_off play count consumers stores None result off = tt
completes_off play count consumers stores (Some bytes) result off = λ on. absurd (not_both play on off)
