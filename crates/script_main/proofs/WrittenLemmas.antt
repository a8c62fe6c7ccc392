-- What is written, by the status that was wanted and the one that was given.
use Rattle.std.proofs.Common.{◌⊎◌, ◌≡◌, ℕ, ◌+◌, ◌<◌, ◌≤◌, List, [], ◌∷◌, ◌++◌, length, refl, sym, subst, ap, Option, Some, None, ◌∙◌, Bool, true, false, inl, inr, Result, Ok, Err, take, IfSome, nat_lt, if◌then◌else◌}
use Rattle.std.proofs.lemmas.List.{append-nil}
use Rattle.std.proofs.lemmas.Bool.{ltb-false, ltb-true}
use Rattle.std.specs.Io.KnownBytes.{Appends, Consumes, IsAtEnd}
use Rattle.cdb_outside.specs.Faults.{Rose}
use Rattle.script_read.specs.Answers.{Refusal, refusal}
use Rattle.script_read.specs.ScriptText.{script_of, most_bytes, past_limit, read_lines, no_draft, whole_script, and_then}
use Rattle.script_read.specs.declared.drafts.Draft.{Draft}
use Rattle.byte_words.specs.Lines.{lines_of_bytes, but_last}
use Rattle.script_form.specs.declared.scripts.Script.{Script}
use Rattle.store_log.specs.Keeps.{Stored}
use Rattle.script_main.specs.Run.{AreCutOff, AreLeft, IsStatusText, IsTextOver, IsRefusalText, IsScriptText, IsUsageText, IsWritten, Finishes, LeavesStores, Writes, AnswersSource, IsStop, StopsAt}
use Rattle.script_main.specs.Texts.{usage_text}
use Rattle.cdb_outside.specs.declared.statuses.Status.{Status}
use Rattle.cdb_outside.specs.declared.statuses.Status.TheVariants as status

-- a status that has a text
abbrev pub HasText : Status → Type 0
HasText status.Done = Unit {0}
HasText status.Usage = Unit {0}
HasText (status.Refused line why) = Unit {0}
HasText status.ReadFault = ⊥
HasText status.WriteFault = ⊥
HasText (status.StoreRefused node at) = Unit {0}
HasText (status.Unsound node) = Unit {0}
HasText status.NoMemory = ⊥

usage_has : (s : Status) (text : List ℕ) → IsUsageText s text → HasText s
usage_has status.Done text is = tt
usage_has status.Usage text is = tt
usage_has (status.Refused line why) text is = tt
usage_has status.ReadFault text is = is
usage_has status.WriteFault text is = is
usage_has (status.StoreRefused node at) text is = tt
usage_has (status.Unsound node) text is = tt
usage_has status.NoMemory text is = is

refusal_has : (r : Refusal) (s : Status) (text : List ℕ) → IsRefusalText r s text → HasText s
refusal_has r status.Done text is = tt
refusal_has r status.Usage text is = tt
refusal_has r (status.Refused line why) text is = tt
refusal_has r status.ReadFault text is = is
refusal_has r status.WriteFault text is = is
refusal_has r (status.StoreRefused node at) text is = tt
refusal_has r (status.Unsound node) text is = tt
refusal_has r status.NoMemory text is = is

over_has : (script : Script) (o n : Stored) (s : Status) (text : List ℕ) → IsTextOver script o n s text → HasText s
over_has script o n status.Done text is = tt
over_has script o n status.Usage text is = tt
over_has script o n (status.Refused line why) text is = tt
over_has script o n status.ReadFault text is = is
over_has script o n status.WriteFault text is = is
over_has script o n (status.StoreRefused node at) text is = tt
over_has script o n (status.Unsound node) text is = tt
over_has script o n status.NoMemory text is = is

pub has_text : (play : Bool) (script : Result Script Refusal) (old new : List Stored) (s : Status) (text : List ℕ) → IsStatusText play script old new s text → HasText s
has_text false script old new s text is = usage_has s text is.0
has_text true (Err r) old new s text is = refusal_has r s text is.0
has_text true (Ok script) [] new s text is = absurd is
has_text true (Ok script) (o ∷ os) [] s text is = absurd is
has_text true (Ok script) (o ∷ os) (n ∷ ns) s text is = over_has script o n s text is.0

-- the text of a status is what is written at it
text_written : (play : Bool) (script : Result Script Refusal) (old new : List Stored) (s : Status) (text : List ℕ) → IsStatusText play script old new s text → IsWritten play script old new s text
text_written play script old new status.Done text is = is
text_written play script old new status.Usage text is = is
text_written play script old new (status.Refused line why) text is = is
text_written play script old new status.ReadFault text is = absurd (has_text play script old new status.ReadFault text is)
text_written play script old new status.WriteFault text is = absurd (has_text play script old new status.WriteFault text is)
text_written play script old new (status.StoreRefused node at) text is = is
text_written play script old new (status.Unsound node) text is = is
text_written play script old new status.NoMemory text is = absurd (has_text play script old new status.NoMemory text is)

-- the text of a status that was wanted is written, or a front of it
pub finished : (play : Bool) (script : Result Script Refusal) (stores stores' : List Stored) (wanted result : Status) (text : List ℕ) (old new : Option (List ℕ)) (before now : ℕ) →
    IsStatusText play script stores stores' wanted text → Finishes wanted result text old new before now → (w : List ℕ) × Appends old new w × IsWritten play script stores stores' result w
finished play script stores stores' wanted result text old new before now is (inl (same, appends)) =
    (text, appends, subst (λ s. IsWritten play script stores stores' s text) (sym same) (text_written play script stores stores' wanted text is))
finished play script stores stores' wanted result text old new before now is (inr (fails, (n, appends), rose)) =
    (take n text, appends, subst (λ s. IsWritten play script stores stores' s (take n text)) (sym fails) (wanted, text, is, (n, refl)))

-- a write fault comes only where the count rose
pub write_rose : (play : Bool) (script : Result Script Refusal) (stores stores' : List Stored) (wanted result : Status) (text : List ℕ) (old new : Option (List ℕ)) (before now : ℕ) →
    IsStatusText play script stores stores' wanted text → Finishes wanted result text old new before now → result ≡ status.WriteFault → Rose before now
write_rose play script stores stores' wanted result text old new before now is (inl (same, appends)) fault =
    absurd (has_text play script stores stores' status.WriteFault text (subst (λ s. IsStatusText play script stores stores' s text) (sym same ∙ fault) is))
write_rose play script stores stores' wanted result text old new before now is (inr (fails, front, rose)) fault = rose

-- no read fault comes of writing
pub no_read_fault : (play : Bool) (script : Result Script Refusal) (stores stores' : List Stored) (wanted result : Status) (text : List ℕ) (old new : Option (List ℕ)) (before now : ℕ) →
    IsStatusText play script stores stores' wanted text → Finishes wanted result text old new before now → result ≡ status.ReadFault → ⊥
no_read_fault play script stores stores' wanted result text old new before now is (inl (same, appends)) fault =
    has_text play script stores stores' status.ReadFault text (subst (λ s. IsStatusText play script stores stores' s text) (sym same ∙ fault) is)
no_read_fault play script stores stores' wanted result text old new before now is (inr (fails, front, rose)) fault = absurd (other (sym fails ∙ fault))
  where
    other : status.WriteFault ≡ status.ReadFault → ⊥
    other e = cc

-- a run that leaves the stores as they were wanted to
pub leaves_as_wanted : (wanted result : Status) (text : List ℕ) (old new : Option (List ℕ)) (before now : ℕ) → Finishes wanted result text old new before now → LeavesStores result → LeavesStores wanted
leaves_as_wanted wanted result text old new before now (inl (same, appends)) leaves = subst LeavesStores same leaves
leaves_as_wanted wanted result text old new before now (inr (fails, front, rose)) leaves = absurd (subst LeavesStores fails leaves)

-- where the status is `Done`, it was wanted
pub done_wanted : (wanted result : Status) (text : List ℕ) (old new : Option (List ℕ)) (before now : ℕ) → Finishes wanted result text old new before now → result ≡ status.Done → wanted ≡ status.Done
done_wanted wanted result text old new before now (inl (same, appends)) done = sym same ∙ done
done_wanted wanted result text old new before now (inr (fails, front, rose)) done = absurd (other (sym fails ∙ done))
  where
    other : status.WriteFault ≡ status.Done → ⊥
    other e = cc

-- a script that was read, over its store, leaves the stores to it
pub uses_stores : (script : Script) (old new : List Stored) (s : Status) (text : List ℕ) → IsScriptText (Ok script) old new s text → LeavesStores s → ⊥
uses_stores script [] new s text is leaves = is
uses_stores script (o ∷ os) [] s text is leaves = is
uses_stores script (o ∷ os) (n ∷ ns) s text is leaves = go s is.0 leaves
  where
    go : (s : Status) → IsTextOver script o n s text → LeavesStores s → ⊥
    go status.Done t l = l
    go status.Usage t l = t
    go (status.Refused line why) t l = l t.1
    go status.ReadFault t l = t
    go status.WriteFault t l = l
    go (status.StoreRefused node at) t l = l
    go (status.Unsound node) t l = l
    go status.NoMemory t l = l

-- done comes only of a script that was read
pub done_read : (script : Result Script Refusal) (old new : List Stored) (text : List ℕ) → IsScriptText script old new status.Done text → (read : Script) × (script ≡ Ok read)
done_read (Ok script) old new text is = (script, refl)
done_read (Err r) old new text is = absurd is.0

-- the script of what a source tells
script_for : ℕ → ℕ → Option (List ℕ) → Result Script Refusal
script_for stores consumers None = Err (refusal 0 0)
script_for stores consumers (Some bytes) = script_of stores consumers bytes

script_for_is : (stores consumers : ℕ) (input : Option (List ℕ)) → IfSome input (λ bytes. script_for stores consumers input ≡ script_of stores consumers bytes)
unfolding script_for
script_for_is stores consumers None = tt
script_for_is stores consumers (Some bytes) = refl

-- a run that wrote a text of a script
writes_text : (play : Bool) (count consumers : ℕ) (stores stores' : List Stored) (input old new : Option (List ℕ)) (before now : ℕ) (wanted result : Status) (text : List ℕ) (script : Result Script Refusal) →
    IfSome input (λ bytes. script ≡ script_of count consumers bytes) → IsStatusText play script stores stores' wanted text → Finishes wanted result text old new before now → Writes play count consumers stores stores' input old new result
writes_text play count consumers stores stores' input old new before now wanted result text script is is_text fin =
    let w = finished play script stores stores' wanted result text old new before now is_text fin in
    record { script = script; is_script = is; text = w.0; taken = w.1; is_written = w.2 }

-- the usage line is written where the words are no command
pub usage_says : (play : Bool) (count consumers : ℕ) (stores : List Stored) (input old new : Option (List ℕ)) (before now : ℕ) (result : Status) →
    play ≡ false → Finishes status.Usage result usage_text old new before now → Writes play count consumers stores stores input old new result
usage_says play count consumers stores input old new before now result is fin =
    let script = script_for count consumers input in
    writes_text play count consumers stores stores input old new before now status.Usage result usage_text script (script_for_is count consumers input)
    (subst (λ (p : Bool). IsStatusText p script stores stores status.Usage usage_text) (sym is) (refl, refl)) fin

-- the answer to what the source had is written
pub answer_says : (play : Bool) (count consumers : ℕ) (stores stores' : List Stored) (input left old new : Option (List ℕ)) (before now : ℕ) (wanted result : Status) (text : List ℕ) →
    play ≡ true → AnswersSource count consumers stores stores' input left wanted text → Finishes wanted result text old new before now → Writes play count consumers stores stores' input old new result
answer_says play count consumers stores stores' input left old new before now wanted result text is answers fin =
    writes_text play count consumers stores stores' input old new before now wanted result text answers.script answers.is_script
    (subst (λ (p : Bool). IsStatusText p answers.script stores stores' wanted text) (sym is) answers.is_text) fin

-- a run that stopped wrote nothing, so no write failed
pub stop_written : (s : Status) (script : Result Script Refusal) (stores stores' : List Stored) → IsStop s script stores stores' → s ≡ status.WriteFault → ⊥
stop_written s script stores stores' stop fault = subst (λ (t : Status). IsStop t script stores stores') fault stop

-- nothing is written by a run that stopped
pub stop_says : (play : Bool) (count consumers : ℕ) (stores stores' : List Stored) (input taken : Option (List ℕ)) (result : Status) → play ≡ true → StopsAt count consumers stores stores' input result → Writes play count consumers stores stores' input taken taken result
stop_says play count consumers stores stores' input taken result is stops = record {
  script = stops.script;
  is_script = stops.is_script;
  text = [];
  taken = nothing taken;
  is_written = go result stops.stop;
}
  where
    nothing : (t : Option (List ℕ)) → Appends t t []
    nothing None = tt
    nothing (Some xs) = sym (append-nil xs)

    go : (s : Status) → IsStop s stops.script stores stores' → IsWritten play stops.script stores stores' s []
    go status.Done t = absurd t
    go status.Usage t = absurd t
    go (status.Refused line why) t = absurd t
    go status.ReadFault t = (is, refl, t)
    go status.WriteFault t = absurd t
    go (status.StoreRefused node at) t = absurd t
    go (status.Unsound node) t = absurd t
    go status.NoMemory t = (is, refl, t)

-- stores that are as they were are left so, whatever the script is
pub left_same : (script : Result Script Refusal) (stores : List Stored) → AreLeft script stores stores
left_same (Ok script) stores = inl refl
left_same (Err refused) stores = refl

pub left_cut_off : (script : Result Script Refusal) (read : Script) (stores stores' : List Stored) → script ≡ Ok read → AreCutOff read stores stores' → AreLeft script stores stores'
left_cut_off script read stores stores' is cut = subst (λ (r : Result Script Refusal). AreLeft r stores stores') (sym is) (inr cut)

-- a run stops before it has read the source
pub stops_unread : (count consumers : ℕ) (stores : List Stored) (input : Option (List ℕ)) (s : Status) → (s ≡ status.ReadFault) ⊎ (s ≡ status.NoMemory) → StopsAt count consumers stores stores input s
stops_unread count consumers stores input s why = record {
  script = script_for count consumers input;
  stop = go why;
  is_script = script_for_is count consumers input;
}
  where
    go : (s ≡ status.ReadFault) ⊎ (s ≡ status.NoMemory) → IsStop s (script_for count consumers input) stores stores
    go (inl fault) = subst (λ (t : Status). IsStop t (script_for count consumers input) stores stores) (sym fault) refl
    go (inr none) = subst (λ (t : Status). IsStop t (script_for count consumers input) stores stores) (sym none) (left_same (script_for count consumers input) stores)

-- a script that passes the limit is not read
never_read : (draft : Draft) (lines : List (List ℕ)) (script : Script) → past_limit draft lines ≡ Ok script → ⊥
never_read draft lines script is = go (read_lines draft 1 lines) is
  where
    go : (r : Result (Draft × ℕ) Refusal) → and_then r (λ last. Err (refusal last.1 8)) ≡ Ok script → ⊥
    go (Ok x) e = cc
    go (Err x) e = cc

read_is_short : (stores consumers : ℕ) (bytes : List ℕ) (script : Script) → script_of stores consumers bytes ≡ Ok script → length bytes ≤ most_bytes
read_is_short stores consumers bytes script is = go (nat_lt most_bytes (length bytes)) refl is
  where
    go : (b : Bool) → nat_lt most_bytes (length bytes) ≡ b →
        (if b then past_limit (no_draft stores consumers) (but_last (lines_of_bytes (take (most_bytes + 1) bytes))) else whole_script (no_draft stores consumers) bytes) ≡ Ok script → length bytes ≤ most_bytes
    go true long e = absurd (never_read (no_draft stores consumers) (but_last (lines_of_bytes (take (most_bytes + 1) bytes))) script e)
    go false short e = ltb-false most_bytes (length bytes) short

-- the script of the bytes that were read is that of what the source had
same_script : (count consumers : ℕ) (v : List ℕ) (o n : Option (List ℕ)) →
    ((bytes rest : List ℕ) → most_bytes < length bytes → script_of count consumers (bytes ++ rest) ≡ script_of count consumers bytes) →
    Consumes o n v → (length v ≤ most_bytes → IsAtEnd n) → IfSome o (λ input. script_of count consumers v ≡ script_of count consumers input)
same_script count consumers v None n later c w = tt
same_script count consumers v (Some input) None later c w = absurd c
same_script count consumers v (Some input) (Some rest) later c w = pick (nat_lt most_bytes (length v)) refl
  where
    pick : (b : Bool) → nat_lt most_bytes (length v) ≡ b → script_of count consumers v ≡ script_of count consumers input
    pick true long = sym (later v rest (ltb-true most_bytes (length v) long)) ∙ ap (λ bytes. script_of count consumers bytes) (sym c)
    pick false short = ap (λ bytes. script_of count consumers bytes) (sym (append-nil v) ∙ ap (λ r. v ++ r) (sym (w (ltb-false most_bytes (length v) short))) ∙ sym c)

-- the answer to the bytes that were read is the answer to what the source had
pub source_answered : (count consumers : ℕ) (stores stores' : List Stored) (old new : Option (List ℕ)) (v : List ℕ) (s : Status) (text : List ℕ) →
    ((bytes rest : List ℕ) → most_bytes < length bytes → script_of count consumers (bytes ++ rest) ≡ script_of count consumers bytes) →
    Consumes old new v → (length v ≤ most_bytes → IsAtEnd new) → IsStatusText true (script_of count consumers v) stores stores' s text → AnswersSource count consumers stores stores' old new s text
source_answered count consumers stores stores' old new v s text later consumes whole is = record {
  script = script_of count consumers v;
  is_text = is;
  is_script = same_script count consumers v old new later consumes whole;
  at_end = λ done.
      let read = done_read (script_of count consumers v) stores stores' text (subst (λ (t : Status). IsStatusText true (script_of count consumers v) stores stores' t text) done is) in
      whole (read_is_short count consumers v read.0 read.1);
}

-- and so is a run that stops behind them
pub source_stops : (count consumers : ℕ) (stores stores' : List Stored) (old new : Option (List ℕ)) (v : List ℕ) (s : Status) →
    ((bytes rest : List ℕ) → most_bytes < length bytes → script_of count consumers (bytes ++ rest) ≡ script_of count consumers bytes) →
    Consumes old new v → (length v ≤ most_bytes → IsAtEnd new) → s ≡ status.NoMemory → AreLeft (script_of count consumers v) stores stores' → StopsAt count consumers stores stores' old s
source_stops count consumers stores stores' old new v s later consumes whole none left = record {
  script = script_of count consumers v;
  stop = subst (λ (t : Status). IsStop t (script_of count consumers v) stores stores') (sym none) left;
  is_script = same_script count consumers v old new later consumes whole;
}
