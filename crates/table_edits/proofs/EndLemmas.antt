-- What the answers of the steps tell of the whole.
use Rattle.std.proofs.Common.{◌≡◌, Option, None}
use Rattle.std.proofs.lemmas.Option.{none-some}
use Rattle.std.specs.Prelude.{Result, Ok, Err, OnOk}
use Rattle.table_edits.specs.declared.faults.OpsFault.{OpsFault}
use Rattle.table_edits.specs.declared.faults.OpsFault.TheVariants.{Duplicate, Gone, NoMemory}
use Rattle.table_edits.specs.Answers.{Tells, TellsBroken}
use Rattle.table_edits.specs.Broken.{KeyPlace}

-- a last step that tells no key
pub last_told : (result : Result (Unit {0}) OpsFault) (Last : Type 0) (Done : Type 0) (broken : Option KeyPlace) → broken ≡ None → (Last → Done)
    → Tells result (λ x. Last) None → Tells result (λ x. Done) broken
last_told (Ok x) Last Done broken none f h = (f h.0, none)
last_told (Err (Duplicate table key)) Last Done broken none f h = absurd (none-some (record { table = table; key = key }) h)
last_told (Err Gone) Last Done broken none f h = tt
last_told (Err NoMemory) Last Done broken none f h = tt

-- a fault tells the same, whatever was to be done
pub fault_told : (Last : Unit {0} → Type 0) (Done : Unit {0} → Type 0) (broken : Option KeyPlace) (fault : OpsFault) → Tells {T = Unit {0}} (Err fault) Last broken
    → Tells {T = Unit {0}} (Err fault) Done broken
fault_told Last Done broken (Duplicate table key) h = h
fault_told Last Done broken Gone h = tt
fault_told Last Done broken NoMemory h = tt

-- the parts of what is told
pub done_told : (result : Result (Unit {0}) OpsFault) (Done One : Type 0) (broken : Option KeyPlace) → (Done → One) → Tells result (λ x. Done) broken → OnOk result One
done_told (Ok x) Done One broken f h = f h.0
done_told (Err fault) Done One broken f h = tt

pub broken_told : (result : Result (Unit {0}) OpsFault) (Done : Type 0) (broken : Option KeyPlace) → Tells result (λ x. Done) broken → TellsBroken result broken
broken_told (Ok x) Done broken h = h.1
broken_told (Err (Duplicate table key)) Done broken h = h
broken_told (Err Gone) Done broken h = tt
broken_told (Err NoMemory) Done broken h = tt
