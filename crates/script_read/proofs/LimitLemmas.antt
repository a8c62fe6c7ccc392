-- Bytes within the limit and past it.
use Rattle.std.proofs.Common.{◌≡◌, ℕ, ◌+◌, ◌<◌, ◌≤◌, List, ◌++◌, length, take, Bool, true, false, Result, Ok, Err, refl, arith, if◌then◌else◌, nat_lt, length-append}
use Rattle.std.proofs.lemmas.Bool.{lt-ltb}
use Rattle.std.proofs.lemmas.List.{take-append-le}
use Rattle.byte_words.specs.Lines.{lines_of_bytes, but_last}
use Rattle.script_read.specs.Answers.{Refusal, refusal}
use Rattle.script_read.specs.ScriptText.{script_of, whole_script, past_limit, and_then, read_lines, no_draft, most_bytes}
use Rattle.script_read.specs.declared.drafts.Draft.{Draft}
use Rattle.script_form.specs.declared.scripts.Script.{Script}

-- the script of bytes with any limit
abbrev pub script_within : ℕ → Draft → List ℕ → Result Script Refusal
script_within most draft bytes = if nat_lt most (length bytes) then past_limit draft (but_last (lines_of_bytes (take (most + 1) bytes))) else whole_script draft bytes

past_is_none : (draft : Draft) (lines : List (List ℕ)) (script : Script) → past_limit draft lines ≡ Ok script → ⊥
past_is_none draft lines script e = from_last (read_lines draft 1 lines) e
  where
    from_last : (read : Result (Draft × ℕ) Refusal) → and_then read (λ last. Err (refusal last.1 8)) ≡ Ok script → ⊥
    from_last (Ok last) e = cc
    from_last (Err stop) e = cc

-- a script that is read is one of bytes within the limit
pub within_is_whole : (most : ℕ) (draft : Draft) (bytes : List ℕ) (script : Script) → script_within most draft bytes ≡ Ok script → whole_script draft bytes ≡ Ok script
within_is_whole most draft bytes script e = from_test (nat_lt most (length bytes)) e
  where
    from_test : (b : Bool) → (if b then past_limit draft (but_last (lines_of_bytes (take (most + 1) bytes))) else whole_script draft bytes) ≡ Ok script → whole_script draft bytes ≡ Ok script
    from_test true e = absurd (past_is_none draft (but_last (lines_of_bytes (take (most + 1) bytes))) script e)
    from_test false e = e

within_same : (most : ℕ) (draft : Draft) (bytes rest : List ℕ) → most < length bytes → script_within most draft (bytes ++ rest) ≡ script_within most draft bytes
within_same most draft bytes rest h =
    let l : length (bytes ++ rest) ≡ length bytes + length rest = length-append bytes rest in
    let h1 : most < length (bytes ++ rest) = omega arith in
    let a : nat_lt most (length bytes) ≡ true = lt-ltb most (length bytes) h in
    let b : nat_lt most (length (bytes ++ rest)) ≡ true = lt-ltb most (length (bytes ++ rest)) h1 in
    let h2 : most + 1 ≤ length bytes = omega arith in
    let t : take (most + 1) (bytes ++ rest) ≡ take (most + 1) bytes = take-append-le (most + 1) bytes rest h2 in
    rw (a, b, t) refl

pub later_bytes : (stores consumers : ℕ) (bytes rest : List ℕ) → most_bytes < length bytes → script_of stores consumers (bytes ++ rest) ≡ script_of stores consumers bytes
later_bytes stores consumers bytes rest h = within_same most_bytes (no_draft stores consumers) bytes rest h
