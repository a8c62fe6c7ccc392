-- What the lines of the body say, or the smallest reason against them.
--
--     NAME: TEXT
--     stop NUMBER
--     start NUMBER
--     arm NAME row NUMBER
--     arm NAME append
--     arm NAME ship
--     barrier
--     feed
--
-- A line that is none of these has reason 3, one that names no declared session reason 5, and one
-- that names no node reason 6. A malformed name is never declared.
use Rattle.std.specs.Prelude.{ℕ, ◌==◌, List, if◌then◌else◌, Option, Some, None, Result, Ok, Err, codes, bytes_eq}
use Rattle.byte_words.specs.Lines.{trimmed}
use Rattle.byte_words.specs.Words.{◌>>=◌, front, behind, is_word_byte, after_sign, piece, after_piece, is_end, fits_name}
use Rattle.script_read.specs.Answers.{Refusal, refusal}
use Rattle.script_read.specs.Heads.{fitting_at, alone, only_number, is_declared, is_node}
use Rattle.script_read.specs.declared.drafts.Draft.{Draft}
use Rattle.script_read.specs.declared.said.Said.{Said}
use Rattle.script_read.specs.declared.said.Said.TheVariants as said
use Rattle.script_form.specs.declared.scripts.Act.TheVariants as acts
use Rattle.script_form.specs.declared.scripts.Moment.{Moment}
use Rattle.script_form.specs.declared.scripts.Moment.TheVariants as moments

-- the name at the front, and the text behind the colon that stands directly behind it
abbrev pub said_of : List ℕ → Option (List ℕ × List ℕ)
said_of text =
    if fits_name (front is_word_byte text) then after_sign 58 (behind is_word_byte text) >>= (λ after. Some (front is_word_byte text, trimmed after))
    else None

-- a statement of a session
abbrev pub say_said : Draft → ℕ → Option (List ℕ × List ℕ) → Result Said Refusal
say_said draft line None = Err (refusal line 3)
say_said draft line (Some (name, text)) = if is_declared name draft.sessions then Ok (said.Runs (acts.Say name text)) else Err (refusal line 5)

-- a node to be stopped
abbrev pub stop_said : Draft → ℕ → Option ℕ → Result Said Refusal
stop_said draft line None = Err (refusal line 3)
stop_said draft line (Some node) = if is_node draft.nodes node then Ok (said.Runs (acts.Stop node)) else Err (refusal line 6)

-- a node to be started
abbrev pub start_said : Draft → ℕ → Option ℕ → Result Said Refusal
start_said draft line None = Err (refusal line 3)
start_said draft line (Some node) = if is_node draft.nodes node then Ok (said.Runs (acts.Start node)) else Err (refusal line 6)

-- a reply row, from 1
abbrev pub row_of : ℕ → Option Moment
row_of row = if row == 0 then None else Some (moments.Row row)

-- the moment of an arm
abbrev pub moment_of : List ℕ → Option Moment
moment_of bytes =
    if bytes_eq (piece bytes) (codes "row") then only_number (after_piece bytes) >>= row_of
    else if bytes_eq (piece bytes) (codes "append") then alone (moments.Append, after_piece bytes)
    else if bytes_eq (piece bytes) (codes "ship") then alone (moments.Ship, after_piece bytes)
    else None

-- the session and the moment of an arm
abbrev pub arm_of : List ℕ → Option (List ℕ × Moment)
arm_of bytes = fitting_at bytes >>= (λ name. moment_of name.1 >>= (λ moment. Some (name.0, moment)))

-- an arm
abbrev pub arm_said : Draft → ℕ → Option (List ℕ × Moment) → Result Said Refusal
arm_said draft line None = Err (refusal line 3)
arm_said draft line (Some (name, moment)) = if is_declared name draft.sessions then Ok (said.Runs (acts.Arm name moment)) else Err (refusal line 5)

-- a line of one piece
abbrev pub barrier_said : ℕ → List ℕ → Result Said Refusal
barrier_said line bytes = if is_end bytes then Ok (said.Runs acts.Barrier) else Err (refusal line 3)

abbrev pub feed_said : ℕ → List ℕ → Result Said Refusal
feed_said line bytes = if is_end bytes then Ok (said.Runs acts.Feed) else Err (refusal line 3)
