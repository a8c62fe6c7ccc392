-- One line more, or no more, of a script that is read.
use Rattle.std.proofs.Common.{◌≡◌, ℕ, ◌+◌, List, [], ◌∷◌, Result, Ok, sym, subst}
use Rattle.script_read.specs.Answers.{Refusal, Stops}
use Rattle.byte_words.specs.Lines.{lines_of_bytes}
use Rattle.script_read.specs.ScriptText.{read_lines, read_line, and_then}
use Rattle.script_read.specs.declared.drafts.Draft.{Draft}
use Rattle.script_read.specs.declared.scripts.ScriptStop.{ScriptStop}
use Rattle.script_read.specs.declared.scripts.ScriptStop.TheVariants as stops

at_line : (draft : Draft) (line : ℕ) (rest text after : List ℕ) (whole : Result (Draft × ℕ) Refusal) → lines_of_bytes rest ≡ text ∷ lines_of_bytes after → read_lines draft line (lines_of_bytes rest) ≡ whole → and_then (read_line draft line text) (λ next. read_lines next (line + 1) (lines_of_bytes after)) ≡ whole
unfolding read_lines
at_line draft line rest text after whole e w = subst (λ ls. read_lines draft line ls ≡ whole) e w

pub lines_more : (draft : Draft) (line : ℕ) (rest text after : List ℕ) (whole : Result (Draft × ℕ) Refusal) (next : Draft) → lines_of_bytes rest ≡ text ∷ lines_of_bytes after → read_lines draft line (lines_of_bytes rest) ≡ whole → read_line draft line text ≡ Ok next → read_lines next (line + 1) (lines_of_bytes after) ≡ whole
lines_more draft line rest text after whole next e w r = subst (λ read. and_then read (λ next. read_lines next (line + 1) (lines_of_bytes after)) ≡ whole) r (at_line draft line rest text after whole e w)

pub lines_stop : (draft : Draft) (line : ℕ) (rest text after : List ℕ) (whole : Result (Draft × ℕ) Refusal) (stop : ScriptStop) → lines_of_bytes rest ≡ text ∷ lines_of_bytes after → read_lines draft line (lines_of_bytes rest) ≡ whole → Stops stop (read_line draft line text) → Stops stop whole
lines_stop draft line rest text after whole (stops.Refused at why) e w r = sym (subst (λ read. and_then read (λ next. read_lines next (line + 1) (lines_of_bytes after)) ≡ whole) r (at_line draft line rest text after whole e w))
lines_stop draft line rest text after whole stops.NoMemory e w r = tt

pub lines_done : (draft : Draft) (line : ℕ) (rest : List ℕ) (whole : Result (Draft × ℕ) Refusal) → lines_of_bytes rest ≡ [] → read_lines draft line (lines_of_bytes rest) ≡ whole → whole ≡ Ok (draft, line)
unfolding read_lines
lines_done draft line rest whole e w = sym (subst (λ ls. read_lines draft line ls ≡ whole) e w)
