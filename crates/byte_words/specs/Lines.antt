-- The lines of a script.
--
-- The bytes are split at LF. A last piece that is empty is no line. Of a line one CR at its end is
-- dropped, and then the blanks at both ends: what is left is its text. A line without text, or whose
-- text begins with `#`, is skipped, but it is counted.
use Rattle.std.specs.Prelude.{ℕ, ◌==◌, ◌∷◌, [], List, Bool, true, if◌then◌else◌}
use Rattle.byte_words.specs.Words.{behind, is_blank}

-- one byte more in front of the first of these lines
abbrev pub in_front : ℕ → List (List ℕ) → List (List ℕ)
in_front byte [] = (byte ∷ []) ∷ []
in_front byte (line ∷ lines) = (byte ∷ line) ∷ lines

-- the lines that bytes are, without their LF
abbrev pub lines_of_bytes : List ℕ → List (List ℕ)
lines_of_bytes [] = []
lines_of_bytes (byte ∷ bytes) = if byte == 10 then [] ∷ lines_of_bytes bytes else in_front byte (lines_of_bytes bytes)

-- all of these lines but the last
abbrev pub but_last : List (List ℕ) → List (List ℕ)
but_last [] = []
but_last (line ∷ []) = []
but_last (line ∷ next ∷ lines) = line ∷ but_last (next ∷ lines)

-- a line without one CR at its end
abbrev pub without_return : List ℕ → List ℕ
without_return [] = []
without_return (byte ∷ []) = if byte == 13 then [] else byte ∷ []
without_return (byte ∷ next ∷ bytes) = byte ∷ without_return (next ∷ bytes)

-- a byte that is kept unless it is a blank at the end
abbrev pub kept_before : ℕ → List ℕ → List ℕ
kept_before byte [] = if is_blank byte then [] else byte ∷ []
kept_before byte (next ∷ bytes) = byte ∷ next ∷ bytes

-- bytes without the blanks at their end
abbrev pub without_end : List ℕ → List ℕ
without_end [] = []
without_end (byte ∷ bytes) = kept_before byte (without_end bytes)

-- bytes without the blanks at both ends
abbrev pub trimmed : List ℕ → List ℕ
trimmed bytes = behind is_blank (without_end bytes)

-- the text of a line
abbrev pub text_of : List ℕ → List ℕ
text_of line = trimmed (without_return line)

-- whether a text is empty or a comment
abbrev pub is_skipped : List ℕ → Bool
is_skipped [] = true
is_skipped (byte ∷ bytes) = byte == 35
