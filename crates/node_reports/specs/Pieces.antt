-- What a session is told at each of its lines of the script: a piece of its lines of the report.
--
-- A piece goes up to the first last reply, under the number of its transaction or 0. It is empty where that transaction was cut
-- short before.
use Rattle.std.specs.Prelude.{◌≡◌, ℕ, ◌==◌, ◌&&◌, ◌++◌, ◌∷◌, [], List, Bool, true, ◌⊎◌}
use Rattle.std.specs.List.{list_any}
use Rattle.cdb_values.specs.declared.replies.Reply.{Reply}
use Rattle.report_laws.specs.Cut.{cuts}
use Rattle.report_laws.specs.Play.{is_own, number_told}
use Rattle.report_laws.specs.Told.{numbered, Numbered}
use Rattle.report_laws.specs.Work.{Place, next_place, said, start}
use Rattle.script_form.specs.declared.scripts.BodyLine.{BodyLine}
use Rattle.session_language.specs.Language.{Language}
use Rattle.session_language.specs.Replies.{are_up_to, is_last_of}

-- whether a transaction of that number was cut short, among these lines of its session
abbrev pub is_over : ℕ → List Numbered → Bool
is_over number lines = list_any (λ l. (l.0 == number) && cuts l.1) lines

-- the piece of a text that comes at that place of the session's work, behind these lines of the session
abbrev pub IsItsPiece : Language → List Numbered → Place → List ℕ → List Reply → Type 0
IsItsPiece language before p text mine =
    (are_up_to (is_last_of (is_own language p text)) mine ≡ true) ⊎ ((mine ≡ []) × (is_over (number_told language p text) before ≡ true))

-- these lines of a session are the pieces of these texts
abbrev pub ArePieces : Language → List Numbered → Place → List (List ℕ) → List Numbered → Type 0
ArePieces language before p [] lines = lines ≡ []
ArePieces language before p (text ∷ texts) lines =
    (mine : List Reply) × (others : List Numbered) × (lines ≡ numbered (number_told language p text) mine ++ others)
    × IsItsPiece language before p text mine
    × ArePieces language (before ++ numbered (number_told language p text) mine) (next_place language p text) texts others

-- these lines of a session are those of its lines of the script
abbrev pub AreOf : Language → List ℕ → List BodyLine → List Numbered → Type 0
AreOf language name done lines = ArePieces language [] start (said name done) lines
