-- A session is at one of its lines of the script, behind the script's lines before it.
use Rattle.std.specs.Prelude.{◌≡◌, ℕ, ◌++◌, ◌∷◌, [], List, Bool, Some, None}
use Rattle.cdb_values.specs.declared.replies.Reply.{Reply}
use Rattle.cluster_reports.specs.SessionLines.{behind_lines, lines_behind}
use Rattle.report_laws.specs.Play.{is_own, number_told}
use Rattle.report_laws.specs.Told.{numbered, Numbered}
use Rattle.report_laws.specs.Work.{place_after, said, start}
use Rattle.script_form.specs.declared.scripts.BodyLine.{BodyLine}
use Rattle.session_language.specs.Language.{Language}
use Rattle.session_language.specs.Replies.{is_last_of}

-- the number under which its line behind these is told
abbrev pub number_behind : Language → List ℕ → List BodyLine → List ℕ → ℕ
number_behind language name done text = number_told language (place_after language name done) text

-- whether a reply is the last one to that line
abbrev pub is_last_behind : Language → List ℕ → List BodyLine → List ℕ → Reply → Bool
is_last_behind language name done text = is_last_of (is_own language (place_after language name done) text)

-- its lines among these are over, it was told no more, and these texts are over too
abbrev pub AreToldTo : Language → List ℕ → List BodyLine → List (List ℕ) → List Numbered → Type 0
AreToldTo language name done more told = lines_behind language [] start (said name done ++ more) told ≡ Some []

-- its lines among these are over; of the one behind them it was told these replies, and that one is not over
pub record IsAtLine (language : Language) (name : List ℕ) (done : List BodyLine) (text : List ℕ) (told : List Numbered) (mine : List Reply) : Type 0 where
  pub over : behind_lines language name done told ≡ Some (numbered (number_behind language name done text) mine)
  pub at_it : lines_behind language [] start (said name done ++ text ∷ []) told ≡ None
