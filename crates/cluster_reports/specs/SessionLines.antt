-- Where a session is among its lines of the script, by what it was told.
--
-- One of its lines is over where its last reply was told, under the number of its transaction or 0; and where that transaction
-- was cut short before. The session is at the first line that is not over.
use Rattle.std.specs.Prelude.{◌≡◌, ℕ, ◌+◌, ◌==◌, ◌++◌, ◌∷◌, [], List, Bool, true, false, Option, Some, None, is_some, length, if◌then◌else◌}
use Rattle.cdb_values.specs.declared.replies.Reply.{Reply}
use Rattle.node_reports.specs.Operator.{is_barrier}
use Rattle.node_reports.specs.Pieces.{is_over}
use Rattle.report_laws.specs.Play.{is_own, number_told}
use Rattle.report_laws.specs.Told.{numbered, Numbered}
use Rattle.report_laws.specs.Work.{Place, next_place, said, start}
use Rattle.script_form.specs.declared.scripts.Act.TheVariants as act
use Rattle.script_form.specs.declared.scripts.BodyLine.{BodyLine}
use Rattle.session_language.specs.Language.{Language}
use Rattle.session_language.specs.Replies.{is_last_of}

-- the replies of a number up to the first last one, and the lines behind it
abbrev pub with_reply : Reply → Option (List Reply × List Numbered) → Option (List Reply × List Numbered)
with_reply answer None = None
with_reply answer (Some piece) = Some (answer ∷ piece.0, piece.1)

abbrev pub piece_at : ℕ → (Reply → Bool) → List Numbered → Option (List Reply × List Numbered)
piece_at number is_last [] = None
piece_at number is_last (l ∷ ls) =
    if l.0 == number then (if is_last l.1 then Some (l.1 ∷ [], ls) else with_reply l.1 (piece_at number is_last ls)) else None

abbrev pub behind_piece : Option (List Reply × List Numbered) → (List Reply → List Numbered → Option (List Numbered)) → Option (List Numbered)
behind_piece None more = None
behind_piece (Some piece) more = more piece.0 piece.1

-- the lines of a session behind those of these texts, which come from that place of its work on and behind the lines `before`,
-- where all of these texts are over
abbrev pub lines_behind : Language → List Numbered → Place → List (List ℕ) → List Numbered → Option (List Numbered)
lines_behind language before p [] lines = Some lines
lines_behind language before p (text ∷ texts) lines =
    if is_over (number_told language p text) before then lines_behind language before
    (next_place language p text) texts lines
    else behind_piece (piece_at (number_told language p text) (is_last_of (is_own language p text)) lines) (λ mine rest.
    lines_behind language (before ++ numbered (number_told language p text) mine)
    (next_place language p text) texts rest)

-- and behind those of the session's lines among these of the script
abbrev pub behind_lines : Language → List ℕ → List BodyLine → List Numbered → Option (List Numbered)
behind_lines language name done lines = lines_behind language [] start (said name done) lines

abbrev pub are_over : Language → List ℕ → List BodyLine → List Numbered → Bool
are_over language name done lines = is_some (behind_lines language name done lines)

-- how many barriers stand before the line at which a session is, behind the script's lines `done` and among those that follow;
-- the end of the script counts as one more
abbrev pub passed_by : Bool → Bool → ℕ → ℕ
passed_by false over later = later
passed_by true true later = later + 1
passed_by true false later = 0

abbrev pub barriers_passed : Language → List ℕ → List BodyLine → List BodyLine → List Numbered → ℕ
barriers_passed language name done [] lines = if are_over language name done lines then 1 else 0
barriers_passed language name done (b ∷ bs) lines = passed_by (is_barrier b.act) (are_over language name done lines) (barriers_passed language name (done ++ b ∷ []) bs lines)

-- a session is at its next line behind that place of the script's lines
pub record IsAtNext (language : Language) (name : List ℕ) (body : List BodyLine) (place : ℕ) (lines : List Numbered) : Type 0 where
  pub done : List BodyLine
  pub arm : BodyLine
  pub middle : List BodyLine
  pub next : BodyLine
  pub later : List BodyLine
  pub stands : body ≡ done ++ arm ∷ (middle ++ next ∷ later)
  pub is_place : place ≡ length done
  pub text : List ℕ
  pub is_next : next.act ≡ act.Say name text
  pub none_between : said name (arm ∷ middle) ≡ []
  pub part : List Numbered
  pub over : lines_behind language [] start (said name done) lines ≡ Some part
  pub at_it : lines_behind language [] start (said name done ++ text ∷ []) lines ≡ None
