-- The run so far of a node that is down from the opening on: what holds of the lines and the sessions after each line of the
-- script, wherever the history begins. There is no entry, and no transaction is ever open.
use Rattle.std.specs.Prelude.{◌≡◌, ◌++◌, ◌∷◌, ℕ, [], List, Option, Some, None, length}
use Rattle.std.specs.List.{AllByRecursion}
use Rattle.report_laws.specs.History.{Basis, Origin, view_of}
use Rattle.report_laws.specs.Lawful.{IsFreshLine}
use Rattle.report_laws.specs.Nodes.{downs}
use Rattle.report_laws.specs.Places.{HasItsPlace}
use Rattle.report_laws.specs.Play.{InTurns}
use Rattle.report_laws.specs.Told.{told, Along, IsTold, Numbered, numbered}
use Rattle.report_laws.specs.Work.{Place, place_after}
use Rattle.report_text.specs.declared.reports.Line.{Line}
use Rattle.cdb_values.specs.declared.replies.Reply.{Reply}
use Rattle.cdb_values.specs.declared.replies.Reply.TheVariants as reply
use Rattle.script_form.specs.CanRun.{CanRun, IsDeclaredText}
use Rattle.script_form.specs.declared.scripts.BodyLine.{BodyLine}
use Rattle.script_form.specs.declared.scripts.Script.{Script}
use Rattle.session_language.specs.Each.{EachAfter}
use Rattle.query_laws.specs.Alone.{sql_language}
use Rattle.script_play.specs.Basis.{from_origin}
use Rattle.session_turns.specs.Doing.{SessionAt, Doing}
use Rattle.session_turns.specs.Doing as doing
use Rattle.script_play.specs.Down.{down_line}
use Rattle.script_play.specs.SoFar.{state_of}

-- what a session is doing, by the transaction that is open in its work: that one was told that no majority is up, and no more
abbrev pub IsDoingDown : Option (List (List ℕ)) → Doing → List Reply → Type 0
IsDoingDown None doing.No mine = mine ≡ []
IsDoingDown None (doing.Open begin ops uses ranges) mine = ⊥
IsDoingDown None doing.Aborted mine = ⊥
IsDoingDown (Some texts) doing.No mine = ⊥
IsDoingDown (Some texts) (doing.Open begin ops uses ranges) mine = ⊥
IsDoingDown (Some texts) doing.Aborted mine = mine ≡ reply.NoMajority 0 1 ∷ []

-- a session's lines are those of its work so far, and it is where its work is
pub record StandingDown (basis : Basis) (name : List ℕ) (p : Place) (lines : List Numbered) (at : SessionAt) : Type 0 where
  pub before : List Numbered
  pub mine : List Reply
  pub is : lines ≡ before ++ numbered p.number mine
  pub past : Along (IsTold basis (view_of basis []) name) p.over before
  pub number : at.number ≡ p.number
  pub level : at.level ≡ p.level
  pub doing : IsDoingDown p.pending at.doing mine

-- after the script's lines `done`, with the lines `left` still to do: the first line is that the node went down
pub record SoFarDown (basis : Basis) (done left : List BodyLine) (lines : List Line) (states : List SessionAt) : Type 0 where
  pub body : basis.script.body ≡ done ++ left
  pub rest : List Line
  pub lines_are : lines ≡ down_line ∷ rest
  pub once : downs rest ≡ 0
  pub standing : (name : List ℕ) → StandingDown basis name (place_after sql_language name done) (told name lines) (state_of name basis.script.sessions states)
  pub fresh : EachAfter (IsFreshLine basis.origin) [] lines
  pub order : InTurns basis [] (down_line ∷ []) [] done rest []
  pub placed : EachAfter (HasItsPlace basis.script) [] lines

-- the run before a line, wherever the history begins
pub record IsBeforeDown (script : Script) (left : List BodyLine) (lines : List Line) (states : List SessionAt) : Type 0 where
  pub can_run : CanRun script
  pub said : AllByRecursion (λ l. IsDeclaredText script.sessions l.act) left
  pub same : length states ≡ length script.sessions
  pub done : List BodyLine
  pub so_far : (origin : Origin) → SoFarDown (from_origin script origin) done left lines states
