-- What values of the code say.
use Rattle.std.specs.Prelude.{List, [], Ok, Err}
use Rattle.query_plan.specs.Planned.{Planned}
use Rattle.session_language.specs.Language.{Kind, BeginText, CommitText, RollbackText, LevelText, OtherText}
use Rattle.sql_answer.specs.Answers as laws
use Rattle.sql_bind.specs.Views.{bound_in}
use Rattle.sql_run.specs.declared.kinds.TextKind.{TextKind}
use Rattle.sql_run.specs.declared.kinds.TextKind.TheVariants as kinds
use Rattle.sql_run.specs.declared.prepares.Meaning.{Meaning}
use Rattle.sql_run.specs.declared.prepares.Meaning.TheVariants.{Runs, Fails}
use Rattle.sql_run.specs.declared.prepares.Prepared.{Prepared}
use Rattle.sql_run.specs.Texts.{PreparedText}

-- what a text is to transactions
abbrev pub kind_in : TextKind → Kind
kind_in kinds.Begin = BeginText
kind_in kinds.Commit = CommitText
kind_in kinds.Rollback = RollbackText
kind_in (kinds.SetLevel level) = LevelText level
kind_in kinds.Other = OtherText

-- what a text means, without its plan
abbrev pub meaning_in : Meaning → laws.Meaning
meaning_in (Runs statement plan) = Ok (bound_in statement)
meaning_in (Fails cause) = Err cause

-- its plan; one with an error reads no table
abbrev pub plan_in : Meaning → List Planned
plan_in (Runs statement plan) = plan
plan_in (Fails cause) = []

-- a text that was read and bound
abbrev pub text_in : Prepared → PreparedText
text_in p = record { kind = kind_in p.kind; meaning = meaning_in p.meaning; plan = plan_in p.meaning }
