-- Reports that are decided by their script: nothing in them tells of a fault or of want of memory, and no arm of a commit
-- waits.
use Rattle.std.specs.Prelude.{◌≡◌, Bool, true, false}
use Rattle.std.specs.List.{AllByRecursion}
use Rattle.cdb_values.specs.declared.replies.Reply.{Reply}
use Rattle.cdb_values.specs.declared.replies.Reply.TheVariants as reply
use Rattle.report_text.specs.declared.reports.FeedLine.{FeedLine}
use Rattle.report_text.specs.declared.reports.Line.{Line}
use Rattle.report_text.specs.declared.reports.Line.TheVariants as line
use Rattle.report_text.specs.declared.reports.Report.{Report}
use Rattle.script_form.specs.declared.scripts.Act.{Act}
use Rattle.script_form.specs.declared.scripts.Act.TheVariants as act
use Rattle.script_form.specs.declared.scripts.Moment.{Moment}
use Rattle.script_form.specs.declared.scripts.Moment.TheVariants as moment
use Rattle.script_form.specs.declared.scripts.Script.{Script}

-- whether a reply tells of want of memory
abbrev pub is_wanting : Reply → Bool
is_wanting reply.NoMemory = true
is_wanting _ = false

-- a line that tells neither of want of memory nor of a fault
abbrev pub IsUnhurtLine : Line → Type 0
IsUnhurtLine (line.Session name number answer) = is_wanting answer ≡ false
IsUnhurtLine (line.Down count node fault) = fault ≡ false
IsUnhurtLine (line.Up node) = Unit {0}
IsUnhurtLine line.Barrier = Unit {0}
IsUnhurtLine (line.Fed position) = Unit {0}

-- none of the lines does, and no consumer of a feed was dropped
pub record IsUnhurt (report : Report) : Type 0 where
  pub lines : AllByRecursion IsUnhurtLine report.lines
  pub feeds : AllByRecursion (λ (feed : FeedLine). feed.dropped ≡ 0) report.feeds

-- a line of the script that is no arm of a commit
abbrev pub IsOfARow : Moment → Type 0
IsOfARow (moment.Row row) = Unit {0}
IsOfARow moment.Append = ⊥
IsOfARow moment.Ship = ⊥

abbrev pub IsNoCommitArm : Act → Type 0
IsNoCommitArm (act.Say session text) = Unit {0}
IsNoCommitArm (act.Stop node) = Unit {0}
IsNoCommitArm (act.Start node) = Unit {0}
IsNoCommitArm (act.Arm session when) = IsOfARow when
IsNoCommitArm act.Barrier = Unit {0}
IsNoCommitArm act.Feed = Unit {0}

-- a script whose arms are of rows: as far as there are no faults, nodes go down by stops, and by the arm of a row, which stops the
-- node of its session
abbrev pub HasNoCommitArms : Script → Type 0
HasNoCommitArms script = AllByRecursion (λ b. IsNoCommitArm b.act) script.body
