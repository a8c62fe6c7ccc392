-- What the setting of a script says of the lines at which sessions are, read off the script.
--
-- An arm waits for its session's next line where that line is begun and not over. The arm of a row waits where the last of so many
-- rows of that line was just told; the arm of a commit waits there at any time.
use Rattle.std.specs.Prelude.{ℕ, zero, suc, ◌==◌, ◌&&◌, ◌+◌, List, [], ◌∷◌, ◌++◌, Bool, true, false, not, Option, Some, is_some, if◌then◌else◌}
use Rattle.cdb_values.specs.declared.replies.Reply.TheVariants as reply
use Rattle.cluster_events.specs.Settings.{Setting}
use Rattle.cluster_reports.specs.SessionLines.{barriers_passed, lines_behind, behind_lines}
use Rattle.report_laws.specs.Told.{Numbered}
use Rattle.report_laws.specs.Work.{said, start}
use Rattle.script_form.specs.declared.scripts.Act.{Act}
use Rattle.script_form.specs.declared.scripts.Act.TheVariants as act
use Rattle.script_form.specs.declared.scripts.BodyLine.{BodyLine}
use Rattle.script_form.specs.declared.scripts.Moment.{Moment}
use Rattle.script_form.specs.declared.scripts.Moment.TheVariants as moment
use Rattle.session_language.specs.Language.{Language}

-- how many of these lines are rows, and whether the last of them is one
abbrev pub rows : List Numbered → ℕ
rows [] = 0
rows ((n, reply.Row row) ∷ ls) = rows ls + 1
rows (_ ∷ ls) = rows ls

abbrev pub ends_in_row : List Numbered → Bool
ends_in_row [] = false
ends_in_row ((n, reply.Row row) ∷ []) = true
ends_in_row (_ ∷ ls) = ends_in_row ls

-- whether an arm waits where its line was told so much
abbrev pub waits : Moment → List Numbered → Bool
waits (moment.Row r) part = ends_in_row part && (rows part == r)
waits moment.Append part = true
waits moment.Ship part = true

abbrev pub waits_by : Act → Option (List Numbered) → Bool
waits_by (act.Arm session when) (Some part) = waits when part
waits_by _ _ = false

-- whether an arm behind these lines of the script waits for the first of its session's texts behind it, where the session was told these lines
abbrev pub waits_for : Language → List ℕ → List BodyLine → Act → List (List ℕ) → List Numbered → Bool
waits_for language name done arm [] lines = false
waits_for language name done arm (text ∷ texts) lines =
    waits_by arm (behind_lines language name done lines) && not (is_some (lines_behind language [] start (said name done ++ text ∷ []) lines))

-- whether the line at a place among these, which stand behind the others, is an arm that waits for the line at which the session is
abbrev pub waits_at : Language → List ℕ → List BodyLine → List BodyLine → ℕ → List Numbered → Bool
waits_at language name done [] place lines = false
waits_at language name done (b ∷ bs) zero lines = waits_for language name done b.act (said name bs) lines
waits_at language name done (b ∷ bs) (suc place) lines = waits_at language name (done ++ b ∷ []) bs place lines

-- the same setting, where the barriers before the lines of sessions, and the arms, are those of its script
abbrev pub as_scripted : Setting → Setting
as_scripted G = record G {
  phase = λ s told. if s == 0 then 0 else barriers_passed G.language (G.names s) [] G.script.body told;
  armed = λ s told line. waits_at G.language (G.names s) [] G.script.body line told;
}
