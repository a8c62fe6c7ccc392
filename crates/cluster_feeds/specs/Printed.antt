-- The lines of the script of which a report has a line each: barriers and feeds.
use Rattle.std.specs.Prelude.{ℕ, List, [], ◌∷◌, ◌++◌}
use Rattle.report_text.specs.declared.reports.Line.{Line}
use Rattle.report_text.specs.declared.reports.Line.TheVariants as line
use Rattle.script_form.specs.declared.scripts.Act.{Act}
use Rattle.script_form.specs.declared.scripts.Act.TheVariants as act

abbrev pub printed_by : Line → List Act
printed_by (line.Session name txn answer) = []
printed_by (line.Down count node fault) = []
printed_by (line.Up node) = []
printed_by line.Barrier = act.Barrier ∷ []
printed_by (line.Fed position) = act.Feed ∷ []

-- of a report
abbrev pub printed : List Line → List Act
printed [] = []
printed (l ∷ ls) = printed_by l ++ printed ls

abbrev pub prints : Act → List Act
prints (act.Say session text) = []
prints (act.Stop node) = []
prints (act.Start node) = []
prints (act.Arm session moment) = []
prints act.Barrier = act.Barrier ∷ []
prints act.Feed = act.Feed ∷ []

-- of lines that are left to the operator
abbrev pub to_print : List (ℕ × Act) → List Act
to_print [] = []
to_print (x ∷ xs) = prints x.1 ++ to_print xs
