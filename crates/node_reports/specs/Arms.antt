-- Arms: a line of the script that stops a node during the next line of a session.
use Rattle.std.specs.Prelude.{ℕ, ◌+◌, ◌==◌, ◌++◌, ◌∷◌, ◌&&◌, [], List, Bool, true, false, if◌then◌else◌}
use Rattle.std.specs.List.{list_any}
use Rattle.std.specs.Str.{bytes_eq}
use Rattle.script_form.specs.declared.scripts.BodyLine.{BodyLine}
use Rattle.script_form.specs.declared.scripts.Act.{Act}
use Rattle.script_form.specs.declared.scripts.Act.TheVariants as act
use Rattle.script_form.specs.declared.scripts.Moment.{Moment}
use Rattle.script_form.specs.declared.scripts.Moment.TheVariants as moment
use Rattle.report_text.specs.declared.reports.Line.{Line}
use Rattle.report_text.specs.declared.reports.Line.TheVariants as line
use Rattle.cdb_values.specs.declared.replies.Reply.TheVariants as reply

-- the arms that wait for a session's next line, behind one more line of the script
abbrev pub waiting_by : List ℕ → List Moment → Act → List Moment
waiting_by session arms (act.Say name text) = if bytes_eq name session then [] else arms
waiting_by session arms (act.Arm name when) = if bytes_eq name session then arms ++ when ∷ [] else arms
waiting_by session arms (act.Stop node) = arms
waiting_by session arms (act.Start node) = arms
waiting_by session arms act.Barrier = arms
waiting_by session arms act.Feed = arms

abbrev pub waiting_from : List ℕ → List Moment → List BodyLine → List Moment
waiting_from session arms [] = arms
waiting_from session arms (b ∷ bs) = waiting_from session (waiting_by session arms b.act) bs

-- the arms that wait for a session's next line, behind these lines of the script: those behind its last line
abbrev pub waiting : List ℕ → List BodyLine → List Moment
waiting session done = waiting_from session [] done

-- whether an arm is of that row, how many arms are of a commit, and how many of these of its append
abbrev pub is_of_row : ℕ → Moment → Bool
is_of_row n (moment.Row r) = r == n
is_of_row n moment.Append = false
is_of_row n moment.Ship = false

abbrev pub of_commit : List Moment → ℕ
of_commit [] = 0
of_commit (moment.Row r ∷ arms) = of_commit arms
of_commit (moment.Append ∷ arms) = of_commit arms + 1
of_commit (moment.Ship ∷ arms) = of_commit arms + 1

abbrev pub of_append : List Moment → ℕ
of_append [] = 0
of_append (moment.Row r ∷ arms) = of_append arms
of_append (moment.Append ∷ arms) = of_append arms + 1
of_append (moment.Ship ∷ arms) = of_append arms

-- how many rows these lines tell a session, and whether the last of them is one
abbrev pub rows_of : List ℕ → List Line → ℕ
rows_of session [] = 0
rows_of session (line.Session name txn (reply.Row row) ∷ ls) = rows_of session ls + 1
rows_of session (_ ∷ ls) = rows_of session ls

abbrev pub is_last_a_row : List Line → Bool
is_last_a_row [] = false
is_last_a_row (line.Session name txn (reply.Row row) ∷ []) = true
is_last_a_row (_ ∷ []) = false
is_last_a_row (_ ∷ l ∷ ls) = is_last_a_row (l ∷ ls)

-- whether the last of these lines tells that a node went down
abbrev pub is_last_a_down : List Line → Bool
is_last_a_down [] = false
is_last_a_down (line.Down count node fault ∷ []) = true
is_last_a_down (_ ∷ []) = false
is_last_a_down (_ ∷ l ∷ ls) = is_last_a_down (l ∷ ls)

-- how many of these lines tell of a stop
abbrev pub stops : List Line → ℕ
stops [] = 0
stops (line.Down count node false ∷ ls) = stops ls + 1
stops (_ ∷ ls) = stops ls

-- whether the moment of a row's arm has come behind these lines of a piece: the last of them is that row
abbrev pub is_row_due : List Moment → List ℕ → List Line → Bool
is_row_due arms session front = is_last_a_row front && list_any (is_of_row (rows_of session front)) arms
