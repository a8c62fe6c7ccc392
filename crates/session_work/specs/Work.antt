-- What is left of a session's work, by where it is and the texts of its lines that are still to come.
use Rattle.std.specs.Prelude.{ℕ, [], List, Option}
use Rattle.cdb_values.specs.declared.rows.Level.{Level}
use Rattle.report_laws.specs.Work.{Place, WorkItem, items_at, place_from}
use Rattle.session_language.specs.Language.{Language}

-- where it is, with nothing over
abbrev pub place_at : ℕ → Level → Option (List (List ℕ)) → Place
place_at number level pending = record { over = []; number = number; level = level; pending = pending }

-- what it does from there on
abbrev pub left_at : Language → Place → List (List ℕ) → List WorkItem
left_at language p texts = items_at (place_from language p texts)
