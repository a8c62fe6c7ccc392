-- What a report of a run is judged by: the language of SQL, the script, and where the run begins.
use Rattle.std.specs.Prelude.{ℕ}
use Rattle.cdb_values.specs.Rows.{Rows}
use Rattle.report_laws.specs.History.{Basis, Origin, nothing_before}
use Rattle.script_form.specs.CanRun.{script_tables}
use Rattle.script_form.specs.declared.scripts.Script.{Script}
use Rattle.query_laws.specs.Alone.{sql_language}
use Rattle.script_play.specs.Start.{Start, base}

abbrev pub from_origin : Script → Origin → Basis
from_origin script origin = record { language = sql_language; script = script; origin = origin }

-- a history that begins with the run: no entry before it
abbrev pub from_nothing : Script → Basis
from_nothing script = from_origin script (nothing_before (script_tables script))

-- a history that begins behind a position, at these rows
abbrev pub from_base : Script → ℕ → Rows → Basis
from_base script at rows = from_origin script (record { position = at; tables = script_tables script; rows = rows })

-- a run that goes on behind a log
abbrev pub from_start : Script → Start → Basis
from_start script start = from_base script (base start) start.rows
