-- What a run that is done tells: its history is legal, the operator and all sessions did their lines in it, and the
-- report is what it tells, with the reported node's log behind the base.
use Rattle.std.specs.Prelude.{ℕ, ◌≡◌, List, [], map}
use Rattle.cdb_values.specs.declared.tables.TableDef.{TableDef}
use Rattle.cluster_events.specs.Guards.{IsDone}
use Rattle.cluster_events.specs.Operator.{duty}
use Rattle.cluster_events.specs.Settings.{Setting, basis_from, kept_rows_at, lines_to_do}
use Rattle.cluster_requests.specs.KeptEntries.{plain}
use Rattle.cluster_steps.specs.Guards.{AreLegalSteps}
use Rattle.cluster_steps.specs.Named.{steps, world}
use Rattle.cluster_steps.specs.declared.events.Event.{Event}
use Rattle.history_base.specs.Tail.{AreNoted, tail}
use Rattle.history_base.specs.declared.tails.Tail.{Tail}
use Rattle.history_report.specs.Tail.{report_with}
use Rattle.history_report.specs.Told.{told_by}
use Rattle.report_laws.specs.History.{Basis}
use Rattle.report_text.specs.declared.reports.Report.{Report}
use Rattle.run_reports.specs.Written.{setting_of}
use Rattle.script_form.specs.declared.scripts.Script.{Script}
use Rattle.session_language.specs.Language.{Language}

-- the report that a history tells, of a setting with these sessions
abbrev pub report_by : Setting → Script → List (ℕ × Event) → Tail → Report
report_by G script h t = report_with (told_by G.nodes script.sessions h).lines t.base (map plain ((world G h).nodes t.reported).log)

pub record IsFinishedRun (G : Setting) (script : Script) (h : List (ℕ × Event)) (lengths : List (List ℕ)) (report : Report) : Type 0 where
  pub legal : AreLegalSteps G h
  pub operator : (duty (lines_to_do G) (steps G h)).left ≡ []
  pub sessions : (s : ℕ) → IsDone G (steps G h) s
  pub noted : AreNoted G.nodes lengths h
  pub told : report ≡ report_by G script h (tail G.nodes lengths h)

-- what its report is judged by: the base, with the rows there
abbrev pub basis_of : Setting → List (ℕ × Event) → Tail → Basis
basis_of G h t = basis_from G t.base (kept_rows_at G ((world G h).nodes t.reported).log t.base)

-- a script was played to its end, with these tables
pub record IsPlayedToEnd (language : Language) (script : Script) (tables : List TableDef) (h : List (ℕ × Event)) (report : Report) : Type 0 where
  pub lengths : List (List ℕ)
  pub run : IsFinishedRun (setting_of language script tables) script h lengths report
