-- The laws hold of the report of a run that did nothing behind a log of two entries.
use Rattle.std.proofs.Common.{◌≡◌, List, [], ◌++◌, None, Some, refl, sym, subst, ap, Bool, if◌then◌else◌}
use Rattle.cdb_values.specs.Rows.{Rows}
use Rattle.script_form.specs.declared.scripts.Script.{Script}
use Rattle.script_form.specs.declared.scripts.BodyLine.{BodyLine}
use Rattle.report_laws.specs.History.{view_of}
use Rattle.report_laws.specs.Lawful.{Lawful}
use Rattle.report_laws.specs.Play.{InPlayOrder, InTurns, opened_behind}
use Rattle.report_laws.specs.Told.{IsTold}
use Rattle.report_laws.proofs.NodesLaws.{none_few}
use Rattle.report_text.specs.declared.reports.EntryLine.{EntryLine}
use Rattle.report_laws.proofs.DownLaws.{none_go_down}
use Rattle.report_worked.specs.Small.{from_log}
use Rattle.report_worked.specs.Worked.{resumed_report, resumed_with}
use Rattle.report_worked.proofs.EmptyLemmas.{along_none}

pub resumed_is_lawful : (script : Script) (rows : Rows) → script.body ≡ [] → Lawful (from_log script 2 rows) resumed_report
resumed_is_lawful script rows is = record {
  replies = λ name. along_none (IsTold (from_log script 2 rows) (view_of (from_log script 2 rows) []) name) name script.body is;
  begins = tt;
  history = tt;
  answered = tt;
  places = tt;
  feeds = refl;
  base = refl;
  end = refl;
}

-- no schema's entry stands behind a log that has one
nothing_opened : (script : Script) (rows : Rows) → opened_behind (from_log script 2 rows) [] ≡ []
nothing_opened script rows = ap (λ (few : Bool). if few then [] else []) (none_few script.nodes [] refl)

pub resumed_is_in_order : (script : Script) (rows : Rows) → script.body ≡ [] → InPlayOrder (from_log script 2 rows) resumed_report
resumed_is_in_order script rows is = record {
  first = [];
  go_down = tt;
  rest = [];
  lines_are = refl;
  later = [];
  opened = sym (ap (λ (es : List EntryLine). es ++ []) (nothing_opened script rows));
  order = subst (λ (body : List BodyLine). InTurns (from_log script 2 rows) [] [] (opened_behind (from_log script 2 rows) []) body [] []) (sym is) (refl, refl);
  changes = none_go_down (from_log script 2 rows) (view_of (from_log script 2 rows) []) [] [] refl;
}

pub no_base_is_refused : (script : Script) (rows : Rows) → Lawful (from_log script 2 rows) (resumed_with None) → ⊥
no_base_is_refused script rows lawful = let base = lawful.base in cc

pub other_base_is_refused : (script : Script) (rows : Rows) → Lawful (from_log script 2 rows) (resumed_with (Some 1)) → ⊥
other_base_is_refused script rows lawful = let base = lawful.base in cc
