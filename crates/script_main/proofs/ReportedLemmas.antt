-- The report of a run is of the grammar, since the names of the script are names, its tables have columns, and the numbers of what was printed fit their types;
-- and there is no other such report.
use Rattle.std.proofs.Common.{◌≡◌, ◌≢◌, ℕ, List, [], ◌∷◌, map, refl, sym, subst, inl, inr}
use Rattle.std.specs.List.{AllByRecursion}
use Rattle.cdb_values.specs.Rows.{Rows, no_rows}
use Rattle.cdb_values.specs.declared.tables.ColumnDef.{ColumnDef}
use Rattle.cdb_values.specs.declared.tables.TableDef.{TableDef}
use Rattle.node_reports.specs.Lawful.{LawfulOfNodes}
use Rattle.node_reports.specs.Order.{InNodesOrder}
use Rattle.node_reports.proofs.OneBack.{lawful_back}
use Rattle.node_reports.proofs.OneOrder.{one_order}
use Rattle.script_form.specs.CanRun.{CanRun, IsDeclaredText, script_tables}
use Rattle.script_form.specs.Named as script
use Rattle.script_form.specs.declared.scripts.SessionLine.{SessionLine}
use Rattle.sql_run.proofs.RowLaws.{replies_by_such_rows, leaves_such_rows}
use Rattle.sql_run.specs.Spelled.{HasColumn, HasColumns}
use Rattle.script_form.specs.declared.scripts.Act.{Act}
use Rattle.script_form.specs.declared.scripts.Act.TheVariants as act
use Rattle.script_form.specs.declared.scripts.BodyLine.{BodyLine}
use Rattle.script_form.specs.declared.scripts.Script.{Script}
use Rattle.script_form.specs.declared.scripts.TableLine.{TableLine}
use Rattle.script_form.specs.Named.{IsNamedTable}
use Rattle.phys_log.specs.declared.entries.Entry.{Entry}
use Rattle.query_laws.specs.Alone.{sql_language}
use Rattle.report_laws.specs.History.{Basis}
use Rattle.report_laws.specs.Lawful.{Lawful}
use Rattle.report_laws.specs.Nodes.{downs, BeginsDown}
use Rattle.report_laws.specs.Play.{InPlayOrder}
use Rattle.report_laws.specs.Spelled.{SaysAsNamed, IsSpelled}
use Rattle.report_laws.proofs.OneLaws.{one_report}
use Rattle.report_laws.proofs.SpelledLaws.{of_the_grammar}
use Rattle.report_text.specs.Grammar.{IsReport}
use Rattle.report_text.specs.Text.{report_text}
use Rattle.report_text.specs.Types.{FitsTypes}
use Rattle.report_text.specs.declared.reports.Report.{Report}
use Rattle.script_play.proofs.NodesLaws.{one_node}
use Rattle.script_play.proofs.SqlLaws.{sql_is_answered}
use Rattle.script_play.specs.Basis.{from_base, from_start}
use Rattle.script_play.specs.Ready.{CanBegin}
use Rattle.script_play.specs.Start.{Start}
use Rattle.session_language.specs.Language.{Language}
use Rattle.session_language.specs.Spelled.{HaveRows, KeepsRows}
use Rattle.script_main.proofs.ScriptLemmas.{own_tables}
use Rattle.script_main.specs.Runs.{AreCalled, IsDownText, IsOne}
use Rattle.script_main.specs.Stores.{start_at, with_tables}

sql_keeps : (tables : List TableDef) → AllByRecursion HasColumns tables → KeepsRows sql_language tables
sql_keeps tables columns = record {
  replies = λ versions done text utf8 have all. replies_by_such_rows tables versions done text columns utf8 have all;
  ops = λ versions done text utf8 have all. leaves_such_rows tables versions done text utf8 have all;
}

-- the names of a script are names of a report
tables_named : (tables : List TableLine) → AllByRecursion (λ (t : TableLine). script.IsNamedTable t.table) tables → AllByRecursion IsNamedTable (map (λ (t : TableLine). t.table) tables)
tables_named [] all = tt
tables_named (t ∷ ts) all = (all.0, tables_named ts all.1)

says_named : (sessions : List SessionLine) (a : Act) → script.SaysNamed a → IsDeclaredText sessions a → SaysAsNamed a
says_named sessions (act.Say session text) is said = (is, said.1)
says_named sessions (act.Stop node) is said = tt
says_named sessions (act.Start node) is said = tt
says_named sessions (act.Arm session moment) is said = tt
says_named sessions act.Barrier is said = tt
says_named sessions act.Feed is said = tt

body_named : (sessions : List SessionLine) (body : List BodyLine) → AllByRecursion (λ (l : BodyLine). script.SaysNamed l.act) body → AllByRecursion (λ (l : BodyLine). IsDeclaredText sessions l.act) body → AllByRecursion (λ (l : BodyLine). SaysAsNamed l.act) body
body_named sessions [] all said = tt
body_named sessions (l ∷ ls) all said = (says_named sessions l.act all.0 said.0, body_named sessions ls all.1 said.1)

have_columns : (tables : List TableLine) → AllByRecursion (λ (t : TableLine). t.table.columns ≢ []) tables → AllByRecursion HasColumns (map (λ (t : TableLine). t.table) tables)
have_columns [] all = tt
have_columns (t ∷ ts) all = (some t.table.columns all.0, have_columns ts all.1)
  where
    some : (columns : List ColumnDef) → columns ≢ [] → HasColumn columns
    some [] there = absurd (there refl)
    some (column ∷ columns) there = tt

-- what a report over these tables is asked, so that it is one of the grammar
spelled_by : (s whole : Script) (basis : Basis) → CanRun whole → script.IsNamed s → whole.sessions ≡ s.sessions → whole.body ≡ s.body → basis.language ≡ sql_language →
    basis.script ≡ whole → basis.origin.tables ≡ script_tables whole → HaveRows basis.origin.rows.tables → AllByRecursion IsNamedTable (script_tables whole) → AllByRecursion HasColumns (script_tables whole) → IsSpelled basis
spelled_by s whole basis can is sessions bodies language says same have named columns = record {
  language = subst (λ (l : Language). KeepsRows l basis.origin.tables) (sym language)
      (subst (λ (ts : List TableDef). KeepsRows sql_language ts) (sym same) (sql_keeps (script_tables whole) columns));
  rows = have;
  tables = subst (λ (ts : List TableDef). AllByRecursion IsNamedTable ts) (sym same) named;
  body = subst (λ (w : Script). AllByRecursion (λ (l : BodyLine). SaysAsNamed l.act) w.body) (sym says)
      (body_named whole.sessions whole.body (subst (λ (b : List BodyLine). AllByRecursion (λ (l : BodyLine). script.SaysNamed l.act) b) (sym bodies) is.body) can.said);
}

-- the script of a run behind a log of some size, at no rows, and of one behind a log

pub spelled : (s : Script) (size : ℕ) → CanRun s → script.IsNamed s → IsSpelled (from_base s size (no_rows []))
spelled s size can is = spelled_by s s (from_base s size (no_rows [])) can is refl refl refl refl refl tt (tables_named s.tables is.tables)
    (have_columns s.tables is.columns)

same_sessions : (s : Script) (before : List Entry) → (with_tables s before).sessions ≡ s.sessions
same_sessions s [] = refl
same_sessions s (e ∷ es) = refl

same_body : (s : Script) (before : List Entry) → (with_tables s before).body ≡ s.body
same_body s [] = refl
same_body s (e ∷ es) = refl

named_with : (s : Script) (before : List Entry) → script.IsNamed s → AreCalled s (with_tables s before) → AllByRecursion IsNamedTable (script_tables (with_tables s before))
named_with s before is (inl some) = subst (λ (w : Script). AllByRecursion IsNamedTable (script_tables w)) (sym (own_tables s before some)) (tables_named s.tables is.tables)
named_with s before is (inr logged) = logged.0

columns_with : (s : Script) (before : List Entry) → script.IsNamed s → AreCalled s (with_tables s before) → AllByRecursion HasColumns (script_tables (with_tables s before))
columns_with s before is (inl some) = subst (λ (w : Script). AllByRecursion HasColumns (script_tables w)) (sym (own_tables s before some)) (have_columns s.tables is.columns)
columns_with s before is (inr logged) = logged.1

have_rows : (tables : List TableDef) (before : List Entry) (rows : Rows) → CanBegin tables before rows → HaveRows rows.tables
have_rows tables [] rows begins = subst (λ (r : Rows). HaveRows r.tables) (sym begins) tt
have_rows tables (e ∷ es) rows begins = begins.kept.1

pub spelled_over : (s : Script) (before : List Entry) (rows : Rows) → CanRun (with_tables s before) → script.IsNamed s → CanBegin (script_tables (with_tables s before)) before rows →
    AreCalled s (with_tables s before) → IsSpelled (from_start (with_tables s before) (start_at before rows))
spelled_over s before rows can is begins called =
    spelled_by s (with_tables s before) (from_start (with_tables s before) (start_at before rows)) can is (same_sessions s before) (same_body s before) refl refl refl
    (have_rows (script_tables (with_tables s before)) before rows begins) (named_with s before is called) (columns_with s before is called)

pub told_in_grammar : (basis : Basis) (report : Report) → IsSpelled basis → Lawful basis report → InPlayOrder basis report → FitsTypes report → IsReport report
told_in_grammar basis report spelled lawful in_order fits = of_the_grammar basis report spelled lawful in_order fits

-- there is no other such report
pub one_such : (s : Script) (start : Start) (report : Report) → CanRun s → Lawful (from_start s start) report → InPlayOrder (from_start s start) report → IsOne (from_start s start) report
one_such s start report can lawful in_order other uncut lawful' in_order' uncut' =
    one_report (from_start s start) report other sql_is_answered lawful in_order uncut
    (lawful_back (from_start s start) other (one_node s can) sql_is_answered lawful' in_order') (one_order (from_start s start) other (one_node s can) in_order') uncut'

-- the text of a report of a node that was down from the opening on, behind a log of that size. It tells no row, so it is one of
-- the grammar whatever the rows are
pub down_text : (s : Script) (size : ℕ) (report : Report) (text : List ℕ) → CanRun s → script.IsNamed s → ((rows : Rows) → Lawful (from_base s size rows) report) →
    ((rows : Rows) → InPlayOrder (from_base s size rows) report) → ((rows : Rows) → LawfulOfNodes (from_base s size rows) report) → ((rows : Rows) → InNodesOrder (from_base s size rows) report) →
    BeginsDown report.lines → downs report.lines ≡ 1 → report.entries ≡ [] → FitsTypes report → text ≡ report_text report → IsDownText s size text
down_text s size report text can names lawful in_order of_nodes in_nodes_order first down none fits is = record {
  report = report;
  lawful = of_nodes;
  in_order = in_nodes_order;
  first = first;
  down = down;
  none = none;
  is_report = of_the_grammar (from_base s size (no_rows [])) report (spelled s size can names) (lawful (no_rows [])) (in_order (no_rows [])) fits;
  is_text = is;
}
