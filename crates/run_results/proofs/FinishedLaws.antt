-- The report of a script that was played to its end is lawful.
use Rattle.std.proofs.Common.{ℕ, ◌≡◌, ◌<◌, List, [], length, map, sym, subst}
use mathlib.Core.Logic.{inl, inr}
use Rattle.cdb_values.specs.declared.tables.TableDef.{TableDef}
use Rattle.cluster_events.specs.Settings.{Setting, basis_from, kept_rows_at}
use Rattle.cluster_requests.specs.KeptEntries.{KeptEntry, plain}
use Rattle.cluster_steps.specs.Named.{world}
use Rattle.cluster_steps.specs.declared.events.Event.{Event}
use Rattle.history_base.proofs.TailLaws.{master_told, reported_told}
use Rattle.history_base.specs.Tail.{tail}
use Rattle.history_base.specs.declared.tails.Tail.{Tail}
use Rattle.history_report.specs.Tail.{report_with}
use Rattle.history_report.specs.Told.{told_by}
use Rattle.node_reports.specs.Lawful.{LawfulOfNodes}
use Rattle.report_text.specs.declared.reports.Line.{Line}
use Rattle.report_text.specs.declared.reports.Report.{Report}
use Rattle.run_reports.proofs.LawfulLaws.{told_with_master, told_without_master}
use Rattle.run_reports.proofs.SettingLaws.{calls, fits, follows_it}
use Rattle.run_reports.specs.Written.{HasSessions, setting_of}
use Rattle.run_results.specs.Finished.{basis_of, report_by, IsPlayedToEnd}
use Rattle.script_form.specs.declared.scripts.Script.{Script}
use Rattle.session_language.specs.Answers.{Answers}
use Rattle.session_language.specs.Language.{Language}

-- of that base and that log
at_base : (G : Setting) (lines : List Line) (base other : ℕ) (log : List KeptEntry) → base ≡ other → LawfulOfNodes (basis_from G other (kept_rows_at G log other)) (report_with lines other (map plain log))
    → LawfulOfNodes (basis_from G base (kept_rows_at G log base)) (report_with lines base (map plain log))
at_base G lines base other log same is = subst (λ b. LawfulOfNodes (basis_from G b (kept_rows_at G log b)) (report_with lines b (map plain log))) (sym same) is

pub played_is_lawful : (language : Language) (script : Script) (tables : List TableDef) (h : List (ℕ × Event)) (report : Report) → Answers language → HasSessions script → script.watches ≡ [] → 0 < script.nodes
    → (is : IsPlayedToEnd language script tables h report) → LawfulOfNodes (basis_of (setting_of language script tables) h (tail script.nodes is.lengths h)) report
played_is_lawful language script tables h report answers has none some is =
    let G : Setting = setting_of language script tables in
    let t : Tail = tail script.nodes is.lengths h in
    let run = is.run in
    let top = reported_told G is.lengths h some run.noted run.legal in
    let lines : List Line = (told_by script.nodes script.sessions h).lines in
    let log : List KeptEntry = ((world G h).nodes t.reported).log in
    let lawful : LawfulOfNodes (basis_of G h t) (report_by G script h t) = elim (master_told G is.lengths h some run.noted run.legal) [
      | inl m ↦ at_base G lines t.base (length m.1.log) log m.3 (told_with_master G script.sessions h t.reported m.0 m.1 (fits language script tables has) (follows_it language script tables answers has) (calls language script tables has) none run.legal run.operator run.sessions top.2 m.2)
      | inr m ↦ at_base G lines t.base (length log) log m.1 (told_without_master G script.sessions h t.reported (fits language script tables has) (follows_it language script tables answers has) (calls language script tables has) none run.legal run.operator run.sessions top.2 m.0)
    ] in
    subst (λ (r : Report). LawfulOfNodes (basis_of G h t) r) (sym run.told) lawful
