use Rattle.std.proofs.Common.{◌≡◌}
use Rattle.std.proofs.lemmas.Result.{IfOk-weaker}
use Rattle.cdb_outside.specs.declared.statuses.Status.TheVariants as status
use Rattle.script_main.proofs.ReportedLemmas.{down_text}
use Rattle.script_main.specs.Runs.{IsDownText}
use Rattle.script_main.specs.Steps.{IsReportText}
use Rattle.script_main.proofs.opening.down.Goals as goal

pub returns : goal.returns
returns c =
    let script = c.args.script.now in
    let report = c.in_ok-report.report in
    let told = c.in_ok-report.ensures in
    IfOk-weaker c.reported.result
    (λ a. IsReportText report a.status a.text)
    (λ a. (a.status ≡ status.Done) × IsDownText script c.args.size a.text)
    (λ a is. (is.status_is, down_text script c.args.size report a.text c.requires.runs c.requires.names told.lawful told.in_order told.lawful_of_nodes told.in_nodes_order told.first told.down told.none is.fits is.is_text))
    c.reported.ensures
