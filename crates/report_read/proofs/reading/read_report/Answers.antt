use Rattle.report_read.proofs.ReadLemmas.{is_found, is_only, is_none}
use Rattle.report_read.proofs.reading.read_report.Goals as goal

pub returns-clause-found : goal.returns-clause-found
returns-clause-found c = is_found c.args.bytes.now c.report_from.result c.report_from.ensures

pub returns-clause-only : goal.returns-clause-only
returns-clause-only c = is_only c.args.bytes.now c.report_from.result c.report_from.ensures

pub returns-clause-none : goal.returns-clause-none
returns-clause-none c = is_none c.args.bytes.now c.report_from.result c.report_from.ensures
