-- The entry of these records and changes.
use Rattle.std.proofs.Common.{◌≡◌, ◌≤◌, length, ap, ◌∙◌, arith}
use Rattle.cdb_values.specs.Changes.{changes_of}
use Rattle.cdb_values.specs.Rows.{apply_all}
use Rattle.log_rows.specs.History.{rows_over, tables_of}
use Rattle.phys_log.specs.Logs.{pages_of, replayed}
use Rattle.page_workspace.specs.Drafts.{meant}
use Rattle.log_rows.specs.Sources.{source_pages}
use Rattle.block_processor.proofs.EntryLemmas.{next_is, within_alike}
use Rattle.block_processor.proofs.decisions.next_entry.Goals as goal

pub returns : goal.returns
returns g c =
    let request = c.args.request in
    let log = c.args.log.now in
    let changes = c.in_ok-changes.changes in
    let records = c.in_ok-records.records in
    let base : g.footing.position ≤ length log = (let from = c.requires.0.begun.1 in let within = c.requires.0.within in omega (arith, from, within)) in
    let next : c.next_genid.result ≡ (rows_over g.footing log).next = c.next_genid.ensures ∙ c.requires.0.stands.genid in
    let made : changes ≡ changes_of request.ops (rows_over g.footing log).next = c.in_ok-changes.ensures ∙ ap (changes_of request.ops) next in
    next_is g.footing request log c.args.generation changes records base c.requires.1.0 c.requires.1.1.0 c.requires.1.1.1.1.0 made c.in_ok-records.ensures.next
    (c.in_ok-records.ensures.stands (tables_of log) (apply_all (rows_over g.footing log) request.ops) c.requires.1.1.1.1.1.1.0)
    (within_alike (pages_of log) (meant source_pages c.args.space) (replayed (pages_of log) records) c.in_ok-records.ensures.alike c.requires.1.1.1.1.1.1.1)
