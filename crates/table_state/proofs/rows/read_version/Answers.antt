use Rattle.std.proofs.Common.{ℕ, List, Some, sym, ◌∙◌, subst}
use Rattle.std.proofs.lemmas.Bool.{false≢true}
use Rattle.key_code.specs.Codes.{row_value, IsRowValue}
use Rattle.key_code.specs.Reads.{Decodes}
use Rattle.table_state.proofs.FitLaws.{table_decides}
use Rattle.table_state.proofs.ListedLaws.{cell_there, cell_unfit}
use Rattle.table_state.proofs.rows.read_version.Goals as goal

pub returns-then-not-fits : goal.returns-then-not-fits
returns-then-not-fits c =
    let read : Decodes row_value IsRowValue (Some c.in-Some-2.row) c.value_in.result.now = rw c.in-Some-2.is at c.in_ok-row.ensures in
    cell_unfit c.args.table.now c.args.least c.args.next c.in-Some-2.row c.args.cell.now
    (subst (λ (l : List ℕ). Decodes row_value IsRowValue (Some c.in-Some-2.row) l) c.value_in.ensures read)
    (λ h. false≢true (sym c.if-not-fits.true ∙ c.in_ok-fits.ensures ∙ (table_decides c.args.table.now c.in-Some-2.row).1 h))

pub returns : goal.returns
returns c =
    let read : Decodes row_value IsRowValue (Some c.in-Some-2.row) c.value_in.result.now = rw c.in-Some-2.is at c.in_ok-row.ensures in
    cell_there c.args.table.now c.args.least c.args.next c.in-Some.genid c.in-Some-2.row c.args.cell.now (c.in-Some.ensures ∙ c.key_in.ensures)
    (subst (λ (l : List ℕ). Decodes row_value IsRowValue (Some c.in-Some-2.row) l) c.value_in.ensures read)
    c.if-genid-least.false c.if-genid-next.false ((table_decides c.args.table.now c.in-Some-2.row).0 (sym c.in_ok-fits.ensures ∙ c.if-not-fits.false))
