-- What the rows' tree has for a genid is the row of its version.
use Rattle.std.proofs.Common.{rules, ◌^◌, ◌<◌, ℕ, List, None, Some, Option, sym, ◌∙◌, subst}
use Rattle.cdb_values.specs.declared.values.Value.{Value}
use Rattle.key_code.specs.Codes.{row_value, IsRowValue}
use Rattle.key_code.specs.Reads.{Decodes}
use Rattle.page_rows.proofs.TreeLemmas.{genid_found, genid_unread, genid_lost}
use Rattle.page_rows.proofs.finds.version_in.Goals as goal

pub returns-in-None-clause-found : goal.returns-in-None-clause-found
returns-in-None-clause-found c = λ versions list r h e. genid_lost c.args.genid versions list h (sym c.in-None.is ∙ e)

pub returns-in-Ok-None-clause-found : goal.returns-in-Ok-None-clause-found
returns-in-Ok-None-clause-found c = λ versions list r h e.
    let small : c.args.genid < 2 ^ 64 = search rules in
    let bytes : Decodes row_value IsRowValue c.in-Ok-None.field-0 c.in-Some.value = subst (λ (b : List ℕ). Decodes row_value IsRowValue c.in-Ok-None.field-0 b) c.as_slice.ensures c.in-Ok-None.ensures in
    let none : Decodes row_value IsRowValue None c.in-Some.value = subst (λ (o : Option (List Value)). Decodes row_value IsRowValue o c.in-Some.value) c.in-Ok-None.field-0-is bytes in
    absurd (genid_unread c.args.genid c.in-Some.value versions list small r h (sym c.in-Some.is ∙ e) none)

pub returns-in-Ok-Some-clause-found : goal.returns-in-Ok-Some-clause-found
returns-in-Ok-Some-clause-found c = λ versions list r h e.
    let small : c.args.genid < 2 ^ 64 = search rules in
    let bytes : Decodes row_value IsRowValue c.in-Ok-Some.field-0 c.in-Some.value = subst (λ (b : List ℕ). Decodes row_value IsRowValue c.in-Ok-Some.field-0 b) c.as_slice.ensures c.in-Ok-Some.ensures in
    let row : Decodes row_value IsRowValue (Some c.in-Ok-Some.row) c.in-Some.value = subst (λ (o : Option (List Value)). Decodes row_value IsRowValue o c.in-Some.value) c.in-Ok-Some.field-0-is bytes in
    genid_found c.args.genid c.in-Some.value c.in-Ok-Some.row versions list small r h (sym c.in-Some.is ∙ e) row
