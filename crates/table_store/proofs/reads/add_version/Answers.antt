-- The pair is that of a version, so what is read from it is this version.
use Rattle.std.proofs.Common.{rules, ◌<◌, ◌^◌, ◌++◌, ◌∷◌, [], ℕ, List, ap, ◌∙◌, subst, Option, Some}
use Rattle.cdb_values.specs.declared.rows.Version.{Version}
use Rattle.cdb_values.specs.declared.values.Value.{Value}
use Rattle.key_code.specs.Codes.{row_value, IsRowValue}
use Rattle.key_code.specs.Reads.{Decodes}
use Rattle.table_store.proofs.ReadLaws.{version_read}
use Rattle.table_store.proofs.reads.add_version.Goals as goal

pub returns : goal.returns
returns c = λ v readable is.
    let small : c.in-Some.genid < 2 ^ 64 = search rules in
    let pair = c.args.pair.now in
    let bytes : Decodes row_value IsRowValue c.in_ok-row.field-0 pair.1 = subst (λ (b : List ℕ). Decodes row_value IsRowValue c.in_ok-row.field-0 b) c.as_slice-2.ensures c.in_ok-row.ensures in
    let row : Decodes row_value IsRowValue (Some c.in-Some-2.row) pair.1 = subst (λ (o : Option (List Value)). Decodes row_value IsRowValue o pair.1) c.in-Some-2.is bytes in
    c.in_ok-push.ensures.items
    ∙ ap (λ (w : Version). c.args.found.now.items ++ w ∷ [])
    (version_read c.in-Some.genid c.in-Some.field-0-1.now c.in-Some-2.row pair v small (c.in-Some.ensures ∙ c.as_slice.ensures) row readable is)
