use Rattle.std.proofs.Common.{◌≡◌, [], None, rules}
use Rattle.key_code.specs.Codes.{row_value, IsRowValue}
use Rattle.key_code.specs.Reads.{Reads}
use Rattle.key_code.proofs.JoinedLaws.{row_dead, joined_more, all_more}
use Rattle.key_code.proofs.rows.decode_row.Goals as goal

pub returns-in-Ok-None : goal.returns-in-Ok-None
returns-in-Ok-None c =
    let some : c.decoding.rest.now ≡ [] → ⊥ = search rules in
    let none : Reads row_value IsRowValue None c.decoding.rest.now = rw c.in-Ok-None.field-0-is at c.in-Ok-None.ensures in
    row_dead c.decoding.values c.decoding.rest.now c.args.bytes.now c.decoding.invariant.kept some none c.decoding.invariant.read

pub decoding-preserved : goal.decoding-preserved
decoding-preserved c =
    let read = rw c.in-Ok-Some.field-0-is at c.in-Ok-Some.ensures in
    rw c.in_ok-push-in-Ok-Some.ensures.ok (record {
      read = joined_more row_value c.decoding.values c.in-Ok-Some.read.value c.in-Ok-Some.read.rest.now c.decoding.rest.now c.args.bytes.now read.1 c.decoding.invariant.read;
      kept = all_more IsRowValue c.decoding.values c.in-Ok-Some.read.value c.decoding.invariant.kept read.0;
    })
