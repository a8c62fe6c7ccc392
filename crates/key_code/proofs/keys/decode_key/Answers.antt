use Rattle.std.proofs.Common.{◌≡◌, [], None, rules}
use Rattle.key_code.specs.Codes.{key_value, IsKeyValue}
use Rattle.key_code.specs.Reads.{Reads}
use Rattle.key_code.proofs.JoinedLaws.{key_dead, joined_more, all_more}
use Rattle.key_code.proofs.keys.decode_key.Goals as goal

pub returns-in-Ok-None : goal.returns-in-Ok-None
returns-in-Ok-None c =
    let some : c.decoding.rest.now ≡ [] → ⊥ = search rules in
    let none : Reads key_value IsKeyValue None c.decoding.rest.now = rw c.in-Ok-None.field-0-is at c.in-Ok-None.ensures in
    key_dead c.decoding.values c.decoding.rest.now c.args.bytes.now c.decoding.invariant.kept some none c.decoding.invariant.read

pub decoding-preserved : goal.decoding-preserved
decoding-preserved c =
    let read = rw c.in-Ok-Some.field-0-is at c.in-Ok-Some.ensures in
    rw c.in_ok-push-in-Ok-Some.ensures.ok (record {
      read = joined_more key_value c.decoding.values c.in-Ok-Some.read.value c.in-Ok-Some.read.rest.now c.decoding.rest.now c.args.bytes.now read.1 c.decoding.invariant.read;
      kept = all_more IsKeyValue c.decoding.values c.in-Ok-Some.read.value c.decoding.invariant.kept read.0;
    })
