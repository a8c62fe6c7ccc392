use Rattle.std.proofs.Common.{◌≡◌, length, arith}
use Rattle.cdb_values.specs.Good.{bytes_of_key}
use Rattle.key_code.proofs.SizeLemmas.{no_key_bytes}
use Rattle.key_code.proofs.sizes.key_size.Goals as goal

pub returns : goal.returns
returns c =
    let none : length c.measuring.rest.now ≡ 0 = c.in_default.ensures.cases in
    let bytes : bytes_of_key c.measuring.rest.now ≡ 0 = no_key_bytes c.measuring.rest.now none in
    omega arith
