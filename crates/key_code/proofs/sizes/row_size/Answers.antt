use Rattle.std.proofs.Common.{◌≡◌, length, arith}
use Rattle.cdb_values.specs.Good.{bytes_of_row}
use Rattle.key_code.proofs.SizeLemmas.{no_row_bytes}
use Rattle.key_code.proofs.sizes.row_size.Goals as goal

pub returns : goal.returns
returns c =
    let none : length c.measuring.rest.now ≡ 0 = c.in_default.ensures.cases in
    let bytes : bytes_of_row c.measuring.rest.now ≡ 0 = no_row_bytes c.measuring.rest.now none in
    omega arith
