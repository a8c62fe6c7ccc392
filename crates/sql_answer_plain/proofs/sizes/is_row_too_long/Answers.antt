use Rattle.cdb_values.specs.Good.{bytes_of_row}
use Rattle.key_code.proofs.LimitLaws.{past_row}
use Rattle.sql_answer_plain.proofs.sizes.is_row_too_long.Goals as goal

pub returns : goal.returns
returns c = past_row (bytes_of_row c.args.row.now) c.row_size.result c.row_size.ensures
