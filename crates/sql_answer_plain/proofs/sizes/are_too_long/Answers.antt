use Rattle.cdb_values.specs.Good.{bytes_of_key}
use Rattle.key_code.proofs.LimitLaws.{past_key}
use Rattle.sql_answer_plain.proofs.sizes.are_too_long.Goals as goal

pub returns : goal.returns
returns c = past_key (bytes_of_key c.args.values.now) c.key_size.result c.key_size.ensures
