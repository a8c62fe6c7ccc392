use Rattle.key_code.proofs.JoinedLaws.{key_order}
use Rattle.key_code.proofs.laws.key_codes_keep_order.Goals as goal

pub returns : goal.returns
returns c = record { order = key_order }
