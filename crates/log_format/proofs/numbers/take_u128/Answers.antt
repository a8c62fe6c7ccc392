use Rattle.log_format.proofs.CountLemmas.{sixteen_begin}
use Rattle.log_format.proofs.numbers.take_u128.Goals as goal

pub returns : goal.returns
returns c =
    sixteen_begin c.read_u128.result c.split_at.result.0.now c.split_at.result.1.now c.args.bytes.now
    c.read_u128.ensures c.split_at.ensures.front_len (λ k. (c.type_inv.bytes k).fits) c.split_at.ensures.by_index.0
