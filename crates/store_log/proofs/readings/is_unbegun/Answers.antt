use Rattle.std.proofs.Common.{◌<◌, length, rules}
use Rattle.store_log.proofs.FirstLemmas.{unbegun_is}
use Rattle.store_log.proofs.readings.is_unbegun.Goals as goal

pub returns : goal.returns
returns c =
    let short : length c.args.bytes.now < 27 = search rules in
    unbegun_is c.args.bytes.now c.agree.result short (λ k. (c.type_inv.bytes k).fits) c.agree.ensures
