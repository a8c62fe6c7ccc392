use Rattle.std.proofs.Common.{◌<◌, length, rules, arith}
use Rattle.frame_code.specs.Tells.{Lacks}
use Rattle.log_format.proofs.ListLemmas.{parts_lack}
use Rattle.log_format.proofs.parts.read_parts.Goals as goal

pub returns-in-None : goal.returns-in-None
returns-in-None g c =
    let none : Lacks g.T.Part.code g.T.Part.Has c.parts.rest.now = search rules in
    let fewer : length c.parts.parts < c.args.count = first_of (search rules, grind arith) in
    parts_lack g.T.Part.code g.T.Part.Has g.met.T.Part.tells c.args.count c.parts.parts c.parts.rest.now c.args.bytes.now
    c.parts.invariant.each c.parts.invariant.read fewer none
