-- Where no second part stands behind the first, the law of the first says that no two parts do.
use Rattle.std.proofs.Common.{rules}
use Rattle.frame_code.specs.Tells.{Lacks, Begins}
use Rattle.frame_code.proofs.FormLaws.{no_second}
use Rattle.log_format.proofs.parts.Tuple2Part.read.Goals as goal

pub returns-in_default-2 : goal.returns-in_default-2
returns-in_default-2 g c =
    let here : Begins g.A.Part.code g.A.Part.Has c.in-Some.first c.in-Some.rest.now c.args.bytes.now = search rules in
    let none : Lacks g.B.Part.code g.B.Part.Has c.in-Some.rest.now = search rules in
    no_second g.A.Part.code g.A.Part.Has g.B.Part.code g.B.Part.Has g.met.A.Part.tells c.in-Some.first c.in-Some.rest.now c.args.bytes.now here none
