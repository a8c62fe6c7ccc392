use Rattle.std.proofs.Common.{◌≡◌, length, eqb, false, rules}
use Rattle.frame_code.specs.Tells.{Lacks, Begins}
use Rattle.log_format.proofs.FrameReads.{none_of_it, more_of_it, some_are_left}
use Rattle.log_format.proofs.frames.read_all.Goals as goal

pub returns-in_default : goal.returns-in_default
returns-in_default g c =
    let none : Lacks g.T.Part.code g.T.Part.Has c.args.bytes.now = search rules in
    none_of_it g.T.Part.code g.T.Part.Has c.args.bytes.now none

pub returns-then-not-is_empty : goal.returns-then-not-is_empty
returns-then-not-is_empty g c =
    let here : Begins g.T.Part.code g.T.Part.Has c.in-Some.found c.in-Some.rest.now c.args.bytes.now = search rules in
    let some : eqb (length c.in-Some.rest.now) 0 ≡ false = search rules in
    more_of_it g.T.Part.code g.T.Part.Has g.met.T.Part.tells c.in-Some.found c.in-Some.rest.now c.args.bytes.now here (some_are_left c.in-Some.rest.now some)
