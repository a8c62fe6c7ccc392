use Rattle.script_main.proofs.RanLemmas.{opened_known}
use Rattle.script_main.proofs.opening.begin.Goals as goal

pub invariant_of-result : goal.invariant_of-result
invariant_of-result g c =
    let o = c.requires.opened in
    record { known = opened_known o.0 o.1 c.args.up.base c.args.up.log o.2 c.pages_stand_for_one_state.ensures.one }
