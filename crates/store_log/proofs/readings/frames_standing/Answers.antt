use Rattle.std.proofs.Common.{◌≡◌, ◌+◌, ℕ, List, drop, subst, sym, rules}
use Rattle.store_log.specs.Steps.{IsMore, IsReadTo}
use Rattle.store_log.proofs.StepLemmas.{read_more}
use Rattle.store_log.proofs.readings.frames_standing.Goals as goal

pub frames-preserved : goal.frames-preserved
frames-preserved c =
    let m : IsMore c.frames.held c.in-More.now c.in-More.size c.frames.rest.now = rw c.in-More.is at c.in_ok-now.ensures in
    let left : c.split_at-in-More.result.1.now ≡ drop c.in-More.size c.frames.rest.now = search rules in
    subst (λ (l : List ℕ). IsReadTo c.args.node c.args.cluster c.args.bytes.now c.in-More.now l (c.frames.at + c.in-More.size)) (sym left)
    (read_more c.args.node c.args.cluster c.args.bytes.now c.frames.held c.in-More.now c.frames.rest.now c.frames.at c.in-More.size
    c.frames.invariant m)
