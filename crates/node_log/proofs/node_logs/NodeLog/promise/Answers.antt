use Rattle.std.proofs.Common.{◌<◌, sym, ap, ◌∙◌, subst}
use Rattle.frame_code.specs.Codes.{frame_code}
use Rattle.frame_code.specs.declared.frames.Frame.TheVariants as frame
use Rattle.store_log.specs.Keeps.{AreLeft}
use Rattle.node_log.specs.Logged.{Logged}
use Rattle.node_log.proofs.PromiseLemmas.{promise_spelled, promise_follows, promise_in_step, promise_left}
use Rattle.node_log.proofs.StepLemmas.{same_kept}
use Rattle.node_log.proofs.node_logs.NodeLog.promise.Goals as goal

pub keep_one-requires-clause-spelled : goal.keep_one-requires-clause-spelled
keep_one-requires-clause-spelled g c = promise_spelled c.args.generation c.requires.number

pub keep_one-requires-clause-follow : goal.keep_one-requires-clause-follow
keep_one-requires-clause-follow g c =
    let before = c.self.inside in
    let above = subst (λ (l : Logged). l.promised < c.args.generation) (sym c.self.view_is) c.requires.above in
    let running = ap (λ (l : Logged). l.failed) c.self.view_is ∙ c.requires.running in
    promise_follows before.node before.cluster before.held before.promised before.accepted c.args.generation before.log above c.requires.number (c.self.invariant running)

pub invariant_of-self : goal.invariant_of-self
invariant_of-self g c running =
    let before = c.self.inside in
    let above = subst (λ (l : Logged). l.promised < c.args.generation) (sym c.self.view_is) c.requires.above in
    promise_in_step before.node before.cluster before.held c.keep_one.new.held before.promised before.accepted c.args.generation before.log
    above c.requires.number c.in-Ok.ensures (c.self.invariant running)

pub returns-in-Err-StoreFault-clause-left : goal.returns-in-Err-StoreFault-clause-left
returns-in-Err-StoreFault-clause-left g c told =
    let now = c.args.self.now in
    let left : AreLeft now.store c.keep_one.new.held (frame_code (frame.Promise c.args.generation)) =
    subst (λ (l : Logged). AreLeft l.store c.keep_one.new.held (frame_code (frame.Promise c.args.generation))) c.self.view_is
    (rw c.in-Err-StoreFault.field-0-is at c.in-Err-StoreFault.ensures) in
    promise_left now c.keep_one.new.held c.args.generation c.requires.above c.requires.number left (same_kept c.self.view_is c.self.invariant c.requires.running)
