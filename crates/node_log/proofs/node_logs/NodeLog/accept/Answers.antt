use Rattle.std.proofs.Common.{◌<◌, ◌^◌, sym, ap, ◌∙◌, subst}
use Rattle.frame_code.specs.Codes.{frame_code}
use Rattle.frame_code.specs.declared.frames.Frame.TheVariants as frame
use Rattle.store_log.specs.Keeps.{AreLeft}
use Rattle.node_log.specs.Logged.{Logged}
use Rattle.node_log.proofs.PromiseLemmas.{accept_spelled, accept_follows, accept_in_step, accept_left}
use Rattle.node_log.proofs.SpelledLemmas.{promised_below}
use Rattle.node_log.proofs.StepLemmas.{same_kept, below_each}
use Rattle.node_log.proofs.node_logs.NodeLog.accept.Goals as goal

pub keep_one-requires-clause-spelled : goal.keep_one-requires-clause-spelled
keep_one-requires-clause-spelled g c =
    let before = c.self.inside in
    let running = ap (λ (l : Logged). l.failed) c.self.view_is ∙ c.requires.running in
    accept_spelled before.promised (below_each before.promised (2 ^ 62) (c.self.invariant running).holds
    (promised_below before.node before.cluster before.held.synced before.promised before.accepted before.log))

pub keep_one-requires-clause-follow : goal.keep_one-requires-clause-follow
keep_one-requires-clause-follow g c =
    let before = c.self.inside in
    let above = subst (λ (l : Logged). l.accepted < l.promised) (sym c.self.view_is) c.requires.above in
    let running = ap (λ (l : Logged). l.failed) c.self.view_is ∙ c.requires.running in
    let below = below_each before.promised (2 ^ 62) (c.self.invariant running).holds (promised_below before.node before.cluster before.held.synced before.promised before.accepted before.log) in
    accept_follows before.node before.cluster before.held before.promised before.accepted before.log above below (c.self.invariant running)

pub invariant_of-self : goal.invariant_of-self
invariant_of-self g c running =
    let before = c.self.inside in
    let above = subst (λ (l : Logged). l.accepted < l.promised) (sym c.self.view_is) c.requires.above in
    let below = below_each before.promised (2 ^ 62) (c.self.invariant running).holds (promised_below before.node before.cluster before.held.synced before.promised before.accepted before.log) in
    accept_in_step before.node before.cluster before.held c.keep_one.new.held before.promised before.accepted before.log above below c.in-Ok.ensures (c.self.invariant running)

pub returns-in-Err-StoreFault-clause-left : goal.returns-in-Err-StoreFault-clause-left
returns-in-Err-StoreFault-clause-left g c told =
    let now = c.args.self.now in
    let before = c.self.inside in
    let kept = same_kept c.self.view_is c.self.invariant c.requires.running in
    let below = below_each now.promised (2 ^ 62) kept.holds (promised_below now.node now.cluster now.store.synced now.promised now.accepted now.entries) in
    let left : AreLeft now.store c.keep_one.new.held (frame_code (frame.Accept now.promised)) =
    subst (λ (l : Logged). AreLeft l.store c.keep_one.new.held (frame_code (frame.Accept l.promised))) c.self.view_is
    (rw c.in-Err-StoreFault.field-0-is at c.in-Err-StoreFault.ensures) in
    accept_left now c.keep_one.new.held c.requires.above below left kept
