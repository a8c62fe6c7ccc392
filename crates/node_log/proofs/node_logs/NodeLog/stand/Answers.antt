use Rattle.std.proofs.Common.{◌+◌, ◌<◌, ◌^◌, refl, ap, ◌∙◌, subst, arith}
use Rattle.store_log.specs.Keeps.{AreLeft}
use Rattle.node_log.specs.Logged.{Logged}
use Rattle.node_log.proofs.StandLemmas.{bytes_of, stand_follows, stand_in_step, stand_left}
use Rattle.node_log.proofs.StepLemmas.{same_kept}
use Rattle.node_log.proofs.node_logs.NodeLog.stand.Goals as goal

pub invariant_of-self : goal.invariant_of-self
invariant_of-self g c running =
    let before = c.self.inside in
    let below : before.promised + 1 < 2 ^ 62 = omega arith in
    stand_in_step before.node before.cluster before.held c.keep_stand.new.held before.promised before.accepted (before.promised + 1) before.log
    refl below c.in-Ok.ensures.kept (c.self.invariant running)

pub returns-in-Err-StoreFault-clause-left : goal.returns-in-Err-StoreFault-clause-left
returns-in-Err-StoreFault-clause-left g c told =
    let now = c.args.self.now in
    let before = c.self.inside in
    let below : before.promised + 1 < 2 ^ 62 = omega arith in
    let left : AreLeft now.store c.keep_stand.new.held (bytes_of (before.promised + 1)) =
    subst (λ (l : Logged). AreLeft l.store c.keep_stand.new.held (bytes_of (before.promised + 1))) c.self.view_is
    (rw c.in-Err-StoreFault.field-0-is at c.in-Err-StoreFault.ensures.kept) in
    stand_left now c.keep_stand.new.held (before.promised + 1) (ap (λ (l : Logged). l.promised + 1) c.self.view_is) below left
    (same_kept c.self.view_is c.self.invariant c.requires.running)

pub keep_stand-requires-clause-follow : goal.keep_stand-requires-clause-follow
keep_stand-requires-clause-follow g c =
    let before = c.self.inside in
    let below : before.promised + 1 < 2 ^ 62 = omega arith in
    let running = ap (λ (l : Logged). l.failed) c.self.view_is ∙ c.requires.running in
    stand_follows before.node before.cluster before.held before.promised before.accepted (before.promised + 1) before.log refl below (c.self.invariant running)
