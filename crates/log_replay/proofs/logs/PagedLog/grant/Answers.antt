use Rattle.std.proofs.Common.{◌≡◌, List, ap, subst, ◌∙◌}
use Rattle.phys_log.specs.declared.entries.Entry.{Entry}
use Rattle.log_replay.specs.Chains.{granted}
use Rattle.log_replay.specs.Kept.{IsKept}
use Rattle.log_replay.proofs.LogLemmas.{rises_is, later_is, log_out}
use Rattle.log_replay.proofs.logs.PagedLog.grant.Goals as goal

pub later-requires : goal.later-requires
later-requires c = rises_is c.args.self.now c.args.page c.chain.result.now c.chain.ensures.chain

pub returns-clause-chain : goal.returns-clause-chain
returns-clause-chain c =
    let links = c.chain.result.now in
    let told : c.in_ok-chain.chain ≡ granted c.as_slice.result.now c.args.position links = c.in_ok-chain.ensures in
    let at : c.as_slice.result.now ≡ c.args.self.now = c.as_slice.ensures.value ∙ c.self.view_is in
    let kept : IsKept c.args.self.now c.self.inside.pages c.self.inside.blank =
    subst (λ (l : List Entry). IsKept l c.self.inside.pages c.self.inside.blank) c.self.view_is c.self.invariant in
    told ∙ ap (λ (l : List Entry). granted l c.args.position links) at
    ∙ later_is c.args.self.now c.self.inside.pages c.self.inside.blank c.args.position c.args.page links kept c.chain.ensures.chain

pub returns-clause-logged : goal.returns-clause-logged
returns-clause-logged c =
    let kept : IsKept c.args.self.now c.self.inside.pages c.self.inside.blank =
    subst (λ (l : List Entry). IsKept l c.self.inside.pages c.self.inside.blank) c.self.view_is c.self.invariant in
    log_out c.args.self.now kept.logged
