use Rattle.std.proofs.Common.{◌≡◌, List, sym, ap, subst, ◌∙◌}
use Rattle.phys_log.specs.declared.entries.Entry.{Entry}
use Rattle.phys_log.specs.Undone.{undone}
use Rattle.log_replay.specs.Chains.{granted, CanUndo}
use Rattle.log_replay.specs.Kept.{IsKept}
use Rattle.log_replay.proofs.LogLemmas.{rises_is, log_out}
use Rattle.log_replay.proofs.BackLemmas.{chain_can, chain_undone}
use Rattle.log_replay.proofs.logs.PagedLog.page_at.Goals as goal

pub undo_later-requires-clause-rising : goal.undo_later-requires-clause-rising
undo_later-requires-clause-rising c = rises_is c.args.self.now c.args.page c.chain.result.now c.chain.ensures.chain

pub undo_later-requires-clause-can : goal.undo_later-requires-clause-can
undo_later-requires-clause-can c =
    let kept : IsKept c.args.self.now c.self.inside.pages c.self.inside.blank =
    subst (λ (l : List Entry). IsKept l c.self.inside.pages c.self.inside.blank) c.self.view_is c.self.invariant in
    let at : c.as_slice.result.now ≡ c.args.self.now = c.as_slice.ensures.value ∙ c.self.view_is in
    subst (λ (l : List Entry). CanUndo c.in_ok-copy.copy (granted l c.args.position c.chain.result.now)) (sym at)
    (chain_can c.args.self.now c.self.inside.pages c.self.inside.blank c.args.position c.args.page c.in_ok-copy.copy c.chain.result.now kept
    c.in_ok-copy.ensures c.chain.ensures.chain)

pub returns-clause-page : goal.returns-clause-page
returns-clause-page c =
    let kept : IsKept c.args.self.now c.self.inside.pages c.self.inside.blank =
    subst (λ (l : List Entry). IsKept l c.self.inside.pages c.self.inside.blank) c.self.view_is c.self.invariant in
    let at : c.as_slice.result.now ≡ c.args.self.now = c.as_slice.ensures.value ∙ c.self.view_is in
    c.undo_later.ensures ∙ ap (λ (l : List Entry). undone c.in_ok-copy.copy (granted l c.args.position c.chain.result.now)) at
    ∙ chain_undone c.args.self.now c.self.inside.pages c.self.inside.blank c.args.position c.args.page c.in_ok-copy.copy c.chain.result.now kept
    c.in_ok-copy.ensures c.chain.ensures.chain

pub returns-clause-logged : goal.returns-clause-logged
returns-clause-logged c =
    let kept : IsKept c.args.self.now c.self.inside.pages c.self.inside.blank =
    subst (λ (l : List Entry). IsKept l c.self.inside.pages c.self.inside.blank) c.self.view_is c.self.invariant in
    log_out c.args.self.now kept.logged
