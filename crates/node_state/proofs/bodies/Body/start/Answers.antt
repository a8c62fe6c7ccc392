use Rattle.std.proofs.Common.{refl, sym, ap, ◌∙◌, subst}
use Rattle.std.specs.Prelude.{true}
use Rattle.election_core.specs.declared.votes.NodeVote.{NodeVote}
use Rattle.kept_log.specs.Kept.{HoldsAny, IsAny, OverStore, kept_by}
use Rattle.node_state.specs.Nodes.{held}
use Rattle.node_state.specs.Stores.{HasFailed, IsCalm, how_by}
use Rattle.node_state.proofs.CallLaws.{as_reserved, fallen_behind, on_err}
use Rattle.node_state.proofs.StartLaws.{may_as, own_reserved, shut_up, stored_reserved, stored_still, stored_up, told_as, tried_fault, tried_up, unopened_none, unopened_shut, wakes_so}
use Rattle.node_state.proofs.bodies.Body.start.Goals as goal

pub open-requires-clause-stopped : goal.open-requires-clause-stopped
open-requires-clause-stopped g c = shut_up c.args.self.now.vote c.args.self.now.log c.requires.node.over c.requires.down

pub open-requires-clause-holds : goal.open-requires-clause-holds
open-requires-clause-holds g c = (c.requires.may.some, c.requires.may.holds)

pub rise-requires-clause-opened : goal.rise-requires-clause-opened
rise-requires-clause-opened g c = ((tried_up _ c.args.self.now.log c.open.new.log c.in-Up.is c.in_ok-open.ensures.tried).is_open, (tried_up _ c.args.self.now.log c.open.new.log c.in-Up.is c.in_ok-open.ensures.tried).node ∙ c.requires.node.over.node)

pub rise-requires-clause-own : goal.rise-requires-clause-own
rise-requires-clause-own g c = (c.args.self.now.log.entries, own_reserved g.J.Plan.setting c.args.self.now.vote c.args.self.now.log.entries c.args.self.now.actor c.reserve.new.self c.reserve.ensures.same.0 c.reserve.ensures.same.2 c.requires.node.own)

pub rise-requires-clause-may : goal.rise-requires-clause-may
rise-requires-clause-may g c =
    may_as g.J.Plan.setting c.args.self.now.vote.node c.reserve.new.self.seen c.args.self.now.actor.seen c.how-how.result (how_by c.args.first c.args.self.now.vote c.args.self.now.under_way (kept_by c.open.new.log)) (kept_by c.open.new.log) c.how-how.ensures c.reserve.ensures.same.2
    (c.requires.may.may c.open.new.log (tried_up _ c.args.self.now.log c.open.new.log c.in-Up.is c.in_ok-open.ensures.tried).found)

pub rise-requires-clause-told : goal.rise-requires-clause-told
rise-requires-clause-told g c =
    told_as g.J.Plan.setting c.args.self.now.vote.node c.reserve.new.self.seen c.args.self.now.actor.seen c.how-how.result (how_by c.args.first c.args.self.now.vote c.args.self.now.under_way (kept_by c.open.new.log)) c.how-how.ensures c.reserve.ensures.same.2 (c.requires.may.told (kept_by c.open.new.log))

pub fall_again-requires-clause-node : goal.fall_again-requires-clause-node
fall_again-requires-clause-node g c =
    stored_still g.J.Plan.setting c.args.self.now.vote c.args.self.now.log.entries c.reserve.new.self c.args.self.now.log c.open.new.log c.args.self.now.under_way
    (stored_reserved g.J.Plan.setting c.args.self.now.vote c.args.self.now.log.entries c.args.self.now.actor c.reserve.new.self c.args.self.now.log c.args.self.now.under_way c.requires.node c.reserve.ensures.same.0 c.reserve.ensures.same.2)
    c.requires.down refl (tried_fault _ c.args.self.now.log c.open.new.log c.in-Fault.is c.in_ok-open.ensures.tried).0

pub returns-in_err-reserve-clause-node : goal.returns-in_err-reserve-clause-node
returns-in_err-reserve-clause-node g c = stored_reserved g.J.Plan.setting c.args.self.now.vote c.args.self.now.log.entries c.args.self.now.actor c.reserve.new.self c.args.self.now.log c.args.self.now.under_way c.requires.node c.reserve.ensures.same.0 c.reserve.ensures.same.2

pub returns-in_err-reserve-clause-unchanged : goal.returns-in_err-reserve-clause-unchanged
returns-in_err-reserve-clause-unchanged g c = on_err c.from_residual.result (unopened_none c.args.self.now.vote c.args.self.now.actor c.reserve.new.self c.args.self.now.log c.reserve.ensures.same.0 c.reserve.ensures.same.1 c.reserve.ensures.same.2 c.reserve.ensures.kept)

pub returns-in_err-open-clause-node : goal.returns-in_err-open-clause-node
returns-in_err-open-clause-node g c =
    stored_still g.J.Plan.setting c.args.self.now.vote c.args.self.now.log.entries c.reserve.new.self c.args.self.now.log c.open.new.log c.args.self.now.under_way
    (stored_reserved g.J.Plan.setting c.args.self.now.vote c.args.self.now.log.entries c.args.self.now.actor c.reserve.new.self c.args.self.now.log c.args.self.now.under_way c.requires.node c.reserve.ensures.same.0 c.reserve.ensures.same.2)
    c.requires.down refl c.in_err-open.ensures.shut

pub returns-in_err-open-clause-unchanged : goal.returns-in_err-open-clause-unchanged
returns-in_err-open-clause-unchanged g c = on_err c.from_residual-in_err-open.result (unopened_shut c.args.self.now.vote c.args.self.now.actor c.reserve.new.self c.args.self.now.log c.open.new.log c.reserve.ensures.same.0 c.reserve.ensures.same.1 c.reserve.ensures.same.2 c.reserve.ensures.kept c.in_err-open.ensures.shut c.in_err-open.ensures.calm)

pub returns-in-Up-clause-node : goal.returns-in-Up-clause-node
returns-in-Up-clause-node g c = stored_up g.J.Plan.setting _ c.rise.new.self.log c.rise.new.self.under_way c.rise.ensures.own c.rise.ensures.kept (ap (λ (v : NodeVote). v.up) (c.rise.ensures.wakes c.args.self.now.log.entries).vote)

pub returns-in-Up-clause-store : goal.returns-in-Up-clause-store
returns-in-Up-clause-store g c = (
  (λ ks h. subst (λ (x : OverStore). ∥ IsAny (kept_by x) ks ∥₁) (sym c.rise.ensures.log) ((tried_up _ c.args.self.now.log c.open.new.log c.in-Up.is c.in_ok-open.ensures.tried).found ks h)),
  subst (λ (x : OverStore). IsCalm c.args.self.now.log x) (sym c.rise.ensures.log) (tried_up _ c.args.self.now.log c.open.new.log c.in-Up.is c.in_ok-open.ensures.tried).calm,
)

pub returns-in-Up-clause-started : goal.returns-in-Up-clause-started
returns-in-Up-clause-started g c = (
  wakes_so c.args.first c.args.self.now.vote c.args.self.now.under_way c.how-how.result c.open.new.log c.rise.new.self.log (held c.args.self.now.vote c.args.self.now.log.entries c.args.self.now.actor) (held c.args.self.now.vote c.args.self.now.log.entries c.reserve.new.self) (held c.rise.new.self.vote c.rise.new.self.log.entries c.rise.new.self.actor) c.how-how.ensures c.rise.ensures.log
      (as_reserved (held c.args.self.now.vote c.args.self.now.log.entries c.args.self.now.actor) (held c.args.self.now.vote c.args.self.now.log.entries c.reserve.new.self) refl refl c.reserve.ensures.same.0 c.reserve.ensures.same.1 c.reserve.ensures.same.2 c.reserve.ensures.kept) (c.rise.ensures.wakes c.args.self.now.log.entries),
  c.rise.ensures.room,
)

pub returns-in-Fault-clause-store : goal.returns-in-Fault-clause-store
returns-in-Fault-clause-store g c = (
  (λ ks h. subst (λ (x : OverStore). HoldsAny x ks) (sym c.fall_again.ensures.log) ((tried_fault _ c.args.self.now.log c.open.new.log c.in-Fault.is c.in_ok-open.ensures.tried).0.holds ks h)),
  subst (λ (x : OverStore). HasFailed c.args.self.now.log x) (sym c.fall_again.ensures.log) ((tried_fault _ c.args.self.now.log c.open.new.log c.in-Fault.is c.in_ok-open.ensures.tried).1, ap (λ (x : OverStore). x.cluster) (tried_fault _ c.args.self.now.log c.open.new.log c.in-Fault.is c.in_ok-open.ensures.tried).0.same),
)

pub returns-in-Fault-clause-started : goal.returns-in-Fault-clause-started
returns-in-Fault-clause-started g c =
    fallen_behind true (held c.args.self.now.vote c.args.self.now.log.entries c.args.self.now.actor) (held c.args.self.now.vote c.open.new.log.entries c.reserve.new.self) (held c.fall_again.new.self.vote c.fall_again.new.self.log.entries c.fall_again.new.self.actor)
    (as_reserved (held c.args.self.now.vote c.args.self.now.log.entries c.args.self.now.actor) (held c.args.self.now.vote c.open.new.log.entries c.reserve.new.self) refl (ap (λ (x : OverStore). x.entries) (tried_fault _ c.args.self.now.log c.open.new.log c.in-Fault.is c.in_ok-open.ensures.tried).0.same) c.reserve.ensures.same.0 c.reserve.ensures.same.1 c.reserve.ensures.same.2 c.reserve.ensures.kept) c.fall_again.ensures.falls
