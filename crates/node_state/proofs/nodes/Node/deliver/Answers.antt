use Rattle.std.proofs.Common.{rules, ◌≡◌, Err, sym, subst, ap, ◌∙◌}
use Rattle.std.specs.Prelude.{true}
use Rattle.election_core.specs.declared.votes.NodeVote.{NodeVote}
use Rattle.kept_log.specs.Kept.{OverStore}
use Rattle.node_state.specs.Calls.{Answers, FallsPartly, IsAsBefore}
use Rattle.node_state.specs.Nodes.{held}
use Rattle.node_state.specs.Packets.{AreBehind, IsPacket}
use Rattle.node_state.specs.Stores.{Stored, StopsShort, held_of}
use Rattle.node_state.proofs.BehindLaws.{answers_behind}
use Rattle.node_state.proofs.CallLaws.{answers_before, falls_before}
use Rattle.node_state.proofs.NumberLaws.{kept_same}
use Rattle.node_state.proofs.OverLaws.{calm_before, failed_before, short_before}
use Rattle.node_state.proofs.SentLaws.{packet_heard}
use Rattle.node_state.proofs.StartLaws.{stored_rests}
use Rattle.node_state.proofs.nodes.Node.deliver.Goals as goal

pub deliver-requires-clause-packet : goal.deliver-requires-clause-packet
deliver-requires-clause-packet g c =
    let p = packet_heard g.J.Plan.setting c.packet.inside.message c.packet.inside.entries.items c.packet.inside.note c.hear.new.self.actor.seen c.hear.ensures.heard c.packet.invariant in
    subst (λ t. IsPacket g.J.Plan.setting c.packet.inside.message t c.hear.new.self.actor.seen) (sym c.as_slice.ensures.value) p

pub deliver-requires-clause-kept : goal.deliver-requires-clause-kept
deliver-requires-clause-kept g c = kept_same c.self.inside.body.vote c.hear.new.self.vote c.self.inside.body.log c.hear.new.self.log c.hear.ensures.same.vote c.hear.ensures.log c.self.invariant.over

pub returns-clause-short : goal.returns-clause-short
returns-clause-short g c =
    let b = subst (λ (n : Stored). IsAsBefore (held_of n) (held c.hear.new.self.vote c.hear.new.self.log.entries c.hear.new.self.actor)) c.self.view_is c.hear.ensures.same in
    let s = subst (λ t. StopsShort c.packet.inside.message t (held c.hear.new.self.vote c.hear.new.self.log.entries c.hear.new.self.actor) (held c.deliver.new.self.vote c.deliver.new.self.log.entries c.deliver.new.self.actor) c.hear.new.self.log c.deliver.new.self.log) c.as_slice.ensures.value (c.in-Err-NoMemory.ensures.short (ap Err c.in-Err-NoMemory.field-0-is)) in
    subst (λ p. StopsShort p.message p.entries (held_of c.args.self.now) (held c.deliver.new.self.vote c.deliver.new.self.log.entries c.deliver.new.self.actor) c.args.self.now.over c.deliver.new.self.log) c.packet.view_is
    (short_before c.packet.inside.message c.packet.inside.entries.items (held_of c.args.self.now) (held c.hear.new.self.vote c.hear.new.self.log.entries c.hear.new.self.actor) (held c.deliver.new.self.vote c.deliver.new.self.log.entries c.deliver.new.self.actor) c.args.self.now.over c.hear.new.self.log c.deliver.new.self.log b (c.hear.ensures.log ∙ ap (λ (n : Stored). n.over) c.self.view_is) s)

pub returns-in-Err-Fault-clause-delivered : goal.returns-in-Err-Fault-clause-delivered
returns-in-Err-Fault-clause-delivered g c =
    let b = subst (λ (n : Stored). IsAsBefore (held_of n) (held c.hear.new.self.vote c.hear.new.self.log.entries c.hear.new.self.actor)) c.self.view_is c.hear.ensures.same in
    let up : c.hear.new.self.vote.up ≡ true = search rules in
    let f = subst (λ t. FallsPartly c.packet.inside.message t (held c.hear.new.self.vote c.hear.new.self.log.entries c.hear.new.self.actor) (held c.deliver.new.self.vote c.deliver.new.self.log.entries c.deliver.new.self.actor)) c.as_slice.ensures.value (c.in-Err-Fault.ensures.falls (ap Err c.in-Err-Fault.field-0-is)).falls in (
      sym (ap (λ (v : NodeVote). v.up) b.vote) ∙ up,
      subst (λ p. FallsPartly p.message p.entries (held_of c.args.self.now) (held c.deliver.new.self.vote c.deliver.new.self.log.entries c.deliver.new.self.actor)) c.packet.view_is
          (falls_before c.packet.inside.message c.packet.inside.entries.items (held_of c.args.self.now) (held c.hear.new.self.vote c.hear.new.self.log.entries c.hear.new.self.actor) (held c.deliver.new.self.vote c.deliver.new.self.log.entries c.deliver.new.self.actor) b f),
    )

pub returns-in-Err-Fault-clause-store : goal.returns-in-Err-Fault-clause-store
returns-in-Err-Fault-clause-store g c = failed_before c.args.self.now.over c.hear.new.self.log c.deliver.new.self.log (c.hear.ensures.log ∙ ap (λ (n : Stored). n.over) c.self.view_is) (c.in-Err-Fault.ensures.falls (ap Err c.in-Err-Fault.field-0-is)).failed

pub returns-in-Ok-clause-delivered : goal.returns-in-Ok-clause-delivered
returns-in-Ok-clause-delivered g c =
    let b = subst (λ (n : Stored). IsAsBefore (held_of n) (held c.hear.new.self.vote c.hear.new.self.log.entries c.hear.new.self.actor)) c.self.view_is c.hear.ensures.same in
    let up : c.hear.new.self.vote.up ≡ true = search rules in
    let x = subst (λ t. Answers c.packet.inside.message t c.in-Ok.packets.items (held c.hear.new.self.vote c.hear.new.self.log.entries c.hear.new.self.actor) (held c.deliver.new.self.vote c.deliver.new.self.log.entries c.deliver.new.self.actor)) c.as_slice.ensures.value c.in-Ok.ensures.delivers in (
      sym (ap (λ (v : NodeVote). v.up) b.vote) ∙ up,
      subst (λ p. Answers p.message p.entries c.in-Ok.packets.items (held_of c.args.self.now) (held c.deliver.new.self.vote c.deliver.new.self.log.entries c.deliver.new.self.actor)) c.packet.view_is
          (answers_before c.packet.inside.message c.packet.inside.entries.items c.in-Ok.packets.items (held_of c.args.self.now) (held c.hear.new.self.vote c.hear.new.self.log.entries c.hear.new.self.actor) (held c.deliver.new.self.vote c.deliver.new.self.log.entries c.deliver.new.self.actor) b x),
    )

pub returns-in-Ok-clause-behind : goal.returns-in-Ok-clause-behind
returns-in-Ok-clause-behind g c =
    subst (λ p. AreBehind p.message c.in-Ok.packets.items) c.packet.view_is
    (answers_behind c.packet.inside.message c.as_slice.result.now c.in-Ok.packets.items (held c.hear.new.self.vote c.hear.new.self.log.entries c.hear.new.self.actor) (held c.deliver.new.self.vote c.deliver.new.self.log.entries c.deliver.new.self.actor) c.in-Ok.ensures.delivers)

pub returns-in-Ok-clause-store : goal.returns-in-Ok-clause-store
returns-in-Ok-clause-store g c = calm_before c.args.self.now.over c.hear.new.self.log c.deliver.new.self.log (c.hear.ensures.log ∙ ap (λ (n : Stored). n.over) c.self.view_is) c.in-Ok.ensures.calm

pub invariant_of-self : goal.invariant_of-self
invariant_of-self g c =
    stored_rests g.J.Plan.setting c.self.inside.body.vote c.hear.new.self.vote c.self.inside.body.log.entries c.hear.new.self.log.entries c.self.inside.body.actor c.hear.new.self.actor c.self.inside.body.log c.hear.new.self.log c.self.inside.body.under_way c.hear.new.self.under_way c.self.invariant c.hear.ensures.own c.hear.ensures.same.vote (ap (λ (x : OverStore). x.entries) c.hear.ensures.log) c.hear.ensures.log c.hear.ensures.under_way c.hear.ensures.rests
