use Rattle.std.proofs.Common.{◌≡◌, sym, ap, ◌∙◌}
use Rattle.std.proofs.lemmas.Result.{IfOk-weaker}
use Rattle.node_state.specs.Packets.{packets_of}
use Rattle.node_state.proofs.drafts.packets_after.Goals as goal

pub returns-in-Lead : goal.returns-in-Lead
returns-in-Lead c = IfOk-weaker c.after_lead.result _ (λ ps. ps.items ≡ packets_of c.args.vote.now c.args.action.now c.args.log.now c.args.sender)
    (λ ps h. h c.args.sender ∙ ap (λ a. packets_of c.args.vote.now a c.args.log.now c.args.sender) (sym c.in-Lead.is)) c.after_lead.ensures

pub returns-in-Know : goal.returns-in-Know
returns-in-Know c = IfOk-weaker c.after_learning.result _ (λ ps. ps.items ≡ packets_of c.args.vote.now c.args.action.now c.args.log.now c.args.sender)
    (λ ps h. h c.args.log.now c.args.sender ∙ ap (λ a. packets_of c.args.vote.now a c.args.log.now c.args.sender) (sym c.in-Know.is)) c.after_learning.ensures
