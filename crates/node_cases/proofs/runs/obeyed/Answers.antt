use Rattle.std.proofs.Common.{rules, ◌≡◌, sym, ap, ◌∙◌}
use Rattle.std.specs.Prelude.{true}
use Rattle.election_core.specs.declared.votes.NodeVote.{NodeVote}
use Rattle.node_state.proofs.CallLaws.{begins_on}
use Rattle.node_cases.proofs.WakeLaws.{done_at}
use Rattle.node_cases.proofs.runs.obeyed.Goals as goal

pub obeyed-requires-clause-known : goal.obeyed-requires-clause-known
obeyed-requires-clause-known g c = (c.args.note, c.requires.made, begins_on c.in_ok-done.ensures.heard c.note_of-told.ensures.more)

pub obeyed-requires-clause-done : goal.obeyed-requires-clause-done
obeyed-requires-clause-done g c =
    let done : c.in_ok-done.done ≡ true = search rules in
    done_at g.J.Plan.setting c.args.order c.note_of-told.new.seat.vote c.args.seat.now.actor.seen c.args.note c.note_of-told.result
    (c.requires.its.0 ∙ (sym c.in_ok-done.ensures.node ∙ sym (ap (λ (v : NodeVote). v.node) c.note_of-told.ensures.vote)))
    (ap (λ (v : NodeVote). v.up) c.note_of-told.ensures.vote ∙ c.in_ok-done.ensures.done done) c.note_of-told.ensures.up c.requires.was_up c.requires.ordered
    (begins_on c.in_ok-done.ensures.heard c.note_of-told.ensures.more)
